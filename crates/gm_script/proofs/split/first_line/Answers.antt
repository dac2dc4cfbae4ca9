use Rattle.std.proofs.Common.{◌<◌, length, arith}
use Rattle.std.proofs.lemmas.List.{take_rest}
use Rattle.gm_script.specs.Split.{cut_of}
use Rattle.gm_script.proofs.LineCuts.{ended_line}
use Rattle.gm_script.proofs.split.first_line.Goals as goal

pub returns-clause-lines : goal.returns-clause-lines
returns-clause-lines c =
    let less : cut_of 10 c.args.bytes.now < length c.args.bytes.now = omega (arith, c.cut-at.ensures.at) in
    rw (c.cut-at.ensures.at, take_rest) (ended_line c.args.bytes.now less)
