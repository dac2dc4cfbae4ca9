use Rattle.std.proofs.Common.{◌<◌, length, arith}
use Rattle.std.proofs.lemmas.List.{take_rest}
use Rattle.gm_history.specs.Cuts.{cut_of}
use Rattle.gm_history.proofs.Splits.{next_piece}
use Rattle.gm_history.proofs.cuts.first_piece.Goals as goal

pub returns-clause-pieces : goal.returns-clause-pieces
returns-clause-pieces c =
    let less : cut_of c.args.separator c.args.bytes.now < length c.args.bytes.now = omega (arith, c.cut-at.ensures.at) in
    rw (c.cut-at.ensures.at, take_rest) (next_piece c.args.separator c.args.bytes.now less)
