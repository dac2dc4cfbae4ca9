use Rattle.std.proofs.Common.{◌∙◌, ◌^◌, ◌<◌, [], length, arith}
use Rattle.gm_history.specs.Cuts.{split_at}
use Rattle.gm_history.specs.Reading.{told_on}
use Rattle.gm_history.proofs.BadLines.{refused_line}
use Rattle.gm_history.proofs.Reports.{ok_on, err_on}
use Rattle.gm_history.proofs.history.read_text.Goals as goal

pub returns-in-None-clause-bad : goal.returns-in-None-clause-bad
returns-in-None-clause-bad c =
    let small : length c.args.bytes.now < 2 ^ 63 = omega arith in
    refused_line c.args.version c.args.bytes.now 1 small c.in-None.ensures.lines

pub returns-in-None-after_machine-clause-bad : goal.returns-in-None-after_machine-clause-bad
returns-in-None-after_machine-clause-bad c =
    let small : length c.args.bytes.now < 2 ^ 63 = omega arith in
    refused_line c.args.version c.args.bytes.now 2 small (c.in-Some.ensures.lines ∙ c.in-None-after_machine.ensures.lines c.args.version)

pub returns-clause-ok : goal.returns-clause-ok
returns-clause-ok c =
    let s = c.in-Some-after_machine.started in
    ok_on c.args.version c.read_entries.result c.args.bytes.now (told_on c.args.version s.setup (split_at 10 s.rest.now) []) (c.in-Some.ensures.lines ∙ c.in-Some-after_machine.ensures.lines c.args.version) c.read_entries.ensures.ok

pub returns-clause-bad : goal.returns-clause-bad
returns-clause-bad c =
    let s = c.in-Some-after_machine.started in
    let small : length c.args.bytes.now < 2 ^ 63 = omega arith in
    err_on c.args.version c.read_entries.result c.args.bytes.now (told_on c.args.version s.setup (split_at 10 s.rest.now) []) small (c.in-Some.ensures.lines ∙ c.in-Some-after_machine.ensures.lines c.args.version) c.read_entries.ensures.bad
