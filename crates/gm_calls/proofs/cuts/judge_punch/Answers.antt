use Rattle.std.proofs.Common.{ap, sym, ◌∙◌, option_copied}
use Rattle.gm_calls.proofs.FileRows.{punched}
use Rattle.gm_calls.proofs.cuts.judge_punch.Goals as goal

pub returns-in-Some : goal.returns-in-Some
returns-in-Some c = λ f st. punched c.args.parts.now f c.args.fd c.args.offset c.args.length c.in-Some.file.now c.args.spans.now.list c.put_parts.new.spans.list st (sym c.file.ensures ∙ ap option_copied c.in-Some.is) c.requires.empty c.put_parts.ensures
