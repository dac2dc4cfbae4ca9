use Rattle.std.proofs.Common.{ap, sym, ◌∙◌, option_copied}
use Rattle.gm_calls.proofs.FileRows.{closed}
use Rattle.gm_calls.proofs.cuts.judge_close.Goals as goal

pub returns-in-Some : goal.returns-in-Some
returns-in-Some c = λ f st. closed c.args.parts.now f c.args.fd c.in-Some.file.now c.args.spans.now.list c.put_parts.new.spans.list st (sym c.file.ensures ∙ ap option_copied c.in-Some.is) c.requires.empty c.put_parts.ensures
