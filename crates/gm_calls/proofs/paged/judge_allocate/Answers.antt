use Rattle.std.proofs.Common.{◌+◌, ◌<◌, ◌≤◌, ◌/◌, ap, arith, sym, refl, ◌∙◌, option_copied}
use Rattle.gm_calls.proofs.FileRows.{file_stands, in_the_file, past_the_file}
use Rattle.gm_calls.proofs.paged.judge_allocate.Goals as goal

pub returns-then-pages-end : goal.returns-then-pages-end
returns-then-pages-end c =
    let long : c.in-Some.file.now.pages < (c.args.offset + c.args.length) / 4096 = omega arith in
    λ f st. (past_the_file f c.args.fd c.args.offset c.args.length c.in-Some.file.now (file_stands c.args.parts.now f c.args.fd c.in-Some.file.now st (sym c.file.ensures ∙ ap option_copied c.in-Some.is)) c.requires.paged_offset c.requires.paged_length long, refl)

pub returns-else-pages-end : goal.returns-else-pages-end
returns-else-pages-end c =
    let short : (c.args.offset + c.args.length) / 4096 ≤ c.in-Some.file.now.pages = omega arith in
    λ f st. (in_the_file f c.args.fd c.args.offset c.args.length c.in-Some.file.now (file_stands c.args.parts.now f c.args.fd c.in-Some.file.now st (sym c.file.ensures ∙ ap option_copied c.in-Some.is)) c.requires.paged_offset c.requires.paged_length short, refl)
