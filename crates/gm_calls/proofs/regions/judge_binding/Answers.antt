use Rattle.std.proofs.Common.{◌≡◌, ◌+◌, ◌/◌, ◌<◌, ◌≤◌, ◌∙◌, ap, arith, option_copied, refl, sym, true}
use Rattle.gm_flat.specs.Calls.{wants_file}
use Rattle.gm_calls.proofs.FileRows.{IsBacked, file_stands, on_bound_pages, on_free_pages, past_its_file}
use Rattle.gm_calls.proofs.regions.judge_binding.Goals as goal

pub returns-then-pages-end : goal.returns-then-pages-end
returns-then-pages-end c =
    let wants : wants_file c.args.region.now ≡ true = cc in
    let long : c.in-Some.file.now.pages < (c.args.region.now.offset + c.args.region.now.size) / 4096 = omega arith in
    λ f st.
    let b : IsBacked c.args.region.now c.in-Some.file.now f = record {
      wants = wants;
      stands = file_stands c.args.parts.now f c.args.region.now.fd c.in-Some.file.now st (sym c.file.ensures ∙ ap option_copied c.in-Some.is);
      offset = c.requires.range.offset wants;
      size = c.requires.range.size;
    } in
    (past_its_file c.args.region.now c.in-Some.file.now f b long, refl)

pub returns-then-is_bound : goal.returns-then-is_bound
returns-then-is_bound c =
    let wants : wants_file c.args.region.now ≡ true = cc in
    let short : (c.args.region.now.offset + c.args.region.now.size) / 4096 ≤ c.in-Some.file.now.pages = omega arith in
    λ f st.
    let b : IsBacked c.args.region.now c.in-Some.file.now f = record {
      wants = wants;
      stands = file_stands c.args.parts.now f c.args.region.now.fd c.in-Some.file.now st (sym c.file.ensures ∙ ap option_copied c.in-Some.is);
      offset = c.requires.range.offset wants;
      size = c.requires.range.size;
    } in
    (on_bound_pages c.args.region.now c.in-Some.file.now f b short (sym (c.is_bound.ensures f b.stands) ∙ c.if-is_bound.true), refl)

pub returns-else-is_bound : goal.returns-else-is_bound
returns-else-is_bound c =
    let wants : wants_file c.args.region.now ≡ true = cc in
    let short : (c.args.region.now.offset + c.args.region.now.size) / 4096 ≤ c.in-Some.file.now.pages = omega arith in
    λ f st.
    let b : IsBacked c.args.region.now c.in-Some.file.now f = record {
      wants = wants;
      stands = file_stands c.args.parts.now f c.args.region.now.fd c.in-Some.file.now st (sym c.file.ensures ∙ ap option_copied c.in-Some.is);
      offset = c.requires.range.offset wants;
      size = c.requires.range.size;
    } in
    (rw c.made_slot-else-is_bound.ensures (on_free_pages c.args.region.now c.in-Some.file.now f b short (sym (c.is_bound.ensures f b.stands) ∙ c.if-is_bound.false)), refl)
