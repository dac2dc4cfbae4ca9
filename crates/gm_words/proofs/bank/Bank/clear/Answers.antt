use Rattle.std.proofs.Common.{◌≡◌, ◌+◌, ◌*◌, ◌-◌, ◌≤◌, None, Some, List, ℕ, length, refl, sym, arith, ap, ◌∙◌}
use Rattle.std.proofs.lemmas.List.{with_items_is}
use borrow.Rule.Slice.PartMut.{put_mid}
use Rattle.gm_base.specs.declared.numbers.TheConstants.{PAGE_WORDS}
use Rattle.gm_words.specs.Banks.{zero_page}
use Rattle.gm_words.proofs.Places.{found}
use Rattle.gm_words.proofs.Tables.{same_length, length-alike}
use Rattle.gm_words.proofs.Parts.{put_bank, length_mid, zero_already, replicate_zero, part_length}
use Rattle.gm_words.proofs.bank.Bank.clear.Goals as goal

pub returns-in-Some-clause-page : goal.returns-in-Some-clause-page
returns-in-Some-clause-page c =
    let place = c.in-Some.place in
    let is = found c.self.inside.places.items c.deref.result.now c.args.page (Some place) c.deref.ensures.value c.in-Some.ensures in
    let below = c.self.invariant.inside c.args.page place is in
    let at : ℕ = place * 512 in
    let k : ℕ = at + 512 - at in
    let kept : List ℕ = c.self.inside.words.items in
    let whole : length zero_page ≡ k = omega (arith, length-alike {A = ℕ} PAGE_WORDS 0) in
    let room : at + k ≤ length kept = omega (arith, below, c.self.invariant.whole) in
    let writes : put_mid at k c.as_mut_slice-words.result.now c.fill.new.self ≡ put_mid at k kept zero_page =
    ap (λ (xs : List ℕ). put_mid at k xs c.fill.new.self) c.as_mut_slice-words.ensures.value
    ∙ ap (λ (ys : List ℕ). put_mid at k kept ys) (c.fill.ensures.after (λ y h. h) ∙ replicate_zero _ (part_length at k kept c.as_mut_slice-words.result.now c.as_mut_slice-words.ensures.value room (omega arith))) in
    let long : length (put_mid at k c.as_mut_slice-words.result.now c.fill.new.self) ≡ length kept =
    ap length writes ∙ length_mid at k kept zero_page room whole in
    put_bank c.args.self.now c.self.inside.pages c.self.inside.places.items kept zero_page _ c.args.page place at k c.self.view_is c.requires is c.self.invariant.apart (length-alike {A = ℕ} PAGE_WORDS 0) refl (omega arith) (omega arith)
    (with_items_is c.self.inside.words (put_mid at k c.as_mut_slice-words.result.now c.fill.new.self) (omega (arith, long)) ∙ writes)

pub returns-in_default-clause-page : goal.returns-in_default-clause-page
returns-in_default-clause-page c =
    let is = found c.self.inside.places.items c.deref.result.now c.args.page None c.deref.ensures.value (sym c.in_default.is ∙ c.find.ensures) in
    zero_already c.args.self.now c.self.inside.pages c.self.inside.places.items c.self.inside.words.items c.args.page c.self.view_is c.requires is

pub returns-in-Some-clause-len : goal.returns-in-Some-clause-len
returns-in-Some-clause-len c =
    same_length c.args.self.now c.self.inside.pages c.self.inside.places.items c.self.inside.places.items c.self.inside.words.items _ c.self.view_is
