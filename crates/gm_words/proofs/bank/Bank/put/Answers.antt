use Rattle.std.proofs.Common.{◌≡◌, ◌+◌, ◌*◌, ◌-◌, ◌≤◌, List, ℕ, length, refl, arith, ap, ◌∙◌}
use Rattle.std.proofs.lemmas.List.{with_items_is}
use borrow.Rule.Slice.PartMut.{put_mid}
use Rattle.gm_words.proofs.Tables.{same_length, length_bank}
use Rattle.gm_words.proofs.Parts.{put_bank, length_mid}
use Rattle.gm_words.proofs.bank.Bank.put.Goals as goal

pub keep-place-requires-clause-page : goal.keep-place-requires-clause-page
keep-place-requires-clause-page c =
    omega (arith, length_bank c.args.self.now c.self.inside.pages c.self.inside.places.items c.self.inside.words.items c.self.view_is)

pub returns-clause-page : goal.returns-clause-page
returns-clause-page c =
    let place = c.keep-place.result in
    let now = c.keep-place.ensures.kept in
    let below = now.inside c.args.page place c.keep-place.ensures.place in
    let at : ℕ = place * 512 in
    let k : ℕ = at + 512 - at in
    let kept : List ℕ = c.keep-place.new.words.items in
    let next : List ℕ = c.args.page_words.now in
    let whole : length next ≡ k = omega (arith, c.requires.whole) in
    let room : at + k ≤ length kept = omega (arith, below, now.whole) in
    let writes : put_mid at k c.as_mut_slice-words.result.now c.copy_from_slice.new.self ≡ put_mid at k kept next =
    ap (λ (xs : List ℕ). put_mid at k xs c.copy_from_slice.new.self) c.as_mut_slice-words.ensures.value ∙ ap (λ (ys : List ℕ). put_mid at k kept ys) c.copy_from_slice.ensures.after in
    let long : length (put_mid at k c.as_mut_slice-words.result.now c.copy_from_slice.new.self) ≡ length kept =
    ap length writes ∙ length_mid at k kept next room whole in
    put_bank c.args.self.now c.self.inside.pages c.keep-place.new.places.items kept next _ c.args.page place at k (c.keep-place.ensures.same ∙ c.self.view_is) c.requires.page c.keep-place.ensures.place now.apart c.requires.whole refl (omega arith) (omega arith)
    (with_items_is c.keep-place.new.words (put_mid at k c.as_mut_slice-words.result.now c.copy_from_slice.new.self) (omega (arith, long)) ∙ writes)

pub returns-clause-len : goal.returns-clause-len
returns-clause-len c =
    same_length c.args.self.now c.self.inside.pages c.self.inside.places.items c.keep-place.new.places.items c.self.inside.words.items _ c.self.view_is
