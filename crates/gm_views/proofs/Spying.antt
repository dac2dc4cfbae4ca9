-- What a spy's answer says.
use Rattle.std.proofs.Common.{◌≡◌, ℕ, ◌≤◌, max, length, Option, Some, None, IfSome, IsSomeAnd, refl, ap, ◌∙◌, arith}
use Rattle.gm_views.specs.declared.sights.Sight.{Sight}
use Rattle.gm_views.specs.declared.rule.Known.{Known}
use Rattle.gm_views.specs.declared.doors.Glimpse.{Glimpse}
use Rattle.gm_views.specs.Doors.{Enters}
use Rattle.gm_views.specs.Glimpses.{Shows}
use Rattle.gm_views.specs.Sights.{sight_at, last_of}
use Rattle.gm_views.proofs.Prefixes.{prefix_length}
use Rattle.gm_views.proofs.Rising.{sight_prefix}
use Rattle.gm_views.specs.Spies.{SpySeen, IsNoLater, Answers, Names}

abbrev pub spy : ℕ → Option Known → ℕ → ℕ → ℕ → SpySeen
spy refused known told_at last at = record { refused = refused; known = known; told_at = told_at; last = last; at = at }

module _ (refused told_at last at page : ℕ) (g : Glimpse) where
  -- the last view that was seen before has no later position
  earlier : (v w : Known) → Enters v w → (last_of v.seen).position ≤ (last_of w.seen).position
  earlier v w enters =
      let n = prefix_length v.seen w.seen enters.seen in
      let same : (last_of v.seen).position ≡ (sight_at w.seen (length v.seen)).position = ap (λ (s : Sight). s.position) (sight_prefix v.seen w.seen (length v.seen) enters.seen (omega arith)) in
      let up : (sight_at w.seen (length v.seen)).position ≤ (last_of w.seen).position = enters.rises (length v.seen) (length w.seen) n (omega arith) in
      omega arith

  answer : (v w : Known) → IsNoLater last at told_at v → Shows g page w → Enters v w
      → Answers (spy refused (Some v) told_at last at) (spy refused (Some w) told_at g.view (max g.at told_at)) v w g.view (max g.at told_at) told_at
  answer v w before shows enters =
      let n = prefix_length v.seen w.seen enters.seen in
      let m = prefix_length v.told w.seen enters.told in
      let k = shows.number in
      let l = before.last_is in
      let at_is = before.at_is in
      let p = earlier v w enters in
      let q : (sight_at w.seen g.view).position ≡ (last_of w.seen).position = ap (λ (i : ℕ). (sight_at w.seen i).position) k in
      let here = shows.at in
      record {
        within = omega arith;
        told = enters.told;
        not_before_told = omega arith;
        not_before_last = omega arith;
        at_is = ap (λ (i : ℕ). max i told_at) here;
        later = omega arith;
        kept = (refl, refl, refl, refl, enters.same);
      }

  named : (v w : Known) (h : Glimpse) → Shows g page w → h.view ≡ g.view → h.seq ≡ g.seq → h.slot ≡ g.slot → h.attr ≡ g.attr → Names (sight_at w.seen g.view) page h
  named v w h shows view seq slot attr = record { seq = seq ∙ shows.seq; slot = slot ∙ shows.slot; attr = attr ∙ shows.attr }

  pub some_answers : (o n : Option Known) (h : Glimpse) → h.view ≡ g.view → h.seq ≡ g.seq → h.slot ≡ g.slot → h.attr ≡ g.attr → IfSome o (λ v. IsNoLater last at told_at v) → IsSomeAnd o (λ v. IsSomeAnd n (λ w. Shows g page w × Enters v w))
      → IsSomeAnd o (λ v. IsSomeAnd n (λ w. Answers (spy refused o told_at last at) (spy refused n told_at g.view (max g.at told_at)) v w g.view (max g.at told_at) told_at × Names (sight_at w.seen g.view) page h))
  some_answers (Some v) (Some w) h view seq slot attr before both = (answer v w before both.0 both.1, named v w h both.0 view seq slot attr)
  some_answers (Some v) None h view seq slot attr before both = absurd both
  some_answers None n h view seq slot attr before both = absurd both
