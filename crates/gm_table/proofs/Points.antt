-- The leaf over each page after a zap and after an install.
use Rattle.std.proofs.Common.{◌≡◌, ℕ, ◌+◌, ◌<◌, ◌≤◌, List, [], ◌∷◌, refl, ap, ◌∙◌, arith, Bool, true, false}
use Rattle.std.specs.Prelude.{None, Some, nat_lt, if◌then◌else◌}
use Rattle.std.specs.declared.option.Option.{Option}
use Rattle.std.proofs.lemmas.Bool.Decides.{nat_tests}
use Rattle.gm_base.specs.Extent.{Extent}
use Rattle.gm_base.specs.Leaf.{covers, meets_leaf}
use Rattle.gm_base.specs.Values.{pages_of}
use Rattle.gm_base.specs.declared.leaf.Leaf.{Leaf}
use Rattle.gm_table.specs.Leaves.{apart_from, place, extent_of, installed, leaf_over, unless_met, LieApart}
use Rattle.gm_table.proofs.Members.{not_both}
use Rattle.gm_table.proofs.Installs.{NoneMeet, none_meet}

-- the leaves after a page don't cover it
pub leaf_over-before : (lo page : ℕ) (leaves : List Leaf) → LieApart lo leaves → page < lo → leaf_over leaves page ≡ None
leaf_over-before lo page [] h p = refl
leaf_over-before lo page (leaf ∷ leaves) h p =
    rw (first h.0 p) (leaf_over-before (leaf.first + pages_of leaf.level) page leaves h.1 (omega (arith, h.0)))
  where
    first : lo ≤ leaf.first → page < lo → covers leaf page ≡ false
    first a b = grind (arith, nat_tests)

-- after a zap it is the one from before, unless that meets the span
pub leaf_over-apart_from : (lo : ℕ) (s : Extent) (leaves : List Leaf) (page : ℕ) → LieApart lo leaves → leaf_over (apart_from s leaves) page ≡ unless_met s (leaf_over leaves page)
leaf_over-apart_from lo s [] page h = refl
leaf_over-apart_from lo s (leaf ∷ leaves) page h = cases (meets_leaf leaf s) (covers leaf page) refl refl (leaf_over-apart_from (leaf.first + pages_of leaf.level) s leaves page h.1)
  where
    later : covers leaf page ≡ true → leaf_over leaves page ≡ None
    later c = leaf_over-before (leaf.first + pages_of leaf.level) page leaves h.1 (grind (arith, nat_tests))

    cases : (m c : Bool) → meets_leaf leaf s ≡ m → covers leaf page ≡ c → leaf_over (apart_from s leaves) page ≡ unless_met s (leaf_over leaves page) → leaf_over (if m then apart_from s leaves else leaf ∷ apart_from s leaves) page ≡ unless_met s (if c then Some leaf else leaf_over leaves page)
    cases true true m c r = rw m (r ∙ ap (λ (o : Option Leaf). unless_met s o) (later c))
    cases true false m c r = r
    cases false true m c r = rw (m, c) refl
    cases false false m c r = rw c r

-- with one more leaf that none meets it is that leaf where it covers the page
pub leaf_over-place : (leaf : Leaf) (leaves : List Leaf) (page : ℕ) → NoneMeet (extent_of leaf) leaves → leaf_over (place leaf leaves) page ≡ (if covers leaf page then Some leaf else leaf_over leaves page)
leaf_over-place leaf [] page n = refl
leaf_over-place leaf (other ∷ leaves) page n = place_cases (nat_lt leaf.first other.first) (leaf_over-place leaf leaves page n.1)
  where
    not_two : covers leaf page ≡ true → covers other page ≡ true → ⊥
    not_two a b = not_both (meets_leaf other (extent_of leaf)) (grind (arith, nat_tests)) n.0

    cases : (a b : Bool) → covers leaf page ≡ a → covers other page ≡ b → (if b then Some other else (if a then Some leaf else leaf_over leaves page)) ≡ (if a then Some leaf else (if b then Some other else leaf_over leaves page))
    cases true true p q = absurd (not_two p q)
    cases true false p q = refl
    cases false true p q = refl
    cases false false p q = refl

    place_cases : (t : Bool) → leaf_over (place leaf leaves) page ≡ (if covers leaf page then Some leaf else leaf_over leaves page) → leaf_over (if t then leaf ∷ other ∷ leaves else other ∷ place leaf leaves) page ≡ (if covers leaf page then Some leaf else (if covers other page then Some other else leaf_over leaves page))
    place_cases true r = refl
    place_cases false r = ap (λ (o : Option Leaf). if covers other page then Some other else o) r ∙ cases (covers leaf page) (covers other page) refl refl

-- after an install it is the new leaf where that covers the page, and else the one from before, unless the two meet
pub leaf_over-installed : (lo : ℕ) (leaf : Leaf) (leaves : List Leaf) (page : ℕ) → LieApart lo leaves → leaf_over (installed leaf leaves) page ≡ (if covers leaf page then Some leaf else unless_met (extent_of leaf) (leaf_over leaves page))
leaf_over-installed lo leaf leaves page h =
    leaf_over-place leaf (apart_from (extent_of leaf) leaves) page (none_meet (extent_of leaf) leaves)
    ∙ ap (λ (o : Option Leaf). if covers leaf page then Some leaf else o) (leaf_over-apart_from lo (extent_of leaf) leaves page h)
