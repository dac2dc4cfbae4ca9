-- A count of cached pages tells whether there is one.
use Rattle.std.proofs.Common.{◌≡◌, ℕ, ◌+◌, ◌-◌, ◌<◌, ◌≤◌, ◌&&◌, leb, ltb, List, [], ◌∷◌, Bool, true, false, Some, None, arith, refl, sym, subst, cond, eqb}
use Rattle.std.proofs.lemmas.Bool.{both_ways, eqb-true}
use Rattle.std.proofs.lemmas.Bool.Decides.{nat_tests}
use Rattle.gm_base.specs.declared.values.Folio.{Folio}
use Rattle.gm_file.specs.Views.{FileView}
use Rattle.gm_radix.specs.Entries.{count_within, is_within, lookup}
use Rattle.gm_store.proofs.Basics.{not_some, self}
use Rattle.gm_store.specs.Opened.{IsOpenBlock}

none_counted : (lo hi i : ℕ) (es : List (ℕ × Folio)) → count_within lo hi es ≡ 0 → (leb lo i && ltb i hi) ≡ true → lookup i es ≡ None
none_counted lo hi i [] c t = refl
none_counted lo hi i (e ∷ es) c t = go (is_within lo hi e) (eqb e.0 i) refl refl (none_counted lo hi i es) c
  where
    more : (a : ℕ) → a + 1 ≡ 0 → ⊥
    more a e = omega arith

    go : (b d : Bool) → is_within lo hi e ≡ b → eqb e.0 i ≡ d → (count_within lo hi es ≡ 0 → (leb lo i && ltb i hi) ≡ true → lookup i es ≡ None) → cond b (count_within lo hi es + 1) (count_within lo hi es) ≡ 0 → cond d (Some e.1) (lookup i es) ≡ None
    go true d b x ih h = absurd (more (count_within lo hi es) h)
    go false true b x ih h = absurd (both_ways (is_within lo hi e) b (subst (λ (j : ℕ). (leb lo j && ltb j hi) ≡ true) (sym (eqb-true e.0 i x)) t))
    go false false b x ih h = ih h t

counted_none : (lo hi : ℕ) (es : List (ℕ × Folio)) → ((i : ℕ) → (leb lo i && ltb i hi) ≡ true → lookup i es ≡ None) → count_within lo hi es ≡ 0
counted_none lo hi [] h = refl
counted_none lo hi (e ∷ es) h = go (is_within lo hi e) refl (counted_none lo hi es (λ i t. later i (eqb e.0 i) (h i t)))
  where
    later : (i : ℕ) (b : Bool) → cond b (Some e.1) (lookup i es) ≡ None → lookup i es ≡ None
    later i true x = not_some e.1 (sym x)
    later i false x = x

    go : (b : Bool) → is_within lo hi e ≡ b → count_within lo hi es ≡ 0 → cond b (count_within lo hi es + 1) (count_within lo hi es) ≡ 0
    go true b ih = not_some e.1 (sym (subst (λ (d : Bool). cond d (Some e.1) (lookup e.0 es) ≡ None) (self e.0) (h e.0 b)))
    go false b ih = ih

pub open_by_count : (x : FileView) (first : ℕ) → x.block ≡ true → first + 512 ≤ x.pages → count_within first (first + 512) x.cached ≡ 0 → IsOpenBlock (Some x) first
open_by_count x first b i c = record { block = b; inside = i; open_here = λ j lt. none_counted first (first + 512) (first + j) x.cached c (plain first j lt) }
  where
    plain : (a j : ℕ) → j < 512 → (leb a (a + j) && ltb (a + j) (a + 512)) ≡ true
    plain a j lt = grind (arith, nat_tests)

pub count_of_open : (x : FileView) (first : ℕ) → IsOpenBlock (Some x) first → count_within first (first + 512) x.cached ≡ 0
count_of_open x first o = counted_none first (first + 512) x.cached (λ i t. subst (λ (a : ℕ). lookup a x.cached ≡ None) (back first i t) (o.open_here (i - first) (below first i t)))
  where
    back : (a i : ℕ) → (leb a i && ltb i (a + 512)) ≡ true → a + (i - a) ≡ i
    back a i t = grind (arith, nat_tests)

    below : (a i : ℕ) → (leb a i && ltb i (a + 512)) ≡ true → i - a < 512
    below a i t = grind (arith, nat_tests)
