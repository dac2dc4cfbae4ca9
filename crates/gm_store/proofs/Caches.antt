-- What is cached, and where.
use Rattle.std.proofs.Common.{◌≡◌, ℕ, ◌&&◌, ◌||◌, List, [], ◌∷◌, Bool, true, false, Some, None, refl, ap, sym, subst, ◌∙◌, cond, eqb}
use Rattle.std.proofs.lemmas.Bool.{both_ways, eqb-true, eq-eqb}
use Rattle.gm_base.specs.declared.values.Folio.{Folio}
use Rattle.gm_flat.specs.FlatState.{Triple, cached}
use Rattle.gm_flat.specs.RightLives.{index_of_folio}
use Rattle.gm_store.proofs.Basics.{not_some, self, some_is}
use Rattle.gm_store.specs.Stored.{CachedApart, has_triple}

-- whether an index of a file is a triple's
abbrev pub is_at : ℕ → ℕ → Triple → Bool
is_at file index t = eqb t.file file && eqb t.index index

pub both_parts : (a b : Bool) → (a && b) ≡ true → (a ≡ true) × (b ≡ true)
both_parts true true e = (refl, refl)
both_parts true false e = absurd (both_ways false refl e)
both_parts false b e = absurd (both_ways false refl e)

-- a folio that is cached has its serial there
pub cached_has : (file i : ℕ) (fo : Folio) (ts : List Triple) → cached file i ts ≡ Some fo → has_triple fo.serial ts ≡ true
cached_has file i fo [] e = not_some fo e
cached_has file i fo (t ∷ ts) e = go (is_at file i t) (eqb t.folio.serial fo.serial) refl (cached_has file i fo ts) e
  where
    go : (a b : Bool) → eqb t.folio.serial fo.serial ≡ b → (cached file i ts ≡ Some fo → has_triple fo.serial ts ≡ true) → cond a (Some t.folio) (cached file i ts) ≡ Some fo → (b || has_triple fo.serial ts) ≡ true
    go a true b ih h = refl
    go true false b ih h = absurd (both_ways (eqb t.folio.serial fo.serial) b (eq-eqb t.folio.serial fo.serial (ap (λ (x : Folio). x.serial) (some_is t.folio fo h))))
    go false false b ih h = ih h

-- a serial that is there is that of a folio that is cached
pub has_cached : (s : ℕ) (ts : List Triple) → CachedApart ts → has_triple s ts ≡ true → (file : ℕ) × (i : ℕ) × (fo : Folio) × (cached file i ts ≡ Some fo) × (fo.serial ≡ s)
has_cached s [] a e = absurd (both_ways false refl e)
has_cached s (t ∷ ts) a e = go (eqb t.folio.serial s) refl (has_cached s ts a.2) e
  where
    later : (file i : ℕ) (fo : Folio) (c : Bool) → is_at file i t ≡ c → cached file i ts ≡ Some fo → cond c (Some t.folio) (cached file i ts) ≡ Some fo
    later file i fo true c h =
        let p = both_parts (eqb t.file file) (eqb t.index i) c in
        let none : cached file i ts ≡ None = subst (λ (n : ℕ). cached n i ts ≡ None) (eqb-true t.file file p.0) (subst (λ (n : ℕ). cached t.file n ts ≡ None) (eqb-true t.index i p.1) a.0) in
        not_some fo (sym none ∙ h)
    later file i fo false c h = h

    go : (b : Bool) → eqb t.folio.serial s ≡ b → (has_triple s ts ≡ true → (file : ℕ) × (i : ℕ) × (fo : Folio) × (cached file i ts ≡ Some fo) × (fo.serial ≡ s)) → (b || has_triple s ts) ≡ true → (file : ℕ) × (i : ℕ) × (fo : Folio) × (cached file i (t ∷ ts) ≡ Some fo) × (fo.serial ≡ s)
    go true b ih h = (t.file, t.index, t.folio, (let x : eqb t.file t.file ≡ true = self t.file in let y : eqb t.index t.index ≡ true = self t.index in rw (x, y) refl), eqb-true t.folio.serial s b)
    go false b ih h = let g = ih h in (g.0, g.1, g.2, later g.0 g.1 g.2 (is_at g.0 g.1 t) refl g.3, g.4)

-- where a folio is cached
pub cached_index : (file i : ℕ) (fo : Folio) (ts : List Triple) → CachedApart ts → cached file i ts ≡ Some fo → index_of_folio fo.serial ts ≡ Some i
cached_index file i fo [] a e = not_some fo e
cached_index file i fo (t ∷ ts) a e = go (is_at file i t) (eqb t.folio.serial fo.serial) refl refl (cached_index file i fo ts a.2) e
  where
    go : (b c : Bool) → is_at file i t ≡ b → eqb t.folio.serial fo.serial ≡ c → (cached file i ts ≡ Some fo → index_of_folio fo.serial ts ≡ Some i) → cond b (Some t.folio) (cached file i ts) ≡ Some fo → cond c (Some t.index) (index_of_folio fo.serial ts) ≡ Some i
    go true true b c ih h = ap Some (eqb-true t.index i (both_parts (eqb t.file file) (eqb t.index i) b).1)
    go true false b c ih h = absurd (both_ways (eqb t.folio.serial fo.serial) c (eq-eqb t.folio.serial fo.serial (ap (λ (x : Folio). x.serial) (some_is t.folio fo h))))
    go false true b c ih h = absurd (both_ways (has_triple t.folio.serial ts) a.1 (subst (λ (s : ℕ). has_triple s ts ≡ true) (sym (eqb-true t.folio.serial fo.serial c)) (cached_has file i fo ts h)))
    go false false b c ih h = ih h
