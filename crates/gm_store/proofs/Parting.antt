-- Folios that leave the cache, as a list in order of index.
use Rattle.std.proofs.Common.{◌≡◌, ℕ, ◌+◌, ◌<◌, ◌≤◌, ◌||◌, List, [], ◌∷◌, Bool, true, false, Option, Some, None, arith, refl, ap, sym, subst, ◌∙◌, cond, eqb, inl, inr, ◌⊎◌}
use Rattle.std.proofs.lemmas.Bool.{both_ways, eqb-true}
use Rattle.std.proofs.lemmas.Bool.Decides.{nat_tests}
use Rattle.gm_base.specs.declared.values.Folio.{Folio}
use Rattle.gm_file.proofs.Caching.{lookup-before}
use Rattle.gm_flat.specs.FlatState.{FolioState, Triple, cached}
use Rattle.gm_flat.specs.RightLives.{frame_of, index_of_folio}
use Rattle.gm_radix.specs.Entries.{Rises, lookup}
use Rattle.gm_store.proofs.Basics.{not_some, self, some_is}
use Rattle.gm_store.proofs.Caches.{both_parts, cached_has, cached_index, has_cached, is_at}
use Rattle.gm_store.specs.Frees.{AllDue, HasSerial, IsDue}
use Rattle.gm_store.specs.Stored.{CacheStands, CachedApart, Stored, has_triple}

-- whether one of the folios has the serial
abbrev pub has_serial : ℕ → List (ℕ × Folio) → Bool
has_serial serial [] = false
has_serial serial (p ∷ ps) = eqb p.1.serial serial || has_serial serial ps

-- each was cached at its index, is live, and is cached no more
abbrev pub AllOut : List Triple → List Triple → List FolioState → List (ℕ × Folio) → Type 0
AllOut cache left xs [] = Unit {0}
AllOut cache left xs (p ∷ ps) = (index_of_folio p.1.serial cache ≡ Some p.0) × (frame_of p.1.serial xs ≡ Some p.1.frame) × (has_triple p.1.serial left ≡ false) × AllOut cache left xs ps

pub record Parted (limit : ℕ) (ps : List (ℕ × Folio)) (cache left : List Triple) (xs : List FolioState) : Type 0 where
  pub apart : CachedApart left
  pub stays : (f i : ℕ) (fo : Folio) → cached f i left ≡ Some fo → cached f i cache ≡ Some fo
  pub out : AllOut cache left xs ps
  pub has : (s : ℕ) → has_triple s cache ≡ (has_triple s left || has_serial s ps)
  pub rises : Rises 0 limit ps

pub index_has : (s i : ℕ) (ts : List Triple) → index_of_folio s ts ≡ Some i → has_triple s ts ≡ true
index_has s i [] e = not_some i e
index_has s i (t ∷ ts) e = go (eqb t.folio.serial s) (index_has s i ts) e
  where
    go : (b : Bool) → (index_of_folio s ts ≡ Some i → has_triple s ts ≡ true) → cond b (Some t.index) (index_of_folio s ts) ≡ Some i → (b || has_triple s ts) ≡ true
    go true ih h = refl
    go false ih h = ih h

-- a folio isn't among those of higher index
pub not_among : (s i lo limit : ℕ) (cache left : List Triple) (xs : List FolioState) (ps : List (ℕ × Folio)) → index_of_folio s cache ≡ Some i → i < lo → Rises lo limit ps → AllOut cache left xs ps → has_serial s ps ≡ false
not_among s i lo limit cache left xs [] e lt r o = refl
not_among s i lo limit cache left xs (p ∷ ps) e lt r o = go (eqb p.1.serial s) refl (not_among s i (p.0 + 1) limit cache left xs ps e (more i lo p.0 lt r.0.0) r.1 o.3)
  where
    more : (i lo a : ℕ) → i < lo → lo ≤ a → i < a + 1
    more i lo a h l = omega arith

    clash : (i lo a : ℕ) → i < lo → lo ≤ a → a ≡ i → ⊥
    clash i lo a h l e = omega arith

    go : (b : Bool) → eqb p.1.serial s ≡ b → has_serial s ps ≡ false → (b || has_serial s ps) ≡ false
    go true b h = absurd (clash i lo p.0 lt r.0.0 (some_is p.0 i (sym o.0 ∙ (ap (λ (j : ℕ). index_of_folio j cache) (eqb-true p.1.serial s b) ∙ e))))
    go false b h = h

-- one folio has one place
pub one_place : (f i g j : ℕ) (fo other : Folio) (ts : List Triple) → CachedApart ts → cached f i ts ≡ Some fo → cached g j ts ≡ Some other → fo.serial ≡ other.serial → (f ≡ g) × (i ≡ j)
one_place f i g j fo other [] a e h s = not_some fo e
one_place f i g j fo other (t ∷ ts) a e h s = go (is_at f i t) (is_at g j t) refl refl (λ x y. one_place f i g j fo other ts a.2 x y s) e h
  where
    serial_of : (x y : Folio) → Some x ≡ Some y → x.serial ≡ y.serial
    serial_of x y e = ap (λ (z : Folio). z.serial) (some_is x y e)

    go : (b c : Bool) → is_at f i t ≡ b → is_at g j t ≡ c → (cached f i ts ≡ Some fo → cached g j ts ≡ Some other → (f ≡ g) × (i ≡ j)) → cond b (Some t.folio) (cached f i ts) ≡ Some fo → cond c (Some t.folio) (cached g j ts) ≡ Some other → (f ≡ g) × (i ≡ j)
    go true true b c ih x y =
        let p = both_parts (eqb t.file f) (eqb t.index i) b in
        let q = both_parts (eqb t.file g) (eqb t.index j) c in
        (sym (eqb-true t.file f p.0) ∙ eqb-true t.file g q.0, sym (eqb-true t.index i p.1) ∙ eqb-true t.index j q.1)
    go true false b c ih x y = absurd (both_ways (has_triple t.folio.serial ts) a.1 (subst (λ (k : ℕ). has_triple k ts ≡ true) (sym s ∙ sym (serial_of t.folio fo x)) (cached_has g j other ts y)))
    go false true b c ih x y = absurd (both_ways (has_triple t.folio.serial ts) a.1 (subst (λ (k : ℕ). has_triple k ts ≡ true) (s ∙ sym (serial_of t.folio other y)) (cached_has f i fo ts x)))
    go false false b c ih x y = ih x y

-- what is taken out of a file's cache, by a test on its indexes
pub record TakenOut (file limit : ℕ) (test : ℕ → ℕ → Bool) (ps : List (ℕ × Folio)) (cache left : List Triple) : Type 0 where
  pub left_is : (f i : ℕ) → cached f i left ≡ cond (test f i) None (cached f i cache)
  pub apart : CachedApart left
  pub fewer : (s : ℕ) → has_triple s left ≡ true → has_triple s cache ≡ true
  pub looks : (i : ℕ) (fo : Folio) → lookup i ps ≡ Some fo → (cached file i cache ≡ Some fo) × (test file i ≡ true)
  pub taken : (f i : ℕ) (fo : Folio) → test f i ≡ true → cached f i cache ≡ Some fo → has_serial fo.serial ps ≡ true
  pub rises : Rises 0 limit ps

taken_stays : (t : Bool) (o : Option Folio) (fo : Folio) → cond t None o ≡ Some fo → (t ≡ false) × (o ≡ Some fo)
taken_stays true o fo e = not_some fo e
taken_stays false o fo e = (refl, e)

-- nothing that is taken out is left
gone : (file limit : ℕ) (test : ℕ → ℕ → Bool) (ps : List (ℕ × Folio)) (cache left : List Triple) (i : ℕ) (fo : Folio) → CachedApart cache → TakenOut file limit test ps cache left → cached file i cache ≡ Some fo → test file i ≡ true → has_triple fo.serial left ≡ false
gone file limit test ps cache left i fo a t e h = go (has_triple fo.serial left) refl
  where
    go : (b : Bool) → has_triple fo.serial left ≡ b → b ≡ false
    go false x = refl
    go true x =
        let c = has_cached fo.serial left t.apart x in
        let d = taken_stays (test c.0 c.1) (cached c.0 c.1 cache) c.2 (sym (t.left_is c.0 c.1) ∙ c.3) in
        let p = one_place file i c.0 c.1 fo c.2 cache a e d.1 (sym c.4) in
        absurd (both_ways (test file i) (ap (λ (g : ℕ). test g i) p.0 ∙ (ap (λ (j : ℕ). test c.0 j) p.1 ∙ d.0)) h)

all_out : (file lo limit : ℕ) (cache left : List Triple) (xs : List FolioState) (ps : List (ℕ × Folio)) → Rises lo limit ps → ((i : ℕ) (fo : Folio) → lookup i ps ≡ Some fo → (index_of_folio fo.serial cache ≡ Some i) × (frame_of fo.serial xs ≡ Some fo.frame) × (has_triple fo.serial left ≡ false)) → AllOut cache left xs ps
all_out file lo limit cache left xs [] r h = tt
all_out file lo limit cache left xs (p ∷ ps) r h =
    let here = h p.0 p.1 (let e : eqb p.0 p.0 ≡ true = self p.0 in rw e refl) in
    (here.0, here.1, here.2, all_out file (p.0 + 1) limit cache left xs ps r.1 (λ i fo e. h i fo (later i fo (eqb p.0 i) refl e)))
  where
    later : (i : ℕ) (fo : Folio) (b : Bool) → eqb p.0 i ≡ b → lookup i ps ≡ Some fo → cond b (Some p.1) (lookup i ps) ≡ Some fo
    later i fo true b e = not_some fo (sym (lookup-before (p.0 + 1) limit i ps r.1 (less p.0 i (eqb-true p.0 i b))) ∙ e)
      where
        less : (a i : ℕ) → a ≡ i → i < a + 1
        less a i e = omega arith
    later i fo false b e = e

pub parted : (file limit : ℕ) (test : ℕ → ℕ → Bool) (ps : List (ℕ × Folio)) (cache left : List Triple) (xs : List FolioState) → CacheStands cache xs → TakenOut file limit test ps cache left → Parted limit ps cache left xs
parted file limit test ps cache left xs c t = record {
  apart = t.apart;
  stays = λ f i fo e. (taken_stays (test f i) (cached f i cache) fo (sym (t.left_is f i) ∙ e)).1;
  out = outs;
  has = λ s. same s (has_triple s cache) (has_triple s left) (has_serial s ps) refl refl refl;
  rises = t.rises;
}
  where
    outs : AllOut cache left xs ps
    outs = all_out file 0 limit cache left xs ps t.rises (λ i fo e. let l = t.looks i fo e in (cached_index file i fo cache c.apart l.0, c.live file i fo l.0, gone file limit test ps cache left i fo c.apart t l.0 l.1))

    among : (s : ℕ) (qs : List (ℕ × Folio)) → AllOut cache left xs qs → has_serial s qs ≡ true → has_triple s cache ≡ true
    among s [] o e = absurd (both_ways false refl e)
    among s (q ∷ qs) o e = go (eqb q.1.serial s) refl (among s qs o.3) e
      where
        go : (b : Bool) → eqb q.1.serial s ≡ b → (has_serial s qs ≡ true → has_triple s cache ≡ true) → (b || has_serial s qs) ≡ true → has_triple s cache ≡ true
        go true b ih h = subst (λ (j : ℕ). has_triple j cache ≡ true) (eqb-true q.1.serial s b) (index_has q.1.serial q.0 cache o.0)
        go false b ih h = ih h

    found : (s : ℕ) → has_triple s cache ≡ true → has_triple s left ≡ false → has_serial s ps ≡ true
    found s e none =
        let g = has_cached s cache c.apart e in
        subst (λ (j : ℕ). has_serial j ps ≡ true) g.4 (t.taken g.0 g.1 g.2 (tested g.0 g.1 g.2 g.3 g.4 (test g.0 g.1) refl) g.3)
      where
        tested : (f i : ℕ) (fo : Folio) → cached f i cache ≡ Some fo → fo.serial ≡ s → (b : Bool) → test f i ≡ b → b ≡ true
        tested f i fo h is true x = refl
        tested f i fo h is false x = absurd (both_ways (has_triple s left) none (subst (λ (j : ℕ). has_triple j left ≡ true) is (cached_has f i fo left (t.left_is f i ∙ (ap (λ (b : Bool). cond b None (cached f i cache)) x ∙ h)))))

    same : (s : ℕ) (a b d : Bool) → has_triple s cache ≡ a → has_triple s left ≡ b → has_serial s ps ≡ d → a ≡ (b || d)
    same s true true d x y z = refl
    same s true false true x y z = refl
    same s true false false x y z = absurd (both_ways (has_serial s ps) z (found s x y))
    same s false true d x y z = absurd (both_ways (has_triple s cache) x (t.fewer s y))
    same s false false true x y z = absurd (both_ways (has_triple s cache) x (among s ps outs z))
    same s false false false x y z = refl

-- those that nothing holds
abbrev pub due_of : (ℕ → ℕ) → List (ℕ × Folio) → List (ℕ × Folio)
due_of holds [] = []
due_of holds (p ∷ ps) = cond (eqb (holds p.1.serial) 0) (p ∷ due_of holds ps) (due_of holds ps)

-- they are due, in order of index
due_later : (cache : List Triple) (after : Stored) (lo hi : ℕ) (ps : List (ℕ × Folio)) → lo ≤ hi → AllDue cache after hi ps → AllDue cache after lo ps
due_later cache after lo hi [] le d = tt
due_later cache after lo hi (p ∷ ps) le d = (most lo hi p.0 le d.0, d.1, d.2)
  where
    most : (a b c : ℕ) → a ≤ b → b ≤ c → a ≤ c
    most a b c h l = omega arith

pub all_due : (cache left : List Triple) (after : Stored) (lo limit : ℕ) (ps : List (ℕ × Folio)) → after.flat.cache ≡ left → Rises lo limit ps → AllOut cache left after.flat.folios ps → AllDue cache after lo (due_of after.holds ps)
all_due cache left after lo limit [] is r o = tt
all_due cache left after lo limit (p ∷ ps) is r o = go (eqb (after.holds p.1.serial) 0) refl (all_due cache left after (p.0 + 1) limit ps is r.1 o.3)
  where
    above : (a b : ℕ) → a ≤ b → a ≤ b + 1
    above a b h = omega arith

    due : eqb (after.holds p.1.serial) 0 ≡ true → IsDue cache after p.0 p.1.serial p.1.frame
    due b = record {
      at = o.0;
      live = o.1;
      not_cached = λ x. both_ways (has_triple p.1.serial left) o.2 (subst (λ (ts : List Triple). has_triple p.1.serial ts ≡ true) is (subst (λ (j : ℕ). has_triple j after.flat.cache ≡ true) x.4 (cached_has x.0 x.1 x.2 after.flat.cache x.3)));
      not_held = eqb-true (after.holds p.1.serial) 0 b;
    }

    go : (b : Bool) → eqb (after.holds p.1.serial) 0 ≡ b → AllDue cache after (p.0 + 1) (due_of after.holds ps) → AllDue cache after lo (cond b (p ∷ due_of after.holds ps) (due_of after.holds ps))
    go true b d = (r.0.0, due b, d)
    go false b d = due_later cache after lo (p.0 + 1) (due_of after.holds ps) (above lo p.0 r.0.0) d

-- what was taken out is held, or one of them
pub held_or_due : (holds : ℕ → ℕ) (s : ℕ) (ps : List (ℕ × Folio)) → has_serial s ps ≡ true → (0 < holds s) ⊎ HasSerial s (due_of holds ps)
held_or_due holds s [] e = absurd (both_ways false refl e)
held_or_due holds s (p ∷ ps) e = go (eqb p.1.serial s) (eqb (holds p.1.serial) 0) refl refl (held_or_due holds s ps) e
  where
    positive : (a : ℕ) → eqb a 0 ≡ false → 0 < a
    positive a e = grind (arith, nat_tests)

    deeper : (b : Bool) → (0 < holds s) ⊎ HasSerial s (due_of holds ps) → (0 < holds s) ⊎ HasSerial s (cond b (p ∷ due_of holds ps) (due_of holds ps))
    deeper true (inl h) = inl h
    deeper true (inr h) = inr (inr h)
    deeper false h = h

    go : (b c : Bool) → eqb p.1.serial s ≡ b → eqb (holds p.1.serial) 0 ≡ c → (has_serial s ps ≡ true → (0 < holds s) ⊎ HasSerial s (due_of holds ps)) → (b || has_serial s ps) ≡ true → (0 < holds s) ⊎ HasSerial s (cond c (p ∷ due_of holds ps) (due_of holds ps))
    go true true b c ih h = inr (inl (eqb-true p.1.serial s b))
    go true false b c ih h = inl (subst (λ (j : ℕ). 0 < holds j) (eqb-true p.1.serial s b) (positive (holds p.1.serial) c))
    go false c b d ih h = deeper c (ih h)
