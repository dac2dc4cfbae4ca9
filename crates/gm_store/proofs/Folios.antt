-- Folios by serial: their frames, which are free, after one is added or freed.
use Rattle.std.proofs.Common.{◌≡◌, ℕ, ◌<◌, ◌≤◌, ◌&&◌, List, [], ◌∷◌, Bool, true, false, length, suc, Option, Some, None, arith, refl, ap, sym, subst, ◌∙◌, cond, eqb}
use Rattle.std.proofs.lemmas.Bool.{both_ways, eqb-true, eq-eqb}
use Rattle.std.proofs.lemmas.Bool.Decides.{nat_tests}
use Rattle.gm_flat.specs.Effects.{free_one}
use Rattle.gm_flat.specs.FlatState.{FolioState, is_free, is_live}
use Rattle.gm_flat.specs.RightLives.{frame_of}
use Rattle.gm_store.proofs.Basics.{not_some, self, some_is}
use Rattle.gm_store.specs.Stored.{Numbered}

-- a folio with a frame was added
pub serial_below : (s r : ℕ) (xs : List FolioState) → Numbered xs → frame_of s xs ≡ Some r → s < length xs
serial_below s r [] n e = not_some r e
serial_below s r (x ∷ xs) n e = go (eqb x.folio.serial s) refl (λ h. serial_below s r xs n.1 h) e
  where
    here : (a s k : ℕ) → eqb a s ≡ true → a ≡ k → s < suc k
    here a s k h e = grind (arith, nat_tests)

    later : (s k : ℕ) → s < k → s < suc k
    later s k h = omega arith

    go : (t : Bool) → eqb x.folio.serial s ≡ t → (frame_of s xs ≡ Some r → s < length xs) → cond t (cond x.live (Some x.folio.frame) None) (frame_of s xs) ≡ Some r → s < suc (length xs)
    go true a ih h = here x.folio.serial s (length xs) a n.0
    go false a ih h = later s (length xs) (ih h)

-- a folio that wasn't added isn't live
pub unadded : (s : ℕ) (xs : List FolioState) → Numbered xs → length xs ≤ s → is_live s xs ≡ false
unadded s [] n le = refl
unadded s (x ∷ xs) n le = let e : eqb x.folio.serial s ≡ false = apart x.folio.serial s (length xs) n.0 le in rw e (unadded s xs n.1 (less s (length xs) le))
  where
    apart : (a s k : ℕ) → a ≡ k → suc k ≤ s → eqb a s ≡ false
    apart a s k e h = grind (arith, nat_tests)

    less : (s k : ℕ) → suc k ≤ s → k ≤ s
    less s k h = omega arith

pub frame_live : (s r : ℕ) (xs : List FolioState) → frame_of s xs ≡ Some r → is_live s xs ≡ true
frame_live s r [] e = not_some r e
frame_live s r (x ∷ xs) e = go (eqb x.folio.serial s) x.live refl (frame_live s r xs) e
  where
    go : (t l : Bool) → x.live ≡ l → (frame_of s xs ≡ Some r → is_live s xs ≡ true) → cond t (cond l (Some x.folio.frame) None) (frame_of s xs) ≡ Some r → cond t x.live (is_live s xs) ≡ true
    go true true b ih h = b
    go true false b ih h = not_some r h
    go false l b ih h = ih h

-- a live folio has a frame
pub live_frame : (s : ℕ) (xs : List FolioState) → is_live s xs ≡ true → (r : ℕ) × (frame_of s xs ≡ Some r)
live_frame s [] e = absurd (both_ways false refl e)
live_frame s (x ∷ xs) e = go (eqb x.folio.serial s) x.live refl (live_frame s xs) e
  where
    go : (t l : Bool) → x.live ≡ l → (is_live s xs ≡ true → (r : ℕ) × (frame_of s xs ≡ Some r)) → cond t x.live (is_live s xs) ≡ true → (r : ℕ) × (cond t (cond l (Some x.folio.frame) None) (frame_of s xs) ≡ Some r)
    go true true b ih h = (x.folio.frame, refl)
    go true false b ih h = absurd (both_ways x.live b h)
    go false l b ih h = ih h

-- a free frame is no live folio's
pub free_none : (s r : ℕ) (xs : List FolioState) → is_free r xs ≡ true → frame_of s xs ≡ Some r → ⊥
free_none s r [] h e = not_some r e
free_none s r (x ∷ xs) h e = go (eqb x.folio.serial s) x.live (eqb x.folio.frame r) refl refl (free_none s r xs) h e
  where
    go : (t l u : Bool) → x.live ≡ l → eqb x.folio.frame r ≡ u → (is_free r xs ≡ true → frame_of s xs ≡ Some r → ⊥) → cond (u && l) false (is_free r xs) ≡ true → cond t (cond l (Some x.folio.frame) None) (frame_of s xs) ≡ Some r → ⊥
    go true true true b c ih h e = both_ways false refl h
    go true true false b c ih h e = both_ways (eqb x.folio.frame r) c (eq-eqb x.folio.frame r (some_is x.folio.frame r e))
    go true false u b c ih h e = not_some r e
    go false true true b c ih h e = both_ways false refl h
    go false true false b c ih h e = ih h e
    go false false true b c ih h e = ih h e
    go false false false b c ih h e = ih h e

-- a frame that no live folio has is free
pub no_live : (r : ℕ) (xs : List FolioState) → Numbered xs → ((s : ℕ) → frame_of s xs ≡ Some r → ⊥) → is_free r xs ≡ true
no_live r [] n h = refl
no_live r (x ∷ xs) n h = go (eqb x.folio.frame r) x.live refl refl (no_live r xs n.1 (λ s e. h s (older s e)))
  where
    below_apart : (a s k : ℕ) → a ≡ k → s < k → eqb a s ≡ false
    below_apart a s k e h = grind (arith, nat_tests)

    older : (s : ℕ) → frame_of s xs ≡ Some r → frame_of s (x ∷ xs) ≡ Some r
    older s e = let a : eqb x.folio.serial s ≡ false = below_apart x.folio.serial s (length xs) n.0 (serial_below s r xs n.1 e) in rw a e

    mine : eqb x.folio.frame r ≡ true → x.live ≡ true → ⊥
    mine u l = let a : eqb x.folio.serial x.folio.serial ≡ true = self x.folio.serial in h x.folio.serial (rw (a, l) (ap Some (eqb-true x.folio.frame r u)))

    go : (u l : Bool) → eqb x.folio.frame r ≡ u → x.live ≡ l → is_free r xs ≡ true → cond (u && l) false (is_free r xs) ≡ true
    go true true u b ih = absurd (mine u b)
    go true false u b ih = ih
    go false l u b ih = ih

-- frees

pub free-length : (j : ℕ) (xs : List FolioState) → length (free_one j xs) ≡ length xs
free-length j [] = refl
free-length j (x ∷ xs) = go (eqb x.folio.serial j) (free-length j xs)
  where
    go : (t : Bool) → length (free_one j xs) ≡ length xs → length (cond t (record x { live = false } ∷ xs) (x ∷ free_one j xs)) ≡ suc (length xs)
    go true ih = refl
    go false ih = ap suc ih

pub free_numbered : (j : ℕ) (xs : List FolioState) → Numbered xs → Numbered (free_one j xs)
free_numbered j [] n = n
free_numbered j (x ∷ xs) n = go (eqb x.folio.serial j) (free_numbered j xs n.1)
  where
    go : (t : Bool) → Numbered (free_one j xs) → Numbered (cond t (record x { live = false } ∷ xs) (x ∷ free_one j xs))
    go true ih = n
    go false ih = (n.0 ∙ sym (free-length j xs), ih)

-- another folio keeps its frame, and the one that is freed has none
pub frame_kept : (j s : ℕ) (xs : List FolioState) → eqb j s ≡ false → frame_of s (free_one j xs) ≡ frame_of s xs
frame_kept j s [] ne = refl
frame_kept j s (x ∷ xs) ne = go (eqb x.folio.serial j) refl (frame_kept j s xs ne)
  where
    other : (a j s : ℕ) → eqb a j ≡ true → eqb j s ≡ false → eqb a s ≡ false
    other a j s e ne = grind (arith, nat_tests)

    go : (t : Bool) → eqb x.folio.serial j ≡ t → frame_of s (free_one j xs) ≡ frame_of s xs → frame_of s (cond t (record x { live = false } ∷ xs) (x ∷ free_one j xs)) ≡ frame_of s (x ∷ xs)
    go true e ih = let a : eqb x.folio.serial s ≡ false = other x.folio.serial j s e ne in rw a refl
    go false e ih = ap (λ (o : Option ℕ). cond (eqb x.folio.serial s) (cond x.live (Some x.folio.frame) None) o) ih

pub live_kept : (j s : ℕ) (xs : List FolioState) → eqb j s ≡ false → is_live s (free_one j xs) ≡ is_live s xs
live_kept j s [] ne = refl
live_kept j s (x ∷ xs) ne = go (eqb x.folio.serial j) refl (live_kept j s xs ne)
  where
    other : (a j s : ℕ) → eqb a j ≡ true → eqb j s ≡ false → eqb a s ≡ false
    other a j s e ne = grind (arith, nat_tests)

    go : (t : Bool) → eqb x.folio.serial j ≡ t → is_live s (free_one j xs) ≡ is_live s xs → is_live s (cond t (record x { live = false } ∷ xs) (x ∷ free_one j xs)) ≡ is_live s (x ∷ xs)
    go true e ih = let a : eqb x.folio.serial s ≡ false = other x.folio.serial j s e ne in rw a refl
    go false e ih = ap (λ (o : Bool). cond (eqb x.folio.serial s) x.live o) ih

pub frame_gone : (j r : ℕ) (xs : List FolioState) → frame_of j (free_one j xs) ≡ Some r → ⊥
frame_gone j r [] e = not_some r e
frame_gone j r (x ∷ xs) e = go (eqb x.folio.serial j) refl (frame_gone j r xs) e
  where
    go : (t : Bool) → eqb x.folio.serial j ≡ t → (frame_of j (free_one j xs) ≡ Some r → ⊥) → frame_of j (cond t (record x { live = false } ∷ xs) (x ∷ free_one j xs)) ≡ Some r → ⊥
    go true a ih h = not_some r (subst (λ (t : Bool). cond t None (frame_of j xs) ≡ Some r) a h)
    go false a ih h = ih (subst (λ (t : Bool). cond t (cond x.live (Some x.folio.frame) None) (frame_of j (free_one j xs)) ≡ Some r) a h)

-- a frame is free after a free where it was free
pub free_left : (j r : ℕ) (xs : List FolioState) → is_free r xs ≡ true → is_free r (free_one j xs) ≡ true
free_left j r [] h = refl
free_left j r (x ∷ xs) h = go (eqb x.folio.serial j) (eqb x.folio.frame r) x.live refl refl (free_left j r xs) h
  where
    go : (t u l : Bool) → eqb x.folio.frame r ≡ u → x.live ≡ l → (is_free r xs ≡ true → is_free r (free_one j xs) ≡ true) → cond (u && l) false (is_free r xs) ≡ true → is_free r (cond t (record x { live = false } ∷ xs) (x ∷ free_one j xs)) ≡ true
    go true true true a b ih h = absurd (both_ways false refl h)
    go true true false a b ih h = rw a h
    go true false l a b ih h = rw a h
    go false true true a b ih h = absurd (both_ways false refl h)
    go false true false a b ih h = rw (a, b) (ih h)
    go false false l a b ih h = rw a (ih h)

-- a frame that no folio but the freed one has
pub free_now : (j r : ℕ) (xs : List FolioState) → Numbered xs → ((s : ℕ) → frame_of s xs ≡ Some r → s ≡ j) → is_free r (free_one j xs) ≡ true
free_now j r [] n h = refl
free_now j r (x ∷ xs) n h = go (eqb x.folio.serial j) (eqb x.folio.frame r) x.live refl refl refl (free_now j r xs n.1 (λ s e. h s (older s e)))
  where
    below_apart : (a s k : ℕ) → a ≡ k → s < k → eqb a s ≡ false
    below_apart a s k e h = grind (arith, nat_tests)

    -- an older folio keeps its frame
    older : (s : ℕ) → frame_of s xs ≡ Some r → frame_of s (x ∷ xs) ≡ Some r
    older s e = let a : eqb x.folio.serial s ≡ false = below_apart x.folio.serial s (length xs) n.0 (serial_below s r xs n.1 e) in rw a e

    not_older : (s : ℕ) → eqb x.folio.serial j ≡ true → frame_of s xs ≡ Some r → ⊥
    not_older s a e = clash x.folio.serial s j (length xs) n.0 (serial_below s r xs n.1 e) a (h s (older s e))
      where
        clash : (a s j k : ℕ) → a ≡ k → s < k → eqb a j ≡ true → s ≡ j → ⊥
        clash a s j k e h t u = grind (arith, nat_tests)

    mine : eqb x.folio.frame r ≡ true → x.live ≡ true → x.folio.serial ≡ j
    mine u l = let a : eqb x.folio.serial x.folio.serial ≡ true = self x.folio.serial in h x.folio.serial (rw (a, l) (ap Some (eqb-true x.folio.frame r u)))

    go : (t u l : Bool) → eqb x.folio.serial j ≡ t → eqb x.folio.frame r ≡ u → x.live ≡ l → is_free r (free_one j xs) ≡ true → is_free r (cond t (record x { live = false } ∷ xs) (x ∷ free_one j xs)) ≡ true
    go true true l t u b ih = rw u (no_live r xs n.1 (λ s e. not_older s t e))
    go true false l t u b ih = rw u (no_live r xs n.1 (λ s e. not_older s t e))
    go false true true t u b ih = absurd (both_ways (eqb x.folio.serial j) t (eq-eqb x.folio.serial j (mine u b)))
    go false true false t u b ih = rw (u, b) ih
    go false false l t u b ih = rw u ih
