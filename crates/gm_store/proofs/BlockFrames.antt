-- Whether what is cached is a block of frames.
use Rattle.std.proofs.Common.{◌≡◌, ℕ, zero, suc, ◌+◌, ◌%◌, ◌<◌, ◌≤◌, ◌&&◌, leb, ltb, List, [], ◌∷◌, Bool, true, false, Option, Some, None, arith, refl, sym, subst, cond, ap, eqb, lit<}
use Rattle.std.specs.Prelude.{IfNone, IfSome, IsSome}
use Rattle.std.proofs.lemmas.Bool.Decides.{nat_tests}
use Rattle.gm_base.specs.declared.numbers.TheConstants.{BLOCK_PAGES}
use Rattle.gm_base.specs.declared.values.Folio.{Folio}
use Rattle.gm_file.specs.Views.{FileView}
use Rattle.gm_flat.specs.FlatState.{Flat, cached}
use Rattle.gm_radix.proofs.Counts.{count_within-there}
use Rattle.gm_radix.specs.Entries.{count_within, is_within, lookup}
use Rattle.gm_store.specs.Asked.{HasFrame, IsBlockFrom}
use Rattle.gm_store.specs.Stored.{FileKept, StoreStands, Stored}
use Rattle.gm_store.specs.Views.{StoreView, cached_in, file_in}

-- a count over a range, and of the index after it
count_after : (lo m : ℕ) (es : List (ℕ × Folio)) → lo ≤ m → count_within lo (m + 1) es ≡ count_within lo m es + count_within m (m + 1) es
count_after lo m [] le = refl
count_after lo m (e ∷ es) le = go (is_within lo (m + 1) e) (is_within lo m e) (is_within m (m + 1) e) refl refl refl (count_within lo (m + 1) es) (count_within lo m es) (count_within m (m + 1) es) (count_after lo m es le)
  where
    apart : (i : ℕ) (a b d : Bool) → (leb lo i && ltb i (m + 1)) ≡ a → (leb lo i && ltb i m) ≡ b → (leb m i && ltb i (m + 1)) ≡ d → lo ≤ m → cond a 1 0 ≡ cond b 1 0 + cond d 1 0
    apart i a b d e g h le = grind (arith, nat_tests)

    sum : (a b d : Bool) (x y z : ℕ) → cond a 1 0 ≡ cond b 1 0 + cond d 1 0 → x ≡ y + z → cond a (x + 1) x ≡ cond b (y + 1) y + cond d (z + 1) z
    sum true true true x y z e h = absurd (cc)
    sum true true false x y z e h = omega arith
    sum true false true x y z e h = omega arith
    sum true false false x y z e h = absurd (cc)
    sum false true true x y z e h = absurd (cc)
    sum false true false x y z e h = absurd (cc)
    sum false false true x y z e h = absurd (cc)
    sum false false false x y z e h = h

    go : (a b d : Bool) → is_within lo (m + 1) e ≡ a → is_within lo m e ≡ b → is_within m (m + 1) e ≡ d → (x y z : ℕ) → x ≡ y + z → cond (is_within lo (m + 1) e) (x + 1) x ≡ cond (is_within lo m e) (y + 1) y + cond (is_within m (m + 1) e) (z + 1) z
    go a b d p q r x y z h = sum (is_within lo (m + 1) e) (is_within lo m e) (is_within m (m + 1) e) x y z (apart e.0 (is_within lo (m + 1) e) (is_within lo m e) (is_within m (m + 1) e) refl refl refl le) h

-- so many indexes that have something are counted
some_counted : (n lo : ℕ) (es : List (ℕ × Folio)) → ((k : ℕ) → k < n → IsSome (lookup (lo + k) es)) → n ≤ count_within lo (lo + n) es
some_counted zero lo es h = omega arith
some_counted (suc n) lo es h = up n (count_within lo (lo + suc n) es) (subst (λ (m : ℕ). n + 1 ≤ count_within lo m es) (assoc lo n) (subst (λ (c : ℕ). n + 1 ≤ c) (sym (count_after lo (lo + n) es (above lo n))) (both n (count_within lo (lo + n) es) (count_within (lo + n) (lo + n + 1) es) (some_counted n lo es (λ k lt. h k (later k n lt))) (count_within-there (lo + n) (lo + n + 1) (lo + n) es (same (lo + n)) (next (lo + n)) (h n (last n))))))
  where
    up : (n c : ℕ) → n + 1 ≤ c → suc n ≤ c
    up n c h = omega arith

    assoc : (a b : ℕ) → a + b + 1 ≡ a + suc b
    assoc a b = omega arith

    above : (a b : ℕ) → a ≤ a + b
    above a b = omega arith

    same : (a : ℕ) → a ≤ a
    same a = omega arith

    next : (a : ℕ) → a < a + 1
    next a = omega arith

    last : (a : ℕ) → a < suc a
    last a = omega arith

    later : (k n : ℕ) → k < n → k < suc n
    later k n lt = omega arith

    both : (n a b : ℕ) → n ≤ a → 0 < b → n + 1 ≤ a + b
    both n a b h g = omega arith

has_one : (frame : ℕ) (o : Option Folio) → HasFrame frame o → IsSome o
has_one frame None h = absurd h
has_one frame (Some folio) h = refl

-- the frames of so many indexes from one on follow one another
abbrev pub Follow : ℕ → ℕ → ℕ → List (ℕ × Folio) → Type 0
Follow count index frame es = (k : ℕ) → k < count → HasFrame (frame + k) (lookup (index + k) es)

pub enough_counted : (count index frame : ℕ) (es : List (ℕ × Folio)) → Follow count index frame es → count ≤ count_within index (index + count) es
enough_counted count index frame es h = some_counted count index es (λ k lt. has_one (frame + k) (lookup (index + k) es) (h k lt))

-- one index more
pub follow_more : (count index frame : ℕ) (es : List (ℕ × Folio)) → Follow count index frame es → HasFrame (frame + count) (lookup (index + count) es) → Follow (count + 1) index frame es
follow_more count index frame es h g k lt = go (eqb k count) refl
  where
    last : (k n : ℕ) → eqb k n ≡ true → n ≡ k
    last k n e = grind (arith, nat_tests)

    earlier : (k n : ℕ) → eqb k n ≡ false → k < n + 1 → k < n
    earlier k n e lt = grind (arith, nat_tests)

    go : (b : Bool) → eqb k count ≡ b → HasFrame (frame + k) (lookup (index + k) es)
    go true e = subst (λ (j : ℕ). HasFrame (frame + j) (lookup (index + j) es)) (last k count e) g
    go false e = h k (earlier k count e lt)

-- the frame of the first index is the one that they follow from
pub follow_from : (index frame : ℕ) (first : Folio) (es : List (ℕ × Folio)) → lookup index es ≡ Some first → Follow BLOCK_PAGES index frame es → first.frame ≡ frame
follow_from index frame first es e h = plain frame (subst (HasFrame (frame + 0)) e (subst (λ (i : ℕ). HasFrame (frame + 0) (lookup i es)) (start index) (h 0 (lit< tt))))
  where
    start : (a : ℕ) → a + 0 ≡ a
    start a = omega arith

    plain : (a : ℕ) {x : ℕ} → x ≡ a + 0 → x ≡ a
    plain a e = omega (arith, e)

-- none, where the first index has nothing, or its frame is no multiple of 512, or too few are cached
pub none_at_first : (index frame : ℕ) (es : List (ℕ × Folio)) → lookup index es ≡ None → Follow BLOCK_PAGES index frame es → ⊥
none_at_first index frame es e h = subst (HasFrame (frame + 0)) e (subst (λ (i : ℕ). HasFrame (frame + 0) (lookup i es)) (start index) (h 0 (lit< tt)))
  where
    start : (a : ℕ) → a + 0 ≡ a
    start a = omega arith

-- what is found of a file is found of the state
block_kept : (file index frame : ℕ) (f : Flat) (x : FileView) → FileKept (Some x) file f → frame % BLOCK_PAGES ≡ 0 → Follow BLOCK_PAGES index frame x.cached → IsBlockFrom file index frame f
block_kept file index frame f x k a h = record { aligned = a; follow = λ j lt. subst (HasFrame (frame + j)) (k.cached_are (index + j)) (h j lt) }

block_found : (file index frame : ℕ) (f : Flat) (x : FileView) → FileKept (Some x) file f → IsBlockFrom file index frame f → Follow BLOCK_PAGES index frame x.cached
block_found file index frame f x k b = λ j lt. subst (HasFrame (frame + j)) (sym (k.cached_are (index + j))) (b.follow j lt)

pub block_some : (n : ℕ) (st : StoreView) (k : Stored) (file index : ℕ) (x : FileView) (o : Option ℕ) → StoreStands n st k → file_in st.files file ≡ Some x → IfSome o (λ frame. frame % BLOCK_PAGES ≡ 0) → IfSome o (λ frame. Follow BLOCK_PAGES index frame x.cached) → IfSome o (λ frame. IsBlockFrom file index frame k.flat)
block_some n st k file index x None s is a h = tt
block_some n st k file index x (Some frame) s is a h = block_kept file index frame k.flat x (subst (λ (y : Option FileView). FileKept y file k.flat) is (s.files.each file)) a h

pub block_none : (n : ℕ) (st : StoreView) (k : Stored) (file index : ℕ) (x : FileView) (o : Option ℕ) → StoreStands n st k → file_in st.files file ≡ Some x → IfNone o ((frame : ℕ) → frame % BLOCK_PAGES ≡ 0 → Follow BLOCK_PAGES index frame x.cached → ⊥) → IfNone o ((frame : ℕ) → IsBlockFrom file index frame k.flat → ⊥)
block_none n st k file index x None s is h = λ frame b. h frame b.aligned (block_found file index frame k.flat x (subst (λ (y : Option FileView). FileKept y file k.flat) is (s.files.each file)) b)
block_none n st k file index x (Some frame) s is h = tt

-- a shut file has no block
pub no_block : (n : ℕ) (st : StoreView) (k : Stored) (file index : ℕ) → StoreStands n st k → file_in st.files file ≡ None → (frame : ℕ) → IsBlockFrom file index frame k.flat → ⊥
no_block n st k file index s is frame b = subst (HasFrame (frame + 0)) (sym ((subst (λ (y : Option FileView). FileKept y file k.flat) is (s.files.each file)).cached_are (index + 0))) (b.follow 0 (lit< tt))
