-- The ranges of a file that are bound for slots, after a slot is made, dropped, marked or moved.
use Rattle.std.proofs.Common.{◌≡◌, ◌≢◌, ℕ, ◌+◌, ◌<◌, ◌≤◌, ◌&&◌, leb, ltb, List, [], ◌∷◌, Bool, true, false, zero, suc, Option, Some, None, arith, refl, ap, sym, subst, ◌∙◌, cond, eqb, inl, inr}
use Rattle.std.proofs.lemmas.Bool.{both_ways, cases_Bool}
use Rattle.std.proofs.lemmas.Bool.Decides.{nat_tests}
use Rattle.gm_calls.specs.Lent.{range_of, ranges_of}
use Rattle.gm_file.specs.Ranges.{meets_range, met, with_range, without_slot}
use Rattle.gm_file.specs.declared.ranges.BoundRange.{BoundRange}
use Rattle.gm_flat.specs.Calls.{put_by_index, slots_of_file}
use Rattle.gm_flat.specs.Effects.{dropped, marked, moved}
use Rattle.gm_flat.specs.RightLook.{file_of}
use Rattle.gm_flat.specs.Slots.{is_file, slot_by_id}
use Rattle.gm_flat.specs.declared.views.SlotView.{SlotView}
use Rattle.gm_store.proofs.Basics.{not_some}
use Rattle.gm_store.specs.Bindings.{HasIdAlone}
use Rattle.gm_store.specs.Stored.{HaveIndexes}

-- with one more range in its place, before those of the same first index
abbrev pub put_range : BoundRange → List BoundRange → List BoundRange
put_range r [] = r ∷ []
put_range r (o ∷ rs) = cond (leb r.lo o.lo) (r ∷ o ∷ rs) (o ∷ put_range r rs)

-- the ranges of the slots of a file, in order of index
abbrev pub file_ranges : ℕ → List SlotView → List BoundRange
file_ranges file [] = []
file_ranges file (s ∷ ss) = cond (is_file s.file file) (put_range (range_of s) (file_ranges file ss)) (file_ranges file ss)

ranges_put : (s : SlotView) (ss : List SlotView) → ranges_of (put_by_index s ss) ≡ put_range (range_of s) (ranges_of ss)
ranges_put s [] = refl
ranges_put s (t ∷ ss) = by_test (leb s.index t.index) (ranges_put s ss)
  where
    by_test : (b : Bool) → ranges_of (put_by_index s ss) ≡ put_range (range_of s) (ranges_of ss) → ranges_of (cond b (s ∷ t ∷ ss) (t ∷ put_by_index s ss)) ≡ cond b (range_of s ∷ range_of t ∷ ranges_of ss) (range_of t ∷ put_range (range_of s) (ranges_of ss))
    by_test true h = refl
    by_test false h = ap (λ (rs : List BoundRange). range_of t ∷ rs) h

pub ranges_are : (file : ℕ) (ss : List SlotView) → ranges_of (slots_of_file file ss) ≡ file_ranges file ss
ranges_are file [] = refl
ranges_are file (s ∷ ss) = by_test (is_file s.file file) (ranges_are file ss)
  where
    by_test : (b : Bool) → ranges_of (slots_of_file file ss) ≡ file_ranges file ss → ranges_of (cond b (put_by_index s (slots_of_file file ss)) (slots_of_file file ss)) ≡ cond b (put_range (range_of s) (file_ranges file ss)) (file_ranges file ss)
    by_test true h = ranges_put s (slots_of_file file ss) ∙ ap (put_range (range_of s)) h
    by_test false h = h

-- they rise

abbrev RisesFrom : ℕ → List BoundRange → Type 0
RisesFrom low [] = Unit {0}
RisesFrom low (r ∷ rs) = (low ≤ r.lo) × RisesFrom r.lo rs

rises_lower : (low high : ℕ) (rs : List BoundRange) → low ≤ high → RisesFrom high rs → RisesFrom low rs
rises_lower low high [] l h = tt
rises_lower low high (r ∷ rs) l h = (omega (arith, h.0), h.1)

put_rises : (low : ℕ) (r : BoundRange) (rs : List BoundRange) → low ≤ r.lo → RisesFrom low rs → RisesFrom low (put_range r rs)
put_rises low r [] l h = (l, tt)
put_rises low r (o ∷ rs) l h = by_test (leb r.lo o.lo) refl (λ k. put_rises o.lo r rs k h.1)
  where
    is_le : (a b : ℕ) → leb a b ≡ true → a ≤ b
    is_le a b e = grind (arith, nat_tests)

    is_more : (a b : ℕ) → leb a b ≡ false → b ≤ a
    is_more a b e = grind (arith, nat_tests)

    by_test : (b : Bool) → leb r.lo o.lo ≡ b → (o.lo ≤ r.lo → RisesFrom o.lo (put_range r rs)) → RisesFrom low (cond b (r ∷ o ∷ rs) (o ∷ put_range r rs))
    by_test true e k = (l, (is_le r.lo o.lo e, h.1))
    by_test false e k = (h.0, k (is_more r.lo o.lo e))

file_rises : (file : ℕ) (ss : List SlotView) → RisesFrom 0 (file_ranges file ss)
file_rises file [] = tt
file_rises file (s ∷ ss) = by_test (is_file s.file file) (file_rises file ss)
  where
    by_test : (b : Bool) → RisesFrom 0 (file_ranges file ss) → RisesFrom 0 (cond b (put_range (range_of s) (file_ranges file ss)) (file_ranges file ss))
    by_test true h = put_rises 0 (range_of s) (file_ranges file ss) (omega arith) h
    by_test false h = h

without_rises : (low id : ℕ) (rs : List BoundRange) → RisesFrom low rs → RisesFrom low (without_slot id rs)
without_rises low id [] h = tt
without_rises low id (r ∷ rs) h = by_test (eqb r.slot id) (without_rises r.lo id rs h.1)
  where
    by_test : (b : Bool) → RisesFrom r.lo (without_slot id rs) → RisesFrom low (cond b (without_slot id rs) (r ∷ without_slot id rs))
    by_test true k = rises_lower low r.lo (without_slot id rs) h.0 k
    by_test false k = (h.0, k)

-- a range that is put, and those of a slot taken away

put_first : (r : BoundRange) (rs : List BoundRange) → RisesFrom r.lo rs → put_range r rs ≡ r ∷ rs
put_first r [] h = refl
put_first r (o ∷ rs) h = ap (λ (b : Bool). cond b (r ∷ o ∷ rs) (o ∷ put_range r rs)) (is_leb r.lo o.lo h.0)
  where
    is_leb : (a b : ℕ) → a ≤ b → leb a b ≡ true
    is_leb a b e = grind (arith, nat_tests)

put_other : (id low : ℕ) (r : BoundRange) (rs : List BoundRange) → RisesFrom low rs → eqb r.slot id ≡ false → without_slot id (put_range r rs) ≡ put_range r (without_slot id rs)
put_other id low r [] h e = ap (λ (b : Bool). cond b [] (r ∷ [])) e
put_other id low r (o ∷ rs) h e = by_test (leb r.lo o.lo) refl (put_other id o.lo r rs h.1 e)
  where
    is_le : (a b : ℕ) → leb a b ≡ true → a ≤ b
    is_le a b e = grind (arith, nat_tests)

    later : (u : Bool) → leb r.lo o.lo ≡ false → without_slot id (put_range r rs) ≡ put_range r (without_slot id rs) → cond u (without_slot id (put_range r rs)) (o ∷ without_slot id (put_range r rs)) ≡ put_range r (cond u (without_slot id rs) (o ∷ without_slot id rs))
    later true t k = k
    later false t k = ap (λ (xs : List BoundRange). o ∷ xs) k ∙ sym (ap (λ (b : Bool). cond b (r ∷ o ∷ without_slot id rs) (o ∷ put_range r (without_slot id rs))) t)

    by_test : (t : Bool) → leb r.lo o.lo ≡ t → without_slot id (put_range r rs) ≡ put_range r (without_slot id rs) → without_slot id (cond t (r ∷ o ∷ rs) (o ∷ put_range r rs)) ≡ put_range r (without_slot id (o ∷ rs))
    by_test true t k =
        ap (λ (b : Bool). cond b (without_slot id (o ∷ rs)) (r ∷ without_slot id (o ∷ rs))) e
        ∙ sym (put_first r (without_slot id (o ∷ rs)) (without_rises r.lo id (o ∷ rs) (is_le r.lo o.lo t, h.1)))
    by_test false t k = later (eqb o.slot id) t k

put_own : (id : ℕ) (r : BoundRange) (rs : List BoundRange) → eqb r.slot id ≡ true → without_slot id (put_range r rs) ≡ without_slot id rs
put_own id r [] e = ap (λ (b : Bool). cond b [] (r ∷ [])) e
put_own id r (o ∷ rs) e = by_test (leb r.lo o.lo) (put_own id r rs e)
  where
    by_test : (t : Bool) → without_slot id (put_range r rs) ≡ without_slot id rs → without_slot id (cond t (r ∷ o ∷ rs) (o ∷ put_range r rs)) ≡ without_slot id (o ∷ rs)
    by_test true k = ap (λ (b : Bool). cond b (without_slot id (o ∷ rs)) (r ∷ without_slot id (o ∷ rs))) e
    by_test false k = ap (λ (xs : List BoundRange). cond (eqb o.slot id) xs (o ∷ xs)) k

-- a slot is dropped

no_id : (s : SlotView) (o : Option SlotView) (t : Bool) → cond t (Some s) o ≡ None → (t ≡ false) × (o ≡ None)
no_id s o true e = not_some s (sym e)
no_id s o false e = (refl, e)

-- no range is of a slot that isn't there
absent : (id file : ℕ) (ss : List SlotView) → slot_by_id ss id ≡ None → without_slot id (file_ranges file ss) ≡ file_ranges file ss
absent id file [] e = refl
absent id file (s ∷ ss) e =
    let n = no_id s (slot_by_id ss id) (eqb s.id id) e in
    by_test (is_file s.file file) n.0 (absent id file ss n.1)
  where
    by_test : (b : Bool) → eqb s.id id ≡ false → without_slot id (file_ranges file ss) ≡ file_ranges file ss → without_slot id (cond b (put_range (range_of s) (file_ranges file ss)) (file_ranges file ss)) ≡ cond b (put_range (range_of s) (file_ranges file ss)) (file_ranges file ss)
    by_test true n h = put_other id 0 (range_of s) (file_ranges file ss) (file_rises file ss) n ∙ ap (put_range (range_of s)) h
    by_test false n h = h

pub ranges_dropped : (id file : ℕ) (ss : List SlotView) → HasIdAlone id ss → file_ranges file (dropped id ss) ≡ without_slot id (file_ranges file ss)
ranges_dropped id file [] a = refl
ranges_dropped id file (s ∷ ss) a = by_test (eqb s.id id) (is_file s.file file) refl a (ranges_dropped id file ss)
  where
    own : List BoundRange
    own = file_ranges file ss

    rest : eqb s.id id ≡ false → slot_by_id (s ∷ dropped id ss) id ≡ None → slot_by_id (dropped id ss) id ≡ None
    rest t e = (no_id s (slot_by_id (dropped id ss) id) (eqb s.id id) e).1

    by_test : (t b : Bool) → eqb s.id id ≡ t → slot_by_id (cond t ss (s ∷ dropped id ss)) id ≡ None → (HasIdAlone id ss → file_ranges file (dropped id ss) ≡ without_slot id (file_ranges file ss)) → file_ranges file (cond t ss (s ∷ dropped id ss)) ≡ without_slot id (cond (is_file s.file file) (put_range (range_of s) (file_ranges file ss)) (file_ranges file ss))
    by_test true b t a ih = sym (absent id file ss a) ∙ own_gone (is_file s.file file) t
      where
        own_gone : (b : Bool) → eqb s.id id ≡ true → without_slot id (file_ranges file ss) ≡ without_slot id (cond b (put_range (range_of s) (file_ranges file ss)) (file_ranges file ss))
        own_gone true t = sym (put_own id (range_of s) (file_ranges file ss) t)
        own_gone false t = refl
    by_test false b t a ih = others (is_file s.file file) t (ih (rest t a))
      where
        others : (b : Bool) → eqb s.id id ≡ false → file_ranges file (dropped id ss) ≡ without_slot id (file_ranges file ss) → cond b (put_range (range_of s) (file_ranges file (dropped id ss))) (file_ranges file (dropped id ss)) ≡ without_slot id (cond b (put_range (range_of s) (file_ranges file ss)) (file_ranges file ss))
        others true t h = ap (put_range (range_of s)) h ∙ sym (put_other id 0 (range_of s) (file_ranges file ss) (file_rises file ss) t)
        others false t h = h

-- a slot that isn't the file's is dropped
pub others_dropped : (id file : ℕ) (ss : List SlotView) → is_file (file_of (slot_by_id ss id)) file ≡ false → file_ranges file (dropped id ss) ≡ file_ranges file ss
others_dropped id file [] e = refl
others_dropped id file (s ∷ ss) e = by_test (eqb s.id id) e (others_dropped id file ss)
  where
    by_test : (t : Bool) → is_file (file_of (cond t (Some s) (slot_by_id ss id))) file ≡ false → (is_file (file_of (slot_by_id ss id)) file ≡ false → file_ranges file (dropped id ss) ≡ file_ranges file ss) → file_ranges file (cond t ss (s ∷ dropped id ss)) ≡ cond (is_file s.file file) (put_range (range_of s) (file_ranges file ss)) (file_ranges file ss)
    by_test true e ih = sym (ap (λ (b : Bool). cond b (put_range (range_of s) (file_ranges file ss)) (file_ranges file ss)) e)
    by_test false e ih = ap (λ (xs : List BoundRange). cond (is_file s.file file) (put_range (range_of s) xs) xs) (ih e)

-- a slot is marked, or moved

pub ranges_marked : (id file : ℕ) (ss : List SlotView) → file_ranges file (marked id ss) ≡ file_ranges file ss
ranges_marked id file [] = refl
ranges_marked id file (s ∷ ss) = by_test (eqb s.id id) (ranges_marked id file ss)
  where
    by_test : (t : Bool) → file_ranges file (marked id ss) ≡ file_ranges file ss → file_ranges file (cond t (record s { invalid = true } ∷ ss) (s ∷ marked id ss)) ≡ cond (is_file s.file file) (put_range (range_of s) (file_ranges file ss)) (file_ranges file ss)
    by_test true h = refl
    by_test false h = ap (λ (xs : List BoundRange). cond (is_file s.file file) (put_range (range_of s) xs) xs) h

pub ranges_moved : (id base file : ℕ) (ss : List SlotView) → file_ranges file (moved id base ss) ≡ file_ranges file ss
ranges_moved id base file [] = refl
ranges_moved id base file (s ∷ ss) = by_test (eqb s.id id) (ranges_moved id base file ss)
  where
    by_test : (t : Bool) → file_ranges file (moved id base ss) ≡ file_ranges file ss → file_ranges file (cond t (record s { base = base; invalid = false } ∷ ss) (s ∷ moved id base ss)) ≡ cond (is_file s.file file) (put_range (range_of s) (file_ranges file ss)) (file_ranges file ss)
    by_test true h = refl
    by_test false h = ap (λ (xs : List BoundRange). cond (is_file s.file file) (put_range (range_of s) xs) xs) h

-- a range that meets none is put

pub put_new : (r : BoundRange) (rs : List BoundRange) → HaveIndexes rs → r.lo < r.hi → met r.lo r.hi rs ≡ [] → put_range r rs ≡ with_range r rs
put_new r [] a lt e = refl
put_new r (o ∷ rs) a lt e = by_test (meets_range r.lo r.hi o) refl e (put_new r rs a.1 lt)
  where
    same : (a b c d : ℕ) → a < b → c < d → (ltb a b && (ltb c b && ltb a d)) ≡ false → leb a c ≡ ltb a c
    same a b c d l m e = grind (arith, nat_tests)

    by_test : (t : Bool) → meets_range r.lo r.hi o ≡ t → cond t (o ∷ met r.lo r.hi rs) (met r.lo r.hi rs) ≡ [] → (met r.lo r.hi rs ≡ [] → put_range r rs ≡ with_range r rs) → cond (leb r.lo o.lo) (r ∷ o ∷ rs) (o ∷ put_range r rs) ≡ cond (ltb r.lo o.lo) (r ∷ o ∷ rs) (o ∷ with_range r rs)
    by_test true t e ih = absurd (cc)
    by_test false t e ih =
        ap (λ (b : Bool). cond b (r ∷ o ∷ rs) (o ∷ put_range r rs)) (same r.lo r.hi o.lo o.hi lt a.0 t)
        ∙ ap (λ (xs : List BoundRange). cond (ltb r.lo o.lo) (r ∷ o ∷ rs) (o ∷ xs)) (ih e)

pub indexes_put : (r : BoundRange) (rs : List BoundRange) → r.lo < r.hi → HaveIndexes rs → HaveIndexes (with_range r rs)
indexes_put r [] lt a = (lt, tt)
indexes_put r (o ∷ rs) lt a = by_test (ltb r.lo o.lo) (indexes_put r rs lt a.1)
  where
    by_test : (t : Bool) → HaveIndexes (with_range r rs) → HaveIndexes (cond t (r ∷ o ∷ rs) (o ∷ with_range r rs))
    by_test true h = (lt, a)
    by_test false h = (a.0, h)

pub indexes_left : (id : ℕ) (rs : List BoundRange) → HaveIndexes rs → HaveIndexes (without_slot id rs)
indexes_left id [] a = tt
indexes_left id (r ∷ rs) a = by_test (eqb r.slot id) (indexes_left id rs a.1)
  where
    by_test : (t : Bool) → HaveIndexes (without_slot id rs) → HaveIndexes (cond t (without_slot id rs) (r ∷ without_slot id rs))
    by_test true h = h
    by_test false h = (a.0, h)
