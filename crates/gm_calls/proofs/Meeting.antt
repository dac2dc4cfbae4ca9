-- The slots of a file that are bound in a range of it, one after another.
use Rattle.std.proofs.Common.{◌≡◌, ℕ, ◌+◌, ◌-◌, ◌<◌, ◌≤◌, ◌++◌, ◌&&◌, List, [], ◌∷◌, Bool, true, false, length, take, get_or, zero, suc, max, min, Option, Some, None, arith, refl, ◌∙◌, ap, sym, subst, cond, eqb, leb, ltb}
use Rattle.std.proofs.Math.Seq.{take-length}
use Rattle.std.proofs.lemmas.Bool.{and_parts}
use Rattle.std.proofs.lemmas.Bool.Decides.{nat_tests}
use Rattle.gm_base.specs.Extent.{Extent, meets}
use Rattle.gm_base.specs.declared.numbers.TheConstants.{PAGE_LIMIT}
use Rattle.gm_file.specs.Ranges.{met, meets_range}
use Rattle.gm_file.specs.declared.ranges.BoundRange.{BoundRange}
use Rattle.gm_flat.specs.Calls.{bound_range, part_span, part_spans, put_by_index, slots_of_file, whole_spans}
use Rattle.gm_flat.specs.FlatState.{FileState, file_by_number, in_use}
use Rattle.gm_flat.specs.Slots.{is_file, slot_by_id}
use Rattle.gm_flat.specs.declared.views.SlotView.{SlotView}
use Rattle.gm_calls.specs.Lent.{AllKnown, IsKnown, range_of, ranges_of}

abbrev pub meeting : ℕ → ℕ → List SlotView → List SlotView
meeting lo hi [] = []
meeting lo hi (s ∷ ss) = cond (meets (bound_range s) (record { lo = lo; hi = hi })) (s ∷ meeting lo hi ss) (meeting lo hi ss)

abbrev pub spans_of : ℕ → ℕ → List SlotView → List Extent
spans_of lo hi [] = []
spans_of lo hi (s ∷ ss) = part_span lo hi s ∷ spans_of lo hi ss

abbrev pub nth : ℕ → List SlotView → Option SlotView
nth k [] = None
nth zero (s ∷ ss) = Some s
nth (suc k) (s ∷ ss) = nth k ss

pub parts_meeting : (lo hi : ℕ) (ss : List SlotView) → part_spans lo hi ss ≡ spans_of lo hi (meeting lo hi ss)
parts_meeting lo hi [] = refl
parts_meeting lo hi (s ∷ ss) = by_test (meets (bound_range s) (record { lo = lo; hi = hi })) (parts_meeting lo hi ss)
  where
    by_test : (t : Bool) → part_spans lo hi ss ≡ spans_of lo hi (meeting lo hi ss) → cond t (part_span lo hi s ∷ part_spans lo hi ss) (part_spans lo hi ss) ≡ spans_of lo hi (cond t (s ∷ meeting lo hi ss) (meeting lo hi ss))
    by_test true h = ap (λ (es : List Extent). part_span lo hi s ∷ es) h
    by_test false h = h

same_test : (lo hi : ℕ) (s : SlotView) → lo < hi → meets_range lo hi (range_of s) ≡ meets (bound_range s) (record { lo = lo; hi = hi })
same_test lo hi s lt = plain lo hi s.index (s.index + s.pages) lt
  where
    plain : (a b c d : ℕ) → a < b → (ltb a b && (ltb c b && ltb a d)) ≡ (ltb c b && ltb a d)
    plain a b c d lt = grind (arith, nat_tests)

pub met_meeting : (lo hi : ℕ) (ss : List SlotView) → lo < hi → met lo hi (ranges_of ss) ≡ ranges_of (meeting lo hi ss)
met_meeting lo hi [] lt = refl
met_meeting lo hi (s ∷ ss) lt = let e = same_test lo hi s lt in rw e (by_test (meets (bound_range s) (record { lo = lo; hi = hi })) (met_meeting lo hi ss lt))
  where
    by_test : (t : Bool) → met lo hi (ranges_of ss) ≡ ranges_of (meeting lo hi ss) → cond t (range_of s ∷ met lo hi (ranges_of ss)) (met lo hi (ranges_of ss)) ≡ ranges_of (cond t (s ∷ meeting lo hi ss) (meeting lo hi ss))
    by_test true h = ap (λ (rs : List BoundRange). range_of s ∷ rs) h
    by_test false h = h

length_ranges : (ss : List SlotView) → length (ranges_of ss) ≡ length ss
length_ranges [] = refl
length_ranges (s ∷ ss) = ap (λ (n : ℕ). suc n) (length_ranges ss)

-- number k of the ranges of slots is that of slot number k
range_nth : (k : ℕ) (ss : List SlotView) (d : BoundRange) → k < length (ranges_of ss) → (s : SlotView) × (nth k ss ≡ Some s) × (s.id ≡ (get_or (ranges_of ss) k d).slot)
range_nth k [] d h = absurd (omega arith)
range_nth zero (s ∷ ss) d h = (s, refl, refl)
range_nth (suc k) (s ∷ ss) d h = range_nth k ss d (omega arith)

-- the ranges that meet are those of the slots that meet
met_are : (all : List SlotView) (fd lo hi : ℕ) (bound rs : List BoundRange) → lo < hi → bound ≡ ranges_of (slots_of_file fd all) → rs ≡ met lo hi bound → rs ≡ ranges_of (meeting lo hi (slots_of_file fd all))
met_are all fd lo hi bound rs lt b m =
    m ∙ ap (λ (bs : List BoundRange). met lo hi bs) b ∙ met_meeting lo hi (slots_of_file fd all) lt

-- what is known of each slot, and of those that meet the range
known_put : (all : List SlotView) (s : SlotView) (ss : List SlotView) → IsKnown all s → AllKnown all ss → AllKnown all (put_by_index s ss)
known_put all s [] k h = (k, tt)
known_put all s (t ∷ ss) k h = by_test (leb s.index t.index) (known_put all s ss k h.1)
  where
    by_test : (b : Bool) → AllKnown all (put_by_index s ss) → AllKnown all (cond b (s ∷ t ∷ ss) (t ∷ put_by_index s ss))
    by_test true r = (k, h)
    by_test false r = (h.0, r)

pub known_file : (all : List SlotView) (fd : ℕ) (ss : List SlotView) → AllKnown all ss → AllKnown all (slots_of_file fd ss)
known_file all fd [] h = tt
known_file all fd (s ∷ ss) h = by_test (is_file s.file fd) (known_file all fd ss h.1)
  where
    by_test : (b : Bool) → AllKnown all (slots_of_file fd ss) → AllKnown all (cond b (put_by_index s (slots_of_file fd ss)) (slots_of_file fd ss))
    by_test true k = known_put all s (slots_of_file fd ss) h.0 k
    by_test false k = k

length_put : (s : SlotView) (ss : List SlotView) → length (put_by_index s ss) ≡ suc (length ss)
length_put s [] = refl
length_put s (t ∷ ss) = by_test (leb s.index t.index) (length_put s ss)
  where
    by_test : (b : Bool) → length (put_by_index s ss) ≡ suc (length ss) → length (cond b (s ∷ t ∷ ss) (t ∷ put_by_index s ss)) ≡ suc (suc (length ss))
    by_test true h = refl
    by_test false h = ap (λ (n : ℕ). suc n) h

cond_length : (b : Bool) (x y : List SlotView) (n : ℕ) → length x ≤ n → length y ≤ n → length (cond b x y) ≤ n
cond_length true x y n h k = h
cond_length false x y n h k = k

pub length_file : (fd : ℕ) (ss : List SlotView) → length (slots_of_file fd ss) ≤ length ss
length_file fd [] = omega arith
length_file fd (s ∷ ss) =
    let ih = length_file fd ss in
    let e = length_put s (slots_of_file fd ss) in
    cond_length (is_file s.file fd) (put_by_index s (slots_of_file fd ss)) (slots_of_file fd ss) (suc (length ss)) (omega arith) (omega arith)

pub length_meeting : (lo hi : ℕ) (ss : List SlotView) → length (meeting lo hi ss) ≤ length ss
length_meeting lo hi [] = omega arith
length_meeting lo hi (s ∷ ss) =
    let ih = length_meeting lo hi ss in
    cond_length (meets (bound_range s) (record { lo = lo; hi = hi })) (s ∷ meeting lo hi ss) (meeting lo hi ss) (suc (length ss)) (omega arith) (omega arith)

-- number k of those that meet
pub record At (all : List SlotView) (lo hi k : ℕ) (s : SlotView) (xs : List SlotView) : Type 0 where
  pub known : IsKnown all s
  pub above : lo < s.index + s.pages
  pub below : s.index < hi
  pub more : k < length xs
  pub next : spans_of lo hi (take (suc k) xs) ≡ spans_of lo hi (take k xs) ++ part_span lo hi s ∷ []

-- each slot is known and meets the range
abbrev AllMeet : List SlotView → ℕ → ℕ → List SlotView → Type 0
AllMeet all lo hi [] = Unit {0}
AllMeet all lo hi (s ∷ ss) = (IsKnown all s × (meets (bound_range s) (record { lo = lo; hi = hi }) ≡ true)) × AllMeet all lo hi ss

all_meet : (all : List SlotView) (lo hi : ℕ) (ss : List SlotView) → AllKnown all ss → AllMeet all lo hi (meeting lo hi ss)
all_meet all lo hi [] h = tt
all_meet all lo hi (s ∷ ss) h = by_test (meets (bound_range s) (record { lo = lo; hi = hi })) refl (all_meet all lo hi ss h.1)
  where
    by_test : (b : Bool) → meets (bound_range s) (record { lo = lo; hi = hi }) ≡ b → AllMeet all lo hi (meeting lo hi ss) → AllMeet all lo hi (cond b (s ∷ meeting lo hi ss) (meeting lo hi ss))
    by_test true e k = ((h.0, e), k)
    by_test false e k = k

lt_of : (a b : ℕ) → ltb a b ≡ true → a < b
lt_of a b h = grind (arith, nat_tests)

plus : (k : ℕ) → suc k ≡ k + 1
plus k = omega arith

at_nth : (all : List SlotView) (lo hi k : ℕ) (s : SlotView) (xs : List SlotView) → AllMeet all lo hi xs → nth k xs ≡ Some s → At all lo hi k s xs
at_nth all lo hi k s [] h e = absurd (cc)
at_nth all lo hi zero s (x ∷ xs) h e =
    let q : x ≡ s = cc in
    let m = and_parts _ _ h.0.1 in
    subst (λ (y : SlotView). At all lo hi zero y (x ∷ xs)) q (record { known = h.0.0; below = lt_of x.index hi m.0; above = lt_of lo (x.index + x.pages) m.1; more = omega arith; next = refl })
at_nth all lo hi (suc k) s (x ∷ xs) h e =
    let r = at_nth all lo hi k s xs h.1 e in
    record {
      known = r.known;
      above = r.above;
      below = r.below;
      more = let m = r.more in omega arith;
      next = ap (λ (es : List Extent). part_span lo hi x ∷ es) r.next;
    }

pub next_one : {all : List SlotView} {lo hi k : ℕ} {s : SlotView} {xs : List SlotView} → At all lo hi k s xs → spans_of lo hi (take (k + 1) xs) ≡ spans_of lo hi (take k xs) ++ part_span lo hi s ∷ []
next_one {lo = lo} {hi = hi} {k = k} {s = s} {xs = xs} a = subst (λ (n : ℕ). spans_of lo hi (take n xs) ≡ spans_of lo hi (take k xs) ++ part_span lo hi s ∷ []) (plus k) a.next

some_same : (a b : SlotView) → Some a ≡ Some b → a ≡ b
some_same a b e = cc

-- number k of the ranges that meet is that of a known slot
one_there : (all : List SlotView) (fd lo hi k : ℕ) (bound rs : List BoundRange) (d : BoundRange) → lo < hi → AllKnown all all → bound ≡ ranges_of (slots_of_file fd all) → rs ≡ met lo hi bound → k < length rs → (s : SlotView) × (slot_by_id all (get_or rs k d).slot ≡ Some s) × At all lo hi k s (meeting lo hi (slots_of_file fd all))
one_there all fd lo hi k bound rs d lt known b m less =
    let own = slots_of_file fd all in
    let xs = meeting lo hi own in
    let e : rs ≡ ranges_of xs = met_are all fd lo hi bound rs lt b m in
    let p = range_nth k xs d (subst (λ (l : List BoundRange). k < length l) e less) in
    let a = at_nth all lo hi k p.0 xs (all_meet all lo hi own (known_file all fd all known)) p.1 in
    let id : (get_or rs k d).slot ≡ p.0.id = ap (λ (l : List BoundRange). (get_or l k d).slot) e ∙ sym p.2 in
    (p.0, ap (λ (n : ℕ). slot_by_id all n) id ∙ a.known.by_id, a)

pub found : (all : List SlotView) (fd lo hi k : ℕ) (bound rs : List BoundRange) (d : BoundRange) (s : SlotView) → lo < hi → AllKnown all all → bound ≡ ranges_of (slots_of_file fd all) → rs ≡ met lo hi bound → k < length rs → slot_by_id all (get_or rs k d).slot ≡ Some s → At all lo hi k s (meeting lo hi (slots_of_file fd all))
found all fd lo hi k bound rs d s lt known b m less is =
    let p = one_there all fd lo hi k bound rs d lt known b m less in
    subst (λ (y : SlotView). At all lo hi k y (meeting lo hi (slots_of_file fd all))) (some_same p.0 s (sym p.1 ∙ is)) p.2

-- a slot that is met is there
pub is_there : (all : List SlotView) (fd lo hi k : ℕ) (bound rs : List BoundRange) (d : BoundRange) → lo < hi → AllKnown all all → bound ≡ ranges_of (slots_of_file fd all) → rs ≡ met lo hi bound → k < length rs → slot_by_id all (get_or rs k d).slot ≡ None → ⊥
is_there all fd lo hi k bound rs d lt known b m less is =
    let p = one_there all fd lo hi k bound rs d lt known b m less in
    clash p.0 (sym is ∙ p.1)
  where
    clash : (s : SlotView) → None ≡ Some s → ⊥
    clash s e = cc

-- all are pushed
pub all_found : (all : List SlotView) (fd lo hi k : ℕ) (bound rs : List BoundRange) → lo < hi → bound ≡ ranges_of (slots_of_file fd all) → rs ≡ met lo hi bound → k ≡ length rs → spans_of lo hi (take k (meeting lo hi (slots_of_file fd all))) ≡ part_spans lo hi (slots_of_file fd all)
all_found all fd lo hi k bound rs lt b m is =
    let own = slots_of_file fd all in
    let xs = meeting lo hi own in
    let e : k ≡ length xs = is ∙ ap (λ (l : List BoundRange). length l) (met_are all fd lo hi bound rs lt b m) ∙ length_ranges xs in
    ap (λ (n : ℕ). spans_of lo hi (take n xs)) e
    ∙ ap (λ (ss : List SlotView). spans_of lo hi ss) (take-length xs)
    ∙ sym (parts_meeting lo hi own)

-- a close takes each slot whole
pub whole : (all ss : List SlotView) → AllKnown all ss → part_spans 0 PAGE_LIMIT ss ≡ whole_spans ss
whole all [] h = refl
whole all (s ∷ ss) h =
    let k = h.0 in
    let t : meets (bound_range s) (record { lo = 0; hi = PAGE_LIMIT }) ≡ true = reaches s.index s.pages k.some k.indexes in
    let a : s.base + (max 0 s.index - s.index) ≡ s.base = from_start s.base s.index in
    let b : s.base + (min PAGE_LIMIT (s.index + s.pages) - s.index) ≡ s.base + s.pages = to_end s.base s.index s.pages k.indexes in
    let r : part_spans 0 PAGE_LIMIT ss ≡ whole_spans ss = whole all ss h.1 in
    rw (t, a, b, r) refl
  where
    reaches : (i n : ℕ) → 0 < n → i + n ≤ 4503599627370496 → (ltb i 4503599627370496 && ltb 0 (i + n)) ≡ true
    reaches i n h k = grind (arith, nat_tests)

    from_start : (b i : ℕ) → b + (max 0 i - i) ≡ b
    from_start b i = omega arith

    to_end : (b i n : ℕ) → i + n ≤ 4503599627370496 → b + (min 4503599627370496 (i + n) - i) ≡ b + n
    to_end b i n h = omega arith

-- a file that stands is in use
pub used : (fd pages : ℕ) (block : Bool) (fs : List FileState) → file_by_number fd fs ≡ Some (record { number = fd; pages = pages; block = block; used = true }) → in_use fd fs ≡ true
used fd pages block [] e = absurd (cc)
used fd pages block (f ∷ fs) e = step (eqb f.number fd) (used fd pages block fs) e
  where
    some_same : (x y : FileState) → Some x ≡ Some y → x ≡ y
    some_same x y e = cc

    step : (t : Bool) → (file_by_number fd fs ≡ Some (record { number = fd; pages = pages; block = block; used = true }) → in_use fd fs ≡ true) → cond t (Some f) (file_by_number fd fs) ≡ Some (record { number = fd; pages = pages; block = block; used = true }) → cond t f.used (in_use fd fs) ≡ true
    step true ih e = ap (λ (x : FileState). x.used) (some_same f _ e)
    step false ih e = ih e
