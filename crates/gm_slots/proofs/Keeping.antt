-- How changes are kept.
use Rattle.std.proofs.Common.{◌≡◌, ◌≢◌, ℕ, suc, ◌+◌, ◌-◌, ◌<◌, ◌≤◌, List, [], ◌∷◌, ◌++◌, length, get_or, set, replicate, reverse, Bool, true, false, cond, eqb, Option, None, Some, refl, sym, subst, ◌∙◌, ap, arith, ◌⊎◌, inl, inr}
use Rattle.std.specs.List.{Contains, remove}
use Rattle.std.proofs.lemmas.List.{append-nil, reverse-append, reverse-reverse, length-reverse, length-map, length-set, length_push, get_or-set_same, get_or-set_other, get_or_push, get_or_append_left, get_or-map, get_or-replicate, length-replicate}
use Rattle.std.proofs.lemmas.List.Edits.{length-insert, length-remove, remove-append_left, remove-append_right}
use Rattle.std.proofs.lemmas.List.Sorted.{Contains-permutation, IsPermutation-reverse, IsPermutation-sym}
use Rattle.std.proofs.lemmas.Bool.Decides.{nat_tests}
use Rattle.std.proofs.lemmas.Bool.{cases_eq, cases_lt}
use Rattle.gm_base.specs.declared.numbers.TheConstants.{SLOT_IDS}
use Rattle.gm_flat.specs.declared.views.SlotView.{SlotView}
use Rattle.gm_flat.specs.Slots.{is_file, slot_by_id}
use Rattle.gm_flat.specs.Calls.{meets_slot}
use Rattle.gm_flat.specs.Effects.{dropped, marked, moved, shut_slot, shut_slots}
use Rattle.gm_slots.specs.declared.order.Begin.{Begin}
use Rattle.gm_slots.specs.Good.{Good}
use Rattle.gm_slots.specs.Order.{IsPut, IsTaken}
use Rattle.gm_slots.specs.Kept.{ById, ByBase, IsKept, IsShut, begin_at, begin_of, ids_of, listed, shut_place, with_place}
use Rattle.gm_slots.proofs.ById.{absent_at, by_id_here, by_id_other, by_id_some, changed, changed_here, changed_ids, changed_none, changed_other, dropped_here, dropped_other, good_by_id, good_ids, id_of, marked_is, moved_is, pages_of, shut_by_id, shut_ids}
use Rattle.gm_slots.proofs.Finding.{IsEntry, entry}
use Rattle.gm_slots.proofs.Goods.{good_dropped, good_marked, good_moved, good_room, good_shut}
use Rattle.gm_slots.proofs.Meeting.{bases_apart, taken_is}
use Rattle.gm_slots.proofs.Orders.{base_put, base_same, base_take}

-- the slots of the table are those that are kept
listed_ids : (table : List (Option SlotView)) (slots : List SlotView) → ((at : ℕ) (d : SlotView) → at < length slots → get_or table (get_or slots at d).id None ≡ Some (get_or slots at d)) → listed table (ids_of slots) ≡ slots
listed_ids table [] each = refl
listed_ids table (s ∷ slots) each =
    ap (λ (o : Option SlotView). with_place o (listed table (ids_of slots))) (each 0 s (omega arith))
    ∙ ap (λ (l : List SlotView). s ∷ l) (listed_ids table slots (λ at d h. each (suc at) d (omega arith)))

pub kept_listed : (slots : List SlotView) (table : List (Option SlotView)) (ages : List ℕ) (order : List Begin) → IsKept slots table ages order → listed table (reverse ages) ≡ slots
kept_listed slots table ages order k =
    ap (λ (ids : List ℕ). listed table ids) k.by_age
    ∙ listed_ids table slots (λ at d h. k.by_id.each (get_or slots at d).id None (good_ids slots at d k.good h) ∙ good_by_id slots at d k.good h)

pub kept_view : (slots : List SlotView) (table : List (Option SlotView)) (ages : List ℕ) (order : List Begin) → IsKept slots table ages order → IsKept (listed table (reverse ages)) table ages order
kept_view slots table ages order k = subst (λ (l : List SlotView). IsKept l table ages order) (sym (kept_listed slots table ages order k)) k

pub kept_now : (slots : List SlotView) (table : List (Option SlotView)) (ages : List ℕ) (order : List Begin) → listed table (reverse ages) ≡ slots → IsKept (listed table (reverse ages)) table ages order → IsKept slots table ages order
kept_now slots table ages order e k = subst (λ (l : List SlotView). IsKept l table ages order) e k

-- no slot
kept_none : (table : List (Option SlotView)) → table ≡ replicate SLOT_IDS None → IsKept [] table [] []
kept_none table e = record {
  good = tt;
  by_id = record {
    places = ap length e ∙ length-replicate SLOT_IDS none;
    each = λ id d h. ap (λ (l : List (Option SlotView)). get_or l id d) e ∙ get_or-replicate SLOT_IDS id none d h;
  };
  by_age = refl;
  by_base = record {
    sound = λ at d h. absurd (omega arith);
    complete = λ id b h. absurd (clash b h);
    rises = λ i j d h l. absurd (omega arith);
  };
  as_many = refl;
}
  where
    none : Option SlotView
    none = None

    clash : (b : Begin) → begin_of None ≡ Some b → ⊥
    clash b h = cc

-- what is kept where there is no slot
pub kept_new : (table : List (Option SlotView)) (ages : List ℕ) (order : List Begin) → table ≡ replicate SLOT_IDS None → ages ≡ [] → order ≡ [] → IsKept [] table ages order
kept_new table ages order t a o = subst (λ (l : List ℕ). IsKept [] table l order) (sym a) (subst (λ (l : List Begin). IsKept [] table [] l) (sym o) (kept_none table t))

-- past the places there is no slot
pub no_place : (slots : List SlotView) (id : ℕ) → Good slots → SLOT_IDS ≤ id → slot_by_id slots id ≡ None
no_place slots id g h = choose (slot_by_id slots id) refl
  where
    choose : (o : Option SlotView) → slot_by_id slots id ≡ o → o ≡ None
    choose None e = refl
    choose (Some s) e = absurd (omega (arith, id_of slots id s g e))

-- the table with one place set
table_set : (old new : List SlotView) (table : List (Option SlotView)) (id : ℕ) (o : Option SlotView) → ById old table → id < SLOT_IDS → slot_by_id new id ≡ o → ((other : ℕ) → other ≢ id → slot_by_id new other ≡ slot_by_id old other) → ById new (set table id o)
table_set old new table id o b h here others = record {
  places = length-set table id o ∙ b.places;
  each = λ other d l. choose other d l (cases_eq other id);
}
  where
    choose : (other : ℕ) (d : Option SlotView) → other < SLOT_IDS → ((other ≡ id) ⊎ (other ≡ id → ⊥)) → get_or (set table id o) other d ≡ slot_by_id new other
    choose other d l (inl e) =
        ap (λ (n : ℕ). get_or (set table id o) n d) e ∙ (get_or-set_same table id o d (omega (arith, b.places)) ∙ (sym here ∙ ap (λ (n : ℕ). slot_by_id new n) (sym e)))
    choose other d l (inr ne) = get_or-set_other table id other o d ne ∙ (b.each other d l ∙ sym (others other ne))

-- ids by age
reverse_front : (n : ℕ) (ids : List ℕ) → reverse (n ∷ ids) ≡ reverse ids ++ n ∷ []
reverse_front n ids = reverse-append (n ∷ []) ids

ages_are : (slots : List SlotView) (ages : List ℕ) → reverse ages ≡ ids_of slots → ages ≡ reverse (ids_of slots)
ages_are slots ages e = sym (reverse-reverse ages) ∙ ap reverse e

pub age_count : (slots : List SlotView) (ages : List ℕ) → reverse ages ≡ ids_of slots → length ages ≡ length slots
age_count slots ages e = sym (length-reverse ages) ∙ (ap length e ∙ length-map slots (λ (s : SlotView). s.id))

pub age_there : (slots : List SlotView) (ages : List ℕ) (id : ℕ) (s : SlotView) → reverse ages ≡ ids_of slots → slot_by_id slots id ≡ Some s → Contains ages id
age_there slots ages id s e found = subst (λ (l : List ℕ). Contains l id) (sym (ages_are slots ages e)) (Contains-permutation (ids_of slots) (reverse (ids_of slots)) id (IsPermutation-reverse (ids_of slots)) (among (by_id_some slots id s found)))
  where
    among : Contains slots s × (s.id ≡ id) → Contains (ids_of slots) id
    among ((at, h, is), same) = (at, omega (arith, length-map slots (λ (s : SlotView). s.id)), get_or-map (λ (x : SlotView). x.id) slots at s id h ∙ (ap (λ (x : SlotView). x.id) is ∙ same))

-- a slot whose id stands among others isn't the one in front of them
not_front : (s : SlotView) (slots : List SlotView) (id at : ℕ) → slot_by_id slots s.id ≡ None → at < length (reverse (ids_of slots)) → get_or (reverse (ids_of slots)) at id ≡ id → eqb s.id id ≡ false
not_front s slots id at none h e = by_place (Contains-permutation (reverse (ids_of slots)) (ids_of slots) id (IsPermutation-sym (ids_of slots) (reverse (ids_of slots)) (IsPermutation-reverse (ids_of slots))) (at, h, e))
  where
    apart : (a b c : ℕ) → eqb b a ≡ false → b ≡ c → eqb a c ≡ false
    apart a b c f g = grind (arith, nat_tests)

    by_place : Contains (ids_of slots) id → eqb s.id id ≡ false
    by_place (k, l, is) =
        let within : k < length slots = omega (arith, length-map slots (λ (s : SlotView). s.id)) in
        apart s.id (get_or slots k s).id id (absent_at slots s.id k s none within) (sym (get_or-map (λ (x : SlotView). x.id) slots k s id within) ∙ is)

dropped_age_step : (s : SlotView) (slots : List SlotView) (id at : ℕ) → slot_by_id slots s.id ≡ None → at < length (reverse (s.id ∷ ids_of slots)) → get_or (reverse (s.id ∷ ids_of slots)) at id ≡ id → (at < length (reverse (ids_of slots)) → get_or (reverse (ids_of slots)) at id ≡ id → remove (reverse (ids_of slots)) at ≡ reverse (ids_of (dropped id slots))) → remove (reverse (s.id ∷ ids_of slots)) at ≡ reverse (ids_of (dropped id (s ∷ slots)))
dropped_age_step s slots id at none h e rest = side (cases_lt at (length (reverse (ids_of slots))))
  where
    front : reverse (s.id ∷ ids_of slots) ≡ reverse (ids_of slots) ++ s.id ∷ []
    front = reverse_front s.id (ids_of slots)

    found : get_or (reverse (ids_of slots) ++ s.id ∷ []) at id ≡ id
    found = ap (λ (l : List ℕ). get_or l at id) (sym front) ∙ e

    long : length (reverse (s.id ∷ ids_of slots)) ≡ length (reverse (ids_of slots)) + 1
    long = ap length front ∙ length_push (reverse (ids_of slots)) s.id

    early : at < length (reverse (ids_of slots)) → get_or (reverse (ids_of slots)) at id ≡ id → remove (reverse (s.id ∷ ids_of slots)) at ≡ reverse (ids_of (dropped id (s ∷ slots)))
    early l is =
        ap (λ (x : List ℕ). remove x at) front
        ∙ (remove-append_left (reverse (ids_of slots)) (s.id ∷ []) at l
        ∙ (ap (λ (x : List ℕ). x ++ s.id ∷ []) (rest l is)
        ∙ (sym (reverse_front s.id (ids_of (dropped id slots)))
        ∙ ap (λ (b : Bool). reverse (ids_of (cond b slots (s ∷ dropped id slots)))) (sym (not_front s slots id at none l is)))))

    same : (a b : ℕ) → a ≡ b → eqb a b ≡ true
    same a b e = grind (arith, nat_tests)

    late : at ≡ length (reverse (ids_of slots)) → remove (reverse (s.id ∷ ids_of slots)) at ≡ reverse (ids_of (dropped id (s ∷ slots)))
    late l =
        let is : s.id ≡ id = sym (get_or_push (reverse (ids_of slots)) s.id id at (sym l)) ∙ found in
        let none : at - at ≡ 0 = omega arith in
        ap (λ (x : List ℕ). remove x at) front
        ∙ (remove-append_right (reverse (ids_of slots)) (s.id ∷ []) at at (sym l) (omega arith)
        ∙ (ap (λ (n : ℕ). reverse (ids_of slots) ++ remove (s.id ∷ []) n) none
        ∙ (append-nil (reverse (ids_of slots))
        ∙ ap (λ (b : Bool). reverse (ids_of (cond b slots (s ∷ dropped id slots)))) (sym (same s.id id is)))))

    side : ((at < length (reverse (ids_of slots))) ⊎ (length (reverse (ids_of slots)) ≤ at)) → remove (reverse (s.id ∷ ids_of slots)) at ≡ reverse (ids_of (dropped id (s ∷ slots)))
    side (inl l) = early l (sym (get_or_append_left (reverse (ids_of slots)) (s.id ∷ []) id at l) ∙ found)
    side (inr l) = late (omega (arith, long))

dropped_age : (slots : List SlotView) (id at : ℕ) → Good slots → at < length (reverse (ids_of slots)) → get_or (reverse (ids_of slots)) at id ≡ id → remove (reverse (ids_of slots)) at ≡ reverse (ids_of (dropped id slots))
dropped_age [] id at g h e = absurd (omega arith)
dropped_age (s ∷ slots) id at g h e = dropped_age_step s slots id at g.0 h e (λ l is. dropped_age slots id at g.4 l is)

age_dropped : (slots : List SlotView) (ages : List ℕ) (id at : ℕ) → Good slots → reverse ages ≡ ids_of slots → at < length ages → get_or ages at id ≡ id → reverse (remove ages at) ≡ ids_of (dropped id slots)
age_dropped slots ages id at g e h is =
    let are : ages ≡ reverse (ids_of slots) = ages_are slots ages e in
    ap (λ (l : List ℕ). reverse (remove l at)) are
    ∙ (ap reverse (dropped_age slots id at g (omega (arith, ap length are)) (ap (λ (l : List ℕ). get_or l at id) (sym are) ∙ is))
    ∙ reverse-reverse (ids_of (dropped id slots)))

-- one more
pub room_for_age : (slots : List SlotView) (table : List (Option SlotView)) (ages : List ℕ) (order : List Begin) (s : SlotView) → IsKept slots table ages order → slot_by_id slots s.id ≡ None → s.id < SLOT_IDS → 0 < s.pages → meets_slot s.base s.pages slots ≡ false → length ages < SLOT_IDS
room_for_age slots table ages order s k absent id pages apart =
    omega (arith, good_room slots s (absent, id, pages, apart, k.good), age_count slots ages k.by_age)

pub kept_put : (slots : List SlotView) (table : List (Option SlotView)) (ages : List ℕ) (aged : List ℕ) (order longer : List Begin) (s : SlotView) → IsKept slots table ages order → slot_by_id slots s.id ≡ None → s.id < SLOT_IDS → 0 < s.pages → meets_slot s.base s.pages slots ≡ false → aged ≡ ages ++ s.id ∷ [] → IsPut order longer (record { base = s.base; id = s.id }) → IsKept (s ∷ slots) (set table s.id (Some s)) aged longer
kept_put slots table ages aged order longer s k absent id pages apart older put = subst (λ (l : List ℕ). IsKept (s ∷ slots) (set table s.id (Some s)) l longer) (sym older) (record {
  good = (absent, id, pages, apart, k.good);
  by_id = table_set slots (s ∷ slots) table s.id (Some s) k.by_id id (by_id_here s slots s.id refl) (λ other ne. by_id_other s slots other (λ e. ne (sym e)));
  by_age = reverse-append ages (s.id ∷ []) ∙ ap (λ (l : List ℕ). s.id ∷ l) k.by_age;
  by_base =
      base_put slots (s ∷ slots) order longer (record { base = s.base; id = s.id }) k.by_base put (bases_apart slots order s.base s.pages k.good k.by_base pages apart) (ap begin_of absent)
      (ap begin_of (by_id_here s slots s.id refl))
      (λ other ne. ap begin_of (by_id_other s slots other (λ e. ne (sym e))));
  as_many = ap length put.is ∙ (length-insert order put.at (record { base = s.base; id = s.id }) put.bound ∙ (ap (λ (n : ℕ). n + 1) k.as_many ∙ sym (length_push ages s.id)));
})

-- where a slot begins
pub begin_there : (slots : List SlotView) (order : List Begin) (id : ℕ) (s : SlotView) → ByBase slots order → slot_by_id slots id ≡ Some s → Contains order (record { base = s.base; id = id })
begin_there slots order id s by found = by.complete id (record { base = s.base; id = id }) (ap begin_of found ∙ ap (λ (n : ℕ). Some (record { base = s.base; id = n })) (by_id_some slots id s found).1)

pub order_ids : (slots : List SlotView) (order : List Begin) (at : ℕ) (d : Begin) → Good slots → ByBase slots order → at < length order → (get_or order at d).id < SLOT_IDS
order_ids slots order at d g by h = by_slot (entry slots order at d by h)
  where
    by_slot : (s : SlotView) × IsEntry slots (get_or order at d) s → (get_or order at d).id < SLOT_IDS
    by_slot (s, i) = id_of slots (get_or order at d).id s g i.found

-- one less
taken_here : (slots : List SlotView) (order shorter : List Begin) (id : ℕ) (s : SlotView) → Good slots → ByBase slots order → slot_by_id slots id ≡ Some s → (t : IsTaken order shorter s.base) → (d : Begin) → get_or order t.at d ≡ record { base = s.base; id = id }
taken_here slots order shorter id s g by found t d = taken_is slots order id t.at s d g by found t.bound (t.begins d)

base_dropped : (slots : List SlotView) (order shorter : List Begin) (id : ℕ) (s : SlotView) → Good slots → ByBase slots order → slot_by_id slots id ≡ Some s → IsTaken order shorter s.base → ByBase (dropped id slots) shorter
base_dropped slots order shorter id s g by found t =
    base_take slots (dropped id slots) order shorter (record { base = s.base; id = id }) s.base by t (taken_here slots order shorter id s g by found t) (ap begin_of (dropped_here slots id g)) (λ other ne. ap begin_of (dropped_other slots id other ne))

one_less : (m n k : ℕ) → m + 1 ≡ k → n + 1 ≡ k → m ≡ n
one_less m n k e f = omega arith

pub kept_drop : (slots : List SlotView) (table : List (Option SlotView)) (ages : List ℕ) (aged : List ℕ) (order shorter : List Begin) (id at : ℕ) (s : SlotView) → IsKept slots table ages order → slot_by_id slots id ≡ Some s → at < length ages → get_or ages at id ≡ id → aged ≡ remove ages at → IsTaken order shorter s.base → IsKept (dropped id slots) (set table id None) aged shorter
kept_drop slots table ages aged order shorter id at s k found h is fewer taken = subst (λ (l : List ℕ). IsKept (dropped id slots) (set table id None) l shorter) (sym fewer) (record {
  good = good_dropped slots id k.good;
  by_id = table_set slots (dropped id slots) table id None k.by_id (id_of slots id s k.good found) (dropped_here slots id k.good) (λ other ne. dropped_other slots id other ne);
  by_age = age_dropped slots ages id at k.good k.by_age h is;
  by_base = base_dropped slots order shorter id s k.good k.by_base found taken;
  as_many = one_less (length shorter) (length (remove ages at)) (length order) (ap (λ (l : List Begin). length l + 1) taken.is ∙ length-remove order taken.at taken.bound) (length-remove ages at h ∙ sym k.as_many);
})

-- a slot that is marked
pub kept_mark : (slots : List SlotView) (table : List (Option SlotView)) (ages : List ℕ) (order : List Begin) (id : ℕ) (s m : SlotView) → IsKept slots table ages order → slot_by_id slots id ≡ Some s → m ≡ record s { invalid = true } → IsKept (marked id slots) (set table id (Some m)) ages order
kept_mark slots table ages order id s m k found is = subst (λ (l : List SlotView). IsKept l (set table id (Some m)) ages order) (sym (marked_is slots id)) (record {
  good = subst (λ (l : List SlotView). Good l) (marked_is slots id) (good_marked slots id k.good);
  by_id = table_set slots (changed mark id slots) table id (Some m) k.by_id (id_of slots id s k.good found) (here ∙ ap (λ (x : SlotView). Some x) (sym is)) others;
  by_age = k.by_age ∙ sym (changed_ids mark slots id (λ x. refl));
  by_base = base_same slots (changed mark id slots) order k.by_base (λ other. stays other (cases_eq other id));
  as_many = k.as_many;
})
  where
    mark : SlotView → SlotView
    mark x = record x { invalid = true }

    here : slot_by_id (changed mark id slots) id ≡ Some (record s { invalid = true })
    here = changed_here mark slots id s found (by_id_some slots id s found).1

    others : (other : ℕ) → other ≢ id → slot_by_id (changed mark id slots) other ≡ slot_by_id slots other
    others other ne = changed_other mark slots id other (λ x. refl) ne

    stays : (other : ℕ) → ((other ≡ id) ⊎ (other ≡ id → ⊥)) → begin_at (changed mark id slots) other ≡ begin_at slots other
    stays other (inl e) = ap (λ (n : ℕ). begin_at (changed mark id slots) n) e ∙ (ap begin_of here ∙ (sym (ap begin_of found) ∙ ap (λ (n : ℕ). begin_at slots n) (sym e)))
    stays other (inr ne) = ap begin_of (others other ne)

-- a slot that moves
pub kept_move : (slots : List SlotView) (table : List (Option SlotView)) (ages : List ℕ) (order shorter longer : List Begin) (id base : ℕ) (s m : SlotView) → IsKept slots table ages order → slot_by_id slots id ≡ Some s → m ≡ record s { base = base; invalid = false } → meets_slot base s.pages (dropped id slots) ≡ false → IsTaken order shorter s.base → IsPut shorter longer (record { base = base; id = id }) → IsKept (moved id base slots) (set table id (Some m)) ages longer
kept_move slots table ages order shorter longer id base s m k found is apart taken put = subst (λ (l : List SlotView). IsKept l (set table id (Some m)) ages longer) (sym (moved_is slots id base)) (record {
  good = subst (λ (l : List SlotView). Good l) (moved_is slots id base) (good_moved s slots id base k.good found apart);
  by_id = table_set slots (changed shift id slots) table id (Some m) k.by_id (id_of slots id s k.good found) (here ∙ ap (λ (x : SlotView). Some x) (sym is)) others;
  by_age = k.by_age ∙ sym (changed_ids shift slots id (λ x. refl));
  by_base =
      base_put (dropped id slots) (changed shift id slots) shorter longer (record { base = base; id = id }) without put
      (bases_apart (dropped id slots) shorter base s.pages (good_dropped slots id k.good) without (pages_of slots s k.good (by_id_some slots id s found).0) apart)
      (ap begin_of (dropped_here slots id k.good))
      (ap begin_of here ∙ ap (λ (n : ℕ). Some (record { base = base; id = n })) (by_id_some slots id s found).1)
      (λ other ne. ap begin_of (others other ne ∙ sym (dropped_other slots id other ne)));
  as_many = ap length put.is ∙ (length-insert shorter put.at (record { base = base; id = id }) put.bound ∙ (ap (λ (l : List Begin). length l + 1) taken.is ∙ (length-remove order taken.at taken.bound ∙ k.as_many)));
})
  where
    shift : SlotView → SlotView
    shift x = record x { base = base; invalid = false }

    here : slot_by_id (changed shift id slots) id ≡ Some (record s { base = base; invalid = false })
    here = changed_here shift slots id s found (by_id_some slots id s found).1

    others : (other : ℕ) → other ≢ id → slot_by_id (changed shift id slots) other ≡ slot_by_id slots other
    others other ne = changed_other shift slots id other (λ x. refl) ne

    without : ByBase (dropped id slots) shorter
    without = base_dropped slots order shorter id s k.good k.by_base found taken

pub clear_of : (slots : List SlotView) (id base : ℕ) (s : SlotView) → slot_by_id slots id ≡ Some s → (t : SlotView) × (slot_by_id slots id ≡ Some t) × (meets_slot base t.pages (dropped id slots) ≡ false) → meets_slot base s.pages (dropped id slots) ≡ false
clear_of slots id base s found (t, same, apart) = subst (λ (x : SlotView). meets_slot base x.pages (dropped id slots) ≡ false) (one t s (sym same ∙ found)) apart
  where
    one : (x y : SlotView) → Some x ≡ Some y → x ≡ y
    one x y e = cc

-- the slots of a file that is shut
pub kept_shut : (slots : List SlotView) (table new : List (Option SlotView)) (ages : List ℕ) (order : List Begin) (file : ℕ) → IsKept slots table ages order → IsShut file order table new → IsKept (shut_slots file slots) new ages order
kept_shut slots table new ages order file k shut = record {
  good = good_shut slots file k.good;
  by_id = record {
    places = shut.places ∙ k.by_id.places;
    each = λ id d h. place id d h (slot_by_id slots id) refl ∙ sym (shut_by_id file slots id);
  };
  by_age = k.by_age ∙ sym (shut_ids file slots);
  by_base = base_same slots (shut_slots file slots) order k.by_base (λ id. ap begin_of (shut_by_id file slots id) ∙ stays (slot_by_id slots id));
  as_many = k.as_many;
}
  where
    stays : (o : Option SlotView) → begin_of (shut_place file o) ≡ begin_of o
    stays None = refl
    stays (Some s) = refl

    place : (id : ℕ) (d : Option SlotView) → id < SLOT_IDS → (o : Option SlotView) → slot_by_id slots id ≡ o → get_or new id d ≡ shut_place file (slot_by_id slots id)
    place id d h None e = choose (shut.either id d)
      where
        was : get_or table id d ≡ None
        was = k.by_id.each id d h ∙ e

        choose : ((get_or new id d ≡ get_or table id d) ⊎ (get_or new id d ≡ shut_place file (get_or table id d))) → get_or new id d ≡ shut_place file (slot_by_id slots id)
        choose (inl f) = f ∙ (was ∙ ap (λ (o : Option SlotView). shut_place file o) (sym e))
        choose (inr f) = f ∙ ap (λ (o : Option SlotView). shut_place file o) (k.by_id.each id d h)
    place id d h (Some s) e = at_order (k.by_base.complete id (record { base = s.base; id = s.id }) (ap begin_of e))
      where
        at_order : Contains order (record { base = s.base; id = s.id }) → get_or new id d ≡ shut_place file (slot_by_id slots id)
        at_order (at, l, is) =
            let same : (get_or order at (record { base = s.base; id = s.id })).id ≡ id = ap (λ (x : Begin). x.id) is ∙ (by_id_some slots id s e).1 in
            ap (λ (n : ℕ). get_or new n d) (sym same)
            ∙ (shut.each at (record { base = s.base; id = s.id }) d l
            ∙ (ap (λ (n : ℕ). shut_place file (get_or table n d)) same
            ∙ ap (λ (o : Option SlotView). shut_place file o) (k.by_id.each id d h)))

-- a change of a slot that isn't there changes nothing
pub marked_none : (slots : List SlotView) (id : ℕ) → slot_by_id slots id ≡ None → marked id slots ≡ slots
marked_none slots id e = marked_is slots id ∙ changed_none (λ (s : SlotView). record s { invalid = true }) slots id e

pub moved_none : (slots : List SlotView) (id base : ℕ) → slot_by_id slots id ≡ None → moved id base slots ≡ slots
moved_none slots id base e = moved_is slots id base ∙ changed_none (λ (s : SlotView). record s { base = base; invalid = false }) slots id e

-- a round over what begins: one more place is without the file
pub record ShutSoFar (file count : ℕ) (order : List Begin) (table new : List (Option SlotView)) : Type 0 where
  pub places : length new ≡ length table
  pub either : (id : ℕ) (d : Option SlotView) → (get_or new id d ≡ get_or table id d) ⊎ (get_or new id d ≡ shut_place file (get_or table id d))
  pub each : (at : ℕ) (b : Begin) (d : Option SlotView) → at < count → get_or new (get_or order at b).id d ≡ shut_place file (get_or table (get_or order at b).id d)

pub shut_none : (file : ℕ) (order : List Begin) (table : List (Option SlotView)) → ShutSoFar file 0 order table table
shut_none file order table = record { places = refl; either = λ id d. inl refl; each = λ at b d h. absurd (omega arith) }

shut_twice : (file : ℕ) (o : Option SlotView) → shut_place file (shut_place file o) ≡ shut_place file o
shut_twice file None = refl
shut_twice file (Some s) = ap (λ (f : Option ℕ). Some (record s { file = f })) (file_twice s.file)
  where
    by_test : (n : ℕ) (b : Bool) → eqb n file ≡ b → cond (is_file (cond (eqb n file) None (Some n)) file) None (cond (eqb n file) None (Some n)) ≡ cond (eqb n file) None (Some n)
    by_test n true e = subst (λ (x : Bool). cond (is_file (cond x None (Some n)) file) None (cond x None (Some n)) ≡ cond x None (Some n)) (sym e) refl
    by_test n false e = subst (λ (x : Bool). cond (is_file (cond x None (Some n)) file) None (cond x None (Some n)) ≡ cond x None (Some n)) (sym e) (ap (λ (x : Bool). cond x None (Some n)) e)

    file_twice : (f : Option ℕ) → cond (is_file (cond (is_file f file) None f) file) None (cond (is_file f file) None f) ≡ cond (is_file f file) None f
    file_twice None = refl
    file_twice (Some n) = by_test n (eqb n file) refl

shut_more : (file count : ℕ) (order : List Begin) (table now new : List (Option SlotView)) (b : Begin) → ShutSoFar file count order table now → ((d : Begin) → get_or order count d ≡ b) → length new ≡ length now → ((d : Option SlotView) → get_or new b.id d ≡ shut_place file (get_or now b.id d)) → ((id : ℕ) (d : Option SlotView) → id ≢ b.id → get_or new id d ≡ get_or now id d) → ShutSoFar file (count + 1) order table new
shut_more file count order table now new b so is long here others = record {
  places = long ∙ so.places;
  either = λ id d. either id d (cases_eq id b.id);
  each = λ at c d h. each at c d (cases_eq (get_or order at c).id b.id) (cases_lt at count) h;
}
  where
    shut_here : (d : Option SlotView) → ((get_or now b.id d ≡ get_or table b.id d) ⊎ (get_or now b.id d ≡ shut_place file (get_or table b.id d))) → get_or new b.id d ≡ shut_place file (get_or table b.id d)
    shut_here d (inl e) = here d ∙ ap (λ (o : Option SlotView). shut_place file o) e
    shut_here d (inr e) = here d ∙ (ap (λ (o : Option SlotView). shut_place file o) e ∙ shut_twice file (get_or table b.id d))

    at_b : (id : ℕ) (d : Option SlotView) → id ≡ b.id → get_or new id d ≡ shut_place file (get_or table id d)
    at_b id d e = subst (λ (n : ℕ). get_or new n d ≡ shut_place file (get_or table n d)) (sym e) (shut_here d (so.either b.id d))

    kept_either : (id : ℕ) (d : Option SlotView) → get_or new id d ≡ get_or now id d → ((get_or now id d ≡ get_or table id d) ⊎ (get_or now id d ≡ shut_place file (get_or table id d))) → (get_or new id d ≡ get_or table id d) ⊎ (get_or new id d ≡ shut_place file (get_or table id d))
    kept_either id d e (inl f) = inl (e ∙ f)
    kept_either id d e (inr f) = inr (e ∙ f)

    either : (id : ℕ) (d : Option SlotView) → ((id ≡ b.id) ⊎ (id ≡ b.id → ⊥)) → (get_or new id d ≡ get_or table id d) ⊎ (get_or new id d ≡ shut_place file (get_or table id d))
    either id d (inl e) = inr (at_b id d e)
    either id d (inr ne) = kept_either id d (others id d ne) (so.either id d)

    last_is : (at : ℕ) (c : Begin) → count ≤ at → at < count + 1 → (get_or order at c).id ≡ b.id
    last_is at c l h =
        let same : at ≡ count = omega arith in
        ap (λ (n : ℕ). (get_or order n c).id) same ∙ ap (λ (x : Begin). x.id) (is c)

    each : (at : ℕ) (c : Begin) (d : Option SlotView) → (((get_or order at c).id ≡ b.id) ⊎ ((get_or order at c).id ≡ b.id → ⊥)) → ((at < count) ⊎ (count ≤ at)) → at < count + 1 → get_or new (get_or order at c).id d ≡ shut_place file (get_or table (get_or order at c).id d)
    each at c d (inl e) s h = at_b (get_or order at c).id d e
    each at c d (inr ne) (inl l) h = others (get_or order at c).id d ne ∙ so.each at c d l
    each at c d (inr ne) (inr l) h = absurd (ne (last_is at c l h))

pub shut_some : (file count : ℕ) (order : List Begin) (table now new : List (Option SlotView)) (b : Begin) (s m : SlotView) → ShutSoFar file count order table now → ((d : Begin) → get_or order count d ≡ b) → b.id < length now → ((d : Option SlotView) → get_or now b.id d ≡ Some s) → m ≡ shut_slot file s → new ≡ set now b.id (Some m) → ShutSoFar file (count + 1) order table new
shut_some file count order table now new b s m so is h was e set_is =
    shut_more file count order table now new b so is (ap length set_is ∙ length-set now b.id (Some m))
    (λ d. ap (λ (l : List (Option SlotView)). get_or l b.id d) set_is
    ∙ (get_or-set_same now b.id (Some m) d h
    ∙ (ap (λ (x : SlotView). Some x) e ∙ ap (λ (o : Option SlotView). shut_place file o) (sym (was d)))))
    (λ id d ne. ap (λ (l : List (Option SlotView)). get_or l id d) set_is ∙ get_or-set_other now b.id id (Some m) d ne)

pub shut_same : (file count : ℕ) (order : List Begin) (table now new : List (Option SlotView)) (b : Begin) → ShutSoFar file count order table now → ((d : Begin) → get_or order count d ≡ b) → ((d : Option SlotView) → get_or now b.id d ≡ None) → new ≡ now → ShutSoFar file (count + 1) order table new
shut_same file count order table now new b so is was same =
    shut_more file count order table now new b so is (ap length same)
    (λ d. ap (λ (l : List (Option SlotView)). get_or l b.id d) same ∙ (was d ∙ ap (λ (o : Option SlotView). shut_place file o) (sym (was d))))
    (λ id d ne. ap (λ (l : List (Option SlotView)). get_or l id d) same)
