-- The blocks of slots stay tracked by every change of slots and attributes.
use Rattle.std.proofs.Common.{◌≡◌, ℕ, ◌+◌, ◌-◌, ◌*◌, ◌/◌, ◌≤◌, ◌&&◌, ◌||◌, not, leb, ltb, eqb, cond, List, [], ◌∷◌, Bool, true, false, Option, Some, None, arith, refl, sym, subst, ap, ◌∙◌}
use Rattle.std.specs.Prelude.{is_some}
use Rattle.std.proofs.lemmas.Bool.Decides.{nat_tests}
use Rattle.gm_attr.specs.Kinds.{AttrsView, blocks_in, is_tracked, lies_in}
use Rattle.gm_base.specs.Extent.{Extent}
use Rattle.gm_flat.specs.Effects.{dropped, marked, moved, shut_slots}
use Rattle.gm_flat.specs.Slots.{lies_over, slot_by_id, slot_over, slot_span}
use Rattle.gm_flat.specs.declared.views.SlotView.{SlotView}
use Rattle.gm_laws.proofs.Kit.{some_same}
use Rattle.gm_laws.proofs.SlotsKeep.{all_with}
use Rattle.gm_laws.specs.SlotsStand.{AllOf, LiesApart, Pairwise}
use Rattle.gm_radix.specs.Entries.{lookup}
use Rattle.gm_state.specs.Tracking.{BlocksStand, lies_in_slot, lies_in_slots}

-- no block lies in two slots

apart_blocks : (s r : SlotView) (block : ℕ) → LiesApart s r → lies_in (slot_span s) block ≡ true → lies_in (slot_span r) block ≡ false
apart_blocks s r block a h = clear s.base s.pages r.base r.pages (512 * block) a h
  where
    clear : (a m b n p : ℕ) → (ltb a (b + n) && ltb b (a + m)) ≡ false → (leb a p && leb (p + 512) (a + m)) ≡ true → (leb b p && leb (p + 512) (b + n)) ≡ false
    clear a m b n p e f = grind (arith, nat_tests)

neither : (x y : Bool) → x ≡ false → y ≡ false → (x || y) ≡ false
neither false false e f = refl
neither true y e f = absurd (cc)
neither false true e f = absurd (cc)

apart_from_all : (s : SlotView) (slots : List SlotView) (block : ℕ) → AllOf (LiesApart s) slots → lies_in (slot_span s) block ≡ true → lies_in_slots slots block ≡ false
apart_from_all s [] block a h = refl
apart_from_all s (r ∷ slots) block a h = neither (lies_in (slot_span r) block) (lies_in_slots slots block) (apart_blocks s r block a.0 h) (apart_from_all s slots block a.1 h)

-- without one slot

its_own : (x y : Bool) → (x ≡ true → y ≡ false) → (not x && (x || y)) ≡ y
its_own true y h = sym (h refl)
its_own false y h = refl

another : (x y z w : Bool) → (z ≡ true → x ≡ false) → (not x && y) ≡ w → (not x && (z || y)) ≡ (z || w)
another true y true w h e = absurd (never (h refl))
  where
    never : true ≡ false → ⊥
    never e = cc
another true y false w h e = e
another false y true w h e = refl
another false y false w h e = e

without_one : (id block : ℕ) (slots : List SlotView) (s : SlotView) → slot_by_id slots id ≡ Some s → Pairwise LiesApart slots → (not (lies_in (slot_span s) block) && lies_in_slots slots block) ≡ lies_in_slots (dropped id slots) block
without_one id block [] s e p = absurd (cc)
without_one id block (r ∷ rs) s e p = go (eqb r.id id) e p (without_one id block rs s)
  where
    go : (t : Bool) → cond t (Some r) (slot_by_id rs id) ≡ Some s → Pairwise LiesApart (r ∷ rs) → (slot_by_id rs id ≡ Some s → Pairwise LiesApart rs → (not (lies_in (slot_span s) block) && lies_in_slots rs block) ≡ lies_in_slots (dropped id rs) block) → (not (lies_in (slot_span s) block) && (lies_in (slot_span r) block || lies_in_slots rs block)) ≡ lies_in_slots (cond t rs (r ∷ dropped id rs)) block
    go true e p ih = subst (λ (x : SlotView). (not (lies_in (slot_span x) block) && (lies_in (slot_span r) block || lies_in_slots rs block)) ≡ lies_in_slots rs block) (some_same r s e) (its_own (lies_in (slot_span r) block) (lies_in_slots rs block) (apart_from_all r rs block p.0))
    go false e p ih = another (lies_in (slot_span s) block) (lies_in_slots rs block) (lies_in (slot_span r) block) (lies_in_slots (dropped id rs) block) (apart_blocks r s block (all_with (LiesApart r) id s rs e p.0)) (ih e p.1)

none_dropped : (id : ℕ) (slots : List SlotView) → slot_by_id slots id ≡ None → dropped id slots ≡ slots
none_dropped id [] e = refl
none_dropped id (r ∷ rs) e = go (eqb r.id id) e (none_dropped id rs)
  where
    go : (t : Bool) → cond t (Some r) (slot_by_id rs id) ≡ None → (slot_by_id rs id ≡ None → dropped id rs ≡ rs) → cond t rs (r ∷ dropped id rs) ≡ r ∷ rs
    go true e ih = absurd (cc)
    go false e ih = ap (λ (xs : List SlotView). r ∷ xs) (ih e)

without : (id block : ℕ) (slots : List SlotView) (o : Option SlotView) → slot_by_id slots id ≡ o → Pairwise LiesApart slots → (not (lies_in_slot o block) && lies_in_slots slots block) ≡ lies_in_slots (dropped id slots) block
without id block slots None e p = sym (ap (λ (xs : List SlotView). lies_in_slots xs block) (none_dropped id slots e))
without id block slots (Some s) e p = without_one id block slots s e p

-- with one at another base

swapped : (n z y w : Bool) → w ≡ (n || y) → (z || w) ≡ (n || (z || y))
swapped true true y w e = refl
swapped true false y w e = e
swapped false z y w e = ap (λ (x : Bool). z || x) e

with_moved : (id base block : ℕ) (slots : List SlotView) (s : SlotView) → slot_by_id slots id ≡ Some s → lies_in_slots (moved id base slots) block ≡ (lies_in (record { lo = base; hi = base + s.pages }) block || lies_in_slots (dropped id slots) block)
with_moved id base block [] s e = absurd (cc)
with_moved id base block (r ∷ rs) s e = go (eqb r.id id) e (with_moved id base block rs s)
  where
    go : (t : Bool) → cond t (Some r) (slot_by_id rs id) ≡ Some s → (slot_by_id rs id ≡ Some s → lies_in_slots (moved id base rs) block ≡ (lies_in (record { lo = base; hi = base + s.pages }) block || lies_in_slots (dropped id rs) block)) → lies_in_slots (cond t (record r { base = base; invalid = false } ∷ rs) (r ∷ moved id base rs)) block ≡ (lies_in (record { lo = base; hi = base + s.pages }) block || lies_in_slots (cond t rs (r ∷ dropped id rs)) block)
    go true e ih = ap (λ (x : SlotView). lies_in (record { lo = base; hi = base + x.pages }) block || lies_in_slots rs block) (some_same r s e)
    go false e ih = swapped (lies_in (record { lo = base; hi = base + s.pages }) block) (lies_in (slot_span r) block) (lies_in_slots (dropped id rs) block) (lies_in_slots (moved id base rs) block) (ih e)

-- marks and files move nothing

with_mark : (id block : ℕ) (slots : List SlotView) → lies_in_slots (marked id slots) block ≡ lies_in_slots slots block
with_mark id block [] = refl
with_mark id block (r ∷ rs) = go (eqb r.id id) (with_mark id block rs)
  where
    go : (t : Bool) → lies_in_slots (marked id rs) block ≡ lies_in_slots rs block → lies_in_slots (cond t (record r { invalid = true } ∷ rs) (r ∷ marked id rs)) block ≡ (lies_in (slot_span r) block || lies_in_slots rs block)
    go true ih = refl
    go false ih = ap (λ (x : Bool). lies_in (slot_span r) block || x) ih

with_shut : (file block : ℕ) (slots : List SlotView) → lies_in_slots (shut_slots file slots) block ≡ lies_in_slots slots block
with_shut file block [] = refl
with_shut file block (r ∷ rs) = ap (λ (x : Bool). lies_in (slot_span r) block || x) (with_shut file block rs)

-- the slot over a page is one of them
under_slot : (page block : ℕ) (s : SlotView) (slots : List SlotView) → slot_over slots page ≡ Some s → lies_in (slot_span s) block ≡ true → lies_in_slots slots block ≡ true
under_slot page block s [] e h = absurd (cc)
under_slot page block s (r ∷ rs) e h = go (lies_over r page) e (under_slot page block s rs)
  where
    go : (t : Bool) → cond t (Some r) (slot_over rs page) ≡ Some s → (slot_over rs page ≡ Some s → lies_in (slot_span s) block ≡ true → lies_in_slots rs block ≡ true) → (lies_in (slot_span r) block || lies_in_slots rs block) ≡ true
    go true e ih = left (lies_in (slot_span r) block) (lies_in_slots rs block) (subst (λ (x : SlotView). lies_in (slot_span x) block ≡ true) (sym (some_same r s e)) h)
      where
        left : (x y : Bool) → x ≡ true → (x || y) ≡ true
        left true y e = refl
        left false y e = absurd (cc)
    go false e ih = right (lies_in (slot_span r) block) (lies_in_slots rs block) (ih e h)
      where
        right : (x y : Bool) → y ≡ true → (x || y) ≡ true
        right true y e = refl
        right false y e = e

-- what is tracked then

more_bits : (h a x y z : Bool) → h ≡ a → z ≡ (x || y) → ((h && x) || (a && y)) ≡ (a && z)
more_bits true true x y z e f = sym f
more_bits false false x y z e f = refl
more_bits true false x y z e f = absurd (cc)
more_bits false true x y z e f = absurd (cc)

less_bits : (h a x y z : Bool) → h ≡ a → (not x && y) ≡ z → (not (h && x) && (a && y)) ≡ (a && z)
less_bits true true x y z e f = f
less_bits false false x y z e f = refl
less_bits true false x y z e f = absurd (cc)
less_bits false true x y z e f = absurd (cc)

-- none where there is no slot
pub blocks_none : (huge : Bool) (attrs : AttrsView) → attrs.tracked ≡ [] → BlocksStand huge huge attrs []
blocks_none huge attrs e = record { huge_is = refl; tracked = λ block. ap (λ (xs : List (ℕ × Unit {0})). is_some (lookup block xs)) e ∙ nowhere huge }
  where
    nowhere : (x : Bool) → false ≡ (x && false)
    nowhere true = refl
    nowhere false = refl

-- the same blocks are tracked, and the same lie in slots
pub blocks_same : (allowed huge : Bool) (old new : AttrsView) (slots later : List SlotView) → new.tracked ≡ old.tracked → ((block : ℕ) → lies_in_slots later block ≡ lies_in_slots slots block) → BlocksStand allowed huge old slots → BlocksStand allowed huge new later
blocks_same allowed huge old new slots later e same b = record {
  huge_is = b.huge_is;
  tracked = λ block. ap (λ (xs : List (ℕ × Unit {0})). is_some (lookup block xs)) e ∙ (b.tracked block ∙ ap (λ (x : Bool). allowed && x) (sym (same block)));
}

-- those of a slot more
pub blocks_more : (allowed huge : Bool) (old new : AttrsView) (span : Extent) (slots later : List SlotView) → ((block : ℕ) → is_tracked new block ≡ ((huge && lies_in span block) || is_tracked old block)) → ((block : ℕ) → lies_in_slots later block ≡ (lies_in span block || lies_in_slots slots block)) → BlocksStand allowed huge old slots → BlocksStand allowed huge new later
blocks_more allowed huge old new span slots later tracks is b = record {
  huge_is = b.huge_is;
  tracked = λ block. tracks block ∙ (ap (λ (x : Bool). (huge && lies_in span block) || x) (b.tracked block) ∙ more_bits huge allowed (lies_in span block) (lies_in_slots slots block) (lies_in_slots later block) b.huge_is (is block));
}

-- those of a slot fewer
pub blocks_dropped : (allowed huge : Bool) (old new : AttrsView) (id : ℕ) (slots : List SlotView) → Pairwise LiesApart slots → ((block : ℕ) → is_tracked new block ≡ (not (huge && lies_in_slot (slot_by_id slots id) block) && is_tracked old block)) → BlocksStand allowed huge old slots → BlocksStand allowed huge new (dropped id slots)
blocks_dropped allowed huge old new id slots apart tracks b = record {
  huge_is = b.huge_is;
  tracked = λ block. tracks block ∙ (ap (λ (x : Bool). not (huge && lies_in_slot (slot_by_id slots id) block) && x) (b.tracked block) ∙ less_bits huge allowed (lies_in_slot (slot_by_id slots id) block) (lies_in_slots slots block) (lies_in_slots (dropped id slots) block) b.huge_is (without id block slots (slot_by_id slots id) refl apart));
}

pub blocks_moved : (allowed huge : Bool) (old between new : AttrsView) (id base pages : ℕ) (slots : List SlotView) (s : SlotView) → Pairwise LiesApart slots → slot_by_id slots id ≡ Some s → s.pages ≡ pages → ((block : ℕ) → is_tracked between block ≡ (not (huge && lies_in_slot (slot_by_id slots id) block) && is_tracked old block)) → ((block : ℕ) → is_tracked new block ≡ ((huge && lies_in (record { lo = base; hi = base + pages }) block) || is_tracked between block)) → BlocksStand allowed huge old slots → BlocksStand allowed huge new (moved id base slots)
blocks_moved allowed huge old between new id base pages slots s apart e same less more b =
    blocks_more allowed huge between new (record { lo = base; hi = base + pages }) (dropped id slots) (moved id base slots) more
    (λ block. with_moved id base block slots s e ∙ ap (λ (n : ℕ). lies_in (record { lo = base; hi = base + n }) block || lies_in_slots (dropped id slots) block) same)
    (blocks_dropped allowed huge old between id slots apart less b)

pub blocks_marked : (allowed huge : Bool) (attrs : AttrsView) (id : ℕ) (slots : List SlotView) → BlocksStand allowed huge attrs slots → BlocksStand allowed huge attrs (marked id slots)
blocks_marked allowed huge attrs id slots b = blocks_same allowed huge attrs attrs slots (marked id slots) refl (λ block. with_mark id block slots) b

pub blocks_shut : (allowed huge : Bool) (attrs : AttrsView) (file : ℕ) (slots : List SlotView) → BlocksStand allowed huge attrs slots → BlocksStand allowed huge attrs (shut_slots file slots)
blocks_shut allowed huge attrs file slots b = blocks_same allowed huge attrs attrs slots (shut_slots file slots) refl (λ block. with_shut file block slots) b

-- a block that lies wholly in the slot over a page is tracked where blocks are
pub tracked_under : (allowed huge : Bool) (attrs : AttrsView) (slots : List SlotView) (page block : ℕ) (s : SlotView) → BlocksStand allowed huge attrs slots → huge ≡ true → slot_over slots page ≡ Some s → lies_in (slot_span s) block ≡ true → is_tracked attrs block ≡ true
tracked_under allowed huge attrs slots page block s b h e inside = b.tracked block ∙ both allowed (lies_in_slots slots block) (sym b.huge_is ∙ h) (under_slot page block s slots e inside)
  where
    both : (x y : Bool) → x ≡ true → y ≡ true → (x && y) ≡ true
    both true y e f = f
    both false y e f = absurd (cc)

-- few blocks lie in so many pages
pub few_blocks : (base pages spare : ℕ) → pages ≤ 65536 → 128 ≤ spare → blocks_in (record { lo = base; hi = base + pages }) ≤ spare
few_blocks base pages spare h g = few base pages spare h g
  where
    few : (a n m : ℕ) → n ≤ 65536 → 128 ≤ m → (a + n) / 512 - (a + (512 - 1)) / 512 ≤ m
    few a n m h g = omega (arith, h, g)
