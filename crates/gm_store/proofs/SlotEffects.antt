-- A store after effects that make, drop, mark or move slots, or that change nothing of it.
use Rattle.std.proofs.Common.{◌≡◌, ◌≢◌, ℕ, ◌+◌, ◌<◌, ◌≤◌, List, [], ◌∷◌, Bool, true, false, length, get_or, set, zero, suc, Option, Some, None, arith, refl, ap, sym, subst, ◌∙◌, cond, eqb, inl, inr, is_some, ltb}
use Rattle.std.specs.Prelude.{IsSome}
use Rattle.std.proofs.lemmas.Bool.{both_ways, cases_Bool, eqb-true}
use Rattle.std.proofs.lemmas.Bool.Decides.{nat_tests}
use Rattle.std.proofs.lemmas.List.{length-set}
use Rattle.gm_base.specs.Extent.{Extent}
use Rattle.gm_base.specs.declared.values.Kind.{Kind}
use Rattle.gm_calls.proofs.Bound.{meets_first}
use Rattle.gm_calls.specs.Lent.{range_of, ranges_of}
use Rattle.gm_file.specs.Ranges.{met, parts_of, range_at, with_range, without_slot}
use Rattle.gm_file.specs.Views.{FileView}
use Rattle.gm_file.specs.declared.ranges.BoundRange.{BoundRange}
use Rattle.gm_flat.specs.Calls.{meets_bound, slots_of_file}
use Rattle.gm_flat.specs.Effects.{dropped, marked, moved, slot_fits}
use Rattle.gm_flat.specs.FlatState.{FileState, Flat, in_use}
use Rattle.gm_flat.specs.RightLook.{file_of}
use Rattle.gm_flat.specs.Slots.{is_file, slot_by_id}
use Rattle.gm_flat.specs.declared.effect.Effect.TheVariants.{Attr, Mark, Move, NoSlot, Slot, Word}
use Rattle.gm_flat.specs.declared.views.SlotView.{SlotView}
use Rattle.gm_store.proofs.Basics.{not_some, self, set_else}
use Rattle.gm_store.proofs.SlotRanges.{file_ranges, indexes_left, indexes_put, others_dropped, put_new, put_range, ranges_are, ranges_dropped, ranges_marked, ranges_moved}
use Rattle.gm_store.specs.Bindings.{HasIdAlone, IsSlotAt, makes, with_bound, without_bound}
use Rattle.gm_store.specs.Stored.{FileKept, FilesStand, HaveIndexes, IsState, StoreStands, Stored, applied}
use Rattle.gm_store.specs.Views.{StoreView, bound_in, file_in}

abbrev pub with_slots : List SlotView → Flat → Flat
with_slots slots f = record f { slots = slots }

-- a file's ranges are the same by other slots
abbrev pub SameRanges : ℕ → List SlotView → List SlotView → Type 0
SameRanges file new old = file_ranges file new ≡ file_ranges file old

kept : (x : Option FileView) (file : ℕ) (slots : List SlotView) (f : Flat) → SameRanges file slots f.slots → FileKept x file f → FileKept x file (with_slots slots f)
kept x file slots f e h = record {
  state = h.state;
  cached_are = h.cached_are;
  rises = h.rises;
  bound_are = h.bound_are ∙ ranges_are file f.slots ∙ sym e ∙ sym (ranges_are file slots);
  have_indexes = h.have_indexes;
  small = h.small;
}

-- the slots change, and no file's ranges
pub slots_stand : (n : ℕ) (st : StoreView) (slots : List SlotView) (k : Stored) → ((file : ℕ) → SameRanges file slots k.flat.slots) → StoreStands n st k → StoreStands n st (record k { flat = with_slots slots k.flat })
slots_stand n st slots k e s = record {
  files = record { count_is = s.files.count_is; each = λ file. kept (file_in st.files file) file slots k.flat (e file) (s.files.each file) };
  pool = s.pool;
  cache = s.cache;
  words = s.words;
}

-- a slot without a file is made, where it can be
pub slot_made : (n : ℕ) (st : StoreView) (k : Stored) (id base pages user flags index : ℕ) → StoreStands n st k → StoreStands n st (applied (Slot id base pages user flags None index) k)
slot_made n st k id base pages user flags index s = by_test (slot_fits new)
  where
    new : SlotView
    new = record { id = id; base = base; pages = pages; user = user; flags = flags; file = None; index = index; invalid = false }

    by_test : (b : Bool) → StoreStands n st (record k { flat = cond b (with_slots (new ∷ k.flat.slots) k.flat) k.flat })
    by_test true = slots_stand n st (new ∷ k.flat.slots) k (λ file. refl) s
    by_test false = s

-- a slot without a file is dropped, or none
pub slot_dropped : (n : ℕ) (st : StoreView) (k : Stored) (slot : ℕ) → file_of (slot_by_id k.flat.slots slot) ≡ None → StoreStands n st k → StoreStands n st (applied (NoSlot slot) k)
slot_dropped n st k slot e s = slots_stand n st (dropped slot k.flat.slots) k (λ file. others_dropped slot file k.flat.slots (ap (λ (o : Option ℕ). is_file o file) e)) s

-- a slot is marked
pub slot_marked : (n : ℕ) (st : StoreView) (k : Stored) (slot : ℕ) → StoreStands n st k → StoreStands n st (applied (Mark slot) k)
slot_marked n st k slot s = slots_stand n st (marked slot k.flat.slots) k (λ file. ranges_marked slot file k.flat.slots) s

-- a slot is moved, with a file or without one
pub slot_moved : (n : ℕ) (st : StoreView) (k : Stored) (slot base : ℕ) → StoreStands n st k → StoreStands n st (applied (Move slot base) k)
slot_moved n st k slot base s = slots_stand n st (moved slot base k.flat.slots) k (λ file. ranges_moved slot base file k.flat.slots) s

-- an attribute is set
pub attribute_set : (n : ℕ) (st : StoreView) (k : Stored) (span : Extent) (kind : Kind) → StoreStands n st k → StoreStands n st (applied (Attr span kind) k)
attribute_set n st k span kind s = record {
  files = record { count_is = s.files.count_is; each = λ file. let h = s.files.each file in record { state = h.state; cached_are = h.cached_are; rises = h.rises; bound_are = h.bound_are; have_indexes = h.have_indexes; small = h.small } };
  pool = s.pool;
  cache = s.cache;
  words = s.words;
}

-- a word of user memory is written
pub word_written : (n : ℕ) (st : StoreView) (k : Stored) (page word value : ℕ) → StoreStands n st k → StoreStands n st (applied (Word page word value) k)
word_written n st k page word value s = record { files = s.files; pool = s.pool; cache = s.cache; words = s.words }

-- a file in use is there
pub is_there : (n : ℕ) (st : StoreView) (k : Stored) (file : ℕ) → StoreStands n st k → in_use file k.flat.files ≡ true → IsSome (file_in st.files file)
is_there n st k file s e = go (file_in st.files file) (s.files.each file).state
  where
    go : (x : Option FileView) → IsState x file k.flat.files → IsSome x
    go None h = absurd (both_ways (in_use file k.flat.files) h e)
    go (Some y) h = refl

-- where no slot's range of the file meets one, none of its bound ranges does
pub meets_none : (n : ℕ) (st : StoreView) (k : Stored) (file lo pages : ℕ) → 0 < pages → StoreStands n st k → meets_bound file lo pages k.flat.slots ≡ false → met lo (lo + pages) (bound_in (file_in st.files file)) ≡ []
meets_none n st k file lo pages some s e = none (met lo (lo + pages) (bound_in (file_in st.files file))) (meets_first file lo pages (bound_in (file_in st.files file)) k.flat.slots some (s.files.each file).bound_are ∙ e)
  where
    none : (rs : List BoundRange) → is_some (parts_of (range_at 0 rs)) ≡ false → rs ≡ []
    none [] e = refl
    none (r ∷ rs) e = absurd (both_ways true e refl)

-- a file of the list changes, with the slots

set_own : (g : Option FileView → Option FileView) (xs : List (Option FileView)) (i : ℕ) → g None ≡ None → get_or (set xs i (g (get_or xs i None))) i None ≡ g (get_or xs i None)
set_own g [] i e = sym e
set_own g (x ∷ xs) zero e = refl
set_own g (x ∷ xs) (suc i) e = set_own g xs i e

file_changed : (g : Option FileView → Option FileView) (files : List (Option FileView)) (file : ℕ) (slots : List SlotView) (f : Flat) → g None ≡ None → FileKept (g (file_in files file)) file (with_slots slots f) → ((other : ℕ) → eqb file other ≡ false → SameRanges other slots f.slots) → FilesStand files f → FilesStand (set files file (g (file_in files file))) (with_slots slots f)
file_changed g files file slots f none mine same s = record {
  count_is = length-set files file (g (file_in files file)) ∙ s.count_is;
  each = λ k. elim (cases_Bool (eqb file k)) [
    | inl e ↦ subst (λ (m : ℕ). FileKept (file_in (set files file (g (file_in files file))) m) m (with_slots slots f)) (eqb-true file k e) own
    | inr e ↦ subst (λ (x : Option FileView). FileKept x k (with_slots slots f)) (sym (set_else files file k (g (file_in files file)) None e)) (kept (file_in files k) k slots f (same k e) (s.each k))
  ];
}
  where
    own : FileKept (file_in (set files file (g (file_in files file))) file) file (with_slots slots f)
    own = subst (λ (x : Option FileView). FileKept x file (with_slots slots f)) (sym (set_own g files file none)) mine

-- a range is bound for a slot that is made

-- the slot as it is made
abbrev new_slot : SlotView → SlotView
new_slot s = record s { invalid = false }

range_is : (file lo hi slot : ℕ) (s : SlotView) → IsSlotAt file lo hi slot s → range_of s ≡ record { lo = lo; hi = hi; slot = slot }
range_is file lo hi slot s is = plain s.index (s.index + s.pages) s.id is.lo_is is.hi_is is.id_is
  where
    range : ℕ → ℕ → ℕ → BoundRange
    range a b c = record { lo = a; hi = b; slot = c }

    plain : (a b c : ℕ) → a ≡ lo → b ≡ hi → c ≡ slot → range a b c ≡ range lo hi slot
    plain a b c p q r = ap (λ (x : ℕ). range x b c) p ∙ (ap (λ (x : ℕ). range lo x c) q ∙ ap (λ (x : ℕ). range lo hi x) r)

file_bound : (x : Option FileView) (file lo hi slot : ℕ) (s : SlotView) (f : Flat) → IsSome x → lo < hi → met lo hi (bound_in x) ≡ [] → IsSlotAt file lo hi slot s → FileKept x file f → FileKept (with_bound x lo hi slot) file (with_slots (new_slot s ∷ f.slots) f)
file_bound None file lo hi slot s f some lt free is h = absurd (both_ways false refl some)
file_bound (Some y) file lo hi slot s f some lt free is h = record {
  state = h.state;
  cached_are = h.cached_are;
  rises = h.rises;
  bound_are = sym (ranges_are file (new_slot s ∷ f.slots) ∙ mine);
  have_indexes = indexes_put new y.bound lt h.have_indexes;
  small = h.small;
}
  where
    new : BoundRange
    new = record { lo = lo; hi = hi; slot = slot }

    its_file : is_file s.file file ≡ true
    its_file = ap (λ (o : Option ℕ). is_file o file) is.file_is ∙ self file

    mine : file_ranges file (new_slot s ∷ f.slots) ≡ with_range new y.bound
    mine =
        ap (λ (b : Bool). cond b (put_range (range_of s) (file_ranges file f.slots)) (file_ranges file f.slots)) its_file
        ∙ ap (λ (r : BoundRange). put_range r (file_ranges file f.slots)) (range_is file lo hi slot s is)
        ∙ ap (put_range new) (sym (h.bound_are ∙ ranges_are file f.slots))
        ∙ put_new new y.bound h.have_indexes lt free

pub bound_stands : (n : ℕ) (st : StoreView) (files : List (Option FileView)) (file lo hi slot : ℕ) (s : SlotView) (k : Stored) → IsSome (file_in st.files file) → lo < hi → met lo hi (bound_in (file_in st.files file)) ≡ [] → files ≡ set st.files file (with_bound (file_in st.files file) lo hi slot) → IsSlotAt file lo hi slot s → StoreStands n st k → StoreStands n (record st { files = files }) (applied (makes s) k)
bound_stands n st files file lo hi slot s k some lt free new is h =
    subst (λ (b : Bool). StoreStands n (record st { files = files }) (record k { flat = cond b (with_slots (new_slot s ∷ k.flat.slots) k.flat) k.flat })) (sym is.fits) (record {
      files = subst (λ (fs : List (Option FileView)). FilesStand fs (with_slots (new_slot s ∷ k.flat.slots) k.flat)) (sym new) (file_changed (λ (x : Option FileView). with_bound x lo hi slot) st.files file (new_slot s ∷ k.flat.slots) k.flat refl (file_bound (file_in st.files file) file lo hi slot s k.flat some lt free is (h.files.each file)) others h.files);
      pool = h.pool;
      cache = h.cache;
      words = h.words;
    })
  where
    others : (other : ℕ) → eqb file other ≡ false → SameRanges other (new_slot s ∷ k.flat.slots) k.flat.slots
    others other ne = ap (λ (b : Bool). cond b (put_range (range_of s) (file_ranges other k.flat.slots)) (file_ranges other k.flat.slots)) (ap (λ (o : Option ℕ). is_file o other) is.file_is ∙ ne)

-- the binding of a slot that is dropped ends

file_unbound : (x : Option FileView) (file slot : ℕ) (f : Flat) → HasIdAlone slot f.slots → FileKept x file f → FileKept (without_bound x slot) file (with_slots (dropped slot f.slots) f)
file_unbound x file slot f alone h = go x h
  where
    left : (rs : List BoundRange) → rs ≡ ranges_of (slots_of_file file f.slots) → without_slot slot rs ≡ ranges_of (slots_of_file file (dropped slot f.slots))
    left rs e = ap (without_slot slot) (e ∙ ranges_are file f.slots) ∙ sym (ranges_dropped slot file f.slots alone) ∙ sym (ranges_are file (dropped slot f.slots))

    go : (x : Option FileView) → FileKept x file f → FileKept (without_bound x slot) file (with_slots (dropped slot f.slots) f)
    go None h = record { state = h.state; cached_are = h.cached_are; rises = h.rises; bound_are = left [] h.bound_are; have_indexes = tt; small = h.small }
    go (Some y) h = record { state = h.state; cached_are = h.cached_are; rises = h.rises; bound_are = left y.bound h.bound_are; have_indexes = indexes_left slot y.bound h.have_indexes; small = h.small }

pub unbound_stands : (n : ℕ) (st : StoreView) (files : List (Option FileView)) (file slot : ℕ) (s : SlotView) (k : Stored) → files ≡ set st.files file (without_bound (file_in st.files file) slot) → slot_by_id k.flat.slots slot ≡ Some s → s.file ≡ Some file → HasIdAlone slot k.flat.slots → StoreStands n st k → StoreStands n (record st { files = files }) (applied (NoSlot slot) k)
unbound_stands n st files file slot s k new found its alone h = record {
  files = subst (λ (fs : List (Option FileView)). FilesStand fs (with_slots (dropped slot k.flat.slots) k.flat)) (sym new) (file_changed (λ (x : Option FileView). without_bound x slot) st.files file (dropped slot k.flat.slots) k.flat refl (file_unbound (file_in st.files file) file slot k.flat alone (h.files.each file)) others h.files);
  pool = h.pool;
  cache = h.cache;
  words = h.words;
}
  where
    others : (other : ℕ) → eqb file other ≡ false → SameRanges other (dropped slot k.flat.slots) k.flat.slots
    others other ne = others_dropped slot other k.flat.slots (ap (λ (o : Option SlotView). is_file (file_of o) other) found ∙ (ap (λ (o : Option ℕ). is_file o other) its ∙ ne))
