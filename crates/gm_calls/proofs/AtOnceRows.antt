-- Which plans are a change at once.
use Rattle.std.proofs.Common.{if◌then◌else◌, ◌≡◌, ◌+◌, ◌*◌, ◌∷◌, [], not, nat_lt, ℕ, List, Bool, true, false, None, Some, Option, Err, Ok, Result, refl, sym, ap, ◌∙◌}
use Rattle.gm_base.specs.Extent.{Extent}
use Rattle.gm_base.specs.declared.calls.Region.{Region}
use Rattle.gm_base.specs.declared.numbers.TheConstants.{PAGE_BYTES}
use Rattle.gm_base.specs.declared.values.Errno.{Errno}
use Rattle.gm_base.specs.declared.values.Errno.TheVariants.{BadF, Inval}
use Rattle.gm_base.specs.declared.values.Setup.{Setup}
use Rattle.gm_flat.specs.Calls.{Plan, Refused, Same, Reads, Short, Bracketed, Paged, all_have, close_plan, cut_at_end, file_pages, file_populate, has_memfd, kind_of, page_of, part_spans, slot_plan, slot_populate, slots_of_file, user_bytes, whole_spans}
use Rattle.gm_flat.specs.FlatState.{Flat, in_use}
use Rattle.gm_flat.specs.Slots.{index_of, slot_by_id}
use Rattle.gm_flat.specs.declared.effect.Effect.{Effect}
use Rattle.gm_flat.specs.declared.effect.Effect.TheVariants.{Attr, Cut, Shut}
use Rattle.gm_flat.specs.declared.views.SlotView.{SlotView}
use Rattle.gm_ioctl.specs.Remaining.{add_range, cut_range, set_kind}
use Rattle.gm_slots.specs.declared.change.Change.{Change}
use Rattle.gm_slots.specs.declared.change.Change.TheVariants.{Nothing, Make, Delete, Move}
use Rattle.gm_slots.specs.Changes.{change_of}
use Rattle.gm_calls.proofs.SlotRows.{told}
use Rattle.gm_calls.specs.AtOnce.{effect_at_once}
use Rattle.gm_calls.specs.Judgements.{IsAnswer, Tells}
use Rattle.gm_calls.specs.Lent.{LentStand}
use Rattle.gm_calls.specs.Rows.{binding_rows}
use Rattle.gm_calls.specs.declared.judged.Judged.{Judged}
use Rattle.gm_calls.specs.declared.parts.Parts.{Parts}
use Rattle.gm_calls.specs.declared.judged.Judged.TheVariants as judged

same_none : (user : List (List ℕ)) (p : Plan) (n : ℕ) → IsAnswer user p n → None ≡ effect_at_once p
same_none user (Same m) n h = refl
same_none user (Reads m w) n h = refl
same_none user (Refused r) n h = absurd h
same_none user (Short r w) n h = absurd h
same_none user (Bracketed r w) n h = absurd h
same_none user (Paged r) n h = absurd h

-- by what was judged
abbrev pub effect_by : Judged → Option Effect
effect_by (judged.Short effect answer) = Some effect
effect_by _ = None

pub effect_told : (user : List (List ℕ)) (p : Plan) (j : Judged) (spans : List Extent) → Tells user p j spans → effect_by j ≡ effect_at_once p
effect_told user p (judged.Short effect answer) spans h = sym (ap effect_at_once h.0)
effect_told user p (judged.Refused errno) spans h = sym (ap effect_at_once h.0)
effect_told user p (judged.Same answer) spans h = same_none user p answer h.0
effect_told user p (judged.Bracket effect) spans h = sym (ap effect_at_once h)
effect_told user p (judged.Pages q) spans h = sym (ap effect_at_once h.0)

-- calls that never change anything at once
pub attrs_none : (address size attributes : ℕ) (f : Flat) → None ≡ effect_at_once (set_kind address size attributes f)
attrs_none address size attributes f = go (all_have (kind_of attributes) (page_of address) (page_of size) f.attrs)
  where
    go : (b : Bool) → None ≡ effect_at_once (if b then Same 0 else Bracketed (Attr (record { lo = page_of address; hi = page_of (address + size) }) (kind_of attributes)) (record { lo = page_of address; hi = page_of (address + size) } ∷ []))
    go true = refl
    go false = refl

pub punch_none : (fd offset length : ℕ) (f : Flat) → None ≡ effect_at_once (cut_range fd offset length f)
punch_none fd offset length f = go (not (in_use fd f.files))
  where
    go : (b : Bool) → None ≡ effect_at_once (if b then Refused BadF else Bracketed (Cut fd (page_of offset) (page_of (offset + length))) (part_spans (page_of offset) (page_of (offset + length)) (slots_of_file fd f.slots)))
    go true = refl
    go false = refl

pub allocate_none : (fd offset length : ℕ) (f : Flat) → None ≡ effect_at_once (add_range fd offset length f)
allocate_none fd offset length f = go (not (in_use fd f.files)) (nat_lt (PAGE_BYTES * file_pages fd f.files) (offset + length))
  where
    go : (a b : Bool) → None ≡ effect_at_once (if a then Refused BadF else if b then Refused Inval else Paged (record { file = fd; index = page_of offset; pages = page_of length; base = None; copy = None }))
    go true b = refl
    go false true = refl
    go false false = refl

pub close_none : (fd : ℕ) (f : Flat) → None ≡ effect_at_once (close_plan fd f)
close_none fd f = go (in_use fd f.files)
  where
    go : (b : Bool) → None ≡ effect_at_once (if b then Bracketed (Shut fd) (whole_spans (slots_of_file fd f.slots)) else Refused BadF)
    go true = refl
    go false = refl

file_none : (setup : Setup) (page pages user : ℕ) (s : SlotView) (o : Option ℕ) → None ≡ effect_at_once (file_populate setup page pages user s o)
file_none setup page pages user s None = refl
file_none setup page pages user s (Some file) = go (nat_lt (user_bytes setup) (user + PAGE_BYTES * cut_at_end page pages s))
  where
    go : (b : Bool) → None ≡ effect_at_once (if b then Refused Inval else Paged (record { file = file; index = index_of s page; pages = cut_at_end page pages s; base = Some page; copy = Some (page_of user) }))
    go true = refl
    go false = refl

slot_none : (setup : Setup) (page pages user : ℕ) (s : SlotView) (b : Bool) → None ≡ effect_at_once (if b then file_populate setup page pages user s s.file else Refused Inval)
slot_none setup page pages user s true = file_none setup page pages user s s.file
slot_none setup page pages user s false = refl

pub populate_none : (setup : Setup) (page pages user : ℕ) (o : Option SlotView) → None ≡ effect_at_once (slot_populate setup page pages user o)
populate_none setup page pages user None = refl
populate_none setup page pages user (Some s) = slot_none setup page pages user s (has_memfd s)

-- what a region comes to by what the slots judge
pub region_none : (p : Parts) (f : Flat) (r : Region) (j : Result Change Errno) → LentStand p f → change_of r p.slots.now.slots ≡ j → (j ≡ Ok Make → ⊥) → None ≡ effect_at_once (slot_plan r f (slot_by_id f.slots r.slot))
region_none p f r (Err e) st h other = sym (ap effect_at_once (told p f r (Err e) st h))
region_none p f r (Ok Nothing) st h other = sym (ap effect_at_once (told p f r (Ok Nothing) st h))
region_none p f r (Ok Delete) st h other = sym (ap effect_at_once (told p f r (Ok Delete) st h).2)
region_none p f r (Ok Move) st h other = sym (ap effect_at_once (told p f r (Ok Move) st h).2)
region_none p f r (Ok Make) st h other = absurd (other refl)

err_not_made : (e : Errno) → Err e ≡ Ok Make → ⊥
err_not_made e h = cc

pub region_refused : (p : Parts) (f : Flat) (r : Region) (e : Errno) → LentStand p f → change_of r p.slots.now.slots ≡ Err e → None ≡ effect_at_once (slot_plan r f (slot_by_id f.slots r.slot))
region_refused p f r e st h = region_none p f r (Err e) st h (λ x. err_not_made e x)

pub region_made : (user : List (List ℕ)) (p : Parts) (f : Flat) (r : Region) (o : Option Effect) → LentStand p f → change_of r p.slots.now.slots ≡ Ok Make → o ≡ effect_at_once (binding_rows r f) → o ≡ effect_at_once (slot_plan r f (slot_by_id f.slots r.slot))
region_made user p f r o st h e = e ∙ sym (ap effect_at_once (told p f r (Ok Make) st h).1)
