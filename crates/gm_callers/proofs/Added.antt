-- What a run of pages of a call adds.
use Rattle.std.proofs.Common.{◌≡◌, ℕ, ◌+◌, ◌-◌, ◌≤◌, ◌&&◌, ◌||◌, not, eqb, List, Bool, true, false, Option, Some, None, refl, ◌∙◌, ap, subst, cond, le-leb, ◌<◌}
use Rattle.gm_base.specs.declared.calls.Ioctl.{Ioctl}
use Rattle.gm_base.specs.declared.calls.Ioctl.TheVariants.{Create, Region2, Attrs, Punch, Allocate, Close, Populate, Poke, Peek}
use Rattle.gm_base.specs.declared.calls.Region.{Region}
use Rattle.gm_base.specs.declared.values.Actor.TheVariants.{Caller as OfCaller}
use Rattle.gm_base.specs.declared.values.Errno.TheVariants.{Inval}
use Rattle.gm_base.specs.declared.values.Folio.{Folio}
use Rattle.gm_base.specs.declared.values.Setup.{Setup}
use Rattle.gm_calls.specs.Judgements.{pages_of}
use Rattle.gm_calls.specs.declared.judged.PagePlan.{PagePlan}
use Rattle.gm_flat.specs.Calls.{PagePlan as Planned, Plan, Refused, Short, Paged, file_populate, is_paged, make_plan, new_slot, old_plan, page_of, plan, slot_plan, slot_populate}
use Rattle.gm_flat.specs.Effects.{Source, file_source, if_fits, page_addition, slot_source, source}
use Rattle.gm_flat.specs.FlatState.{Flat}
use Rattle.gm_flat.specs.Histories.{Call as Past}
use Rattle.gm_flat.specs.Replay.{added_by, flat, flat_at, page_adds, states}
use Rattle.gm_flat.specs.Slots.{index_of, slot_by_id, slot_over}
use Rattle.gm_flat.specs.declared.entry.Entry.{Entry}
use Rattle.gm_flat.specs.declared.entry.What.TheVariants.{Page}
use Rattle.gm_flat.specs.declared.views.SlotView.{SlotView}
use Rattle.gm_callers.proofs.Moves.{adding_pages}
use Rattle.gm_callers.specs.Added.{added_pages, source_of}
use Rattle.gm_callers.specs.Callers.{caller_at}
use Rattle.gm_callers.specs.Stand.{AddsPages, CallersStand}
use Rattle.gm_callers.specs.declared.caller.Caller.{Caller}

-- a plan that adds pages has the source of its call
abbrev Has : Plan → Option Source → ℕ → Type 0
Has (Paged p) o index = p.index ≤ index → o ≡ Some (source_of p index)
Has _ o index = Unit {0}

record HasSource (p : Plan) (o : Option Source) (index : ℕ) : Type 0 where
  is : Has p o index

other : (p : Plan) (o : Option Source) (index : ℕ) → Has p o index → HasSource p o index
other p o index h = record { is = h }

either : (t : Bool) (p q : Plan) (o : Option Source) (index : ℕ) → HasSource p o index → HasSource q o index → HasSource (cond t p q) o index
either true p q o index a b = a
either false p q o index a b = b

new_has : (r : Region) (t : Bool) (o : Option Source) (index : ℕ) → HasSource (Short (new_slot r t) 0) o index
new_has r t o index = record { is = tt }

make_has : (r : Region) (f : Flat) (o : Option Source) (index : ℕ) → HasSource (make_plan r f) o index
make_has r f o index = search (either, other) depth 24

old_has : (r : Region) (f : Flat) (x : SlotView) (o : Option Source) (index : ℕ) → HasSource (old_plan r f x) o index
old_has r f x o index = search (either, other) depth 24

slot_has : (r : Region) (f : Flat) (s o : Option SlotView) (w : Option Source) (index : ℕ) → HasSource (slot_plan r f s) w index
slot_has r f None o w index = search (either, other, make_has) depth 24
slot_has r f (Some x) o w index = old_has r f x w index

there : (first index user file : ℕ) → first ≤ index → file_source user first index (Some file) ≡ Some (record { file = file; copy = Some (user + (index - first)) })
there first index user file h = rw (le-leb first index h) refl

file_has : (s : Setup) (page n user index : ℕ) (x : SlotView) (o : Option ℕ) → HasSource (file_populate s page n user x o) (file_source (page_of user) (index_of x page) index o) index
file_has s page n user index x None = record { is = tt }
file_has s page n user index x (Some file) = search (either, other, there) depth 24

populate_has : (s : Setup) (page n user index : ℕ) (o : Option SlotView) → HasSource (slot_populate s page n user o) (slot_source (page_of user) page index o) index
populate_has s page n user index None = record { is = tt }
populate_has s page n user index (Some x) = search (either, other, file_has) depth 24

plan_has : (s : Setup) (i : Ioctl) (f : Flat) (index : ℕ) → HasSource (plan s i f) (source i index f.slots) index
plan_has s (Create size flags) f index = search (either, other) depth 24
plan_has s (Region2 r) f index = search (either, other, slot_has r f (slot_by_id f.slots r.slot) None) depth 24
plan_has s (Attrs address size attributes flags) f index = search (either, other) depth 24
plan_has s (Punch fd offset n) f index = search (either, other) depth 24
plan_has s (Allocate fd offset n) f index = search (either, other) depth 24
plan_has s (Close fd) f index = search (either, other) depth 24
plan_has s (Populate gpa n user) f index =
    let o = slot_over f.slots (page_of gpa) in
    either (not (is_paged gpa && is_paged user) || eqb n 0) (Refused Inval) (slot_populate s (page_of gpa) n user o) (slot_source (page_of user) (page_of gpa) index o) index (record { is = tt }) (populate_has s (page_of gpa) n user index o)
plan_has s (Poke address value) f index = search (either, other) depth 24
plan_has s (Peek address) f index = search (either, other) depth 24

pub plan_source : (s : Setup) (i : Ioctl) (f : Flat) (index : ℕ) (p : Planned) → plan s i f ≡ Paged p → p.index ≤ index → source i index f.slots ≡ Some (source_of p index)
plan_source s i f index p e h = subst (λ (q : Plan). Has q (source i index f.slots) index) e (plan_has s i f index).is h

-- the entry of a run of pages adds them to the plan's file
pub pages_added : {s : Setup} {cs : List Caller} {past : List Entry} (c : ℕ) (q : PagePlan) (index : ℕ) (folio : Folio) (n : ℕ) → CallersStand s cs past → c < s.callers → AddsPages q (caller_at cs c).call → q.index ≤ index → added_by (Page index folio n) (OfCaller c) past ≡ if_fits (added_pages (pages_of q) index folio n) (flat past).files
pages_added {s = s} {past = past} c q index folio n st lt at h =
    let g = adding_pages c q st lt at in
    ap (λ (x : Option Past). page_adds index folio n x (states past)) g.call_is
    ∙ ap (λ (w : Option Source). page_addition index folio n w (flat past).files) (plan_source s g.y.ioctl (flat_at g.y.judged past) index (pages_of q) g.stage.is_judged h)
