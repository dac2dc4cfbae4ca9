-- No plan's effect is a mark.
use Rattle.std.proofs.Common.{◌≡◌, ℕ, List, Bool, true, false, Option, Some, None, sym, refl, ◌∙◌, ap, cond}
use Rattle.gm_base.specs.Extent.{Extent}
use Rattle.gm_base.specs.declared.calls.Ioctl.{Ioctl}
use Rattle.gm_base.specs.declared.calls.Ioctl.TheVariants.{Create, Region2, Attrs, Punch, Allocate, Close, Populate, Poke, Peek}
use Rattle.gm_base.specs.declared.calls.Region.{Region}
use Rattle.gm_base.specs.declared.values.Setup.{Setup}
use Rattle.gm_flat.specs.Calls.{Plan, Short, Bracketed, file_populate, make_plan, new_slot, old_plan, plan, slot_plan, slot_populate}
use Rattle.gm_flat.specs.FlatState.{Flat}
use Rattle.gm_flat.specs.Histories.{is_mark}
use Rattle.gm_flat.specs.declared.effect.Effect.{Effect}
use Rattle.gm_flat.specs.declared.views.SlotView.{SlotView}

-- whether a plan's effect is a mark
abbrev pub marks : Plan → Bool
marks (Short effect answer) = is_mark effect
marks (Bracketed effect spans) = is_mark effect
marks _ = false

record IsUnmarked (p : Plan) : Type 0 where
  is : marks p ≡ false

plain : (p : Plan) → marks p ≡ false → IsUnmarked p
plain p h = record { is = h }

either : (t : Bool) (p q : Plan) → IsUnmarked p → IsUnmarked q → IsUnmarked (cond t p q)
either true p q a b = a
either false p q a b = b

new_unmarked : (r : Region) (t : Bool) → is_mark (new_slot r t) ≡ false
new_unmarked r true = refl
new_unmarked r false = refl

fresh : (r : Region) (t : Bool) (answer : ℕ) → IsUnmarked (Short (new_slot r t) answer)
fresh r t answer = record { is = new_unmarked r t }

make_unmarked : (r : Region) (f : Flat) → IsUnmarked (make_plan r f)
make_unmarked r f = search (either, plain, fresh) depth 24

old_unmarked : (r : Region) (f : Flat) (x : SlotView) → IsUnmarked (old_plan r f x)
old_unmarked r f x = search (either, plain) depth 24

slot_unmarked : (r : Region) (f : Flat) (o : Option SlotView) → IsUnmarked (slot_plan r f o)
slot_unmarked r f None = search (either, plain, make_unmarked) depth 24
slot_unmarked r f (Some x) = old_unmarked r f x

file_unmarked : (s : Setup) (page n user : ℕ) (x : SlotView) (o : Option ℕ) → IsUnmarked (file_populate s page n user x o)
file_unmarked s page n user x None = search (plain)
file_unmarked s page n user x (Some file) = search (either, plain) depth 24

populate_unmarked : (s : Setup) (page n user : ℕ) (o : Option SlotView) → IsUnmarked (slot_populate s page n user o)
populate_unmarked s page n user None = search (plain)
populate_unmarked s page n user (Some x) = search (either, plain, file_unmarked) depth 24

planned : (s : Setup) (i : Ioctl) (f : Flat) → IsUnmarked (plan s i f)
planned s (Create size flags) f = search (either, plain) depth 24
planned s (Region2 r) f = search (either, plain, slot_unmarked) depth 24
planned s (Attrs address size attributes flags) f = search (either, plain) depth 24
planned s (Punch fd offset n) f = search (either, plain) depth 24
planned s (Allocate fd offset n) f = search (either, plain) depth 24
planned s (Close fd) f = search (either, plain) depth 24
planned s (Populate gpa n user) f = search (either, plain, populate_unmarked) depth 24
planned s (Poke address value) f = search (either, plain) depth 24
planned s (Peek address) f = search (either, plain) depth 24

pub plan_unmarked : (s : Setup) (i : Ioctl) (f : Flat) → marks (plan s i f) ≡ false
plan_unmarked s i f = (planned s i f).is

pub bracket_unmarked : (s : Setup) (i : Ioctl) (f : Flat) (effect : Effect) (spans : List Extent) → plan s i f ≡ Bracketed effect spans → is_mark effect ≡ false
bracket_unmarked s i f effect spans e = sym (ap marks e) ∙ plan_unmarked s i f

pub short_unmarked : (s : Setup) (i : Ioctl) (f : Flat) (effect : Effect) (answer : ℕ) → plan s i f ≡ Short effect answer → is_mark effect ≡ false
short_unmarked s i f effect answer e = sym (ap marks e) ∙ plan_unmarked s i f
