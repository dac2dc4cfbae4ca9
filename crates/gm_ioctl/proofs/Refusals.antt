-- The rows of the arguments and the whole tables.
use Rattle.std.proofs.Common.{◌≡◌, ◌↔◌, ℕ, List, [], ◌∷◌, Bool, true, false, cond, Option, None, Some, refl, sym, ◌∙◌, ap}
use Rattle.gm_base.specs.declared.calls.Ioctl.{Ioctl}
use Rattle.gm_base.specs.declared.calls.Ioctl.TheVariants.{Create, Region2, Attrs, Punch, Allocate, Close, Populate, Poke, Peek}
use Rattle.gm_base.specs.declared.values.Setup.{Setup}
use Rattle.gm_base.specs.declared.values.Errno.{Errno}
use Rattle.gm_base.specs.declared.values.Errno.TheVariants.{Inval}
use Rattle.gm_flat.specs.Calls.{Plan, Refused, plan}
use Rattle.gm_flat.specs.FlatState.{Flat}
use Rattle.gm_ioctl.specs.Arguments.{argument_refusal, argument_rows, first_refusal, passes, has_none}
use Rattle.gm_ioctl.specs.Remaining.{state_plan}

-- the plan of rows: the first that holds refuses, and the rest is left where none does
abbrev plan_rows : List Bool → Plan → Plan
plan_rows [] p = p
plan_rows (b ∷ rows) p = cond b (Refused Inval) (plan_rows rows p)

-- each table begins with the rows of the arguments
rows_first : (setup : Setup) (call : Ioctl) (f : Flat) → plan setup call f ≡ plan_rows (argument_rows setup.user call) (state_plan setup call f)
rows_first setup (Create size flags) f = refl
rows_first setup (Region2 r) f = refl
rows_first setup (Attrs address size attributes flags) f = refl
rows_first setup (Punch fd offset length) f = refl
rows_first setup (Allocate fd offset length) f = refl
rows_first setup (Close fd) f = refl
rows_first setup (Populate gpa pages from) f = refl
rows_first setup (Poke address value) f = refl
rows_first setup (Peek address) f = refl

same_errno : (a b : Errno) → Some a ≡ Some b → a ≡ b
same_errno a b h = cc

refused_rows : (rows : List Bool) (p : Plan) (e : Errno) → first_refusal rows ≡ Some e → plan_rows rows p ≡ Refused e
refused_rows [] p e h = absurd cc
refused_rows (true ∷ rows) p e h = ap (λ (x : Errno). Refused x) (same_errno Inval e h)
refused_rows (false ∷ rows) p e h = refused_rows rows p e h

pub refused_plan : (setup : Setup) (call : Ioctl) (f : Flat) (e : Errno) → argument_refusal setup.user call ≡ Some e → plan setup call f ≡ Refused e
refused_plan setup call f e h = rows_first setup call f ∙ refused_rows (argument_rows setup.user call) (state_plan setup call f) e h

passed_rows : (rows : List Bool) (p : Plan) → first_refusal rows ≡ None → plan_rows rows p ≡ p
passed_rows [] p h = refl
passed_rows (true ∷ rows) p h = absurd cc
passed_rows (false ∷ rows) p h = passed_rows rows p h

pub passed_plan : (setup : Setup) (call : Ioctl) (f : Flat) → argument_refusal setup.user call ≡ None → plan setup call f ≡ state_plan setup call f
passed_plan setup call f h = rows_first setup call f ∙ passed_rows (argument_rows setup.user call) (state_plan setup call f) h

inval_rows : (rows : List Bool) (e : Errno) → first_refusal rows ≡ Some e → e ≡ Inval
inval_rows [] e h = absurd cc
inval_rows (true ∷ rows) e h = sym (same_errno Inval e h)
inval_rows (false ∷ rows) e h = inval_rows rows e h

pub refusal_is_inval : (user : ℕ) (call : Ioctl) (e : Errno) → argument_refusal user call ≡ Some e → e ≡ Inval
refusal_is_inval user call e h = inval_rows (argument_rows user call) e h

none_of : (o : Option Errno) → (has_none o ≡ true) ↔ (o ≡ None)
none_of None = (λ h. refl, λ h. refl)
none_of (Some e) = (λ h. absurd cc, λ h. absurd cc)

pub passes_is_none : (user : ℕ) (call : Ioctl) → (passes user call ≡ true) ↔ (argument_refusal user call ≡ None)
passes_is_none user call = none_of (argument_refusal user call)
