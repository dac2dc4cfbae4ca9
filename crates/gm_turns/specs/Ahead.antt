-- What a turn changes of what is shown: the slots, the attributes, and the sequence, the count and the kept range of
-- invalidations. (kvm_main.c: what is published under the srcu and read without the lock.)
use Rattle.std.specs.Prelude.{ℕ, suc, ◌+◌, List, [], ◌∷◌, Bool, true, false, length, nat_eq, Some, None, if◌then◌else◌}
use Rattle.std.specs.declared.option.Option.{Option}
use Rattle.gm_flat.specs.Invalidation.{count, hull}
use Rattle.gm_flat.specs.declared.effect.Effect.{Effect}
use Rattle.gm_flat.specs.declared.effect.Effect.TheVariants.{Mark}
use Rattle.gm_flat.specs.declared.entry.Entry.{Entry}
use Rattle.gm_flat.specs.declared.entry.What.{What}
use Rattle.gm_flat.specs.declared.entry.What.TheVariants.{Begin, Change, End}
use Rattle.gm_laws.specs.Counting.{ends}
use Rattle.gm_turns.specs.declared.outcome.Ahead.{Ahead}

-- a Begin, a Change and an End are loud: they change what is shown
abbrev pub is_loud : What → Bool
is_loud (Begin spans) = true
is_loud (Change effect) = true
is_loud End = true
is_loud _ = false

-- what a Change does; the others have no effect
abbrev pub effect_in : What → Option Effect
effect_in (Change effect) = Some effect
effect_in _ = None

-- a loud entry: the position after it, and its effect
pub record Loud : Type 0 where
  pub at : ℕ
  pub effect : Option Effect

-- the newest loud entry of a turn whose entries are the newest
abbrev pub loud_in : ℕ → List Entry → Option Loud
loud_in turn [] = None
loud_in turn (e ∷ past) = if nat_eq e.turn turn then (if is_loud e.what then Some (record { at = suc (length past); effect = effect_in e.what }) else loud_in turn past) else None

-- with the sequence, the count and the kept range of the history
abbrev pub ahead_by : Option Loud → List Entry → Option Ahead
ahead_by None past = None
ahead_by (Some l) past = Some (record { at = l.at; effect = l.effect; seq = ends past; count = count past; hull = hull past })

-- what the turn of this number, the newest of a history, changed of what is shown; none where it has no loud entry
abbrev pub ahead_in : ℕ → List Entry → Option Ahead
ahead_in turn past = ahead_by (loud_in turn past) past

-- the Begin of a bracket at a position, by the slot that it marks
abbrev pub begin_loud : Option ℕ → ℕ → Loud
begin_loud None position = record { at = position + 1; effect = None }
begin_loud (Some slot) position = record { at = position + 2; effect = Some (Mark slot) }
