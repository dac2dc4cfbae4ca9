-- What a core with more room is, part by part.
use Rattle.std.specs.Prelude.{◌≡◌, ℕ, ◌<◌, ◌≤◌, List, Some, None, length}
use Rattle.std.specs.declared.option.Option.{Option}
use Rattle.gm_base.specs.declared.numbers.TheConstants.{COUNTER_LIMIT}
use Rattle.gm_base.specs.declared.values.Setup.{Setup}
use Rattle.gm_callers.specs.Callers.{caller_at}
use Rattle.gm_callers.specs.Rooming.{IsRoomy}
use Rattle.gm_callers.specs.Stand.{CallersStand}
use Rattle.gm_callers.specs.declared.caller.Caller.{Caller}
use Rattle.gm_callers.specs.declared.caller.InProgress.{InProgress}
use Rattle.gm_calls.specs.declared.judged.Judged.{Judged}
use Rattle.gm_flat.specs.declared.entry.Entry.{Entry}
use Rattle.gm_state.specs.Applying.{HasBlockRoom}
use Rattle.gm_state.specs.HasMoreRoom.{StateHasMoreRoom}
use Rattle.gm_turns.specs.Room.{ENTRY_LIMIT}
use Rattle.gm_turns.specs.declared.parts.Core.{Core}
use Rattle.std.specs.Prelude.{◌-◌, ◌^◌}

-- what a call in progress was judged to be
abbrev pub judged_of : Option InProgress → Option Judged
judged_of None = None
judged_of (Some p) = Some p.call.judged

-- they stand for the same history, with the same judgements, and who had spans has them still
pub record CallersHaveMoreRoom (old new : List Caller) : Type 0 where
  pub stands : (s : Setup) (past : List Entry) → CallersStand s old past → CallersStand s new past
  pub judged : (c : ℕ) → judged_of (caller_at new c).call ≡ judged_of (caller_at old c).call
  pub roomy : (c : ℕ) → IsRoomy (caller_at old c).spans → IsRoomy (caller_at new c).spans

-- there isn't less room for anything, and nothing else changed
pub record CoreHasMoreRoom (old new : Core) : Type 0 where
  pub same : new ≡ record old { log = new.log; mmu = new.mmu; callers = new.callers; state = new.state }
  pub past : new.log.past ≡ old.log.past
  pub entries : old.log.spare ≤ new.log.spare
  pub mmu_is : new.mmu ≡ record old.mmu { spare = new.mmu.spare }
  pub leaves : old.mmu.spare ≤ new.mmu.spare
  pub callers : CallersHaveMoreRoom old.callers new.callers
  pub state : StateHasMoreRoom old.state new.state

-- room that every turn may need
pub record HasCommonRoom (k : Core) : Type 0 where
  pub entries : 3 ≤ k.log.spare
  pub short : length k.log.past < ENTRY_LIMIT
  pub leaf : 1 ≤ k.mmu.spare
  pub kinds : 1 ≤ k.state.attrs.call_spare
  pub blocks : HasBlockRoom k.state
  pub files : 1 ≤ k.state.store.spare
  pub numbers : length k.state.store.files < 2 ^ 32 - 1
  pub serials : k.state.store.pool.next < COUNTER_LIMIT
