-- What a turn waits for.
use Rattle.std.specs.Prelude.{◌≡◌, List, true, false, ◌⊎◌, Some, None}
use Rattle.std.specs.declared.option.Option.{Option}
use Rattle.gm_base.specs.Scripts.{Orders}
use Rattle.gm_base.specs.declared.values.Actor.{Actor}
use Rattle.gm_base.specs.declared.values.Actor.TheVariants.{Vcpu, Caller}
use Rattle.gm_callers.specs.Waiting.{WaitsOnCaller, WaitsOnVcpu}
use Rattle.gm_flat.specs.Histories.{gone}
use Rattle.gm_flat.specs.RightOrder.{IsBlocked}
use Rattle.gm_flat.specs.declared.entry.Entry.{Entry}
use Rattle.gm_turns.specs.declared.outcome.Blocker.{Blocker}
use Rattle.gm_turns.specs.declared.outcome.Blocker.TheVariants.{Lock as OnLock, Inside as OnVcpu}

-- a caller waits for the least caller that holds a lock which its next call needs, or its bracket for the least vCPU that
-- is inside and hasn't flushed since it began; a vCPU waits for nobody
abbrev pub WaitsOn : Orders → Actor → Blocker → List Entry → Type 0
WaitsOn o (Caller c) (OnLock holder) past = WaitsOnCaller o c holder past
WaitsOn o (Caller c) (OnVcpu v) past = WaitsOnVcpu c v past
WaitsOn o (Vcpu v) blocker past = ⊥

-- the blocker that a turn of the actor would answer; there is none exactly where the actor has written `gone` or isn't blocked
abbrev pub IsBlocker : Orders → Actor → List Entry → Option Blocker → Type 0
IsBlocker o actor past None = (gone actor past ≡ true) ⊎ (IsBlocked o actor past → ⊥)
IsBlocker o actor past (Some blocker) = (gone actor past ≡ false) × WaitsOn o actor blocker past
