use Rattle.std.proofs.Common.{◌≡◌, ◌-◌, take}
use Rattle.gm_callers.proofs.rooming.fitted.Given as goal

abbrev pub invariant-loop-span : goal.invariant-loop-span
invariant-loop-span l = record { list : l.copy.list ≡ take l.span-index l.list; spare : l.copy.spare ≡ l.initial.copy.spare - l.span-index }
