use Rattle.std.proofs.Common.{◌≡◌, ◌++◌, replicate}
use Rattle.gm_base.specs.declared.script.Turn.TheVariants.{Next}
use Rattle.gm_script.proofs.draft.push_turns.Given as goal

abbrev pub invariant-loop-k : goal.invariant-loop-k
invariant-loop-k l = l.turns.items ≡ l.initial.turns.items ++ replicate l.k (Next l.actor)
