use Rattle.std.proofs.Common.{◌≡◌, take, reverse}
use Rattle.gm_machine.specs.Played.{PlaysTurns}
use Rattle.gmemrun.proofs.steps.take_turns.Given as goal

abbrev pub invariant-loop-turn : goal.invariant-loop-turn
invariant-loop-turn l = record {
  orders : l.machine.orders ≡ l.initial.machine.orders;
  plays : PlaysTurns l.initial.machine.orders (reverse (take l.turn-index l.turns)) l.machine.past;
  turns : l.machine.turns ≡ l.turn-index;
}
