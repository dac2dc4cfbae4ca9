use Rattle.std.proofs.Common.{◌≡◌, ◌+◌, length}
use Rattle.gm_threads.proofs.seats.seat_callers.Given as goal

abbrev pub invariant-loop : goal.invariant-loop
invariant-loop l = length l.seats.items ≡ length l.initial.seats.items + l.counter
