use Rattle.std.proofs.Common.{◌≡◌, ℕ, ◌<◌, ◌≤◌, get_or}
use Rattle.gm_slots.specs.declared.order.Begin.{Begin}
use Rattle.gm_slots.proofs.order.last_other.Given as goal

abbrev pub invariant-loop-place : goal.invariant-loop-place
invariant-loop-place l = record {
  bound : l.place ≤ l.count;
  later : (k : ℕ) (d : Begin) → l.place ≤ k → k < l.count → (get_or l.order k d).id ≡ l.id;
}

abbrev pub decreases-loop-place : goal.decreases-loop-place
decreases-loop-place l = l.place
