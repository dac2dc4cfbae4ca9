use Rattle.std.proofs.Common.{◌-◌, arith}
use Rattle.std.proofs.lemmas.List.{get_or_default}
use Rattle.gm_slots.proofs.order.last_other.Goals as goal

pub returns-then-order-place-clause-some : goal.returns-then-order-place-clause-some
returns-then-order-place-clause-some c = record {
  at = c.loop-place.place - 1;
  bound = omega (arith, c.loop-place.invariant.bound, c.loop-place-test.true);
  is = λ d. get_or_default c.args.order.now (c.loop-place.place - 1) d _ (omega (arith, c.loop-place.invariant.bound, c.loop-place-test.true, c.requires));
  differs = c.if-order-place.true;
  later = λ k d h l. c.loop-place.invariant.later k d (omega arith) l;
}
