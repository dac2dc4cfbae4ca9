use Rattle.std.proofs.Common.{arith, take, drop}
use Rattle.std.proofs.lemmas.List.{length-drop, take_rest}
use Rattle.gm_io.specs.Held.{Gains, total}
use Rattle.gm_io.proofs.Held.{Gains-step, Gains_kept, GainsFront_at, Grows-trans}
use Rattle.gm_io.proofs.gathered.Gathered.add_by_parts.Goals as goal

pub loop-at-preserved : goal.loop-at-preserved
loop-at-preserved g c =
    let more : Gains (total (g.K.Sink.held c.loop-at.sink) c.loop-at.self) (total (g.K.Sink.held c.add_some.new.sink) c.add_some.new.self) (take c.in-Ok.count (drop c.loop-at.at c.args.bytes.now)) = rw take_rest at c.in-Ok.ensures.bytes in
    record {
      within = grind (arith, length-drop, c.in-Ok.ensures.bound);
      gains = Gains-step _ _ _ c.loop-at.at c.in-Ok.count c.args.bytes.now c.loop-at.invariant.gains more;
      grows = Grows-trans _ _ _ c.loop-at.invariant.grows c.in-Ok.ensures.grows;
      later = omega (arith, c.in-Ok.ensures.cause.later);
    }

pub returns-in-Err : goal.returns-in-Err
returns-in-Err g c = record {
  wrote = GainsFront_at _ _ c.loop-at.at c.args.bytes.now c.loop-at-test.true (Gains_kept _ _ _ _ c.loop-at.invariant.gains c.in-Err.ensures.bytes);
  grows = Grows-trans _ _ _ c.loop-at.invariant.grows c.in-Err.ensures.grows;
  cause = record {
    later = omega (arith, c.in-Err.ensures.cause.later);
    failed = omega (arith, c.in-Err.ensures.cause.later, c.in-Err.ensures.cause.failed);
  };
}
