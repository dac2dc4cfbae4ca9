use Rattle.std.proofs.Common.{arith}
use Rattle.gm_file.proofs.Caching.{lookup-past}
use Rattle.gm_file.proofs.file.File.next_free.Goals as goal
use Rattle.gm_file.proofs.file.File.next_free.Goals.{then-self-lo, else-self-lo+then-self, else-self-lo+else-self}

pub returns-then-free-hi-clause-first : goal.returns-then-free-hi-clause-first
returns-then-free-hi-clause-first c =
    rw (← c.self.view_is)
    (elim c.if-self-lo.branch [
      | then-self-lo w ↦ rw w.free-is (record {
        after = omega arith;
        free = lookup-past 0 c.self.inside.end c.args.lo _ c.self.invariant.1 w.if-self-lo.true;
        taken = λ k a b. absurd (omega arith);
      })
      | else-self-lo+then-self w ↦ rw w.free-is (record {
        after = omega (arith, w.if-self-lo.false, w.if-self.true);
        free = lookup-past 0 c.self.inside.end c.self.inside.full _ c.self.invariant.1 (omega (arith, w.if-self.true));
        taken = λ k a b. c.self.invariant.6 k b;
      })
      | else-self-lo+else-self w ↦ rw w.free-is w.first_gap.ensures.gap
    ])
