use Rattle.std.proofs.Common.{append_assoc}
use Rattle.gm_script.proofs.Turns.{one_more_round}
use Rattle.gm_script.proofs.draft.push_rounds.Goals as goal

pub loop-k-preserved : goal.loop-k-preserved
loop-k-preserved c = rw (one_more_round c.args.setup c.loop-k.k, c.in_ok-push_callers.ensures, c.in_ok-push_vcpus.ensures, c.loop-k.invariant) (simp append_assoc)
