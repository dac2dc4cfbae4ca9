use Rattle.gm_publish.proofs.Turning.{start_tied}
use Rattle.gm_publish.proofs.published.Published.new.Goals as goal

pub invariant_of-published : goal.invariant_of-published
invariant_of-published c = start_tied c.in_ok-machine.machine c.in_ok-publisher.publisher c.new-3.result.items c.args.script.now.orders _ _ c.in_ok-machine.ensures c.in_ok-publisher.ensures c.new-3.ensures.items c.setup-setup.ensures.even.setup.user
