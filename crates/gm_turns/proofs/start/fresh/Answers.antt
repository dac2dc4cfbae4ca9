use Rattle.std.proofs.Common.{◌∙◌, ap}
use Rattle.gm_turns.proofs.Opening.{opens, same_orders}
use Rattle.gm_turns.specs.Logs.{LogView}
use Rattle.gm_turns.proofs.start.fresh.Goals as goal

pub returns-clause-settled : goal.returns-clause-settled
returns-clause-settled c =
    opens c.args.script.now _ c.setup-setup.ensures.even (record {
      orders = same_orders c.args.script.now.orders _ _ _ c.setup-setup.ensures.setup (c.in_ok-vcpu_commands.ensures {u = tt} ∙ c.vcpus.ensures) (c.in_ok-caller_commands.ensures {u = tt} ∙ c.callers.ensures);
      past = ap (λ (l : LogView). l.past) c.new-log.ensures;
      vcpus = c.in_ok-vcpus.ensures {u = tt};
      callers = c.in_ok-callers.ensures {u = tt};
      mmu = record { leaves = c.in_ok-mmu.ensures.leaves; fills = c.in_ok-mmu.ensures.fills; requests = c.in_ok-mmu.ensures.requests; progress = c.in_ok-mmu.ensures.progress };
      state = c.in_ok-state.ensures.is;
      generation = c.in_ok-state.ensures.generation;
    })
