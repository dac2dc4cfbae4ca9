use Rattle.gm_machine.proofs.Stepping.{deposit_settled, deposits, room_cleared, vcpu_ready}
use Rattle.gm_machine.proofs.machine.Machine.deposit.Goals as goal

pub deposit-requires-clause-ready : goal.deposit-requires-clause-ready
deposit-requires-clause-ready c = vcpu_ready c.self.inside.core c.self.inside.room c.args.vcpu _ c.self.view_is c.self.invariant.0 c.self.invariant.1 c.requires.actor c.requires.room c.requires.turns

pub invariant_of-self : goal.invariant_of-self
invariant_of-self c =
    let old = c.self.inside.core in
    let new = c.deposit.new.core in
    (deposit_settled old new c.args.vcpu c.args.sight c.self.invariant.0 c.deposit.ensures, rw c.clear.ensures (room_cleared old new c.self.inside.room c.self.invariant.1 c.deposit.ensures.orders))

pub returns-clause-deposits : goal.returns-clause-deposits
returns-clause-deposits c = rw (c.clear.ensures, ← c.self.view_is) (deposits c.self.inside.core c.deposit.new.core c.args.vcpu c.args.sight c.self.inside.room c.deposit.ensures)
