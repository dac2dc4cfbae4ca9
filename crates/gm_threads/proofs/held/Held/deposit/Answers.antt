use Rattle.std.proofs.Common.{◌∙◌}
use Rattle.gm_threads.proofs.Handing.{handed, handed_same}
use Rattle.gm_threads.proofs.held.Held.deposit.Goals as goal

pub invariant_of-self : goal.invariant_of-self
invariant_of-self g c =
    let old = c.self.inside.published in
    let new = c.deposit.new.self in
    let h = handed old new c.args.vcpu _ _ c.deposit.result c.deposit.ensures.outcome c.deposit.ensures.kept c.deposit.ensures.otherwise in
    handed_same old new c.args.vcpu c.deposit.result h c.deposit.ensures.err ∙ c.self.invariant

pub returns-clause-deposit : goal.returns-clause-deposit
returns-clause-deposit g c =
    rw (← c.self.view_is) (handed c.self.inside.published c.deposit.new.self c.args.vcpu _ _ c.deposit.result c.deposit.ensures.outcome c.deposit.ensures.kept c.deposit.ensures.otherwise)
