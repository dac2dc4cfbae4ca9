use Rattle.std.proofs.Common.{◌∙◌, ap}
use Rattle.gm_flat.specs.Mappings.{pending}
use Rattle.gm_mapping.proofs.Pending.{pending_is}
use Rattle.gm_machine.specs.Steps.{Seen}
use Rattle.gm_machine.proofs.machine.Machine.flush_pending.Goals as goal

pub returns : goal.returns
returns c =
    c.pending.ensures ∙ (pending_is c.args.vcpu c.self.invariant.0.stands.mapping (rw (← c.self.view_is) at c.requires) ∙ ap (λ (s : Seen). pending c.args.vcpu s.past) c.self.view_is)
