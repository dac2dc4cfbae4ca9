use Rattle.std.proofs.Common.{◌∙◌, ap}
use Rattle.gm_laws.specs.Counting.{ends}
use Rattle.gm_machine.proofs.machine.Machine.sequence.Goals as goal
use Rattle.gm_machine.specs.Steps.{Seen}

pub returns : goal.returns
returns c = c.seq.ensures ∙ (c.self.invariant.0.stands.mapping.seq_is ∙ ap (λ (m : Seen). ends m.past) c.self.view_is)
