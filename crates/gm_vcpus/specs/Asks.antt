-- What a fault that has only missed asks for.
use Rattle.std.specs.Prelude.{ℕ, Option, Some, None}
use Rattle.gm_base.specs.Aim.{Aim}
use Rattle.gm_fault.specs.declared.ticket.Ticket.{Ticket}
use Rattle.gm_flat.specs.Histories.{Fault, Faulting}
use Rattle.gm_vcpus.specs.Stages.{stage_of}
use Rattle.gm_vcpus.specs.declared.stage.Stage.{Stage}
use Rattle.gm_vcpus.specs.declared.stage.Stage.TheVariants as at

-- of a history's fault: its access and the position after its miss; none where there is no fault or it has sampled
abbrev pub asked_in : Fault → Option (Aim × ℕ)
asked_in (Faulting a missed None None None) = Some (a, missed)
asked_in _ = None

-- of a ticket that missed right before a position
abbrev pub asked_at : Stage → Aim → ℕ → Option (Aim × ℕ)
asked_at at.Missed a missed = Some (a, missed)
asked_at _ a missed = None

abbrev pub asked_by : Option Ticket → ℕ → Option (Aim × ℕ)
asked_by None missed = None
asked_by (Some k) missed = asked_at (stage_of k) k.access missed
