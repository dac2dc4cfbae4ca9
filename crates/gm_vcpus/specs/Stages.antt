-- How far a fault in flight is.
use Rattle.std.specs.Prelude.{Option, Some, None}
use Rattle.gm_fault.specs.declared.ticket.Ticket.{Ticket}
use Rattle.gm_flat.specs.declared.effect.Backing.{Backing}
use Rattle.gm_flat.specs.declared.views.Looked.{Looked}
use Rattle.gm_flat.specs.declared.views.Sampled.{Sampled}
use Rattle.gm_vcpus.specs.declared.stage.Stage.{Stage}
use Rattle.gm_vcpus.specs.declared.stage.Stage.TheVariants as at

-- the last that it has of a sample, a look and a backing, in this order
abbrev pub stage_by : Option Sampled → Option Looked → Option Backing → Stage
stage_by None y b = at.Missed
stage_by (Some x) None b = at.Sampled x
stage_by (Some x) (Some y) None = at.Looked x y
stage_by (Some x) (Some y) (Some b) = at.Got x y b

abbrev pub stage_of : Ticket → Stage
stage_of k = stage_by k.sampled k.looked k.backing
