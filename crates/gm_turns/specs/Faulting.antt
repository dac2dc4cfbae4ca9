-- How far the fault in flight of a vCPU is.
use Rattle.std.specs.Prelude.{◌≡◌, ℕ, Bool, true, ◌||◌, not, nat_eq, Option, Some, None}
use Rattle.gm_base.specs.Aim.{Aim}
use Rattle.gm_fault.specs.Routes.{route_of}
use Rattle.gm_fault.specs.declared.routes.Route.{Route}
use Rattle.gm_fault.specs.declared.ticket.Ticket.{Ticket}
use Rattle.gm_flat.specs.declared.effect.Backing.{Backing}
use Rattle.gm_flat.specs.declared.views.Sampled.{Sampled}
use Rattle.gm_inval.specs.Range.{Progress, open_range, range_holds}
use Rattle.gm_vcpus.specs.Stages.{stage_of}
use Rattle.gm_vcpus.specs.declared.stage.Stage.{Stage}
use Rattle.gm_vcpus.specs.declared.stage.Stage.TheVariants as at

-- a fault is in flight, and so far
abbrev pub IsAtStage : Option Ticket → Stage → Type 0
IsAtStage None stage = ⊥
IsAtStage (Some k) stage = stage_of k ≡ stage

-- it has sampled, for an access of this page
abbrev pub IsSampled : Option Ticket → ℕ → Sampled → Type 0
IsSampled None page x = ⊥
IsSampled (Some k) page x = (stage_of k ≡ at.Sampled x) × (k.access.page ≡ page)

-- it has looked up its page and got nothing yet
abbrev pub IsLooked : Stage → Type 0
IsLooked (at.Looked x y) = Unit {0}
IsLooked stage = ⊥

abbrev pub HasLooked : Option Ticket → Type 0
HasLooked None = ⊥
HasLooked (Some k) = IsLooked (stage_of k)

-- and goes on by this route
abbrev pub IsRoute : Stage → Aim → Route → Type 0
IsRoute (at.Looked x y) a to = route_of y a ≡ to
IsRoute stage a to = ⊥

abbrev pub HasRoute : Option Ticket → Route → Type 0
HasRoute None to = ⊥
HasRoute (Some k) to = IsRoute (stage_of k) k.access to

-- it has got this backing for an access, and it is stale or not by what is in progress
abbrev pub IsGot : Stage → Aim → Backing → Progress → Bool → Type 0
IsGot (at.Got x y b) a backing p t = (b ≡ backing) × ((range_holds (open_range p) a.page || not (nat_eq p.seq x.seq)) ≡ t)
IsGot stage a backing p t = ⊥

abbrev pub HasGot : Option Ticket → Aim → Backing → Progress → Bool → Type 0
HasGot None a backing p t = ⊥
HasGot (Some k) a backing p t = (k.access ≡ a) × IsGot (stage_of k) a backing p t

-- it has got this backing, and is stale
abbrev pub IsStale : Option Ticket → Backing → Progress → Type 0
IsStale None backing p = ⊥
IsStale (Some k) backing p = IsGot (stage_of k) k.access backing p true
