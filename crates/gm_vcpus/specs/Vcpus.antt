-- What a turn does to a vCPU.
use Rattle.std.specs.Prelude.{ℕ, ◌+◌, List, Option, Some, None, false, true, slice_index_or}
use Rattle.gm_base.specs.Aim.{Aim}
use Rattle.gm_fault.specs.declared.ticket.Ticket.{Ticket}
use Rattle.gm_flat.specs.declared.effect.Backing.{Backing}
use Rattle.gm_flat.specs.declared.views.Looked.{Looked}
use Rattle.gm_flat.specs.declared.views.Sampled.{Sampled}
use Rattle.gm_vcpus.specs.declared.vcpu.Vcpu.{Vcpu}

-- one that has done nothing yet
abbrev pub no_vcpu : Vcpu
no_vcpu = record { ended = 0; fault = None; missed = 0; gone = false }

-- the vCPU of a number
abbrev pub vcpu_at : List Vcpu → ℕ → Vcpu
vcpu_at vs v = slice_index_or vs v no_vcpu

-- a fault that has only missed
abbrev pub fresh_ticket : Aim → Ticket
fresh_ticket a = record { access = a; sampled = None; looked = None; backing = None }

-- its access has missed, and this is the position after the miss
abbrev pub missing : Vcpu → Aim → ℕ → Vcpu
missing x a after = record x { fault = Some (fresh_ticket a); missed = after }

-- its fault has sampled the sequence
abbrev pub with_sampled : Sampled → Option Ticket → Option Ticket
with_sampled z None = None
with_sampled z (Some k) = Some (record k { sampled = Some z })

abbrev pub sampling : Vcpu → Sampled → Vcpu
sampling x z = record x { fault = with_sampled z x.fault }

-- its fault has looked up its page
abbrev pub with_looked : Looked → Option Ticket → Option Ticket
with_looked z None = None
with_looked z (Some k) = Some (record k { looked = Some z })

abbrev pub looking : Vcpu → Looked → Vcpu
looking x z = record x { fault = with_looked z x.fault }

-- its fault has got its backing
abbrev pub with_backing : Backing → Option Ticket → Option Ticket
with_backing b None = None
with_backing b (Some k) = Some (record k { backing = Some b })

abbrev pub getting : Vcpu → Backing → Vcpu
getting x b = record x { fault = with_backing b x.fault }

-- its fault is over, and its command goes on
abbrev pub settled : Vcpu → Vcpu
settled x = record x { fault = None }

-- its command has touched
abbrev pub touched : Vcpu → Vcpu
touched x = record x { ended = x.ended + 1 }

-- its command has left the guest, and so ended with its fault
abbrev pub exited : Vcpu → Vcpu
exited x = record x { ended = x.ended + 1; fault = None }

-- it has no command left, and says so
abbrev pub leaving : Vcpu → Vcpu
leaving x = record x { gone = true }
