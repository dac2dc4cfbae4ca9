-- What an install puts.
use Rattle.std.specs.Prelude.{◌≡◌, Bool, true, false, not, Option, Some, None}
use Rattle.gm_base.specs.Aim.{Aim}
use Rattle.gm_base.specs.Values.{permits}
use Rattle.gm_base.specs.declared.numbers.TheConstants.{KVM_MEM_READONLY}
use Rattle.gm_base.specs.declared.values.Kind.{Kind}
use Rattle.gm_base.specs.declared.values.Kind.TheVariants.{Private, Shared}
use Rattle.gm_fault.specs.Routes.{has_flag}
use Rattle.gm_flat.specs.FlatState.{Flat}
use Rattle.gm_flat.specs.NamedPage.{Named, named}
use Rattle.gm_flat.specs.Slots.{slot_over}
use Rattle.gm_flat.specs.declared.effect.Backing.{Backing}
use Rattle.gm_flat.specs.declared.views.SlotView.{SlotView}

-- whether guests may write a page of this kind under this slot
abbrev pub may_be_written : Kind → Option SlotView → Bool
may_be_written Private slot = true
may_be_written Shared None = false
may_be_written Shared (Some s) = not (has_flag s KVM_MEM_READONLY)

-- what is named at the access's page: its kind is the access's, its backing the one that was got, whether it may be
-- written is told by the kind and the slot, and the access may be made
pub record Puts (a : Aim) (b : Backing) (f : Flat) : Type 0 where
  pub gives : Named
  pub named_is : named f a.page ≡ Some gives
  pub kind_is : gives.kind ≡ a.kind
  pub backing_is : gives.backing ≡ b
  pub writable_is : gives.writable ≡ may_be_written a.kind (slot_over f.slots a.page)
  pub permitted : permits gives.writable a.op ≡ true
