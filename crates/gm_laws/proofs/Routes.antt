-- What a route tells of the slot and the attribute that were looked up.
use Rattle.std.proofs.Common.{Bool, None, Option, Some, cond, false, inl, inr, not, refl, true, ℕ, ◌≡◌}
use Rattle.gm_base.specs.Aim.{Aim}
use Rattle.gm_base.specs.Values.{permits, same_kind}
use Rattle.gm_base.specs.declared.numbers.TheConstants.{KVM_MEM_READONLY}
use Rattle.gm_base.specs.declared.values.Kind.{Kind}
use Rattle.gm_base.specs.declared.values.Kind.TheVariants.{Private, Shared}
use Rattle.gm_flat.specs.FlatState.{has_flag}
use Rattle.gm_flat.specs.RightLook.{Route, ToAgain, ToFault, ToFile, ToMmio, ToUser, file_route, is_marked, private_route, route, route_by, shared_route}
use Rattle.gm_flat.specs.declared.views.SlotView.{SlotView}
use Rattle.gm_laws.proofs.Kit.{cond_is}

abbrev pub IsUserRoute : Aim → Option SlotView → Type 0
IsUserRoute a slot = (s : SlotView) × (slot ≡ Some s) × (permits (not (has_flag KVM_MEM_READONLY s.flags)) a.op ≡ true)

abbrev pub IsFileRoute : Option SlotView → Type 0
IsFileRoute slot = (s : SlotView) × (F : ℕ) × (slot ≡ Some s) × (s.file ≡ Some F)

shared_user : (a : Aim) (slot : Option SlotView) → shared_route a slot ≡ ToUser → IsUserRoute a slot
shared_user a None e = absurd (cc)
shared_user a (Some s) e =
    elim (cond_is (permits (not (has_flag KVM_MEM_READONLY s.flags)) a.op) ToUser ToMmio ToUser e) [
      | inl y ↦ (s, refl, y.0)
      | inr y ↦ absurd (clash y.1)
    ]
  where
    clash : ToMmio ≡ ToUser → ⊥
    clash e = cc

private_user : (slot : Option SlotView) → private_route slot ≡ ToUser → ⊥
private_user None e = cc
private_user (Some s) e = by_file s.file e
  where
    by_file : (o : Option ℕ) → file_route o ≡ ToUser → ⊥
    by_file None e = cc
    by_file (Some F) e = cc

user_by : (k attr : Kind) (a : Aim) (slot : Option SlotView) → cond (same_kind k attr) (route_by k a slot) ToFault ≡ ToUser → (k ≡ Shared) × (attr ≡ Shared) × IsUserRoute a slot
user_by Private Private a slot e = absurd (private_user slot e)
user_by Private Shared a slot e = absurd (cc)
user_by Shared Private a slot e = absurd (cc)
user_by Shared Shared a slot e = (refl, refl, shared_user a slot e)

-- a route but the one to look again is of a slot that isn't marked
past_mark : (t : Bool) (r s : Route) → (ToAgain ≡ s → ⊥) → cond t ToAgain r ≡ s → (t ≡ false) × (r ≡ s)
past_mark true r s n e = absurd (n e)
past_mark false r s n e = (refl, e)

pub route_user : (a : Aim) (attr : Kind) (slot : Option SlotView) → route a attr slot ≡ ToUser → (a.kind ≡ Shared) × (attr ≡ Shared) × IsUserRoute a slot
route_user a attr slot e = user_by a.kind attr a slot (past_mark (is_marked slot) (cond (same_kind a.kind attr) (route_by a.kind a slot) ToFault) ToUser (λ c. cc) e).1

pub user_open : (a : Aim) (attr : Kind) (slot : Option SlotView) → route a attr slot ≡ ToUser → is_marked slot ≡ false
user_open a attr slot e = (past_mark (is_marked slot) (cond (same_kind a.kind attr) (route_by a.kind a slot) ToFault) ToUser (λ c. cc) e).0

shared_file : (a : Aim) (slot : Option SlotView) → shared_route a slot ≡ ToFile → ⊥
shared_file a None e = cc
shared_file a (Some s) e =
    elim (cond_is (permits (not (has_flag KVM_MEM_READONLY s.flags)) a.op) ToUser ToMmio ToFile e) [
      | inl y ↦ clash y.1
      | inr y ↦ other y.1
    ]
  where
    clash : ToUser ≡ ToFile → ⊥
    clash e = cc

    other : ToMmio ≡ ToFile → ⊥
    other e = cc

private_file : (slot : Option SlotView) → private_route slot ≡ ToFile → IsFileRoute slot
private_file None e = absurd (cc)
private_file (Some s) e = let x = by_file s.file e in (s, x.0, refl, x.1)
  where
    by_file : (o : Option ℕ) → file_route o ≡ ToFile → (F : ℕ) × (o ≡ Some F)
    by_file None e = absurd (cc)
    by_file (Some F) e = (F, refl)

file_by : (k attr : Kind) (a : Aim) (slot : Option SlotView) → cond (same_kind k attr) (route_by k a slot) ToFault ≡ ToFile → (k ≡ Private) × (attr ≡ Private) × IsFileRoute slot
file_by Private Private a slot e = (refl, refl, private_file slot e)
file_by Private Shared a slot e = absurd (cc)
file_by Shared Private a slot e = absurd (cc)
file_by Shared Shared a slot e = absurd (shared_file a slot e)

pub route_file : (a : Aim) (attr : Kind) (slot : Option SlotView) → route a attr slot ≡ ToFile → (a.kind ≡ Private) × (attr ≡ Private) × IsFileRoute slot
route_file a attr slot e = file_by a.kind attr a slot (past_mark (is_marked slot) (cond (same_kind a.kind attr) (route_by a.kind a slot) ToFault) ToFile (λ c. cc) e).1

pub file_open : (a : Aim) (attr : Kind) (slot : Option SlotView) → route a attr slot ≡ ToFile → is_marked slot ≡ false
file_open a attr slot e = (past_mark (is_marked slot) (cond (same_kind a.kind attr) (route_by a.kind a slot) ToFault) ToFile (λ c. cc) e).0
