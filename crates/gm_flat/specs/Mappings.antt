-- *flushes, leaves and fills*, read off the history. (Documentation/virt/kvm/locking.rst and mmu.c; that a buffer keeps
-- its last 256 fills, and that each bracket asks every vCPU to flush, is this project's own.)
use Rattle.std.specs.Prelude.{ℕ, suc, ◌+◌, ◌*◌, ◌/◌, List, [], ◌∷◌, ◌++◌, Bool, true, false, ◌&&◌, ◌||◌, length, take, Some, None, nat_eq, if◌then◌else◌}
use Rattle.std.specs.declared.option.Option.{Option}
use Rattle.gm_base.specs.Aim.{Aim}
use Rattle.gm_base.specs.Extent.{Extent, holds, meets}
use Rattle.gm_base.specs.Values.{same_kind, permits}
use Rattle.gm_base.specs.declared.numbers.TheConstants.{BLOCK_PAGES, BUFFER_FILLS}
use Rattle.gm_base.specs.declared.values.Kind.{Kind}
use Rattle.gm_base.specs.declared.values.Level.{Level}
use Rattle.gm_base.specs.declared.values.Level.TheVariants.{Small, Block}
use Rattle.gm_base.specs.declared.values.Actor.{Actor}
use Rattle.gm_base.specs.declared.values.Actor.TheVariants.{Vcpu, Caller}
use Rattle.gm_flat.specs.declared.entry.Entry.{Entry}
use Rattle.gm_flat.specs.declared.entry.What.{What}
use Rattle.gm_flat.specs.declared.entry.What.TheVariants.{Enter, Flush, Miss, Install, Touch, Begin, Gone}
use Rattle.gm_flat.specs.Histories.{is_vcpu, Fault, Faulting, fault}
use Rattle.gm_flat.specs.FlatState.{Flat}
use Rattle.gm_flat.specs.NamedPage.{Named, named}
use Rattle.gm_flat.specs.Replay.{flat}

-- the position after the vCPU's last Flush, and 0 where there is none
abbrev pub flushed_step : ℕ → What → Actor → ℕ → ℕ → ℕ
flushed_step v Flush a n x = if is_vcpu v a then suc n else x
flushed_step v _ a n x = x

abbrev pub flushed : ℕ → List Entry → ℕ
flushed v [] = 0
flushed v (e ∷ past) = flushed_step v e.what e.actor (length past) (flushed v past)

-- whether a flush is pending: a Begin stands after the vCPU's last Flush
abbrev pub pending_step : ℕ → What → Actor → Bool → Bool
pending_step v Flush a x = if is_vcpu v a then false else x
pending_step v (Begin spans) a x = true
pending_step v _ a x = x

abbrev pub pending : ℕ → List Entry → Bool
pending v [] = false
pending v (e ∷ past) = pending_step v e.what e.actor (pending v past)

-- whether the vCPU is inside the guest: the last of its Enter, Miss and Gone entries is an Enter
abbrev pub inside_step : ℕ → What → Actor → Bool → Bool
inside_step v Enter a x = if is_vcpu v a then true else x
inside_step v (Miss access) a x = if is_vcpu v a then false else x
inside_step v Gone a x = if is_vcpu v a then false else x
inside_step v _ a x = x

abbrev pub inside : ℕ → List Entry → Bool
inside v [] = false
inside v (e ∷ past) = inside_step v e.what e.actor (inside v past)

-- the block of a page
abbrev pub block_of : ℕ → Extent
block_of page = record { lo = BLOCK_PAGES * (page / BLOCK_PAGES); hi = BLOCK_PAGES * (page / BLOCK_PAGES) + BLOCK_PAGES }

-- what a leaf or a fill for a page covers: the page, or its block
abbrev pub covered : Level → ℕ → Extent
covered Small page = record { lo = page; hi = page + 1 }
covered Block page = block_of page

-- whether one of the spans holds the page, and whether one meets an extent
abbrev pub any_holds : List Extent → ℕ → Bool
any_holds [] page = false
any_holds (s ∷ spans) page = holds s page || any_holds spans page

abbrev pub any_meets : List Extent → Extent → Bool
any_meets [] e = false
any_meets (s ∷ spans) e = meets e s || any_meets spans e

-- a leaf or a fill: the position of its entry, its page, its size and its kind, and what was named then
pub record Mapping : Type 0 where
  pub made : ℕ
  pub page : ℕ
  pub level : Level
  pub kind : Kind
  pub gives : ℕ → Option Named

abbrev pub covers : Mapping → ℕ → Bool
covers m page = holds (covered m.level m.page) page

-- a new leaf; its kind is the kind of its fault's access. An Install without a fault that has its Get makes none.
abbrev pub leaf_by : ℕ → ℕ → Level → Flat → Fault → List Mapping
leaf_by n page level f (Faulting access missed sample look (Some gotten)) = record { made = n; page = page; level = level; kind = access.kind; gives = λ h. named f h } ∷ []
leaf_by n page level f _ = []

abbrev pub new_leaf : ℕ → Level → Actor → List Entry → List Mapping
new_leaf page level (Vcpu v) past = leaf_by (length past) page level (flat past) (fault v past)
new_leaf page level (Caller c) past = []

-- without the leaves that have a page in the extent
abbrev pub off_extent : Extent → List Mapping → List Mapping
off_extent e [] = []
off_extent e (m ∷ ms) = if meets e (covered m.level m.page) then off_extent e ms else m ∷ off_extent e ms

-- without the leaves that meet one of the spans
abbrev pub off_spans : List Extent → List Mapping → List Mapping
off_spans spans [] = []
off_spans spans (m ∷ ms) = if any_meets spans (covered m.level m.page) then off_spans spans ms else m ∷ off_spans spans ms

abbrev pub leaves_step : What → Actor → List Entry → List Mapping → List Mapping
leaves_step (Install page level) a past ms = new_leaf page level a past ++ off_extent (covered level page) ms
leaves_step (Begin spans) a past ms = off_spans spans.list ms
leaves_step _ a past ms = ms

-- the leaves: the Installs after which no Begin has a span that meets what they cover and no Install covers a page of it
abbrev pub leaves : List Entry → List Mapping
leaves [] = []
leaves (e ∷ past) = leaves_step e.what e.actor past (leaves past)

-- the vCPU's fills: its last 256 Touches since its last Flush whose fill is their own position
abbrev pub fill_if : Bool → ℕ → Aim → Level → Flat → List Mapping → List Mapping
fill_if false n access level f ms = ms
fill_if true n access level f ms = take BUFFER_FILLS (record { made = n; page = access.page; level = level; kind = access.kind; gives = λ h. named f h } ∷ ms)

abbrev pub fills_step : ℕ → What → Actor → List Entry → List Mapping → List Mapping
fills_step v Flush a past ms = if is_vcpu v a then [] else ms
fills_step v (Touch access backing level value fill) a past ms = fill_if (is_vcpu v a && nat_eq fill (length past)) (length past) access level (flat past) ms
fills_step v _ a past ms = ms

abbrev pub fills : ℕ → List Entry → List Mapping
fills v [] = []
fills v (e ∷ past) = fills_step v e.what e.actor past (fills v past)

-- whether a leaf or a fill serves an access: it covers the page, has the kind, and for a write what it gives is writable
abbrev pub can_write : Option Named → Bool
can_write None = false
can_write (Some n) = n.writable

abbrev pub serves : Aim → Mapping → Bool
serves a m = covers m a.page && (same_kind m.kind a.kind && permits (can_write (m.gives a.page)) a.op)

-- the latest that serves
abbrev pub first_serving : Aim → List Mapping → Option Mapping
first_serving a [] = None
first_serving a (m ∷ ms) = if serves a m then Some m else first_serving a ms
