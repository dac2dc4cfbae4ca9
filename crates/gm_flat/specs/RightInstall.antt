-- *right install*: what a fault gets, and that it installs exactly where it isn't stale.
-- (mmu.c, the fault path; kvm_host.h, the retry test; that a fault retries where its file was shut is this project's own.)
use Rattle.std.specs.Prelude.{◌≡◌, ℕ, ◌<◌, List, true, false, ◌⊎◌, Some, None}
use Rattle.std.specs.declared.option.Option.{Option}
use Rattle.gm_base.specs.Aim.{Aim}
use Rattle.gm_base.specs.declared.values.Kind.{Kind}
use Rattle.gm_base.specs.declared.values.Folio.{Folio}
use Rattle.gm_base.specs.declared.values.Actor.{Actor}
use Rattle.gm_base.specs.declared.values.Actor.TheVariants.{Vcpu, Caller}
use Rattle.gm_flat.specs.declared.effect.Backing.{Backing}
use Rattle.gm_flat.specs.declared.effect.Backing.TheVariants.{User, Folio as InFolio}
use Rattle.gm_flat.specs.declared.entry.Entry.{Entry}
use Rattle.gm_flat.specs.declared.entry.What.{What}
use Rattle.gm_flat.specs.declared.entry.What.TheVariants.{Get, Install, Retry}
use Rattle.gm_flat.specs.declared.views.SlotView.{SlotView}
use Rattle.gm_flat.specs.Slots.{user_page_of}
use Rattle.gm_flat.specs.Histories.{Seen, Fault, Faulting, fault}
use Rattle.gm_flat.specs.FlatState.{Flat, in_use, cached}
use Rattle.gm_flat.specs.NamedPage.{Named, named}
use Rattle.gm_flat.specs.Replay.{flat, looked_slot, index_in}
use Rattle.gm_flat.specs.Invalidation.{stale}
use Rattle.gm_flat.specs.RightLook.{Route, ToAgain, ToFault, ToMmio, ToFile, ToUser, route_seen}

-- the folio that is cached, or a new one where none is
abbrev pub CachedOrNew : Backing → ℕ → Option Folio → Type 0
CachedOrNew backing fresh (Some folio) = (backing ≡ InFolio folio) × (fresh ≡ 0)
CachedOrNew backing fresh None = 0 < fresh

-- of a file that is in use
abbrev pub FileGet : Backing → ℕ → Option ℕ → Option ℕ → Flat → Type 0
FileGet backing fresh (Some file) (Some index) f = (in_use file f.files ≡ true) × CachedOrNew backing fresh (cached file index f.cache)
FileGet backing fresh _ index f = ⊥

-- the user page that the slot gives
abbrev pub UserGet : Backing → ℕ → ℕ → Option SlotView → Type 0
UserGet backing fresh page (Some s) = (backing ≡ User (user_page_of s page)) × (fresh ≡ 0)
UserGet backing fresh page None = ⊥

abbrev pub GetBy : Route → Backing → ℕ → Aim → Seen → List Entry → Type 0
GetBy ToUser backing fresh a seen past = UserGet backing fresh a.page (looked_slot seen past)
GetBy ToFile backing fresh a seen past = FileGet backing fresh seen.file (index_in a.page (looked_slot seen past)) (flat past)
GetBy ToAgain backing fresh a seen past = ⊥
GetBy ToFault backing fresh a seen past = ⊥
GetBy ToMmio backing fresh a seen past = ⊥

abbrev pub RightGet : Backing → ℕ → List Entry → Fault → Type 0
RightGet backing fresh past (Faulting a missed sample (Some seen) got) = GetBy (route_seen a seen past) backing fresh a seen past
RightGet backing fresh past _ = ⊥

-- what is named has that kind and that backing
abbrev pub Names : Kind → Backing → Option Named → Type 0
Names kind backing None = ⊥
Names kind backing (Some m) = (m.kind ≡ kind) × (m.backing ≡ backing)

pub record InstallIsRight (page : ℕ) (a : Aim) (sample : Option ℕ) (backing : Backing) (past : List Entry) : Type 0 where
  pub not_stale : stale sample a.page past ≡ false
  pub own_page : page ≡ a.page
  pub is_named : Names a.kind backing (named (flat past) a.page)

abbrev pub Installs : ℕ → List Entry → Fault → Type 0
Installs page past (Faulting a missed sample look (Some gotten)) = InstallIsRight page a sample gotten.backing past
Installs page past _ = ⊥

abbrev pub IsShut : Option ℕ → Flat → Type 0
IsShut None f = ⊥
IsShut (Some file) f = in_use file f.files ≡ false

-- after a Look for a file that isn't in use now
pub record ShutRetryIsRight (a : Aim) (sample : Option ℕ) (seen : Seen) (past : List Entry) : Type 0 where
  pub right_route : route_seen a seen past ≡ ToFile
  pub is_shut : IsShut seen.file (flat past)
  pub is_stale : stale sample a.page past ≡ true

abbrev pub Retries : List Entry → Fault → Type 0
Retries past (Faulting a missed sample look (Some gotten)) = stale sample a.page past ≡ true
Retries past (Faulting a missed sample (Some seen) None) = (route_seen a seen past ≡ ToAgain) ⊎ ShutRetryIsRight a sample seen past
Retries past _ = ⊥

-- after its Get a fault's next entry is an Install or a Retry by the order of turns, so it is a Retry exactly where it is
-- stale; after a Look that found a marked slot only a Retry has the route
abbrev pub RightInstall : What → Actor → List Entry → Type 0
RightInstall (Get backing fresh) (Vcpu v) past = RightGet backing fresh past (fault v past)
RightInstall (Get backing fresh) (Caller c) past = ⊥
RightInstall (Install page level) (Vcpu v) past = Installs page past (fault v past)
RightInstall (Install page level) (Caller c) past = ⊥
RightInstall Retry (Vcpu v) past = Retries past (fault v past)
RightInstall Retry (Caller c) past = ⊥
RightInstall _ actor past = Unit {0}
