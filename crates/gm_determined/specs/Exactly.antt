-- What comes next, told both ways: after a Look of a fault, after its Get, and after the Judge of a call that is
-- refused.
use Rattle.std.specs.Prelude.{◌≡◌, ℕ, ◌<◌, ◌*◌, ◌⊎◌, ◌↔◌, List, [], ◌∷◌, Bool, true, false, Some}
use Rattle.std.specs.declared.option.Option.{Option}
use Rattle.gm_base.specs.Aim.{Aim, address_of}
use Rattle.gm_base.specs.declared.calls.Ioctl.{Ioctl}
use Rattle.gm_base.specs.declared.numbers.TheConstants.{PAGE_BYTES}
use Rattle.gm_base.specs.declared.values.Errno.{Errno}
use Rattle.gm_base.specs.declared.values.Folio.{Folio}
use Rattle.gm_base.specs.declared.values.Level.{Level}
use Rattle.gm_flat.specs.FlatState.{Flat, FolioState, cached, in_use, is_free}
use Rattle.gm_flat.specs.Histories.{Seen}
use Rattle.gm_flat.specs.Invalidation.{stale}
use Rattle.gm_flat.specs.Plays.{turn_entries}
use Rattle.gm_flat.specs.Replay.{flat, index_in, looked_slot}
use Rattle.gm_flat.specs.RightInstall.{IsShut}
use Rattle.gm_flat.specs.RightLevel.{LevelIs}
use Rattle.gm_flat.specs.RightLook.{IsFull, NotCached, ToAgain, ToFault, ToFile, ToMmio, ToUser, exit_flags, route_seen}
use Rattle.gm_flat.specs.Slots.{user_page_of}
use Rattle.gm_flat.specs.declared.effect.Backing.{Backing}
use Rattle.gm_flat.specs.declared.effect.Backing.TheVariants.{Folio as InFolio, User}
use Rattle.gm_flat.specs.declared.effect.Exit.TheVariants.{Fault as MemoryFault, Mmio, NoFrame}
use Rattle.gm_flat.specs.declared.effect.Reply.TheVariants.{Bad}
use Rattle.gm_flat.specs.declared.entry.Entry.{Entry}
use Rattle.gm_flat.specs.declared.entry.What.{What}
use Rattle.gm_flat.specs.declared.entry.What.TheVariants.{Answer, Get, Install, Judge, Left, Retry}
use Rattle.gm_flat.specs.declared.views.SlotView.{SlotView}
use Rattle.gm_laws.specs.Stands.{Stands}

-- the folio is cached at the index of a file that is in use
abbrev pub CachedAt : Folio → Option ℕ → Option ℕ → Flat → Type 0
CachedAt folio (Some file) (Some index) f = (in_use file f.files ≡ true) × (cached file index f.cache ≡ Some folio)
CachedAt folio _ index f = ⊥

-- a frame is that of no live folio
abbrev pub HasFree : ℕ → List FolioState → Type 0
HasFree frames folios = (frame : ℕ) × (frame < frames) × (is_free frame folios ≡ true)

-- the cases after a Look, by what it looked up and by what is now

-- the route of a memory fault
abbrev pub IsFault : Aim → Seen → List Entry → Type 0
IsFault a seen past = route_seen a seen past ≡ ToFault

-- the route of an MMIO exit
abbrev pub IsMmio : Aim → Seen → List Entry → Type 0
IsMmio a seen past = route_seen a seen past ≡ ToMmio

-- the route to the slot's user page
abbrev pub IsUser : Aim → Seen → List Entry → Type 0
IsUser a seen past = route_seen a seen past ≡ ToUser

-- a slot that was marked, or the route to a file that is shut now
abbrev pub IsAgain : Aim → Seen → List Entry → Type 0
IsAgain a seen past = (route_seen a seen past ≡ ToAgain) ⊎ ((route_seen a seen past ≡ ToFile) × IsShut seen.file (flat past))

-- the route to a file that is in use now, and the folio is cached there now
abbrev pub HasFolio : Folio → Aim → Seen → List Entry → Type 0
HasFolio folio a seen past = (route_seen a seen past ≡ ToFile) × CachedAt folio seen.file (index_in a.page (looked_slot seen past)) (flat past)

-- the route to a file that is in use now, and no folio is cached there now
abbrev pub IsOpen : Aim → Seen → List Entry → Type 0
IsOpen a seen past = (route_seen a seen past ≡ ToFile) × NotCached seen.file (index_in a.page (looked_slot seen past)) (flat past)

-- one of the seven
abbrev pub OneHolds : ℕ → Aim → Seen → List Entry → Type 0
OneHolds frames a seen past = IsFault a seen past ⊎ (IsMmio a seen past ⊎ (IsUser a seen past ⊎ (IsAgain a seen past ⊎ (((folio : Folio) × HasFolio folio a seen past) ⊎ ((IsOpen a seen past × IsFull frames (flat past).folios) ⊎ (IsOpen a seen past × HasFree frames (flat past).folios))))))

-- the entry of a fault after its Look, where that is no Flush: in which of the cases it is which, and that one of them
-- holds
pub record AfterLook (frames : ℕ) (what : What) (a : Aim) (seen : Seen) (past : List Entry) : Type 0 where
  -- the memory fault's exit, with the access's kind and page
  pub fault_exits : IsFault a seen past ↔ (what ≡ Left (MemoryFault (exit_flags a.kind) (PAGE_BYTES * a.page) PAGE_BYTES))
  -- the MMIO exit, with the access's address
  pub mmio_exits : IsMmio a seen past ↔ (what ≡ Left (Mmio (address_of a)))
  -- a Get of the user page that the slot of the Look gives
  pub user_gets : IsUser a seen past ↔ ((s : SlotView) × (looked_slot seen past ≡ Some s) × (what ≡ Get (User (user_page_of s a.page)) 0))
  -- a Retry
  pub again_retries : IsAgain a seen past ↔ (what ≡ Retry)
  -- a Get of the folio that is cached
  pub cached_gets : (folio : Folio) → HasFolio folio a seen past ↔ (what ≡ Get (InFolio folio) 0)
  -- where every frame is that of a live folio, the exit without a reason
  pub full_exits : (IsOpen a seen past × IsFull frames (flat past).folios) ↔ (what ≡ Left NoFrame)
  -- where a frame is free, a Get of a new folio
  pub free_gets : (IsOpen a seen past × HasFree frames (flat past).folios) ↔ ((backing : Backing) × (fresh : ℕ) × (what ≡ Get backing fresh) × (0 < fresh))
  pub one_holds : OneHolds frames a seen past

-- the entry of a fault after its Get, where that is no Flush: a Retry where the fault is stale now, else an Install of
-- the access's page, at the level that is right now
pub record AfterGet (huge : Bool) (what : What) (a : Aim) (sample : Option ℕ) (past : List Entry) : Type 0 where
  pub stale_retries : (stale sample a.page past ≡ true) ↔ (what ≡ Retry)
  pub fresh_installs : (stale sample a.page past ≡ false) ↔ ((level : Level) × (what ≡ Install a.page level) × LevelIs level huge a.page past)

-- a Judge's turn has one entry more, which stands right after it: the Answer with that errno
pub record OnlyAnswers (errno : Errno) (ioctl : Ioctl) (e : Entry) (past history : List Entry) : Type 0 where
  pub next : Stands (record { turn = e.turn; actor = e.actor; what = Answer (Bad errno) }) (e ∷ past) history
  pub alone : turn_entries e.turn history ≡ Judge ioctl ∷ (Answer (Bad errno) ∷ [])
