-- When a core is ready for a turn of an actor, and what a turn does to it.
use Rattle.std.specs.Prelude.{◌≡◌, ℕ, ◌+◌, ◌-◌, ◌^◌, ◌<◌, ◌≤◌, Bool, true, false, List, [], ◌∷◌, length, IfSome, slice_get, slice_index_or}
use Rattle.gm_base.specs.Scripts.{Orders, IsOf}
use Rattle.gm_base.specs.declared.numbers.TheConstants.{MOST_CALLERS, MOST_FRAMES, MOST_USER_PAGES, MOST_VCPUS}
use Rattle.gm_base.specs.declared.script.Command.{Command}
use Rattle.gm_base.specs.declared.script.Command.TheVariants.{Touch, Call}
use Rattle.gm_base.specs.declared.values.Actor.{Actor}
use Rattle.gm_base.specs.declared.values.Setup.{Setup}
use Rattle.gm_callers.specs.Stand.{CallersStand}
use Rattle.gm_flat.specs.Plays.{is_kick}
use Rattle.gm_flat.specs.declared.entry.Entry.{Entry}
use Rattle.gm_flat.specs.declared.entry.What.{What}
use Rattle.gm_flat.specs.declared.entry.What.TheVariants.{Look, Sample}
use Rattle.gm_laws.specs.Ruled.{Ruled}
use Rattle.gm_laws.specs.Turns.{IsNewTurn, IsTurn, onto}
use Rattle.gm_mapping.specs.Mapping.{MappingStands}
use Rattle.gm_turns.specs.Standing.{StateStands}
use Rattle.gm_vcpus.specs.Stand.{VcpusStand}
use Rattle.gm_turns.specs.Room.{IsRoomyFor, orders_of}
use Rattle.gm_turns.specs.declared.parts.Core.{Core}

-- the groups stand for the history
pub record CoreStands (k : Core) : Type 0 where
  pub vcpus : VcpusStand k.setup k.vcpus k.log.past
  pub callers : CallersStand k.setup k.callers k.log.past
  pub mapping : MappingStands k.setup k.mmu k.log.past
  pub state : StateStands k.setup k.state k.log.past

-- a command of a vCPU, and one of a caller
abbrev pub IsAccess : Command → Type 0
IsAccess (Touch a) = Unit {0}
IsAccess (Call ioctl) = ⊥

abbrev pub IsIoctl : Command → Type 0
IsIoctl (Touch a) = ⊥
IsIoctl (Call ioctl) = Unit {0}

-- each actor has a list of commands of its kind
pub record Commanded (o : Orders) : Type 0 where
  pub vcpu_lists : length o.vcpus ≡ o.setup.vcpus
  pub caller_lists : length o.callers ≡ o.setup.callers
  pub touches : (v k : ℕ) → IfSome (slice_get (slice_index_or o.vcpus v []) k) IsAccess
  pub calls : (c k : ℕ) → IfSome (slice_get (slice_index_or o.callers c []) k) IsIoctl

-- the setup is within the limits
pub record IsWithinLimits (s : Setup) : Type 0 where
  pub frames : s.frames ≤ MOST_FRAMES
  pub user : s.user ≤ MOST_USER_PAGES
  pub vcpus : s.vcpus ≤ MOST_VCPUS
  pub callers : s.callers ≤ MOST_CALLERS

-- between two turns
pub record Settled (k : Core) : Type 0 where
  pub stands : CoreStands k
  pub commanded : Commanded (orders_of k)
  pub limits : IsWithinLimits k.setup
  pub ruled : Ruled (orders_of k) k.log.past
  pub new_turn : IsNewTurn (k.turns + 1) k.log.past

-- a turn of the actor may be taken, and there is room for it
pub record IsReady (k : Core) (a : Actor) : Type 0 where
  pub settled : Settled k
  pub actor_is : IsOf k.setup a
  pub room : IsRoomyFor k a
  pub counted : k.turns < 2 ^ 64 - 1

-- with an entry of the turn that is being taken
abbrev pub noted : Core → Actor → What → Core
noted k a w = record k { log = record { past = record { turn = k.turns + 1; actor = a; what = w } ∷ k.log.past; spare = k.log.spare - 1 } }

-- none of them is a sample or a look
abbrev pub HasNoLook : List What → Type 0
HasNoLook [] = Unit {0}
HasNoLook (Sample at ∷ ws) = ⊥
HasNoLook (Look at slot attr file ∷ ws) = ⊥
HasNoLook (w ∷ ws) = HasNoLook ws

-- each sample and each look is at its own position, and alone in its turn
abbrev pub IsHereAlone : List What → List Entry → Type 0
IsHereAlone [] past = Unit {0}
IsHereAlone (Sample at ∷ ws) past = (at ≡ length past) × (ws ≡ [])
IsHereAlone (Look at slot attr file ∷ ws) past = (at ≡ length past) × (ws ≡ [])
IsHereAlone (w ∷ ws) past = HasNoLook ws

-- a turn of the actor, or a kick of it: its entries by the tables, and no other
pub record TookTurn (o : Orders) (turn : ℕ) (actor : Actor) (kick : Bool) (before past : List Entry) : Type 0 where
  pub entries : List What
  pub past_is : past ≡ onto turn actor entries before
  pub by_tables : IsTurn o turn actor entries before
  pub kick_is : is_kick entries ≡ kick
  pub here : IsHereAlone entries before

-- a turn was taken, or a kick
pub record Turned (old new : Core) (a : Actor) (kick : Bool) : Type 0 where
  pub stands : CoreStands new
  pub ruled : Ruled (orders_of new) new.log.past
  pub orders : orders_of new ≡ orders_of old
  pub turns : new.turns ≡ old.turns
  pub next : IsNewTurn (old.turns + 2) new.log.past
  pub took : TookTurn (orders_of old) (old.turns + 1) a kick old.log.past new.log.past
