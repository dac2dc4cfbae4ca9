-- When a core has room for a turn of an actor: a turn takes no memory.
use Rattle.std.specs.Prelude.{◌≡◌, ℕ, ◌+◌, ◌-◌, ◌^◌, ◌<◌, ◌≤◌, length, Some, None, IsSome, true}
use Rattle.std.specs.declared.option.Option.{Option}
use Rattle.gm_base.specs.declared.numbers.TheConstants.{BLOCK_PAGES, COUNTER_LIMIT}
use Rattle.gm_base.specs.declared.values.Actor.{Actor}
use Rattle.gm_base.specs.declared.values.Actor.TheVariants.{Vcpu, Caller}
use Rattle.gm_callers.specs.Callers.{caller_at}
use Rattle.gm_callers.specs.Rooming.{IsRoomy}
use Rattle.gm_base.specs.Scripts.{Orders}
use Rattle.gm_base.specs.declared.calls.Ioctl.TheVariants.{Region2}
use Rattle.gm_base.specs.declared.calls.Region.{Region}
use Rattle.gm_base.specs.declared.script.Command.TheVariants.{Call as CallCommand}
use Rattle.gm_calls.specs.declared.judged.Judged.{Judged}
use Rattle.gm_calls.specs.declared.judged.Judged.TheVariants as judged
use Rattle.gm_callers.specs.declared.caller.InProgress.{InProgress}
use Rattle.gm_fault.specs.declared.ticket.Ticket.{Ticket}
use Rattle.gm_flat.specs.Calls.{wants_file}
use Rattle.gm_flat.specs.RightOrder.{next_command}
use Rattle.gm_flat.specs.declared.effect.Effect.{Effect}
use Rattle.gm_flat.specs.declared.effect.Effect.TheVariants.{Cut, Shut}
use Rattle.gm_flat.specs.declared.views.Looked.{Looked}
use Rattle.gm_flat.specs.declared.views.SlotView.{SlotView}
use Rattle.gm_state.specs.Applying.{HasBlockRoom}
use Rattle.gm_state.specs.Views.{StateView}
use Rattle.gm_store.specs.Views.{file_in, page_room, bind_room, pairs_in}
use Rattle.gm_vcpus.specs.Vcpus.{vcpu_at}
use Rattle.gm_turns.specs.declared.parts.Core.{Core}

-- a history has fewer entries than this, 2^61
abbrev pub ENTRY_LIMIT : ℕ
ENTRY_LIMIT = 2305843009213693952

-- the setup and each actor's commands
abbrev pub orders_of : Core → Orders
orders_of k = record { setup = k.setup; vcpus = k.vcpu_commands.items; callers = k.caller_commands.items }

-- the file that a fault may add pages to
abbrev pub file_of_slot : Option SlotView → Option ℕ
file_of_slot None = None
file_of_slot (Some s) = s.file

abbrev pub file_of_look : Option Looked → Option ℕ
file_of_look None = None
file_of_look (Some looked) = file_of_slot looked.slot

abbrev pub file_of_fault : Option Ticket → Option ℕ
file_of_fault None = None
file_of_fault (Some ticket) = file_of_look ticket.looked

-- there is room for a block of pages in a file that is in use; a shut one needs none: a fault that looked it up before adds
-- no page
abbrev pub HasPageRoom : StateView → Option ℕ → Type 0
HasPageRoom st None = Unit {0}
HasPageRoom st (Some file) = IsSome (file_in st.store.files file) → BLOCK_PAGES ≤ page_room (file_in st.store.files file)

-- all that is cached of a file can be freed in one turn
abbrev pub HasFreeRoom : Core → ℕ → Type 0
HasFreeRoom k file = (length (pairs_in (file_in k.state.store.files file)) ≤ k.state.freed.room) × (length (pairs_in (file_in k.state.store.files file)) + 1 ≤ k.log.spare)

-- a change in a bracket
abbrev pub HasChangeRoom : Core → Effect → Type 0
HasChangeRoom k (Cut file lo hi) = HasFreeRoom k file
HasChangeRoom k (Shut file) = HasFreeRoom k file
HasChangeRoom k effect = Unit {0}

-- a call in progress
abbrev pub HasStepRoom : Core → Judged → Type 0
HasStepRoom k (judged.Bracket effect) = HasChangeRoom k effect
HasStepRoom k (judged.Pages pages) = HasPageRoom k.state (Some pages.file)
HasStepRoom k judged = Unit {0}

-- the file that a region of the caller's next call names can bind one range more
abbrev pub CanBind : Core → ℕ → Type 0
CanBind k c = (r : Region) → next_command (orders_of k) (Caller c) k.log.past ≡ Some (CallCommand (Region2 r)) → wants_file r ≡ true → IsSome (file_in k.state.store.files r.fd) → 1 ≤ bind_room (file_in k.state.store.files r.fd)

abbrev pub HasCallRoom : Core → ℕ → Option InProgress → Type 0
HasCallRoom k c None = IsRoomy (caller_at k.callers c).spans × CanBind k c
HasCallRoom k c (Some p) = HasStepRoom k p.call.judged

-- room that an actor's turn needs
abbrev pub HasOwnRoom : Core → Actor → Type 0
HasOwnRoom k (Vcpu v) = HasPageRoom k.state (file_of_fault (vcpu_at k.vcpus v).fault)
HasOwnRoom k (Caller c) = HasCallRoom k c (caller_at k.callers c).call

-- room that every turn may need
pub record IsRoomyFor (k : Core) (a : Actor) : Type 0 where
  pub entries : 3 ≤ k.log.spare
  pub short : length k.log.past < ENTRY_LIMIT
  pub leaf : 1 ≤ k.mmu.spare
  pub kinds : 1 ≤ k.state.attrs.call_spare
  pub blocks : HasBlockRoom k.state
  pub files : 1 ≤ k.state.store.spare
  pub numbers : length k.state.store.files < 2 ^ 32 - 1
  pub serials : k.state.store.pool.next < COUNTER_LIMIT
  pub own : HasOwnRoom k a
