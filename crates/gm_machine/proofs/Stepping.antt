-- Steps of a machine: what is seen of them, how they are counted, and the room that they use.
use Rattle.std.proofs.Common.{◌≡◌, ℕ, ◌+◌, ◌<◌, List, [], ◌∷◌, Bool, true, false, length, arith, subst, sym, ◌∙◌, ap, refl, inl, inr}
use Rattle.std.proofs.lemmas.Bool.{both_ways}
use Rattle.std.proofs.lemmas.List.{length-replicate}
use Rattle.gm_base.specs.Scripts.{Orders}
use Rattle.gm_base.specs.declared.script.Command.{Command}
use Rattle.gm_base.specs.declared.values.Actor.{Actor}
use Rattle.gm_base.specs.declared.values.Actor.TheVariants.{Vcpu, Caller}
use Rattle.gm_base.specs.declared.values.Setup.{Setup}
use Rattle.gm_flat.specs.declared.entry.Entry.{Entry}
use Rattle.gm_flat.specs.declared.views.Sighting.{Sighting}
use Rattle.gm_laws.proofs.RuledIsRight.{right}
use Rattle.gm_laws.specs.Ruled.{Ruled}
use Rattle.gm_laws.specs.Turns.{IsNewTurn}
use Rattle.gm_machine.proofs.Flagging.{flag_either, flag_lengths, flag_of-no_flags}
use Rattle.gm_machine.specs.Deposits.{Deposits}
use Rattle.gm_machine.specs.Flags.{Flags, flag_of, no_flags, with_flag}
use Rattle.gm_machine.specs.Room.{RoomIsKept}
use Rattle.gm_machine.specs.Steps.{Goes, Kicks, Moves, Seen}
use Rattle.gm_turns.specs.Depositing.{Deposited}
use Rattle.gm_turns.specs.Pushing.{IsLonger}
use Rattle.gm_turns.specs.Ready.{Commanded, CoreStands, IsReady, IsWithinLimits, Settled, Turned}
use Rattle.gm_turns.specs.Room.{IsRoomyFor, orders_of}
use Rattle.gm_turns.specs.Turning.{IsRoomier, Kicked, Taken}
use Rattle.gm_turns.specs.declared.parts.Core.{Core}

-- with one turn more
abbrev pub counted : Core → Core
counted k = record k { turns = k.turns + 1 }

counted_stands : (k : Core) → CoreStands k → CoreStands (counted k)
counted_stands k s = record { vcpus = s.vcpus; callers = s.callers; mapping = s.mapping; state = s.state }

later : (n : ℕ) (past : List Entry) → IsNewTurn n past → IsNewTurn (n + 1) past
later n [] h = omega arith
later n (e ∷ past) h = omega arith

-- a turn that wrote nothing
pub blank_settled : (k : Core) → Settled k → Settled (counted k)
blank_settled k s = record {
  stands = counted_stands k s.stands;
  commanded = s.commanded;
  limits = s.limits;
  ruled = s.ruled;
  new_turn = later (k.turns + 1) k.log.past s.new_turn;
}

counted_roomy : (k : Core) (a : Actor) → IsRoomyFor k a → IsRoomyFor (counted k) a
counted_roomy k (Vcpu v) r = record { entries = r.entries; short = r.short; leaf = r.leaf; kinds = r.kinds; blocks = r.blocks; files = r.files; numbers = r.numbers; serials = r.serials; own = r.own }
counted_roomy k (Caller c) r = record { entries = r.entries; short = r.short; leaf = r.leaf; kinds = r.kinds; blocks = r.blocks; files = r.files; numbers = r.numbers; serials = r.serials; own = r.own }

pub blank_room : (k : Core) (room : Flags) → RoomIsKept k room → RoomIsKept (counted k) room
blank_room k room r = record { room_vcpus = r.room_vcpus; room_callers = r.room_callers; roomy = λ a e. counted_roomy k a (r.roomy a e) }

-- a turn that was taken is counted
next_number : (n m : ℕ) (past : List Entry) → n ≡ m → IsNewTurn (m + 2) past → IsNewTurn (n + 1 + 1) past
next_number n m [] e h = omega arith
next_number n m (d ∷ past) e h = omega arith

pub counted_settled : (old new : Core) → Settled old → CoreStands new → Ruled (orders_of new) new.log.past → orders_of new ≡ orders_of old → new.turns ≡ old.turns → IsNewTurn (old.turns + 2) new.log.past → Settled (counted new)
counted_settled old new s stands ruled orders turns next = record {
  stands = counted_stands new stands;
  commanded = subst Commanded (sym orders) s.commanded;
  limits = subst IsWithinLimits (sym (ap (λ (x : Orders). x.setup) orders)) s.limits;
  ruled = ruled;
  new_turn = next_number new.turns old.turns new.log.past turns next;
}

pub turn_settled : (old new : Core) (a : Actor) (kick : Bool) → Settled old → Turned old new a kick → Settled (counted new)
turn_settled old new a kick s t = counted_settled old new s t.stands t.ruled t.orders t.turns t.next

pub deposit_settled : (old new : Core) (v : ℕ) (x : Sighting) → Settled old → Deposited old new v x → Settled (counted new)
deposit_settled old new v x s t = counted_settled old new s t.stands t.ruled t.orders t.turns t.next

-- a turn uses up all room
pub room_cleared : (old new : Core) (room : Flags) → RoomIsKept old room → orders_of new ≡ orders_of old → RoomIsKept (counted new) (no_flags (length room.vcpus) (length room.callers))
room_cleared old new room r o = record {
  room_vcpus = length-replicate (length room.vcpus) false ∙ (r.room_vcpus ∙ sym (ap (λ (x : Orders). x.setup.vcpus) o));
  room_callers = length-replicate (length room.callers) false ∙ (r.room_callers ∙ sym (ap (λ (x : Orders). x.setup.callers) o));
  roomy = λ a e. absurd (both_ways _ (flag_of-no_flags (length room.vcpus) (length room.callers) a) e);
}

-- more room is kept, and an actor may have it as well
pub room_roomier : (old new : Core) (room : Flags) → IsRoomier old new → RoomIsKept old room → RoomIsKept new room
room_roomier old new room m r = record {
  room_vcpus = r.room_vcpus ∙ sym (ap (λ (x : Orders). x.setup.vcpus) m.orders);
  room_callers = r.room_callers ∙ sym (ap (λ (x : Orders). x.setup.callers) m.orders);
  roomy = λ a e. m.kept a (r.roomy a e);
}

-- and where an actor has a command more
pub room_longer : (old new : Core) (room : Flags) (a : Actor) (command : Command) → IsLonger old new a command → RoomIsKept old room → RoomIsKept new room
room_longer old new room a command l r = record {
  room_vcpus = r.room_vcpus ∙ sym (ap (λ (x : Orders). x.setup.vcpus) l.orders);
  room_callers = r.room_callers ∙ sym (ap (λ (x : Orders). x.setup.callers) l.orders);
  roomy = λ b e. l.kept b (r.roomy b e);
}

pub room_set : (k : Core) (room : Flags) (a : Actor) → RoomIsKept k room → IsRoomyFor k a → RoomIsKept k (with_flag room a)
room_set k room a r own = record {
  room_vcpus = (flag_lengths room a).0 ∙ r.room_vcpus;
  room_callers = (flag_lengths room a).1 ∙ r.room_callers;
  roomy = λ b e. elim (flag_either room a b e) [
    | inl same ↦ subst (IsRoomyFor k) same own
    | inr other ↦ r.roomy b other
  ];
}

-- a new machine has no room
pub room_none : (k : Core) (s : Setup) → k.setup ≡ s → RoomIsKept k (no_flags s.vcpus s.callers)
room_none k s e = record {
  room_vcpus = length-replicate s.vcpus false ∙ sym (ap (λ (x : Setup). x.vcpus) e);
  room_callers = length-replicate s.callers false ∙ sym (ap (λ (x : Setup). x.callers) e);
  roomy = λ a h. absurd (both_ways _ (flag_of-no_flags s.vcpus s.callers a) h);
}

abbrev pub seen_of : Core → Flags → Seen
seen_of k room = record { orders = orders_of k; past = k.log.past; turns = k.turns; room = room }

moved : (old new : Core) (room : Flags) (a : Actor) (kick : Bool) → Turned old new a kick → Moves (seen_of old room) (seen_of (counted new) (no_flags (length room.vcpus) (length room.callers))) a kick
moved old new room a kick t = record {
  orders = t.orders;
  turn = t.took;
  right = right (orders_of new) new.log.past t.ruled;
  turns = ap (λ (n : ℕ). n + 1) t.turns;
  room = refl;
}

pub stepped : (old new : Core) (room : Flags) (a : Actor) → Taken old new a → Goes (seen_of old room) (seen_of (counted new) (no_flags (length room.vcpus) (length room.callers))) a
stepped old new room a t = record { present = t.present; unblocked = t.unblocked; moves = moved old new room a false t.turned }

pub kicked : (old new : Core) (v : ℕ) (room : Flags) → Kicked old new v → Kicks (seen_of old room) (seen_of (counted new) (no_flags (length room.vcpus) (length room.callers))) v
kicked old new v room t = record { was_pending = t.was_pending; moves = moved old new room (Vcpu v) true t.turned }

-- a vCPU with room is ready for a turn
pub vcpu_ready : (k : Core) (room : Flags) (v : ℕ) (m : Seen) → seen_of k room ≡ m → Settled k → RoomIsKept k room → v < m.orders.setup.vcpus → flag_of m.room (Vcpu v) ≡ true → m.turns < 18446744073709551615 → IsReady k (Vcpu v)
vcpu_ready k room v m e s r actor flag few = record {
  settled = s;
  actor_is = subst (λ (x : Seen). v < x.orders.setup.vcpus) (sym e) actor;
  room = r.roomy (Vcpu v) (subst (λ (x : Seen). flag_of x.room (Vcpu v) ≡ true) (sym e) flag);
  counted = subst (λ (x : Seen). x.turns < 18446744073709551615) (sym e) few;
}

-- a deposit
pub deposits : (old new : Core) (v : ℕ) (x : Sighting) (room : Flags) → Deposited old new v x → Deposits (seen_of old room) (seen_of (counted new) (no_flags (length room.vcpus) (length room.callers))) v x
deposits old new v x room t = record {
  orders = t.orders;
  past = t.past_is;
  by_tables = t.by_tables;
  right = right (orders_of new) new.log.past t.ruled;
  turns = ap (λ (n : ℕ). n + 1) t.turns;
  room = refl;
}
