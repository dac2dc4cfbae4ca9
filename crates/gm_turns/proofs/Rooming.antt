-- A core with more room is settled as before, and has room for whatever it had room for.
use Rattle.std.proofs.Common.{◌≡◌, ℕ, ◌+◌, ◌<◌, ◌≤◌, List, [], Result, Ok, Err, set, slice_get, slice_index_or, zero, suc, ◌∷◌, length, Option, Some, None, arith, refl, ◌∙◌, ap, sym, subst}
use Rattle.std.specs.Prelude.{IsSome, OnOk}
use Rattle.gm_base.specs.Scripts.{Orders}
use Rattle.gm_base.specs.declared.script.Command.{Command}
use Rattle.gm_base.specs.declared.values.Actor.{Actor}
use Rattle.gm_base.specs.declared.values.Actor.TheVariants.{Vcpu, Caller}
use Rattle.gm_base.specs.declared.values.Folio.{Folio}
use Rattle.gm_callers.specs.Callers.{caller_at}
use Rattle.gm_callers.proofs.NextCommand.{next_is}
use Rattle.gm_callers.specs.Rooming.{reserved}
use Rattle.gm_callers.specs.Stand.{CallersStand}
use Rattle.gm_callers.specs.declared.caller.Caller.{Caller as OfCaller}
use Rattle.gm_callers.specs.declared.caller.InProgress.{InProgress}
use Rattle.gm_calls.specs.declared.judged.Judged.{Judged}
use Rattle.gm_calls.specs.declared.judged.Judged.TheVariants as judged
use Rattle.gm_file.specs.Views.{FileView}
use Rattle.gm_flat.specs.RightOrder.{command_at, next_command}
use Rattle.gm_flat.specs.declared.effect.Effect.{Effect}
use Rattle.gm_flat.specs.declared.effect.Effect.TheVariants.{Cut, Shut}
use Rattle.gm_flat.specs.declared.entry.Entry.{Entry}
use Rattle.gm_laws.specs.Ruled.{Ruled}
use Rattle.gm_laws.specs.Turns.{IsNewTurn}
use Rattle.gm_mapping.specs.Mapping.{MappingStands}
use Rattle.gm_mmu.specs.Served.{Serving}
use Rattle.gm_state.proofs.Rooming.{more_over, same_state}
use Rattle.gm_state.specs.Applying.{HasBlockRoom}
use Rattle.gm_state.specs.HasMoreRoom.{StateHasMoreRoom}
use Rattle.gm_state.specs.Views.{StateView}
use Rattle.gm_store.specs.Rooms.{HasRoom, RoomKept, with_room}
use Rattle.gm_store.specs.Views.{StoreView, bind_room, file_in, page_room, pairs_in}
use Rattle.gm_vcpus.specs.Stand.{VcpusStand}
use Rattle.gm_vcpus.specs.Vcpus.{vcpu_at}
use Rattle.gm_turns.proofs.Reserved.{callers_more, same_callers}
use Rattle.gm_turns.specs.HasMoreRoom.{CallersHaveMoreRoom, CoreHasMoreRoom, HasCommonRoom, judged_of}
use Rattle.gm_turns.specs.Needs.{region_file}
use Rattle.gm_turns.specs.Ready.{CoreStands, Settled}
use Rattle.gm_turns.specs.Room.{CanBind, HasCallRoom, HasChangeRoom, HasFreeRoom, HasOwnRoom, HasPageRoom, HasStepRoom, IsRoomyFor, file_of_fault, orders_of}
use Rattle.gm_turns.specs.Standing.{StateStands, memory_of}
use Rattle.gm_turns.specs.Turning.{IsRoomier}
use Rattle.gm_turns.specs.declared.parts.Core.{Core}

-- one step after another
callers_over : (x y z : List OfCaller) → CallersHaveMoreRoom x y → CallersHaveMoreRoom y z → CallersHaveMoreRoom x z
callers_over x y z h g = record {
  stands = λ s past k. g.stands s past (h.stands s past k);
  judged = λ c. g.judged c ∙ h.judged c;
  roomy = λ c k. g.roomy c (h.roomy c k);
}

pub core_over : (x y z : Core) → CoreHasMoreRoom x y → CoreHasMoreRoom y z → CoreHasMoreRoom x z
core_over x y z h g =
    let a = h.entries in
    let b = g.entries in
    let c = h.leaves in
    let d = g.leaves in
    record {
      same = g.same ∙ ap (λ (k : Core). record k { log = z.log; mmu = z.mmu; callers = z.callers; state = z.state }) h.same;
      past = g.past ∙ h.past;
      entries = omega arith;
      mmu_is = g.mmu_is ∙ ap (λ (m : Serving). record m { spare = z.mmu.spare }) h.mmu_is;
      leaves = omega arith;
      callers = callers_over x.callers y.callers z.callers h.callers g.callers;
      state = more_over x.state y.state z.state h.state g.state;
    }

-- it stands

state_stands : (k : Core) (st : StateView) (past : List Entry) → StateHasMoreRoom k.state st → StateStands k.setup k.state past → StateStands k.setup st past
state_stands k st past more t =
    let e : st.slots.generation ≡ k.state.slots.generation = ap (λ (x : StateView). x.slots.generation) more.others in
    let g = t.generation in
    record { is = more.stands k.setup (memory_of k.setup past) t.is; generation = omega arith }

mapping_stands : (k : Core) (n : ℕ) → MappingStands k.setup k.mmu k.log.past → MappingStands k.setup (record k.mmu { spare = n }) k.log.past
mapping_stands k n g = record {
  seat_count = g.seat_count;
  buffer_count = g.buffer_count;
  asked_is = g.asked_is;
  seats_are = g.seats_are;
  none_beyond = g.none_beyond;
  buffers_are = g.buffers_are;
  leaves_are = g.leaves_are;
  count_is = g.count_is;
  range_is = g.range_is;
  seq_is = g.seq_is;
}

-- the core with these parts in place of its own
abbrev with_parts : Core → Core → Core
with_parts k n = record k { log = n.log; mmu = n.mmu; callers = n.callers; state = n.state }

core_stands : (k n : Core) → CoreHasMoreRoom k n → CoreStands k → CoreStands (with_parts k n)
core_stands k n h t = record {
  vcpus = subst (VcpusStand k.setup k.vcpus) (sym h.past) t.vcpus;
  callers = subst (CallersStand k.setup n.callers) (sym h.past) (h.callers.stands k.setup k.log.past t.callers);
  mapping = subst (MappingStands k.setup n.mmu) (sym h.past) (subst (λ (m : Serving). MappingStands k.setup m k.log.past) (sym h.mmu_is) (mapping_stands k n.mmu.spare t.mapping));
  state = subst (StateStands k.setup n.state) (sym h.past) (state_stands k n.state k.log.past h.state t.state);
}

settled_with : (k n : Core) → CoreHasMoreRoom k n → Settled k → Settled (with_parts k n)
settled_with k n h t = record {
  stands = core_stands k n h t.stands;
  commanded = t.commanded;
  limits = t.limits;
  ruled = subst (Ruled (orders_of k)) (sym h.past) t.ruled;
  new_turn = subst (IsNewTurn (k.turns + 1)) (sym h.past) t.new_turn;
}

pub settled_still : (k n : Core) → CoreHasMoreRoom k n → Settled k → Settled n
settled_still k n h t = subst Settled (sym h.same) (settled_with k n h t)

-- and room stays

pairs_still : (p b : ℕ) (x : Option FileView) → pairs_in (with_room p b x) ≡ pairs_in x
pairs_still p b None = refl
pairs_still p b (Some x) = refl

pub same_pairs : (x y : Option FileView) → RoomKept x y → pairs_in y ≡ pairs_in x
same_pairs x y h = ap pairs_in h.file_is ∙ pairs_still (page_room y) (bind_room y) x

was_some : (x y : Option FileView) → RoomKept x y → IsSome y → IsSome x
was_some None y h s = subst (λ (o : Option FileView). IsSome o) h.file_is s
was_some (Some x) y h s = refl

page_room_still : (old new : StateView) (file : Option ℕ) → StateHasMoreRoom old new → HasPageRoom old file → HasPageRoom new file
page_room_still old new None h r = tt
page_room_still old new (Some file) h r = λ there.
    let x = file_in old.store.files file in
    let y = file_in new.store.files file in
    let more = h.rooms.each file in
    let le = more.pages_not_less in
    let own : 512 ≤ page_room x = r (was_some x y more there) in
    omega arith

free_room_still : (k n : Core) (file : ℕ) → CoreHasMoreRoom k n → HasFreeRoom k file → HasFreeRoom n file
free_room_still k n file h r =
    let e : length (pairs_in (file_in n.state.store.files file)) ≡ length (pairs_in (file_in k.state.store.files file)) = ap (λ (ps : List (ℕ × Folio)). length ps) (same_pairs (file_in k.state.store.files file) (file_in n.state.store.files file) (h.state.rooms.each file)) in
    let a = r.0 in
    let b = r.1 in
    let c = h.state.freed in
    let d = h.entries in
    (omega arith, omega arith)

change_room_still : (k n : Core) (effect : Effect) → CoreHasMoreRoom k n → HasChangeRoom k effect → HasChangeRoom n effect
change_room_still k n (Cut file lo hi) h r = free_room_still k n file h r
change_room_still k n (Shut file) h r = free_room_still k n file h r
change_room_still k n effect h r = tt

step_room_still : (k n : Core) (j : Judged) → CoreHasMoreRoom k n → HasStepRoom k j → HasStepRoom n j
step_room_still k n (judged.Bracket effect) h r = change_room_still k n effect h r
step_room_still k n (judged.Pages pages) h r = page_room_still k.state n.state (Some pages.file) h.state r
step_room_still k n j h r = tt

same_next : (k n : Core) (c : ℕ) → CoreHasMoreRoom k n → next_command (orders_of n) (Caller c) n.log.past ≡ next_command (orders_of k) (Caller c) k.log.past
same_next k n c h =
    ap (λ (o : Orders). next_command o (Caller c) n.log.past) (ap orders_of h.same) ∙ ap (λ (past : List Entry). next_command (orders_of k) (Caller c) past) h.past

pub can_bind_still : (k n : Core) (c : ℕ) → CoreHasMoreRoom k n → CanBind k c → CanBind n c
can_bind_still k n c h b = λ r command wants there.
    let x = file_in k.state.store.files r.fd in
    let y = file_in n.state.store.files r.fd in
    let more = h.state.rooms.each r.fd in
    let le = more.binds_not_less in
    let own : 1 ≤ bind_room x = b r (sym (same_next k n c h) ∙ command) wants (was_some x y more there) in
    omega arith

call_room_still : (k n : Core) (c : ℕ) (x y : Option InProgress) → judged_of y ≡ judged_of x → CoreHasMoreRoom k n → HasCallRoom k c x → HasCallRoom n c y
call_room_still k n c None None e h r = (h.callers.roomy c r.0, can_bind_still k n c h r.1)
call_room_still k n c None (Some q) e h r = absurd (cc)
call_room_still k n c (Some p) None e h r = absurd (cc)
call_room_still k n c (Some p) (Some q) e h r =
    let j : q.call.judged ≡ p.call.judged = cc in
    subst (HasStepRoom n) (sym j) (step_room_still k n p.call.judged h r)

own_room_still : (k n : Core) (a : Actor) → CoreHasMoreRoom k n → HasOwnRoom k a → HasOwnRoom n a
own_room_still k n (Vcpu v) h r =
    subst (λ (x : Core). HasPageRoom n.state (file_of_fault (vcpu_at x.vcpus v).fault)) (sym h.same) (page_room_still k.state n.state (file_of_fault (vcpu_at k.vcpus v).fault) h.state r)
own_room_still k n (Caller c) h r = call_room_still k n c (caller_at k.callers c).call (caller_at n.callers c).call (h.callers.judged c) h r

block_room_still : (old new : StateView) → StateHasMoreRoom old new → HasBlockRoom old → HasBlockRoom new
block_room_still old new h r = λ is.
    let own : 128 ≤ old.attrs.block_spare = r (sym (ap (λ (x : StateView). x.huge) h.others) ∙ is) in
    let le = h.blocks in
    omega arith

pub common_still : (k n : Core) → CoreHasMoreRoom k n → HasCommonRoom k → HasCommonRoom n
common_still k n h r =
    let a = h.entries in
    let b = r.entries in
    let c = h.leaves in
    let d = r.leaf in
    let e = h.state.calls in
    let f = r.kinds in
    let g = h.state.files in
    let i = r.files in
    record {
      entries = omega arith;
      short = subst (λ (past : List Entry). length past < 2305843009213693952) (sym h.past) r.short;
      leaf = omega arith;
      kinds = omega arith;
      blocks = block_room_still k.state n.state h.state r.blocks;
      files = omega arith;
      numbers = let e : length n.state.store.files ≡ length k.state.store.files = h.state.rooms.count_is in let q = r.numbers in omega arith;
      serials = let e : n.state.store.pool.next ≡ k.state.store.pool.next = ap (λ (x : StoreView). x.pool.next) h.state.store_is in let q = r.serials in omega arith;
    }

pub common_of : (k : Core) (a : Actor) → IsRoomyFor k a → HasCommonRoom k
common_of k a r = record { entries = r.entries; short = r.short; leaf = r.leaf; kinds = r.kinds; blocks = r.blocks; files = r.files; numbers = r.numbers; serials = r.serials }

pub roomy_of : (k : Core) (a : Actor) → HasCommonRoom k → HasOwnRoom k a → IsRoomyFor k a
roomy_of k a r own = record { entries = r.entries; short = r.short; leaf = r.leaf; kinds = r.kinds; blocks = r.blocks; files = r.files; numbers = r.numbers; serials = r.serials; own = own }

pub roomier : (k n : Core) → CoreHasMoreRoom k n → IsRoomier k n
roomier k n h = record {
  orders = ap orders_of h.same;
  past = h.past;
  turns = ap (λ (x : Core). x.turns) h.same;
  settled = settled_still k n h;
  kept = λ a r. roomy_of n a (common_still k n h (common_of k a r)) (own_room_still k n a h r.own);
}

-- one caller has room for its next turn

pub callers_only : (k : Core) (cs : List OfCaller) → CallersHaveMoreRoom k.callers cs → CoreHasMoreRoom k (record k { callers = cs })
callers_only k cs h = record {
  same = refl;
  past = refl;
  entries = omega arith;
  mmu_is = refl;
  leaves = omega arith;
  callers = h;
  state = same_state k.state;
}

pub unreserved : (k : Core) (cs : List OfCaller) → cs ≡ k.callers → CoreHasMoreRoom k (record k { callers = cs })
unreserved k cs e = callers_only k cs (subst (CallersHaveMoreRoom k.callers) (sym e) (same_callers k.callers))

pub one_reserved : (k : Core) (cs : List OfCaller) (c : ℕ) → Settled k → c < k.setup.callers → cs ≡ set k.callers c (reserved (caller_at k.callers c)) → CoreHasMoreRoom k (record k { callers = cs })
one_reserved k cs c t lt e =
    let n = t.stands.callers.count_is in
    let lc : c < length k.callers = omega arith in
    callers_only k cs (subst (CallersHaveMoreRoom k.callers) (sym e) (callers_more k.callers c lc))

-- the file that its next command names can bind one range more

pub on_ok : {A E P Q : Type 0} (r : Result A E) → (P → Q) → OnOk r P → OnOk r Q
on_ok (Ok x) f h = f h
on_ok (Err e) f h = tt

command_got : (cs : List Command) (n : ℕ) → command_at cs n ≡ slice_get cs n
command_got [] n = refl
command_got (x ∷ cs) zero = refl
command_got (x ∷ cs) (suc n) = command_got cs n

-- its next command, by the number of those that it has ended
abbrev pub command_of : Core → ℕ → Option Command
command_of k c = slice_get (slice_index_or k.caller_commands.items c []) (caller_at k.callers c).ended

next_of : (k : Core) (c : ℕ) → Settled k → c < k.setup.callers → next_command (orders_of k) (Caller c) k.log.past ≡ command_of k c
next_of k c t lt = next_is (orders_of k) c t.stands.callers lt ∙ command_got (slice_index_or k.caller_commands.items c []) (caller_at k.callers c).ended

pub bind_made : (x : Option FileView) → IsSome x → HasRoom 0 1 x → 1 ≤ bind_room x
bind_made None s h = absurd (cc)
bind_made (Some x) s h = h.1

same_file : (a b : ℕ) → Some a ≡ Some b → a ≡ b
same_file a b e = cc

pub can_bind : (k : Core) (st : StateView) (c file : ℕ) → Settled k → c < k.setup.callers → region_file (command_of k c) ≡ Some file → HasRoom 0 1 (file_in st.store.files file) → CanBind (record k { state = st }) c
can_bind k st c file t lt e room = λ r command wants there.
    let q : Some r.fd ≡ Some file = sym (ap region_file (sym (next_of k c t lt) ∙ command)) ∙ e in
    let room_there : HasRoom 0 1 (file_in st.store.files r.fd) = subst (λ (n : ℕ). HasRoom 0 1 (file_in st.store.files n)) (sym (same_file r.fd file q)) room in
    bind_made (file_in st.store.files r.fd) there room_there

names_none : (n : ℕ) → Some n ≡ None → ⊥
names_none n e = cc

pub need_not_bind : (k : Core) (c : ℕ) → Settled k → c < k.setup.callers → region_file (command_of k c) ≡ None → CanBind k c
need_not_bind k c t lt e = λ r command wants there. absurd (names_none r.fd (sym (ap region_file (sym (next_of k c t lt) ∙ command)) ∙ e))
