-- A core in which an actor has a command more: it is settled, and has room for whatever it had room for.
use Rattle.std.proofs.Common.{◌≡◌, ℕ, List, [], ◌∷◌, ◌++◌, false, Option, Some, None, Result, Ok, Err, slice_get, slice_index_or, zero, suc, sym, ◌∙◌, ap, subst, inl, inr}
use Rattle.std.proofs.lemmas.List.{length-set}
use Rattle.std.specs.Prelude.{IfSome, OnErr}
use Rattle.gm_base.specs.Scripts.{Orders}
use Rattle.gm_base.specs.declared.calls.Ioctl.TheVariants.{Region2}
use Rattle.gm_base.specs.declared.calls.Region.{Region}
use Rattle.gm_base.specs.declared.script.Command.{Command}
use Rattle.gm_base.specs.declared.script.Command.TheVariants.{Call as CallCommand}
use Rattle.gm_base.specs.declared.values.Actor.{Actor}
use Rattle.gm_base.specs.declared.values.Actor.TheVariants.{Vcpu, Caller}
use Rattle.gm_callers.specs.Callers.{caller_at}
use Rattle.gm_callers.specs.declared.caller.InProgress.{InProgress}
use Rattle.gm_calls.specs.declared.judged.Judged.{Judged}
use Rattle.gm_calls.specs.declared.judged.Judged.TheVariants as judged
use Rattle.gm_flat.specs.Histories.{gone}
use Rattle.gm_flat.specs.RightOrder.{next_command}
use Rattle.gm_flat.specs.declared.effect.Effect.{Effect}
use Rattle.gm_flat.specs.declared.effect.Effect.TheVariants.{Cut, Shut}
use Rattle.gm_flat.specs.declared.entry.Entry.{Entry}
use Rattle.gm_laws.proofs.RightIsRuled.{ruled}
use Rattle.gm_laws.proofs.RuledIsRight.{right}
use Rattle.gm_laws.specs.Ruled.{Ruled}
use Rattle.gm_state.specs.Views.{StateView}
use Rattle.gm_store.specs.Rooms.{HasRoom}
use Rattle.gm_store.specs.Views.{file_in}
use Rattle.gm_turns.proofs.Longer.{list_longer, next_was, right_longer}
use Rattle.gm_turns.proofs.Rooming.{bind_made, roomier, settled_still}
use Rattle.gm_turns.specs.HasMoreRoom.{CoreHasMoreRoom}
use Rattle.gm_turns.specs.Needs.{region_file}
use Rattle.gm_turns.specs.Pushing.{HasRoomToBind, IsFor, IsLonger, list_with, with_command}
use Rattle.gm_turns.specs.Ready.{Commanded, CoreStands, IsAccess, IsIoctl, Settled}
use Rattle.gm_turns.specs.Room.{CanBind, HasCallRoom, HasChangeRoom, HasOwnRoom, HasStepRoom, IsRoomyFor, orders_of}
use Rattle.gm_turns.specs.Turning.{IsRoomier}
use Rattle.gm_turns.specs.declared.parts.Core.{Core}

-- each actor has a list of commands of its kind

longer_get : (P : Command → Type 0) (xs : List Command) (command : Command) (k : ℕ) → P command → IfSome (slice_get xs k) P → IfSome (slice_get (xs ++ command ∷ []) k) P
longer_get P [] command zero own h = own
longer_get P [] command (suc k) own h = tt
longer_get P (x ∷ xs) command zero own h = h
longer_get P (x ∷ xs) command (suc k) own h = longer_get P xs command k own h

of_kind : (P : Command → Type 0) (lists : List (List Command)) (number : ℕ) (command : Command) → P command → ((i k : ℕ) → IfSome (slice_get (slice_index_or lists i []) k) P) → (i k : ℕ) → IfSome (slice_get (slice_index_or (list_with number command lists) i []) k) P
of_kind P lists number command own h i k = elim (list_longer lists number i command) [
  | inl e ↦ subst (λ (xs : List Command). IfSome (slice_get xs k) P) (sym e) (h i k)
  | inr e ↦ subst (λ (xs : List Command). IfSome (slice_get xs k) P) (sym e.1) (longer_get P (slice_index_or lists i []) command k own (h i k))
]

commanded_longer : (o : Orders) (a : Actor) (command : Command) → IsFor a command → Commanded o → Commanded (with_command o a command)
commanded_longer o (Vcpu v) command own h = record {
  vcpu_lists = length-set o.vcpus v (slice_index_or o.vcpus v [] ++ command ∷ []) ∙ h.vcpu_lists;
  caller_lists = h.caller_lists;
  touches = of_kind IsAccess o.vcpus v command own h.touches;
  calls = h.calls;
}
commanded_longer o (Caller c) command own h = record {
  vcpu_lists = h.vcpu_lists;
  caller_lists = length-set o.callers c (slice_index_or o.callers c [] ++ command ∷ []) ∙ h.caller_lists;
  touches = h.touches;
  calls = of_kind IsIoctl o.callers c command own h.calls;
}

-- the core with the lists of another

abbrev pub with_lists : Core → Core → Core
with_lists k n = record k { vcpu_commands = n.vcpu_commands; caller_commands = n.caller_commands }

stands_with : (k n : Core) → CoreStands k → CoreStands (with_lists k n)
stands_with k n t = record { vcpus = t.vcpus; callers = t.callers; mapping = t.mapping; state = t.state }

settled_with : (k n : Core) → Commanded (orders_of (with_lists k n)) → Ruled (orders_of (with_lists k n)) k.log.past → Settled k → Settled (with_lists k n)
settled_with k n commanded follows t = record {
  stands = stands_with k n t.stands;
  commanded = commanded;
  limits = t.limits;
  ruled = follows;
  new_turn = t.new_turn;
}

ruled_longer : (o : Orders) (a : Actor) (command : Command) (past : List Entry) → gone a past ≡ false → Ruled o past → Ruled (with_command o a command) past
ruled_longer o a command past g r = ruled (with_command o a command) past (right_longer o a command past g (right o past r))

pub settled_longer : (k n : Core) (a : Actor) (command : Command) → n ≡ with_lists k n → orders_of n ≡ with_command (orders_of k) a command → IsFor a command → gone a k.log.past ≡ false → Settled k → Settled n
settled_longer k n a command same o own g t =
    let e : with_command (orders_of k) a command ≡ orders_of (with_lists k n) = sym o ∙ ap orders_of same in
    subst Settled (sym same) (settled_with k n (subst Commanded e (commanded_longer (orders_of k) a command own t.commanded)) (subst (λ (x : Orders). Ruled x k.log.past) e (ruled_longer (orders_of k) a command k.log.past g t.ruled)) t)

-- room stays

change_with : (k n : Core) (effect : Effect) → HasChangeRoom k effect → HasChangeRoom (with_lists k n) effect
change_with k n (Cut file lo hi) r = r
change_with k n (Shut file) r = r
change_with k n effect r = tt

step_with : (k n : Core) (j : Judged) → HasStepRoom k j → HasStepRoom (with_lists k n) j
step_with k n (judged.Bracket effect) r = change_with k n effect r
step_with k n (judged.Pages pages) r = r
step_with k n j r = tt

call_with : (k n : Core) (c : ℕ) (x : Option InProgress) → (CanBind k c → CanBind (with_lists k n) c) → HasCallRoom k c x → HasCallRoom (with_lists k n) c x
call_with k n c None bind r = (r.0, bind r.1)
call_with k n c (Some p) bind r = step_with k n p.call.judged r

own_with : (k n : Core) (a : Actor) → ((c : ℕ) → CanBind k c → CanBind (with_lists k n) c) → HasOwnRoom k a → HasOwnRoom (with_lists k n) a
own_with k n (Vcpu v) bind r = r
own_with k n (Caller c) bind r = call_with k n c (caller_at k.callers c).call (bind c) r

pub roomy_with : (k n : Core) (a : Actor) → n ≡ with_lists k n → ((c : ℕ) → CanBind k c → CanBind (with_lists k n) c) → IsRoomyFor k a → IsRoomyFor n a
roomy_with k n a same bind r = subst (λ (x : Core). IsRoomyFor x a) (sym same) (record {
  entries = r.entries;
  short = r.short;
  leaf = r.leaf;
  kinds = r.kinds;
  blocks = r.blocks;
  files = r.files;
  numbers = r.numbers;
  serials = r.serials;
  own = own_with k n a bind r.own;
})

-- the next command that a caller has now is the one that it had, or the command more
binds_longer : (k n : Core) (a : Actor) (command : Command) (c : ℕ) → n ≡ with_lists k n → orders_of n ≡ with_command (orders_of k) a command → HasRoomToBind k.state command → CanBind k c → CanBind (with_lists k n) c
binds_longer k n a command c same o room b = λ r next wants there.
    let e : orders_of (with_lists k n) ≡ with_command (orders_of k) a command = sym (ap orders_of same) ∙ o in
    let longer : next_command (with_command (orders_of k) a command) (Caller c) k.log.past ≡ Some (CallCommand (Region2 r)) = sym (ap (λ (x : Orders). next_command x (Caller c) k.log.past) e) ∙ next in
    elim (next_was (orders_of k) a (Caller c) command (CallCommand (Region2 r)) k.log.past longer) [
      | inl was ↦ b r was wants there
      | inr is ↦ room r is there
    ]

binds_same : (k n : Core) (c : ℕ) → n ≡ with_lists k n → orders_of n ≡ orders_of k → CanBind k c → CanBind (with_lists k n) c
binds_same k n c same o b = λ r next wants there.
    let e : orders_of (with_lists k n) ≡ orders_of k = sym (ap orders_of same) ∙ o in
    b r (sym (ap (λ (x : Orders). next_command x (Caller c) k.log.past) e) ∙ next) wants there

-- the command is there

pub longer : (k m n : Core) (a : Actor) (command : Command) → CoreHasMoreRoom k m → HasRoomToBind m.state command → n ≡ with_lists m n → orders_of n ≡ with_command (orders_of m) a command → IsFor a command → gone a k.log.past ≡ false → Settled k → IsLonger k n a command
longer k m n a command more room same o own g t =
    let first = roomier k m more in
    record {
      orders = o ∙ ap (λ (x : Orders). with_command x a command) first.orders;
      past = ap (λ (x : Core). x.log.past) same ∙ first.past;
      turns = ap (λ (x : Core). x.turns) same ∙ first.turns;
      settled = settled_longer m n a command same o own (ap (λ (past : List Entry). gone a past) first.past ∙ g) (settled_still k m more t);
      kept = λ b r. roomy_with m n b same (λ c k_binds. binds_longer m n a command c same o room k_binds) (first.kept b r);
    }

-- it isn't, since there was no memory for it

settled_same : (k n : Core) → n ≡ with_lists k n → orders_of n ≡ orders_of k → Settled k → Settled n
settled_same k n same o t =
    let e : orders_of k ≡ orders_of (with_lists k n) = sym o ∙ ap orders_of same in
    subst Settled (sym same) (settled_with k n (subst Commanded e t.commanded) (subst (λ (x : Orders). Ruled x k.log.past) e t.ruled) t)

pub not_longer : (k m n : Core) → CoreHasMoreRoom k m → n ≡ with_lists m n → orders_of n ≡ orders_of m → IsRoomier k n
not_longer k m n more same o =
    let first = roomier k m more in
    record {
      orders = o ∙ first.orders;
      past = ap (λ (x : Core). x.log.past) same ∙ first.past;
      turns = ap (λ (x : Core). x.turns) same ∙ first.turns;
      settled = λ t. settled_same m n same o (first.settled t);
      kept = λ b r. roomy_with m n b same (λ c binds. binds_same m n c same o binds) (first.kept b r);
    }

-- room for a range more in the file that the command's region names

file_named : (r : Region) (command : Command) (file : ℕ) → region_file (Some command) ≡ Some file → command ≡ CallCommand (Region2 r) → r.fd ≡ file
file_named r command file e is = same r.fd file (sym (ap (λ (x : Command). region_file (Some x)) is) ∙ e)
  where
    same : (a b : ℕ) → Some a ≡ Some b → a ≡ b
    same a b e = cc

pub room_to_bind : (st : StateView) (command : Command) (file : ℕ) → region_file (Some command) ≡ Some file → HasRoom 0 1 (file_in st.store.files file) → HasRoomToBind st command
room_to_bind st command file e room = λ r is there.
    bind_made (file_in st.store.files r.fd) there (subst (λ (n : ℕ). HasRoom 0 1 (file_in st.store.files n)) (sym (file_named r command file e is)) room)

names_none : (n : ℕ) → Some n ≡ None → ⊥
names_none n e = cc

pub nothing_to_bind : (st : StateView) (command : Command) → region_file (Some command) ≡ None → HasRoomToBind st command
nothing_to_bind st command e = λ r is there. absurd (names_none r.fd (sym (ap (λ (x : Command). region_file (Some x)) is) ∙ e))

-- at an error

pub err_any : {A E P : Type 0} (r : Result A E) → P → OnErr r P
err_any (Ok x) h = tt
err_any (Err e) h = h

pub on_err : {A E P Q : Type 0} (r : Result A E) → (P → Q) → OnErr r P → OnErr r Q
on_err (Ok x) f h = tt
on_err (Err e) f h = f h
