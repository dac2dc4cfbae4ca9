-- *histories*: what a list of entries says of its actors. (This project's own.)
-- A history stands here with its newest entry first. The position of an entry is the length of what stands before it,
-- so "at i" is a list of length i. Everything that follows is read off such a list, entry by entry.
use Rattle.std.specs.Prelude.{ℕ, suc, List, [], ◌∷◌, ◌++◌, Bool, true, false, length, not, ◌&&◌, Some, None, nat_eq, if◌then◌else◌}
use Rattle.std.specs.declared.option.Option.{Option}
use Rattle.gm_base.specs.Aim.{Aim}
use Rattle.gm_base.specs.Extent.{Extent}
use Rattle.gm_base.specs.declared.calls.Ioctl.{Ioctl}
use Rattle.gm_base.specs.declared.values.Kind.{Kind}
use Rattle.gm_base.specs.declared.values.Actor.{Actor}
use Rattle.gm_base.specs.declared.values.Actor.TheVariants.{Vcpu, Caller}
use Rattle.gm_flat.specs.declared.effect.Backing.{Backing}
use Rattle.gm_flat.specs.declared.effect.Effect.{Effect}
use Rattle.gm_flat.specs.declared.effect.Effect.TheVariants.{Mark}
use Rattle.gm_flat.specs.declared.entry.Entry.{Entry}
use Rattle.gm_flat.specs.declared.entry.What.{What}
use Rattle.gm_flat.specs.declared.entry.What.TheVariants.{Miss, Sample, Look, Get, Install, Retry, Touch, Left, Judge, Begin, Acked, Change, Page, End, Answer, Gone}

abbrev pub is_vcpu : ℕ → Actor → Bool
is_vcpu v (Vcpu u) = nat_eq u v
is_vcpu v (Caller c) = false

abbrev pub is_caller : ℕ → Actor → Bool
is_caller c (Vcpu u) = false
is_caller c (Caller d) = nat_eq d c

abbrev pub same_actor : Actor → Actor → Bool
same_actor (Vcpu v) a = is_vcpu v a
same_actor (Caller c) a = is_caller c a

-- turns

-- whether an entry is of the turn of the newest entry before it
abbrev pub same_turn : Entry → List Entry → Bool
same_turn e [] = false
same_turn e (d ∷ past) = nat_eq d.turn e.turn

-- the entries of the newest turn, in their order
abbrev pub newest_turn : List Entry → List What
newest_turn [] = []
newest_turn (e ∷ past) = if same_turn e past then newest_turn past ++ e.what ∷ [] else e.what ∷ []

-- the history before its newest turn
abbrev pub before_turn : List Entry → List Entry
before_turn [] = []
before_turn (e ∷ past) = if same_turn e past then before_turn past else past

-- the fault of a vCPU: what stands from its last Miss on, where none of Install, Retry and Left stands after that Miss

-- a Look: its own position, and what it says
pub record Seen : Type 0 where
  pub place : ℕ
  pub at : ℕ
  pub slot : Option ℕ
  pub attr : Kind
  pub file : Option ℕ

-- a Get: the position after it, and what it says
pub record Gotten : Type 0 where
  pub after : ℕ
  pub backing : Backing

-- a fault: its access, the position after its Miss, the `at` of its last Sample, its last Look and its last Get
pub data Fault : Type 0 where
  NoFault : Fault
  Faulting : (access : Aim) → (missed : ℕ) → (sample : Option ℕ) → (look : Option Seen) → (got : Option Gotten) → Fault

abbrev pub with_sample : ℕ → Fault → Fault
with_sample at NoFault = NoFault
with_sample at (Faulting access missed sample look got) = Faulting access missed (Some at) look got

abbrev pub with_look : Seen → Fault → Fault
with_look seen NoFault = NoFault
with_look seen (Faulting access missed sample look got) = Faulting access missed sample (Some seen) got

abbrev pub with_get : Gotten → Fault → Fault
with_get gotten NoFault = NoFault
with_get gotten (Faulting access missed sample look got) = Faulting access missed sample look (Some gotten)

abbrev pub fault_step : ℕ → What → Actor → ℕ → Fault → Fault
fault_step v (Miss access) a n x = if is_vcpu v a then Faulting access (suc n) None None None else x
fault_step v (Sample at) a n x = if is_vcpu v a then with_sample at x else x
fault_step v (Look at slot attr file) a n x = if is_vcpu v a then with_look (record { place = n; at = at; slot = slot; attr = attr; file = file }) x else x
fault_step v (Get backing fresh) a n x = if is_vcpu v a then with_get (record { after = suc n; backing = backing }) x else x
fault_step v (Install page level) a n x = if is_vcpu v a then NoFault else x
fault_step v Retry a n x = if is_vcpu v a then NoFault else x
fault_step v (Left why) a n x = if is_vcpu v a then NoFault else x
fault_step v _ a n x = x

abbrev pub fault : ℕ → List Entry → Fault
fault v [] = NoFault
fault v (e ∷ past) = fault_step v e.what e.actor (length past) (fault v past)

-- a call in progress: its Judge stands and its Answer doesn't; of several the latest

-- the position of its Judge, the call, whether it has made its change, and how many pages it has added one by one
pub record Call : Type 0 where
  pub judged : ℕ
  pub ioctl : Ioctl
  pub made : Bool
  pub pages : ℕ

-- a mark isn't the call's change, which follows it
abbrev pub is_mark : Effect → Bool
is_mark (Mark slot) = true
is_mark _ = false

abbrev pub with_change : Option Call → Option Call
with_change None = None
with_change (Some x) = Some (record x { made = true })

abbrev pub with_page : Option Call → Option Call
with_page None = None
with_page (Some x) = Some (record x { pages = suc x.pages })

abbrev pub call_step : ℕ → What → Actor → ℕ → Option Call → Option Call
call_step c (Judge ioctl) a n x = if is_caller c a then Some (record { judged = n; ioctl = ioctl; made = false; pages = 0 }) else x
call_step c (Change effect) a n x = if is_caller c a && not (is_mark effect) then with_change x else x
call_step c (Page index folio pages) a n x = if is_caller c a then with_page x else x
call_step c (Answer reply) a n x = if is_caller c a then None else x
call_step c _ a n x = x

abbrev pub call : ℕ → List Entry → Option Call
call c [] = None
call c (e ∷ past) = call_step c e.what e.actor (length past) (call c past)

-- a bracket: a call between its Begin and its End

-- the position of its Begin, its spans, and whether its Acked stands
pub record Bracket : Type 0 where
  pub begun : ℕ
  pub spans : List Extent
  pub acked : Bool

abbrev pub with_acked : Option Bracket → Option Bracket
with_acked None = None
with_acked (Some b) = Some (record b { acked = true })

abbrev pub bracket_step : ℕ → What → Actor → ℕ → Option Bracket → Option Bracket
bracket_step c (Begin spans) a n x = if is_caller c a then Some (record { begun = n; spans = spans.list; acked = false }) else x
bracket_step c Acked a n x = if is_caller c a then with_acked x else x
bracket_step c End a n x = if is_caller c a then None else x
bracket_step c _ a n x = x

abbrev pub bracket : ℕ → List Entry → Option Bracket
bracket c [] = None
bracket c (e ∷ past) = bracket_step c e.what e.actor (length past) (bracket c past)

-- whether a Gone of the actor stands
abbrev pub gone_step : What → Bool → Bool
gone_step Gone own = own
gone_step _ own = false

abbrev pub gone : Actor → List Entry → Bool
gone a [] = false
gone a (e ∷ past) = if gone_step e.what (same_actor a e.actor) then true else gone a past

-- how many commands the actor has ended: a Touch ends its access, a Left the access of its fault, an Answer its call
abbrev pub ends_one : What → Bool → Bool
ends_one (Touch access backing level value fill) own = own
ends_one (Left why) own = own
ends_one (Answer reply) own = own
ends_one _ own = false

abbrev pub done : Actor → List Entry → ℕ
done a [] = 0
done a (e ∷ past) = if ends_one e.what (same_actor a e.actor) then suc (done a past) else done a past
