-- *right order*: turns, their rows, the commands, and who waits. (This project's own; that a bracket waits for the vCPUs
-- inside is kvm_main.c's kvm_make_all_cpus_request and kvm_flush_remote_tlbs.)
use Rattle.std.specs.Prelude.{◌≡◌, ℕ, zero, suc, ◌<◌, ◌≤◌, List, [], ◌∷◌, Bool, true, false, not, ◌&&◌, ◌⊎◌, length, Some, None}
use Rattle.std.specs.declared.option.Option.{Option}
use Rattle.gm_base.specs.Scripts.{Orders, commands_of, IsOf}
use Rattle.gm_base.specs.declared.calls.Ioctl.{Ioctl}
use Rattle.gm_base.specs.declared.script.Command.{Command}
use Rattle.gm_base.specs.declared.script.Command.TheVariants.{Touch as TouchCommand, Call as CallCommand}
use Rattle.gm_base.specs.declared.values.Setup.{Setup}
use Rattle.gm_base.specs.declared.values.Actor.{Actor}
use Rattle.gm_base.specs.declared.values.Actor.TheVariants.{Vcpu, Caller}
use Rattle.gm_flat.specs.declared.effect.Effect.{Effect}
use Rattle.gm_flat.specs.declared.entry.Entry.{Entry}
use Rattle.gm_flat.specs.declared.entry.What.{What}
use Rattle.gm_flat.specs.declared.entry.What.TheVariants.{Enter, Flush, Miss, Sample, Look, Get, Install, Retry, Touch, Left, Judge, Begin, Acked, Change, Page, End, Answer, Free, Gone}
use Rattle.gm_flat.specs.Histories.{is_mark, Fault, NoFault, Faulting, fault, Call, call, Bracket, bracket, gone, done, same_turn, newest_turn, before_turn}
use Rattle.gm_flat.specs.Replay.{flat}
use Rattle.gm_flat.specs.Mappings.{pending, inside, flushed}
use Rattle.gm_flat.specs.Calls.{Plan, Refused, Same, Reads, Short, Bracketed, Paged, plan, mark_of}
use Rattle.gm_flat.specs.RightLives.{plan_of}
use Rattle.gm_flat.specs.Locks.{WaitsForLock}

-- commands

abbrev pub command_at : List Command → ℕ → Option Command
command_at [] n = None
command_at (c ∷ commands) zero = Some c
command_at (c ∷ commands) (suc n) = command_at commands n

-- the actor's first command that isn't ended yet
abbrev pub next_command : Orders → Actor → List Entry → Option Command
next_command o a past = command_at (commands_of o a) (done a past)

-- rows: the entries of a whole turn

abbrev pub are_frees : List What → Bool
are_frees [] = true
are_frees (Free folio pages ∷ ws) = are_frees ws
are_frees (_ ∷ ws) = false

abbrev pub is_vcpu_row : List What → Bool
is_vcpu_row (Flush ∷ []) = true
is_vcpu_row (Flush ∷ (Enter ∷ [])) = true
is_vcpu_row (Enter ∷ []) = true
is_vcpu_row (Touch access backing level value fill ∷ []) = true
is_vcpu_row (Miss access ∷ []) = true
is_vcpu_row (Sample at ∷ []) = true
is_vcpu_row (Sample at ∷ (Look seen slot attr file ∷ [])) = true
is_vcpu_row (Look at slot attr file ∷ []) = true
is_vcpu_row (Left why ∷ []) = true
is_vcpu_row (Get backing fresh ∷ []) = true
is_vcpu_row (Install page level ∷ []) = true
is_vcpu_row (Retry ∷ ws) = are_frees ws
is_vcpu_row (Gone ∷ []) = true
is_vcpu_row _ = false

-- the turn in which a call is judged, by its plan
abbrev pub is_first_row : Plan → List What → Bool
is_first_row (Refused errno) (Answer reply ∷ []) = true
is_first_row (Same answer) (Answer reply ∷ []) = true
is_first_row (Reads page word) (Answer reply ∷ []) = true
is_first_row (Short effect answer) (Change e ∷ (Answer reply ∷ [])) = not (is_mark e)
is_first_row (Bracketed effect spans) [] = true
is_first_row (Paged pages) [] = true
is_first_row _ ws = false

-- the turn in which a bracket begins: with its mark for a deletion or a move, else alone
abbrev pub is_marking : Option Effect → List What → Bool
is_marking None [] = true
is_marking (Some mark) (Change effect ∷ []) = is_mark effect
is_marking mark ws = false

abbrev pub is_begin_row : Plan → List What → Bool
is_begin_row (Bracketed effect spans) ws = is_marking (mark_of effect) ws
is_begin_row _ ws = false

abbrev pub begins_by : Setup → Option Call → List What → List Entry → Bool
begins_by s None ws before = false
begins_by s (Some x) ws before = is_begin_row (plan_of s x before) ws

-- over the history before the turn
abbrev pub is_caller_row : Setup → ℕ → List What → List Entry → Bool
is_caller_row s c (Judge ioctl ∷ ws) before = is_first_row (plan s ioctl (flat before)) ws
is_caller_row s c (Begin spans ∷ ws) before = begins_by s (call c before) ws before
is_caller_row s c (Acked ∷ []) before = true
is_caller_row s c (Change effect ∷ ws) before = not (is_mark effect) && are_frees ws
is_caller_row s c (End ∷ (Answer reply ∷ [])) before = true
is_caller_row s c (Page index folio pages ∷ []) before = true
is_caller_row s c (Answer reply ∷ []) before = true
is_caller_row s c (Gone ∷ []) before = true
is_caller_row s c _ before = false

abbrev pub is_row : Setup → Actor → List What → List Entry → Bool
is_row s (Vcpu v) ws before = is_vcpu_row ws
is_row s (Caller c) ws before = is_caller_row s c ws before

-- the newest turn of a history is a whole row
abbrev pub IsWhole : Setup → List Entry → Type 0
IsWhole s [] = Unit {0}
IsWhole s (e ∷ past) = is_row s e.actor (newest_turn (e ∷ past)) (before_turn (e ∷ past)) ≡ true

-- steps: when an entry may come

-- how far a fault is: which of its Sample, Look and Get stand
abbrev pub IsMissed : Fault → Type 0
IsMissed (Faulting a missed None None None) = Unit {0}
IsMissed _ = ⊥

abbrev pub IsSampled : Fault → Type 0
IsSampled (Faulting a missed (Some sample) None None) = Unit {0}
IsSampled _ = ⊥

abbrev pub IsLooked : Fault → Type 0
IsLooked (Faulting a missed (Some sample) (Some seen) None) = Unit {0}
IsLooked _ = ⊥

abbrev pub HasGot : Fault → Type 0
HasGot (Faulting a missed (Some sample) (Some seen) (Some gotten)) = Unit {0}
HasGot _ = ⊥

abbrev pub HasLooked : Fault → Type 0
HasLooked (Faulting a missed (Some sample) (Some seen) got) = Unit {0}
HasLooked _ = ⊥

abbrev pub IsWaiting : Option Command → Type 0
IsWaiting None = ⊥
IsWaiting (Some c) = Unit {0}

-- a vCPU enters the guest from outside, with a command waiting, no fault in flight and no flush pending
pub record Enters (o : Orders) (v : ℕ) (past : List Entry) : Type 0 where
  pub outside : inside v past ≡ false
  pub no_fault : fault v past ≡ NoFault
  pub flushed_before : pending v past ≡ false
  pub waiting : IsWaiting (next_command o (Vcpu v) past)

-- an actor is done: no command of it is left, and it hasn't written `gone`
pub record Departs (o : Orders) (a : Actor) (past : List Entry) : Type 0 where
  pub none_left : next_command o a past ≡ None
  pub once : gone a past ≡ false

-- no other call in progress holds a lock that the call needs
pub record Judges (o : Orders) (c : ℕ) (ioctl : Ioctl) (past : List Entry) : Type 0 where
  pub command : next_command o (Caller c) past ≡ Some (CallCommand ioctl)
  pub none_in_progress : call c past ≡ None
  pub locks_free : WaitsForLock c ioctl past → ⊥

-- a bracket begins once, before the change of its call
abbrev pub Begins : Option Call → Option Bracket → Type 0
Begins (Some x) None = x.made ≡ false
Begins _ b = ⊥

-- a vCPU is inside that hasn't flushed since the bracket began
pub record WaitsForFlush (b : Bracket) (past : List Entry) : Type 0 where
  pub vcpu : ℕ
  pub is_inside : inside vcpu past ≡ true
  pub not_flushed : flushed vcpu past ≤ b.begun

abbrev pub Acks : Option Bracket → List Entry → Type 0
Acks None past = ⊥
Acks (Some b) past = (b.acked ≡ false) × (WaitsForFlush b past → ⊥)

-- a change comes once: right after the Judge, or in an acknowledged bracket; its mark right after the Begin
abbrev pub IsDue : ℕ → ℕ → Plan → Option Bracket → Type 0
IsDue here judged (Short effect answer) None = here ≡ suc judged
IsDue here judged (Bracketed effect spans) (Some b) = b.acked ≡ true
IsDue here judged _ b = ⊥

abbrev pub IsMarkDue : ℕ → Option Bracket → Type 0
IsMarkDue here None = ⊥
IsMarkDue here (Some b) = here ≡ suc b.begun

abbrev pub IsDueBy : Bool → ℕ → ℕ → Plan → Option Bracket → Type 0
IsDueBy true here judged plan b = IsMarkDue here b
IsDueBy false here judged plan b = IsDue here judged plan b

abbrev pub Changes : Setup → Effect → Option Call → Option Bracket → List Entry → Type 0
Changes s effect None b past = ⊥
Changes s effect (Some x) b past = (x.made ≡ false) × IsDueBy (is_mark effect) (length past) x.judged (plan_of s x past) b

abbrev pub Ends : Option Call → Option Bracket → Type 0
Ends (Some x) (Some b) = x.made ≡ true
Ends _ b = ⊥

abbrev pub StepIs : Orders → What → Actor → List Entry → Type 0
StepIs o Enter (Vcpu v) past = Enters o v past
StepIs o Flush (Vcpu v) past = pending v past ≡ true
StepIs o (Miss access) (Vcpu v) past = next_command o (Vcpu v) past ≡ Some (TouchCommand access)
StepIs o (Sample at) (Vcpu v) past = IsMissed (fault v past)
StepIs o (Look at slot attr file) (Vcpu v) past = IsSampled (fault v past)
StepIs o (Get backing fresh) (Vcpu v) past = IsLooked (fault v past)
StepIs o (Install page level) (Vcpu v) past = HasGot (fault v past)
StepIs o Retry (Vcpu v) past = HasLooked (fault v past)
StepIs o (Touch access backing level value fill) (Vcpu v) past = next_command o (Vcpu v) past ≡ Some (TouchCommand access)
StepIs o (Left why) (Vcpu v) past = IsLooked (fault v past)
StepIs o (Judge ioctl) (Caller c) past = Judges o c ioctl past
StepIs o (Begin spans) (Caller c) past = Begins (call c past) (bracket c past)
StepIs o Acked (Caller c) past = Acks (bracket c past) past
StepIs o (Change effect) (Caller c) past = Changes o.setup effect (call c past) (bracket c past) past
StepIs o (Page index folio pages) (Caller c) past = bracket c past ≡ None
StepIs o End (Caller c) past = Ends (call c past) (bracket c past)
StepIs o (Answer reply) (Caller c) past = bracket c past ≡ None
StepIs o (Free folio pages) a past = Unit {0}
StepIs o Gone a past = Departs o a past
StepIs o _ a past = ⊥

-- the entries of a turn stand together and are of one actor; turn numbers begin at 1 or more and rise
abbrev pub IsTogether : Entry → List Entry → Type 0
IsTogether e [] = 1 ≤ e.turn
IsTogether e (d ∷ past) = ((d.turn ≡ e.turn) × (d.actor ≡ e.actor)) ⊎ (d.turn < e.turn)

pub record RightOrder (o : Orders) (e : Entry) (past : List Entry) : Type 0 where
  pub actor_is : IsOf o.setup e.actor
  pub together : IsTogether e past
  pub whole_before : same_turn e past ≡ false → IsWhole o.setup past
  pub step : StepIs o e.what e.actor past

-- *blocked*: the caller's next turn is the first of a call that waits for a lock, or its next entry is an Acked that waits
-- for a vCPU
pub record WaitsToJudge (o : Orders) (c : ℕ) (past : List Entry) : Type 0 where
  pub none_in_progress : call c past ≡ None
  pub ioctl : Ioctl
  pub command : next_command o (Caller c) past ≡ Some (CallCommand ioctl)
  pub waits : WaitsForLock c ioctl past

abbrev pub WaitsToAck : Option Bracket → List Entry → Type 0
WaitsToAck None past = ⊥
WaitsToAck (Some b) past = (b.acked ≡ false) × WaitsForFlush b past

abbrev pub IsBlocked : Orders → Actor → List Entry → Type 0
IsBlocked o (Vcpu v) past = ⊥
IsBlocked o (Caller c) past = WaitsToJudge o c past ⊎ WaitsToAck (bracket c past) past
