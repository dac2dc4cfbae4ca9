-- A fault and a call in progress belong to the next command of their actor, and a call that has made its change has
-- been acknowledged.
use Rattle.std.proofs.Common.{◌&&◌, Bool, List, None, Option, Some, [], cond, eqb, eqb-true, false, length, not, refl, subst, suc, sym, true, ℕ, ◌∷◌, ◌≡◌}
use Rattle.std.proofs.lemmas.Bool.{and_parts, both_ways}
use Rattle.gm_base.specs.Scripts.{Orders, commands_of}
use Rattle.gm_base.specs.declared.script.Command.{Command}
use Rattle.gm_base.specs.declared.script.Command.TheVariants.{Call as CallCommand, Touch as TouchCommand}
use Rattle.gm_base.specs.declared.values.Actor.{Actor}
use Rattle.gm_base.specs.declared.values.Actor.TheVariants.{Caller, Vcpu}
use Rattle.gm_base.specs.declared.values.Setup.{Setup}
use Rattle.gm_flat.specs.Calls.{Bracketed, Paged, Plan, Reads, Refused, Same, Short}
use Rattle.gm_flat.specs.Histories.{Bracket, Call, Fault, Faulting, Gotten, NoFault, Seen, bracket, call, done, fault, is_mark, with_acked, with_change, with_get, with_look, with_page, with_sample}
use Rattle.gm_flat.specs.Mappings.{inside}
use Rattle.gm_flat.specs.RightOrder.{Begins, Changes, IsDue, IsDueBy, command_at, next_command}
use Rattle.gm_flat.specs.RightLives.{plan_of}
use Rattle.gm_flat.specs.declared.effect.Effect.{Effect}
use Rattle.gm_flat.specs.declared.entry.Entry.{Entry}
use Rattle.gm_flat.specs.declared.entry.What.{What}
use Rattle.gm_flat.specs.declared.entry.What.TheVariants.{Acked, Answer, Begin, Change, End, Get, Install, Judge, Left, Look, Miss, Page, Retry, Sample, Touch}
use Rattle.gm_laws.proofs.Fates.{InsideIdle, idle}
use Rattle.gm_laws.proofs.Kit.{by}
use Rattle.gm_laws.specs.May.{May}
use Rattle.gm_laws.specs.Ruled.{Follows}

-- faults
abbrev pub FaultWaits : Option Command → Fault → Type 0
FaultWaits c NoFault = Unit {0}
FaultWaits c (Faulting a m s l g) = c ≡ Some (TouchCommand a)

waits_sample : (c : Option Command) (at : ℕ) (x : Fault) → FaultWaits c x → FaultWaits c (with_sample at x)
waits_sample c at NoFault w = w
waits_sample c at (Faulting a m s l g) w = w

waits_look : (c : Option Command) (q : Seen) (x : Fault) → FaultWaits c x → FaultWaits c (with_look q x)
waits_look c q NoFault w = w
waits_look c q (Faulting a m s l g) w = w

waits_get : (c : Option Command) (q : Gotten) (x : Fault) → FaultWaits c x → FaultWaits c (with_get q x)
waits_get c q NoFault w = w
waits_get c q (Faulting a m s l g) w = w

cond_waits : (c : Option Command) (t : Bool) (x y : Fault) → (t ≡ true → FaultWaits c x) → FaultWaits c y → FaultWaits c (cond t x y)
cond_waits c true x y a b = a refl
cond_waits c false x y a b = b

-- where the actor's own entry ends its command, it has no fault
ended_waits : (cs : List Command) (t : Bool) (n : ℕ) (x y : Fault) → (t ≡ true → x ≡ NoFault) → FaultWaits (command_at cs n) y → FaultWaits (command_at cs (cond t (suc n) n)) (cond t x y)
ended_waits cs true n x y a b = subst (λ (z : Fault). FaultWaits (command_at cs (suc n)) z) (sym (a refl)) tt
ended_waits cs false n x y a b = b

same_waits : (cs : List Command) (t : Bool) (n : ℕ) (y : Fault) → (t ≡ true → y ≡ NoFault) → FaultWaits (command_at cs n) y → FaultWaits (command_at cs (cond t (suc n) n)) y
same_waits cs true n y a b = subst (λ (z : Fault). FaultWaits (command_at cs (suc n)) z) (sym (a refl)) tt
same_waits cs false n y a b = b

abbrev pub FaultsWait : Orders → List Entry → Type 0
FaultsWait o past = (v : ℕ) → FaultWaits (next_command o (Vcpu v) past) (fault v past)

fault_keep : (o : Orders) (t : ℕ) (w : What) (a : Actor) (past : List Entry) → InsideIdle past → May o w a past → FaultsWait o past → FaultsWait o (by t a w ∷ past)
fault_keep o t (Miss access) (Vcpu u) past i m f v = cond_waits (next_command o (Vcpu v) past) (eqb u v) (Faulting access (suc (length past)) None None None) (fault v past) (λ e. subst (λ (n : ℕ). next_command o (Vcpu n) past ≡ Some (TouchCommand access)) (eqb-true u v e) m.command) (f v)
fault_keep o t (Sample at) (Vcpu u) past i m f v = cond_waits (next_command o (Vcpu v) past) (eqb u v) (with_sample at (fault v past)) (fault v past) (λ e. waits_sample (next_command o (Vcpu v) past) at (fault v past) (f v)) (f v)
fault_keep o t (Look at slot attr file) (Vcpu u) past i m f v = cond_waits (next_command o (Vcpu v) past) (eqb u v) (with_look (record { place = length past; at = at; slot = slot; attr = attr; file = file }) (fault v past)) (fault v past) (λ e. waits_look (next_command o (Vcpu v) past) (record { place = length past; at = at; slot = slot; attr = attr; file = file }) (fault v past) (f v)) (f v)
fault_keep o t (Get b n) (Vcpu u) past i m f v = cond_waits (next_command o (Vcpu v) past) (eqb u v) (with_get (record { after = suc (length past); backing = b }) (fault v past)) (fault v past) (λ e. waits_get (next_command o (Vcpu v) past) (record { after = suc (length past); backing = b }) (fault v past) (f v)) (f v)
fault_keep o t (Install page level) (Vcpu u) past i m f v = cond_waits (next_command o (Vcpu v) past) (eqb u v) NoFault (fault v past) (λ e. tt) (f v)
fault_keep o t Retry (Vcpu u) past i m f v = cond_waits (next_command o (Vcpu v) past) (eqb u v) NoFault (fault v past) (λ e. tt) (f v)
fault_keep o t (Left why) (Vcpu u) past i m f v = ended_waits (commands_of o (Vcpu v)) (eqb u v) (done (Vcpu v) past) NoFault (fault v past) (λ e. refl) (f v)
fault_keep o t (Touch access b level value fill) (Vcpu u) past i m f v = same_waits (commands_of o (Vcpu v)) (eqb u v) (done (Vcpu v) past) (fault v past) (λ e. i v (subst (λ (n : ℕ). inside n past ≡ true) (eqb-true u v e) m.is_inside)) (f v)
fault_keep o t (Answer r) (Vcpu u) past i m f v = absurd m
fault_keep o t (Answer r) (Caller c) past i m f v = f v
fault_keep o t (Miss access) (Caller c) past i m f v = absurd m
fault_keep o t (Sample at) (Caller c) past i m f v = absurd m
fault_keep o t (Look at slot attr file) (Caller c) past i m f v = absurd m
fault_keep o t (Get b n) (Caller c) past i m f v = absurd m
fault_keep o t (Install page level) (Caller c) past i m f v = absurd m
fault_keep o t Retry (Caller c) past i m f v = absurd m
fault_keep o t (Left why) (Caller c) past i m f v = absurd m
fault_keep o t (Touch access b level value fill) (Caller c) past i m f v = absurd m
fault_keep o t w a past i m f v = f v

pub faults_wait : (o : Orders) (past : List Entry) → Follows o past → FaultsWait o past
faults_wait o [] r = λ v. tt
faults_wait o (e ∷ past) r = fault_keep o e.turn e.what e.actor past (idle o past r.1) r.0.may (faults_wait o past r.1)

-- calls
abbrev pub CallWaits : Option Command → Option Call → Type 0
CallWaits k None = Unit {0}
CallWaits k (Some x) = k ≡ Some (CallCommand x.ioctl)

call_change : (k : Option Command) (x : Option Call) → CallWaits k x → CallWaits k (with_change x)
call_change k None w = w
call_change k (Some x) w = w

call_page : (k : Option Command) (x : Option Call) → CallWaits k x → CallWaits k (with_page x)
call_page k None w = w
call_page k (Some x) w = w

cond_call : (k : Option Command) (t : Bool) (x y : Option Call) → (t ≡ true → CallWaits k x) → CallWaits k y → CallWaits k (cond t x y)
cond_call k true x y a b = a refl
cond_call k false x y a b = b

ended_call : (cs : List Command) (t : Bool) (n : ℕ) (y : Option Call) → CallWaits (command_at cs n) y → CallWaits (command_at cs (cond t (suc n) n)) (cond t None y)
ended_call cs true n y b = tt
ended_call cs false n y b = b

abbrev pub CallsWait : Orders → List Entry → Type 0
CallsWait o past = (c : ℕ) → CallWaits (next_command o (Caller c) past) (call c past)

call_keep : (o : Orders) (t : ℕ) (w : What) (a : Actor) (past : List Entry) → May o w a past → CallsWait o past → CallsWait o (by t a w ∷ past)
call_keep o t (Judge i) (Caller d) past m f c = cond_call (next_command o (Caller c) past) (eqb d c) (Some (record { judged = length past; ioctl = i; made = false; pages = 0 })) (call c past) (λ e. subst (λ (n : ℕ). next_command o (Caller n) past ≡ Some (CallCommand i)) (eqb-true d c e) m.command) (f c)
call_keep o t (Change e) (Caller d) past m f c = cond_call (next_command o (Caller c) past) (eqb d c && not (is_mark e)) (with_change (call c past)) (call c past) (λ h. call_change (next_command o (Caller c) past) (call c past) (f c)) (f c)
call_keep o t (Page i fo n) (Caller d) past m f c = cond_call (next_command o (Caller c) past) (eqb d c) (with_page (call c past)) (call c past) (λ h. call_page (next_command o (Caller c) past) (call c past) (f c)) (f c)
call_keep o t (Answer r) (Caller d) past m f c = ended_call (commands_of o (Caller c)) (eqb d c) (done (Caller c) past) (call c past) (f c)
call_keep o t (Judge i) (Vcpu u) past m f c = absurd m
call_keep o t (Change e) (Vcpu u) past m f c = absurd m
call_keep o t (Page i fo n) (Vcpu u) past m f c = absurd m
call_keep o t (Answer r) (Vcpu u) past m f c = absurd m
call_keep o t (Touch access b level value fill) (Vcpu u) past m f c = f c
call_keep o t (Touch access b level value fill) (Caller d) past m f c = absurd m
call_keep o t (Left why) (Vcpu u) past m f c = f c
call_keep o t (Left why) (Caller d) past m f c = absurd m
call_keep o t w a past m f c = f c

pub calls_wait : (o : Orders) (past : List Entry) → Follows o past → CallsWait o past
calls_wait o [] r = λ c. tt
calls_wait o (e ∷ past) r = call_keep o e.turn e.what e.actor past r.0.may (calls_wait o past r.1)

-- brackets
abbrev pub BracketFits : Option Call → Option Bracket → Type 0
BracketFits x None = Unit {0}
BracketFits None (Some b) = ⊥
BracketFits (Some x) (Some b) = x.made ≡ true → b.acked ≡ true

cond_fits : (t : Bool) (x y : Option Call) (b d : Option Bracket) → (t ≡ true → BracketFits x b) → BracketFits y d → BracketFits (cond t x y) (cond t b d)
cond_fits true x y b d f g = f refl
cond_fits false x y b d f g = g

call_fits : (t : Bool) (x y : Option Call) (b : Option Bracket) → (t ≡ true → BracketFits x b) → BracketFits y b → BracketFits (cond t x y) b
call_fits true x y b f g = f refl
call_fits false x y b f g = g

bracket_fits : (t : Bool) (x : Option Call) (b d : Option Bracket) → (t ≡ true → BracketFits x b) → BracketFits x d → BracketFits x (cond t b d)
bracket_fits true x b d f g = f refl
bracket_fits false x b d f g = g

judge_fits : (x : Call) (y : Option Call) (b : Option Bracket) → y ≡ None → BracketFits y b → BracketFits (Some x) b
judge_fits x y None e f = tt
judge_fits x None (Some b) e f = absurd f
judge_fits x (Some y) (Some b) e f = absurd (some_none e)
  where
    some_none : Some y ≡ None → ⊥
    some_none e = cc

begin_fits : (y : Option Call) (d : Option Bracket) (b : Bracket) → Begins y d → BracketFits y (Some b)
begin_fits (Some x) None b h = λ e. absurd (both_ways x.made h e)
begin_fits (Some x) (Some d) b h = absurd h
begin_fits None d b h = absurd h

acked_fits : (y : Option Call) (b : Option Bracket) → BracketFits y b → BracketFits y (with_acked b)
acked_fits y None f = tt
acked_fits (Some x) (Some b) f = λ e. refl
acked_fits None (Some b) f = absurd f

pub due_acked : (here judged : ℕ) (p : Plan) (b : Bracket) → IsDue here judged p (Some b) → b.acked ≡ true
due_acked here judged (Bracketed e s) b d = d
due_acked here judged (Short e n) b d = absurd d
due_acked here judged (Refused r) b d = absurd d
due_acked here judged (Same r) b d = absurd d
due_acked here judged (Reads r w) b d = absurd d
due_acked here judged (Paged r) b d = absurd d

pub unmarked : (t : Bool) → not t ≡ true → t ≡ false
unmarked true e = absurd (both_ways false refl e)
unmarked false e = refl

-- a change that isn't a mark
change_fits : (s : Setup) (e : Effect) (y : Option Call) (b : Option Bracket) (past : List Entry) → is_mark e ≡ false → Changes s e y b past → BracketFits (with_change y) b
change_fits s e y None past n h = tt
change_fits s e (Some x) (Some b) past n h = λ k. due_acked (length past) x.judged (plan_of s x past) b (subst (λ (t : Bool). IsDueBy t (length past) x.judged (plan_of s x past) (Some b)) n h.1)
change_fits s e None (Some b) past n h = absurd h

none_fits : (y : Option Call) (b : Option Bracket) → b ≡ None → BracketFits y b
none_fits y b e = subst (λ (z : Option Bracket). BracketFits y z) (sym e) tt

abbrev pub BracketsFit : List Entry → Type 0
BracketsFit past = (c : ℕ) → BracketFits (call c past) (bracket c past)

at_caller : (P : ℕ → Type 0) (d c : ℕ) → eqb d c ≡ true → P d → P c
at_caller P d c e x = subst P (eqb-true d c e) x

bracket_keep : (o : Orders) (t : ℕ) (w : What) (a : Actor) (past : List Entry) → May o w a past → BracketsFit past → BracketsFit (by t a w ∷ past)
bracket_keep o t (Judge i) (Caller d) past m f c = call_fits (eqb d c) (Some (record { judged = length past; ioctl = i; made = false; pages = 0 })) (call c past) (bracket c past) (λ e. judge_fits (record { judged = length past; ioctl = i; made = false; pages = 0 }) (call c past) (bracket c past) (at_caller (λ n. call n past ≡ None) d c e m.none_in_progress) (f c)) (f c)
bracket_keep o t (Begin spans) (Caller d) past m f c = bracket_fits (eqb d c) (call c past) (Some (record { begun = length past; spans = spans.list; acked = false })) (bracket c past) (λ e. begin_fits (call c past) (bracket c past) (record { begun = length past; spans = spans.list; acked = false }) (at_caller (λ n. Begins (call n past) (bracket n past)) d c e m.0)) (f c)
bracket_keep o t Acked (Caller d) past m f c = bracket_fits (eqb d c) (call c past) (with_acked (bracket c past)) (bracket c past) (λ e. acked_fits (call c past) (bracket c past) (f c)) (f c)
bracket_keep o t (Change e) (Caller d) past m f c =
    call_fits (eqb d c && not (is_mark e)) (with_change (call c past)) (call c past) (bracket c past)
    (λ h. let both = and_parts (eqb d c) (not (is_mark e)) h in change_fits o.setup e (call c past) (bracket c past) past (unmarked (is_mark e) both.1) (at_caller (λ n. Changes o.setup e (call n past) (bracket n past) past) d c both.0 m.0)) (f c)
bracket_keep o t (Page i fo n) (Caller d) past m f c = call_fits (eqb d c) (with_page (call c past)) (call c past) (bracket c past) (λ h. none_fits (with_page (call c past)) (bracket c past) (at_caller (λ n. bracket n past ≡ None) d c h m.0)) (f c)
bracket_keep o t End (Caller d) past m f c = bracket_fits (eqb d c) (call c past) None (bracket c past) (λ h. tt) (f c)
bracket_keep o t (Answer r) (Caller d) past m f c = call_fits (eqb d c) None (call c past) (bracket c past) (λ h. none_fits None (bracket c past) (at_caller (λ n. bracket n past ≡ None) d c h m.0)) (f c)
bracket_keep o t (Judge i) (Vcpu u) past m f c = absurd m
bracket_keep o t (Begin spans) (Vcpu u) past m f c = absurd m
bracket_keep o t Acked (Vcpu u) past m f c = absurd m
bracket_keep o t (Change e) (Vcpu u) past m f c = absurd m
bracket_keep o t (Page i fo n) (Vcpu u) past m f c = absurd m
bracket_keep o t End (Vcpu u) past m f c = absurd m
bracket_keep o t (Answer r) (Vcpu u) past m f c = absurd m
bracket_keep o t w a past m f c = f c

pub brackets_fit : (o : Orders) (past : List Entry) → Follows o past → BracketsFit past
brackets_fit o [] r = λ c. tt
brackets_fit o (e ∷ past) r = bracket_keep o e.turn e.what e.actor past r.0.may (brackets_fit o past r.1)
