-- A turn of a caller is determined, but for the spare room of spans.
use Rattle.std.proofs.Common.{◌<◌, Bool, List, None, Option, Some, [], ap, false, inl, inr, length, not, refl, subst, sym, true, ℕ, ◌∙◌, ◌∷◌, ◌≡◌, ◌≤◌, ◌⊎◌, arith}
use Rattle.std.proofs.lemmas.Bool.{and_parts, both_ways}
use Rattle.gm_base.specs.Extent.{Extent}
use Rattle.gm_base.specs.Scripts.{Orders}
use Rattle.gm_base.specs.declared.calls.Ioctl.{Ioctl}
use Rattle.gm_base.specs.declared.script.Command.{Command}
use Rattle.gm_base.specs.declared.script.Command.TheVariants.{Call as CallCommand}
use Rattle.gm_base.specs.declared.values.Actor.TheVariants.{Caller}
use Rattle.gm_base.specs.declared.values.Folio.{Folio}
use Rattle.gm_flat.specs.Calls.{Bracketed, Paged, Plan, Reads, Refused, Same as SamePlan, Short, mark_of, plan}
use Rattle.gm_flat.specs.Histories.{Bracket, Call, bracket, call, is_mark}
use Rattle.gm_flat.specs.FlatState.{Flat}
use Rattle.gm_flat.specs.Replay.{flat, page_adds, states}
use Rattle.gm_flat.specs.RightCalls.{IsAnswer, IsPage, RightAnswer, RightBegin, RightChange, RightPage}
use Rattle.gm_flat.specs.RightLives.{RightPageAdds, plan_of}
use Rattle.gm_flat.specs.RightOrder.{Acks, Begins, Changes, Ends, IsDue, IsDueBy, are_frees, begins_by, is_begin_row, is_caller_row, is_first_row, is_marking, next_command}
use Rattle.gm_flat.specs.Roomy.{Roomy}
use Rattle.gm_flat.specs.declared.effect.Effect.{Effect}
use Rattle.gm_flat.specs.declared.effect.Reply.{Reply}
use Rattle.gm_flat.specs.declared.entry.Entry.{Entry}
use Rattle.gm_flat.specs.declared.entry.What.{What}
use Rattle.gm_flat.specs.declared.entry.What.TheVariants.{Acked, Answer, Begin, Change, End, Gone, Judge, Page}
use Rattle.gm_laws.proofs.Kit.{by, flat_at_keep, none_is, some_same}
use Rattle.gm_laws.proofs.RowsSeen.{calls_go_on}
use Rattle.gm_laws.proofs.RuledIsRight.{right}
use Rattle.gm_laws.proofs.Touches.{locks}
use Rattle.gm_laws.specs.JudgedRows.{GoesOn}
use Rattle.gm_laws.specs.May.{May}
use Rattle.gm_laws.specs.Ruled.{AllFreed, Ruled}
use Rattle.gm_laws.specs.Turns.{EachMay, IsNewTurn, onto}
use Rattle.gm_determined.specs.Determined.{roomless_turn}
use Rattle.gm_determined.proofs.CallEntries.{answer_same, change_same, mark_is, page_answer, page_same, spans_same}
use Rattle.gm_determined.proofs.Entries.{call_command}
use Rattle.gm_determined.proofs.Frees.{frees_same}
use Rattle.gm_determined.proofs.Small.{false_true}
use Rattle.gm_determined.proofs.Waits.{BracketFits, CallWaits, brackets_fit, calls_wait, unmarked}

-- the rows, each with what its entries say
pub record JudgeRow (o : Orders) (t c : ℕ) (ws : List What) (past : List Entry) : Type 0 where
  pub ioctl : Ioctl
  pub rest : List What
  pub is : ws ≡ Judge ioctl ∷ rest
  pub command : next_command o (Caller c) past ≡ Some (CallCommand ioctl)
  pub row : is_first_row (plan o.setup ioctl (flat past)) rest ≡ true
  pub each : EachMay o t (Caller c) rest (by t (Caller c) (Judge ioctl) ∷ past)

abbrev pub AnswerRow : Orders → ℕ → List What → List Entry → Type 0
AnswerRow o c ws past = (r : Reply) × (ws ≡ Answer r ∷ []) × RightAnswer o.setup r (call c past) past

-- a Begin with its mark, where its call has one
abbrev pub marks : Option Effect → List What
marks None = []
marks (Some mark) = Change mark ∷ []

abbrev pub BeginRow : Orders → ℕ → Option Effect → List What → List Entry → Type 0
BeginRow o c mark ws past = (spans : Roomy) × (ws ≡ Begin spans ∷ marks mark) × RightBegin o.setup spans.list (call c past) past

abbrev pub EndRow : Orders → ℕ → ℕ → List What → List Entry → Type 0
EndRow o t c ws past = (r : Reply) × (ws ≡ End ∷ (Answer r ∷ [])) × RightAnswer o.setup r (call c past) (by t (Caller c) End ∷ past)

abbrev pub PageRow : Orders → ℕ → List What → List Entry → Type 0
PageRow o c ws past = (i : ℕ) × (fo : Folio) × (n : ℕ) × (ws ≡ Page i fo n ∷ []) × RightPage o.setup i (call c past) past × RightPageAdds o.setup (call c past) (page_adds i fo n (call c past) (states past)) past

pub record ChangeRow (o : Orders) (t c : ℕ) (ws : List What) (past : List Entry) : Type 0 where
  pub effect : Effect
  pub frees : List What
  pub is : ws ≡ Change effect ∷ frees
  pub unmarking : is_mark effect ≡ false
  pub right : RightChange o.setup effect (call c past) past
  pub are : are_frees frees ≡ true
  pub may : May o (Change effect) (Caller c) past
  pub each : EachMay o t (Caller c) frees (by t (Caller c) (Change effect) ∷ past)
  pub freed : AllFreed (onto t (Caller c) frees (by t (Caller c) (Change effect) ∷ past))

-- by the plan of the call in progress, its bracket, and whether it has made its change
abbrev pub Acknowledged : Orders → ℕ → ℕ → Bool → List What → List Entry → Type 0
Acknowledged o t c true ws past = ChangeRow o t c ws past
Acknowledged o t c false ws past = ws ≡ Acked ∷ []

abbrev pub Planned : Orders → ℕ → ℕ → Plan → Option Bracket → Bool → List What → List Entry → Type 0
Planned o t c (Bracketed e spans) None true ws past = AnswerRow o c ws past
Planned o t c (Bracketed e spans) None false ws past = BeginRow o c (mark_of e) ws past
Planned o t c (Bracketed e spans) (Some b) true ws past = EndRow o t c ws past
Planned o t c (Bracketed e spans) (Some b) false ws past = Acknowledged o t c b.acked ws past
Planned o t c (Paged p) b made ws past = PageRow o c ws past ⊎ AnswerRow o c ws past
Planned o t c _ b made ws past = ⊥

abbrev pub Facts : Orders → ℕ → ℕ → Option Call → Option Bracket → List What → List Entry → Type 0
Facts o t c None b ws past = JudgeRow o t c ws past
Facts o t c (Some x) b ws past = Planned o t c (plan_of o.setup x past) b x.made ws past

-- rows of a state are the same
abbrev Same : List What → List What → Type 0
Same ws gs = roomless_turn ws ≡ roomless_turn gs

same_of : (ws gs : List What) → ws ≡ gs → Same ws gs
same_of ws gs e = ap roomless_turn e

one_what : (w x : What) (ws gs : List What) → ws ≡ w ∷ [] → gs ≡ x ∷ [] → w ≡ x → Same ws gs
one_what w x ws gs a b e = same_of ws gs (a ∙ (ap (λ (z : What). z ∷ []) e ∙ sym b))

answers : (o : Orders) (c : ℕ) (ws gs : List What) (past : List Entry) → AnswerRow o c ws past → AnswerRow o c gs past → Same ws gs
answers o c ws gs past x y = one_what (Answer x.0) (Answer y.0) ws gs x.1 y.1 (ap (λ (r : Reply). Answer r) (answer_same o.setup x.0 y.0 (call c past) past x.2 y.2))

begins : (o : Orders) (c : ℕ) (mark : Option Effect) (ws gs : List What) (past : List Entry) → BeginRow o c mark ws past → BeginRow o c mark gs past → Same ws gs
begins o c mark ws gs past x y =
    ap roomless_turn x.1 ∙ (ap (λ (xs : List Extent). Begin (record { list = xs; spare = 0 }) ∷ roomless_turn (marks mark)) (spans_same o.setup x.0.list y.0.list (call c past) past x.2 y.2) ∙ sym (ap roomless_turn y.1))

ends : (o : Orders) (t c : ℕ) (ws gs : List What) (past : List Entry) → EndRow o t c ws past → EndRow o t c gs past → Same ws gs
ends o t c ws gs past x y = same_of ws gs (x.1 ∙ (ap (λ (r : Reply). End ∷ (Answer r ∷ [])) (answer_same o.setup x.0 y.0 (call c past) (by t (Caller c) End ∷ past) x.2 y.2) ∙ sym y.1))

changed_frees : (o : Orders) (t c : ℕ) (e d : Effect) (ws gs fs hs : List What) (past : List Entry) → Ruled o past → IsNewTurn t past → e ≡ d → ws ≡ Change e ∷ fs → gs ≡ Change d ∷ hs → are_frees fs ≡ true → are_frees hs ≡ true → May o (Change e) (Caller c) past → EachMay o t (Caller c) fs (by t (Caller c) (Change e) ∷ past) → EachMay o t (Caller c) hs (by t (Caller c) (Change d) ∷ past) → AllFreed (onto t (Caller c) fs (by t (Caller c) (Change e) ∷ past)) → AllFreed (onto t (Caller c) hs (by t (Caller c) (Change d) ∷ past)) → Same ws gs
changed_frees o t c e d ws gs fs hs past r n s p q f h m k l u v =
    let l2 : EachMay o t (Caller c) hs (by t (Caller c) (Change e) ∷ past) = subst (λ (z : Effect). EachMay o t (Caller c) hs (by t (Caller c) (Change z) ∷ past)) (sym s) l in
    let v2 : AllFreed (onto t (Caller c) hs (by t (Caller c) (Change e) ∷ past)) = subst (λ (z : Effect). AllFreed (onto t (Caller c) hs (by t (Caller c) (Change z) ∷ past))) (sym s) v in
    let x : fs ≡ hs = frees_same o t (Caller c) (Change e) fs hs past r n tt m f h k l2 u v2 in
    same_of ws gs (p ∙ (ap (λ (xs : List What). Change e ∷ xs) x ∙ (ap (λ (z : Effect). Change z ∷ hs) s ∙ sym q)))

changes : (o : Orders) (t c : ℕ) (ws gs : List What) (past : List Entry) → Ruled o past → IsNewTurn t past → ChangeRow o t c ws past → ChangeRow o t c gs past → Same ws gs
changes o t c ws gs past r n x y = changed_frees o t c x.effect y.effect ws gs x.frees y.frees past r n (change_same o.setup x.effect y.effect (call c past) past (y.unmarking ∙ sym x.unmarking) x.right y.right) x.is y.is x.are y.are x.may x.each y.each x.freed y.freed

acknowledged : (o : Orders) (t c : ℕ) (k : Bool) (ws gs : List What) (past : List Entry) → Ruled o past → IsNewTurn t past → Acknowledged o t c k ws past → Acknowledged o t c k gs past → Same ws gs
acknowledged o t c true ws gs past r n x y = changes o t c ws gs past r n x y
acknowledged o t c false ws gs past r n x y = same_of ws gs (x ∙ sym y)

planned_same : (o : Orders) (t c : ℕ) (p : Plan) (b : Option Bracket) (made : Bool) (ws gs : List What) (past : List Entry) → Ruled o past → IsNewTurn t past → Planned o t c p b made ws past → Planned o t c p b made gs past → Same ws gs
planned_same o t c (Bracketed e spans) None true ws gs past r n x y = answers o c ws gs past x y
planned_same o t c (Bracketed e spans) None false ws gs past r n x y = begins o c (mark_of e) ws gs past x y
planned_same o t c (Bracketed e spans) (Some b) true ws gs past r n x y = ends o t c ws gs past x y
planned_same o t c (Bracketed e spans) (Some b) false ws gs past r n x y = acknowledged o t c b.acked ws gs past r n x y
planned_same o t c (Paged p) b made ws gs past r n (inl x) (inl y) = one_what (Page x.0 x.1 x.2) (Page y.0 y.1 y.2) ws gs x.3 y.3 (page_same o.setup x.0 y.0 x.1 y.1 x.2 y.2 (call c past) past x.4 y.4 x.5 y.5)
planned_same o t c (Paged p) b made ws gs past r n (inl x) (inr y) = absurd (page_answer o.setup x.0 x.1 x.2 y.0 (call c past) past x.4 x.5 y.2)
planned_same o t c (Paged p) b made ws gs past r n (inr x) (inl y) = absurd (page_answer o.setup y.0 y.1 y.2 x.0 (call c past) past y.4 y.5 x.2)
planned_same o t c (Paged p) b made ws gs past r n (inr x) (inr y) = answers o c ws gs past x y
planned_same o t c (Refused e) b made ws gs past r n x y = absurd x
planned_same o t c (SamePlan e) b made ws gs past r n x y = absurd x
planned_same o t c (Reads e w) b made ws gs past r n x y = absurd x
planned_same o t c (Short e w) b made ws gs past r n x y = absurd x

-- what comes after a Judge
abbrev pub FirstRow : Plan → List What → Type 0
FirstRow (Bracketed e spans) ws = ws ≡ []
FirstRow (Paged p) ws = ws ≡ []
FirstRow (Short e n) ws = (d : Effect) × (r : Reply) × (ws ≡ Change d ∷ (Answer r ∷ [])) × (is_mark d ≡ false)
FirstRow _ ws = (r : Reply) × (ws ≡ Answer r ∷ [])

pub first_row : (p : Plan) (ws : List What) → is_first_row p ws ≡ true → FirstRow p ws
first_row (Refused e) (Answer r ∷ []) h = (r, refl)
first_row (SamePlan e) (Answer r ∷ []) h = (r, refl)
first_row (Reads e w) (Answer r ∷ []) h = (r, refl)
first_row (Short e n) (Change d ∷ (Answer r ∷ [])) h = (d, r, refl, unmarked (is_mark d) h)
first_row (Bracketed e spans) [] h = refl
first_row (Paged p) [] h = refl
first_row _ ws h = false_true h

first_answer : (o : Orders) (t c : ℕ) (r s : Reply) (us vs : List What) (q : List Entry) → us ≡ Answer r ∷ [] → vs ≡ Answer s ∷ [] → EachMay o t (Caller c) us q → EachMay o t (Caller c) vs q → us ≡ vs
first_answer o t c r s us vs q e f m n =
    let x = (subst (λ (ws : List What). EachMay o t (Caller c) ws q) e m).0.1 in
    let y = (subst (λ (ws : List What). EachMay o t (Caller c) ws q) f n).0.1 in
    e ∙ (ap (λ (z : Reply). Answer z ∷ []) (answer_same o.setup r s (call c q) q x y) ∙ sym f)

changed_answer : (o : Orders) (t c : ℕ) (d e : Effect) (r s : Reply) (q : List Entry) → d ≡ e → EachMay o t (Caller c) (Change d ∷ (Answer r ∷ [])) q → EachMay o t (Caller c) (Change e ∷ (Answer s ∷ [])) q → r ≡ s
changed_answer o t c d e r s q h m n =
    let y = (subst (λ (z : Effect). EachMay o t (Caller c) (Change z ∷ (Answer s ∷ [])) q) (sym h) n).1.0.1 in
    answer_same o.setup r s (call c (by t (Caller c) (Change d) ∷ q)) (by t (Caller c) (Change d) ∷ q) m.1.0.1 y

first_change : (o : Orders) (t c : ℕ) (d e : Effect) (r s : Reply) (us vs : List What) (q : List Entry) → is_mark d ≡ false → is_mark e ≡ false → us ≡ Change d ∷ (Answer r ∷ []) → vs ≡ Change e ∷ (Answer s ∷ []) → EachMay o t (Caller c) us q → EachMay o t (Caller c) vs q → us ≡ vs
first_change o t c d e r s us vs q i j h k m n =
    let x = subst (λ (ws : List What). EachMay o t (Caller c) ws q) h m in
    let y = subst (λ (ws : List What). EachMay o t (Caller c) ws q) k n in
    let f : d ≡ e = change_same o.setup d e (call c q) q (j ∙ sym i) x.0.1 y.0.1 in
    h ∙ (ap (λ (z : Effect). Change z ∷ (Answer r ∷ [])) f ∙ (ap (λ (z : Reply). Change e ∷ (Answer z ∷ [])) (changed_answer o t c d e r s q f x y) ∙ sym k))

first_same : (o : Orders) (t c : ℕ) (p : Plan) (us vs : List What) (q : List Entry) → FirstRow p us → FirstRow p vs → EachMay o t (Caller c) us q → EachMay o t (Caller c) vs q → us ≡ vs
first_same o t c (Bracketed e spans) us vs q x y m n = x ∙ sym y
first_same o t c (Paged p) us vs q x y m n = x ∙ sym y
first_same o t c (Short e k) us vs q x y m n = first_change o t c x.0 y.0 x.1 y.1 us vs q x.3 y.3 x.2 y.2 m n
first_same o t c (Refused e) us vs q x y m n = first_answer o t c x.0 y.0 us vs q x.1 y.1 m n
first_same o t c (SamePlan e) us vs q x y m n = first_answer o t c x.0 y.0 us vs q x.1 y.1 m n
first_same o t c (Reads e w) us vs q x y m n = first_answer o t c x.0 y.0 us vs q x.1 y.1 m n

judges_by : (o : Orders) (t c : ℕ) (i j : Ioctl) (ws gs us vs : List What) (past : List Entry) → i ≡ j → ws ≡ Judge i ∷ us → gs ≡ Judge j ∷ vs → is_first_row (plan o.setup i (flat past)) us ≡ true → is_first_row (plan o.setup j (flat past)) vs ≡ true → EachMay o t (Caller c) us (by t (Caller c) (Judge i) ∷ past) → EachMay o t (Caller c) vs (by t (Caller c) (Judge j) ∷ past) → Same ws gs
judges_by o t c i j ws gs us vs past h e f a b m n =
    let b2 : is_first_row (plan o.setup i (flat past)) vs ≡ true = subst (λ (k : Ioctl). is_first_row (plan o.setup k (flat past)) vs ≡ true) (sym h) b in
    let n2 : EachMay o t (Caller c) vs (by t (Caller c) (Judge i) ∷ past) = subst (λ (k : Ioctl). EachMay o t (Caller c) vs (by t (Caller c) (Judge k) ∷ past)) (sym h) n in
    let p = plan o.setup i (flat past) in
    let x : us ≡ vs = first_same o t c p us vs (by t (Caller c) (Judge i) ∷ past) (first_row p us a) (first_row p vs b2) m n2 in
    same_of ws gs (e ∙ (ap (λ (xs : List What). Judge i ∷ xs) x ∙ (ap (λ (k : Ioctl). Judge k ∷ vs) h ∙ sym f)))

judges : (o : Orders) (t c : ℕ) (ws gs : List What) (past : List Entry) → JudgeRow o t c ws past → JudgeRow o t c gs past → Same ws gs
judges o t c ws gs past x y = judges_by o t c x.ioctl y.ioctl ws gs x.rest y.rest past (call_command x.ioctl y.ioctl (next_command o (Caller c) past) x.command y.command) x.is y.is x.row y.row x.each y.each

facts_same : (o : Orders) (t c : ℕ) (z : Option Call) (b : Option Bracket) (ws gs : List What) (past : List Entry) → Ruled o past → IsNewTurn t past → Facts o t c z b ws past → Facts o t c z b gs past → Same ws gs
facts_same o t c None b ws gs past r n x y = judges o t c ws gs past x y
facts_same o t c (Some z) b ws gs past r n x y = planned_same o t c (plan_of o.setup z past) b z.made ws gs past r n x y

-- a turn is of its state; none but Gone comes without a command
abbrev pub State : Orders → ℕ → ℕ → Option Call → Option Bracket → Option Command → List What → List Entry → Type 0
State o t c z b k ws past = (k ≡ None → ⊥) × Facts o t c z b ws past

abbrev pub View : Orders → ℕ → ℕ → List What → List Entry → Type 0
View o t c ws past = ((ws ≡ Gone ∷ []) × (next_command o (Caller c) past ≡ None)) ⊎ State o t c (call c past) (bracket c past) (next_command o (Caller c) past) ws past

pub some_next : (c : Option Command) (k : Command) → c ≡ Some k → c ≡ None → ⊥
some_next c k e f = none_is k (sym f ∙ e)

judge_state : (o : Orders) (t c : ℕ) (z : Option Call) (b : Option Bracket) (k : Option Command) (ws : List What) (past : List Entry) → z ≡ None → (k ≡ None → ⊥) → JudgeRow o t c ws past → State o t c z b k ws past
judge_state o t c z b k ws past e n x = (n, subst (λ (y : Option Call). Facts o t c y b ws past) (sym e) x)

-- what is known of a call in progress
pub record Known (o : Orders) (past : List Entry) (z : Option Call) (b : Option Bracket) (k : Option Command) : Type 0 where
  pub goes : (x : Call) → z ≡ Some x → GoesOn (plan_of o.setup x past)
  pub judged_before : (x : Call) → z ≡ Some x → x.judged < length past
  pub planned : (d : Bracket) → b ≡ Some d → (x : Call) × (z ≡ Some x) × ((e : Effect) × (plan_of o.setup x past ≡ Bracketed e d.spans))
  pub fits : BracketFits z b
  pub waits : CallWaits k z

answer_plan : (o : Orders) (t c : ℕ) (r : Reply) (x : Call) (p : Plan) (b : Option Bracket) (ws : List What) (past : List Entry) → GoesOn p → b ≡ None → IsAnswer o.setup r x p past → AnswerRow o c ws past → Planned o t c p b x.made ws past
answer_plan o t c r x (Bracketed e spans) b ws past g n a row = subst (λ (d : Option Bracket). Planned o t c (Bracketed e spans) d x.made ws past) (sym n) (subst (λ (m : Bool). Planned o t c (Bracketed e spans) None m ws past) (sym a.0) row)
answer_plan o t c r x (Paged p) b ws past g n a row = inr row
answer_plan o t c r x (Refused e) b ws past g n a row = absurd g
answer_plan o t c r x (SamePlan e) b ws past g n a row = absurd g
answer_plan o t c r x (Reads e w) b ws past g n a row = absurd g
answer_plan o t c r x (Short e w) b ws past g n a row = absurd g

answer_state : (o : Orders) (t c : ℕ) (r : Reply) (z : Option Call) (b : Option Bracket) (k : Option Command) (ws : List What) (past : List Entry) → Known o past z b k → b ≡ None → RightAnswer o.setup r z past → AnswerRow o c ws past → State o t c z b k ws past
answer_state o t c r (Some x) b k ws past h n a row = (some_next k (CallCommand x.ioctl) h.waits, answer_plan o t c r x (plan_of o.setup x past) b ws past (h.goes x refl) n a row)
answer_state o t c r None b k ws past h n a row = absurd a

-- what follows a Begin in its turn is the mark of its call
marking_is : (m : Option Effect) (us : List What) → is_marking m us ≡ true → ((d : Effect) → us ≡ Change d ∷ [] → is_mark d ≡ true → m ≡ Some d) → us ≡ marks m
marking_is None [] e f = refl
marking_is (Some m) (Change d ∷ []) e f = ap (λ (z : Effect). Change z ∷ []) (sym (some_same m d (f d refl e)))
marking_is m us e f = false_true e

-- the plan of the call, after the Begin
plan_after : (o : Orders) (t c : ℕ) (spans : Roomy) (x : Call) (past : List Entry) → x.judged < length past → plan_of o.setup x (by t (Caller c) (Begin spans) ∷ past) ≡ plan_of o.setup x past
plan_after o t c spans x past l = ap (λ (f : Flat). plan o.setup x.ioctl f) (flat_at_keep x.judged (by t (Caller c) (Begin spans)) past (le x.judged (length past) l))
  where
    le : (a b : ℕ) → a < b → a ≤ b
    le a b h = omega arith

-- the Begin's row, and that a further Change is right there
record BeginSays (o : Orders) (t c : ℕ) (spans : Roomy) (us : List What) (z : Option Call) (past : List Entry) : Type 0 where
  row : begins_by o.setup z us past ≡ true
  right : (d : Effect) → us ≡ Change d ∷ [] → RightChange o.setup d z (by t (Caller c) (Begin spans) ∷ past)

begin_marks : (o : Orders) (t c : ℕ) (spans : Roomy) (e : Effect) (us : List What) (x : Call) (past : List Entry) → x.judged < length past → plan_of o.setup x past ≡ Bracketed e spans.list → BeginSays o t c spans us (Some x) past → us ≡ marks (mark_of e)
begin_marks o t c spans e us x past l p h =
    marking_is (mark_of e) us (subst (λ (q : Plan). is_begin_row q us ≡ true) p h.row)
    (λ d same m. mark_is o.setup e d spans.list x (by t (Caller c) (Begin spans) ∷ past) (plan_after o t c spans x past l ∙ p) m (h.right d same))

begin_state : (o : Orders) (t c : ℕ) (spans : Roomy) (us : List What) (z : Option Call) (b : Option Bracket) (k : Option Command) (past : List Entry) → Known o past z b k → Begins z b → RightBegin o.setup spans.list z past → RightBegin o.setup spans.list (call c past) past → BeginSays o t c spans us z past → State o t c z b k (Begin spans ∷ us) past
begin_state o t c spans us (Some x) None k past h n a right says =
    let ws : List What = Begin spans ∷ us in
    let row : BeginRow o c (mark_of a.0) ws past = (spans, ap (λ (xs : List What). Begin spans ∷ xs) (begin_marks o t c spans a.0 us x past (h.judged_before x refl) a.1 says), right) in
    (some_next k (CallCommand x.ioctl) h.waits, subst (λ (p : Plan). Planned o t c p None x.made ws past) (sym a.1) (subst (λ (m : Bool). Planned o t c (Bracketed a.0 spans.list) None m ws past) (sym n) row))
begin_state o t c spans us (Some x) (Some b) k past h n a right says = absurd n
begin_state o t c spans us None b k past h n a right says = absurd n

-- what comes after a Begin may come
begin_right : (o : Orders) (t c : ℕ) (d : Effect) (us : List What) (q : List Entry) → us ≡ Change d ∷ [] → EachMay o t (Caller c) us q → RightChange o.setup d (call c q) q
begin_right o t c d us q e m = (subst (λ (ws : List What). EachMay o t (Caller c) ws q) e m).0.1

acked_plan : (o : Orders) (t c : ℕ) (p : Plan) (e : Effect) (spans : List Extent) (made : Bool) (b : Bracket) (ws : List What) (past : List Entry) → p ≡ Bracketed e spans → (made ≡ true → b.acked ≡ true) → b.acked ≡ false → ws ≡ Acked ∷ [] → Planned o t c p (Some b) made ws past
acked_plan o t c p e spans true b ws past h f a row = absurd (both_ways b.acked a (f refl))
acked_plan o t c p e spans false b ws past h f a row = subst (λ (q : Plan). Planned o t c q (Some b) false ws past) (sym h) (subst (λ (x : Bool). Acknowledged o t c x ws past) (sym a) row)

-- the call of a bracket
pub own_plan : (o : Orders) (x : Call) (b : Bracket) (k : Option Command) (past : List Entry) → Known o past (Some x) (Some b) k → (e : Effect) × (plan_of o.setup x past ≡ Bracketed e b.spans)
own_plan o x b k past h =
    let y = h.planned b refl in
    subst (λ (c : Call). (e : Effect) × (plan_of o.setup c past ≡ Bracketed e b.spans)) (sym (some_same x y.0 y.1)) y.2

acked_state : (o : Orders) (t c : ℕ) (z : Option Call) (b : Option Bracket) (k : Option Command) (ws : List What) (past : List Entry) → Known o past z b k → Acks b past → ws ≡ Acked ∷ [] → State o t c z b k ws past
acked_state o t c (Some x) (Some b) k ws past h a row = let y = own_plan o x b k past h in (some_next k (CallCommand x.ioctl) h.waits, acked_plan o t c (plan_of o.setup x past) y.0 b.spans x.made b ws past y.1 h.fits a.0 row)
acked_state o t c None (Some b) k ws past h a row = absurd h.fits
acked_state o t c z None k ws past h a row = absurd a

end_state : (o : Orders) (t c : ℕ) (z : Option Call) (b : Option Bracket) (k : Option Command) (ws : List What) (past : List Entry) → Known o past z b k → Ends z b → EndRow o t c ws past → State o t c z b k ws past
end_state o t c (Some x) (Some b) k ws past h a row = let y = own_plan o x b k past h in (some_next k (CallCommand x.ioctl) h.waits, subst (λ (p : Plan). Planned o t c p (Some b) x.made ws past) (sym y.1) (subst (λ (m : Bool). Planned o t c (Bracketed y.0 b.spans) (Some b) m ws past) (sym a) row))
end_state o t c (Some x) None k ws past h a row = absurd a
end_state o t c None b k ws past h a row = absurd a

change_plan : (o : Orders) (t c here judged : ℕ) (p : Plan) (b : Option Bracket) (made : Bool) (ws : List What) (past : List Entry) → GoesOn p → made ≡ false → IsDue here judged p b → ChangeRow o t c ws past → Planned o t c p b made ws past
change_plan o t c here judged (Bracketed e spans) (Some b) made ws past g m d row = subst (λ (x : Bool). Planned o t c (Bracketed e spans) (Some b) x ws past) (sym m) (subst (λ (x : Bool). Acknowledged o t c x ws past) (sym d) row)
change_plan o t c here judged (Bracketed e spans) None made ws past g m d row = absurd d
change_plan o t c here judged (Paged p) b made ws past g m d row = absurd d
change_plan o t c here judged (Refused e) b made ws past g m d row = absurd g
change_plan o t c here judged (SamePlan e) b made ws past g m d row = absurd g
change_plan o t c here judged (Reads e w) b made ws past g m d row = absurd g
change_plan o t c here judged (Short e w) b made ws past g m d row = absurd g

change_state : (o : Orders) (t c : ℕ) (z : Option Call) (b : Option Bracket) (k : Option Command) (ws : List What) (past : List Entry) → Known o past z b k → (row : ChangeRow o t c ws past) → Changes o.setup row.effect z b past → State o t c z b k ws past
change_state o t c (Some x) b k ws past h row a = (some_next k (CallCommand x.ioctl) h.waits, change_plan o t c (length past) x.judged (plan_of o.setup x past) b x.made ws past (h.goes x refl) a.0 (subst (λ (m : Bool). IsDueBy m (length past) x.judged (plan_of o.setup x past) b) row.unmarking a.1) row)
change_state o t c None b k ws past h row a = absurd a

page_plan : (o : Orders) (t c i : ℕ) (x : Call) (p : Plan) (b : Option Bracket) (ws : List What) (past : List Entry) → IsPage i x p (flat past) → PageRow o c ws past → Planned o t c p b x.made ws past
page_plan o t c i x (Paged p) b ws past a row = inl row
page_plan o t c i x (Bracketed e spans) b ws past a row = absurd a
page_plan o t c i x (Refused e) b ws past a row = absurd a
page_plan o t c i x (SamePlan e) b ws past a row = absurd a
page_plan o t c i x (Reads e w) b ws past a row = absurd a
page_plan o t c i x (Short e w) b ws past a row = absurd a

page_state : (o : Orders) (t c i : ℕ) (z : Option Call) (b : Option Bracket) (k : Option Command) (ws : List What) (past : List Entry) → Known o past z b k → RightPage o.setup i z past → PageRow o c ws past → State o t c z b k ws past
page_state o t c i (Some x) b k ws past h a row = (some_next k (CallCommand x.ioctl) h.waits, page_plan o t c i x (plan_of o.setup x past) b ws past a row)
page_state o t c i None b k ws past h a row = absurd a

pub known : (o : Orders) (c : ℕ) (past : List Entry) → Ruled o past → Known o past (call c past) (bracket c past) (next_command o (Caller c) past)
known o c past r =
    record {
      goes = λ x e. calls_go_on o past (right o past r) c x e;
      judged_before = λ x e. (locks o past r.follows).call_lt c x e;
      planned = λ d e. let y = (locks o past r.follows).planned c d e in (y.0, y.1, y.2);
      fits = brackets_fit o past r.follows c;
      waits = calls_wait o past r.follows c;
    }

-- a whole turn of a caller, read by what stands before it
pub view : (o : Orders) (t c : ℕ) (ws : List What) (past : List Entry) → Known o past (call c past) (bracket c past) (next_command o (Caller c) past) → is_caller_row o.setup c ws past ≡ true → EachMay o t (Caller c) ws past → AllFreed (onto t (Caller c) ws past) → View o t c ws past
view o t c (Judge i ∷ us) past k e m f = inr (judge_state o t c _ _ _ _ past m.0.none_in_progress (some_next _ (CallCommand i) m.0.command) (record { ioctl = i; rest = us; is = refl; command = m.0.command; row = e; each = m.1 }))
view o t c (Begin spans ∷ us) past k e m f = inr (begin_state o t c spans us _ _ _ past k m.0.0 m.0.1 m.0.1 (record { row = e; right = λ d same. begin_right o t c d us (by t (Caller c) (Begin spans) ∷ past) same m.1 }))
view o t c (Acked ∷ []) past k e m f = inr (acked_state o t c _ _ _ _ past k m.0 refl)
view o t c (Change d ∷ fs) past k e m f =
    let both = and_parts (not (is_mark d)) (are_frees fs) e in
    inr (change_state o t c _ _ _ _ past k (record { effect = d; frees = fs; is = refl; unmarking = unmarked (is_mark d) both.0; right = m.0.1; are = both.1; may = m.0; each = m.1; freed = f }) m.0.0)
view o t c (End ∷ (Answer r ∷ [])) past k e m f = inr (end_state o t c _ _ _ _ past k m.0 (r, refl, m.1.0.1))
view o t c (Page i fo n ∷ []) past k e m f = inr (page_state o t c i _ _ _ _ past k m.0.1 (i, fo, n, refl, m.0.1, m.0.2))
view o t c (Answer r ∷ []) past k e m f = inr (answer_state o t c r _ _ _ _ past k m.0.0 m.0.1 (r, refl, m.0.1))
view o t c (Gone ∷ []) past k e m f = inl (refl, m.0.none_left)
view o t c _ past k e m f = false_true e

view_same : (o : Orders) (t c : ℕ) (ws gs : List What) (past : List Entry) → Ruled o past → IsNewTurn t past → View o t c ws past → View o t c gs past → Same ws gs
view_same o t c ws gs past r n (inl x) (inl y) = same_of ws gs (x.0 ∙ sym y.0)
view_same o t c ws gs past r n (inl x) (inr y) = absurd (y.0 x.1)
view_same o t c ws gs past r n (inr x) (inl y) = absurd (x.0 y.1)
view_same o t c ws gs past r n (inr x) (inr y) = facts_same o t c (call c past) (bracket c past) ws gs past r n x.1 y.1

pub caller_same : (o : Orders) (t c : ℕ) (ws gs : List What) (past : List Entry) → Ruled o past → IsNewTurn t past → is_caller_row o.setup c ws past ≡ true → is_caller_row o.setup c gs past ≡ true → EachMay o t (Caller c) ws past → EachMay o t (Caller c) gs past → AllFreed (onto t (Caller c) ws past) → AllFreed (onto t (Caller c) gs past) → roomless_turn ws ≡ roomless_turn gs
caller_same o t c ws gs past r n a b d e f g = view_same o t c ws gs past r n (view o t c ws past (known o c past r) a d f) (view o t c gs past (known o c past r) b e g)
