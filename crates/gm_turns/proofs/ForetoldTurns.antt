-- What a caller's next turn changes of what is shown, by what stands before it.
use Rattle.std.proofs.Common.{◌≡◌, ℕ, suc, ◌+◌, ◌-◌, ◌<◌, List, [], ◌∷◌, Bool, true, false, length, Option, Some, None, arith, eqb, leb, cond, refl, ap, sym, ◌∙◌, subst, inl, inr, ◌⊎◌}
use Rattle.gm_base.specs.Extent.{Extent}
use Rattle.gm_base.specs.Scripts.{Orders}
use Rattle.gm_base.specs.declared.calls.Ioctl.{Ioctl}
use Rattle.gm_base.specs.declared.script.Command.{Command}
use Rattle.gm_base.specs.declared.script.Command.TheVariants.{Call as CallCommand}
use Rattle.gm_base.specs.declared.values.Actor.TheVariants.{Caller}
use Rattle.gm_flat.specs.Calls.{Bracketed, Paged, Plan, Reads, Refused, Same, Short, mark_of, plan}
use Rattle.gm_flat.specs.Histories.{Bracket, Call, bracket, call, is_mark}
use Rattle.gm_flat.specs.Invalidation.{count, hull, widened}
use Rattle.gm_flat.specs.Replay.{flat}
use Rattle.gm_flat.specs.RightCalls.{IsChange, IsEffect, RightBegin, RightChange}
use Rattle.gm_flat.specs.RightLives.{plan_of}
use Rattle.gm_flat.specs.RightOrder.{is_first_row, next_command}
use Rattle.gm_flat.specs.Roomy.{Roomy}
use Rattle.gm_flat.specs.declared.effect.Effect.{Effect}
use Rattle.gm_flat.specs.declared.entry.Entry.{Entry}
use Rattle.gm_flat.specs.declared.entry.What.{What}
use Rattle.gm_flat.specs.declared.entry.What.TheVariants.{Acked, Answer, Begin, Change, End, Gone, Judge, Page}
use Rattle.gm_laws.proofs.Kit.{by, none_is, some_same}
use Rattle.gm_laws.specs.Counting.{ends}
use Rattle.gm_laws.specs.May.{May}
use Rattle.gm_laws.specs.Ruled.{Ruled}
use Rattle.gm_laws.specs.Turns.{EachMay, IsNewTurn, onto}
use Rattle.gm_calls.specs.AtOnce.{effect_at_once}
use Rattle.gm_determined.proofs.CallEntries.{change_same}
use Rattle.gm_determined.proofs.CallerTurn.{Acknowledged, AnswerRow, BeginRow, ChangeRow, EndRow, Facts, FirstRow, JudgeRow, Planned, View, first_row, known, marks}
use Rattle.gm_determined.proofs.Entries.{call_command}
use Rattle.gm_determined.proofs.Waits.{CallWaits}
use Rattle.gm_turns.proofs.Loudness.{change_told, loud_of, told_onto}
use Rattle.gm_turns.specs.Ahead.{Loud, ahead_by, ahead_in}
use Rattle.gm_turns.specs.declared.outcome.Ahead.{Ahead}

-- what is read of a turn: its entries after a history that follows the tables
pub record Read (o : Orders) (t c : ℕ) (ws : List What) (past : List Entry) : Type 0 where
  pub ruled : Ruled o past
  pub new : IsNewTurn t past
  pub seen : View o t c ws past

-- of a call in progress
facts_of : (o : Orders) (t c : ℕ) (ws : List What) (past : List Entry) (y : Call) (b : Option Bracket) → Read o t c ws past → call c past ≡ Some y → bracket c past ≡ b → Planned o t c (plan_of o.setup y past) b y.made ws past
facts_of o t c ws past y b x e f = go x.seen
  where
    waits : CallWaits (next_command o (Caller c) past) (Some y)
    waits = subst (λ (z : Option Call). CallWaits (next_command o (Caller c) past) z) e (known o c past x.ruled).waits

    go : View o t c ws past → Planned o t c (plan_of o.setup y past) b y.made ws past
    go (inl g) = absurd (none_is (CallCommand y.ioctl) (sym g.1 ∙ waits))
    go (inr s) =
        subst (λ (d : Option Bracket). Planned o t c (plan_of o.setup y past) d y.made ws past) f
        (subst (λ (z : Option Call). Facts o t c z (bracket c past) ws past) e s.1)

planned_by : (o : Orders) (t c : ℕ) (ws : List What) (past : List Entry) (y : Call) (b : Option Bracket) (p : Plan) (made : Bool) → Read o t c ws past → call c past ≡ Some y → bracket c past ≡ b → plan_of o.setup y past ≡ p → y.made ≡ made → Planned o t c p b made ws past
planned_by o t c ws past y b p made x e f g h =
    subst (λ (m : Bool). Planned o t c p b m ws past) h
    (subst (λ (q : Plan). Planned o t c q b y.made ws past) g (facts_of o t c ws past y b x e f))

-- a bracket's acknowledgement tells nothing
pub acked_told : (o : Orders) (t c : ℕ) (ws : List What) (past : List Entry) (y : Call) (b : Bracket) (effect : Effect) (xs : List Extent) → Read o t c ws past → call c past ≡ Some y → bracket c past ≡ Some b → plan_of o.setup y past ≡ Bracketed effect xs → y.made ≡ false → b.acked ≡ false → None ≡ ahead_in t (onto t (Caller c) ws past)
acked_told o t c ws past y b effect xs x e f g h a =
    let row : ws ≡ Acked ∷ [] = subst (λ (k : Bool). Acknowledged o t c k ws past) a (planned_by o t c ws past y (Some b) (Bracketed effect xs) false x e f g h) in
    subst (λ (vs : List What). None ≡ ahead_in t (onto t (Caller c) vs past)) (sym row) (told_onto t (Caller c) (Acked ∷ []) past x.new)

-- nor do pages, and their answer
pub pages_told : (o : Orders) (t c : ℕ) (ws : List What) (past : List Entry) (y : Call) (p : Plan) → Read o t c ws past → call c past ≡ Some y → bracket c past ≡ None → plan_of o.setup y past ≡ p → ((z : Planned o t c p None y.made ws past) → None ≡ ahead_in t (onto t (Caller c) ws past)) → None ≡ ahead_in t (onto t (Caller c) ws past)
pages_told o t c ws past y p x e f g go = go (planned_by o t c ws past y None p y.made x e f g refl)

pub quiet_row : (t c : ℕ) (ws vs : List What) (past : List Entry) → IsNewTurn t past → ws ≡ vs → loud_of vs (length past) None ≡ None → None ≡ ahead_in t (onto t (Caller c) ws past)
quiet_row t c ws vs past n e q =
    subst (λ (us : List What). None ≡ ahead_in t (onto t (Caller c) us past)) (sym e)
    (sym (ap (λ (l : Option Loud). ahead_by l (onto t (Caller c) vs past)) q) ∙ told_onto t (Caller c) vs past n)

-- a change in its bracket
pub changed_told : (o : Orders) (t c : ℕ) (ws : List What) (past : List Entry) (y : Call) (b : Bracket) (effect : Effect) (xs : List Extent) → Read o t c ws past → call c past ≡ Some y → bracket c past ≡ Some b → plan_of o.setup y past ≡ Bracketed effect xs → y.made ≡ false → b.acked ≡ true → Some (record { at = suc (length past); effect = Some effect; seq = ends past; count = count past; hull = hull past }) ≡ ahead_in t (onto t (Caller c) ws past)
changed_told o t c ws past y b effect xs x e f g h a =
    let row : ChangeRow o t c ws past = subst (λ (k : Bool). Acknowledged o t c k ws past) a (planned_by o t c ws past y (Some b) (Bracketed effect xs) false x e f g h) in
    let right : RightChange o.setup row.effect (Some y) past = subst (λ (z : Option Call). RightChange o.setup row.effect z past) e row.right in
    let is : row.effect ≡ effect = subst (λ (p : Plan). IsEffect row.effect p) g (subst (λ (m : Bool). IsChange m row.effect (plan_of o.setup y past)) row.unmarking right) in
    subst (λ (vs : List What). Some (record { at = suc (length past); effect = Some effect; seq = ends past; count = count past; hull = hull past }) ≡ ahead_in t (onto t (Caller c) vs past)) (sym row.is)
    (subst (λ (z : Effect). Some (record { at = suc (length past); effect = Some z; seq = ends past; count = count past; hull = hull past }) ≡ ahead_in t (onto t (Caller c) (Change row.effect ∷ row.frees) past)) is
    (change_told t (Caller c) row.effect row.frees past x.new row.are))

-- its end
pub ended_told : (o : Orders) (t c : ℕ) (ws : List What) (past : List Entry) (y : Call) (b : Bracket) (effect : Effect) (xs : List Extent) → Read o t c ws past → call c past ≡ Some y → bracket c past ≡ Some b → plan_of o.setup y past ≡ Bracketed effect xs → y.made ≡ true → Some (record { at = suc (length past); effect = None; seq = suc (ends past); count = count past - 1; hull = cond (leb (count past) 1) None (hull past) }) ≡ ahead_in t (onto t (Caller c) ws past)
ended_told o t c ws past y b effect xs x e f g h =
    let row : EndRow o t c ws past = planned_by o t c ws past y (Some b) (Bracketed effect xs) true x e f g h in
    subst (λ (vs : List What). Some (record { at = suc (length past); effect = None; seq = suc (ends past); count = count past - 1; hull = cond (leb (count past) 1) None (hull past) }) ≡ ahead_in t (onto t (Caller c) vs past)) (sym row.1)
    (told_onto t (Caller c) (End ∷ (Answer row.0 ∷ [])) past x.new)

-- its begin, with its mark where it has one
abbrev pub marked_loud : Option Effect → ℕ → Loud
marked_loud None n = record { at = suc n; effect = None }
marked_loud (Some mark) n = record { at = suc (suc n); effect = Some mark }

marked_told : (t c : ℕ) (spans : Roomy) (m : Option Effect) (past : List Entry) → IsNewTurn t past → Some (record { at = (marked_loud m (length past)).at; effect = (marked_loud m (length past)).effect; seq = ends past; count = suc (count past); hull = widened (cond (eqb (count past) 0) None (hull past)) spans.list }) ≡ ahead_in t (onto t (Caller c) (Begin spans ∷ marks m) past)
marked_told t c spans None past n = told_onto t (Caller c) (Begin spans ∷ []) past n
marked_told t c spans (Some mark) past n = told_onto t (Caller c) (Begin spans ∷ (Change mark ∷ [])) past n

same_spans : (e d : Effect) (xs ys : List Extent) → Bracketed e xs ≡ Bracketed d ys → xs ≡ ys
same_spans e d xs ys h = cc

pub begun_told : (o : Orders) (t c : ℕ) (ws : List What) (past : List Entry) (y : Call) (effect : Effect) (xs : List Extent) → Read o t c ws past → call c past ≡ Some y → bracket c past ≡ None → plan_of o.setup y past ≡ Bracketed effect xs → y.made ≡ false → Some (record { at = (marked_loud (mark_of effect) (length past)).at; effect = (marked_loud (mark_of effect) (length past)).effect; seq = ends past; count = suc (count past); hull = widened (cond (eqb (count past) 0) None (hull past)) xs }) ≡ ahead_in t (onto t (Caller c) ws past)
begun_told o t c ws past y effect xs x e f g h =
    let row : BeginRow o c (mark_of effect) ws past = planned_by o t c ws past y None (Bracketed effect xs) false x e f g h in
    let right : RightBegin o.setup row.0.list (Some y) past = subst (λ (z : Option Call). RightBegin o.setup row.0.list z past) e row.2 in
    let is : row.0.list ≡ xs = same_spans right.0 effect row.0.list xs (sym right.1 ∙ g) in
    subst (λ (vs : List What). Some (record { at = (marked_loud (mark_of effect) (length past)).at; effect = (marked_loud (mark_of effect) (length past)).effect; seq = ends past; count = suc (count past); hull = widened (cond (eqb (count past) 0) None (hull past)) xs }) ≡ ahead_in t (onto t (Caller c) vs past)) (sym row.1)
    (subst (λ (zs : List Extent). Some (record { at = (marked_loud (mark_of effect) (length past)).at; effect = (marked_loud (mark_of effect) (length past)).effect; seq = ends past; count = suc (count past); hull = widened (cond (eqb (count past) 0) None (hull past)) zs }) ≡ ahead_in t (onto t (Caller c) (Begin row.0 ∷ marks (mark_of effect)) past)) is
    (marked_told t c row.0 (mark_of effect) past x.new))

-- of a caller without a call in progress

-- it judges its next call
idle_row : (o : Orders) (t c : ℕ) (ws : List What) (past : List Entry) (k : Command) → Read o t c ws past → call c past ≡ None → next_command o (Caller c) past ≡ Some k → JudgeRow o t c ws past
idle_row o t c ws past k x e f = go x.seen
  where
    go : View o t c ws past → JudgeRow o t c ws past
    go (inl g) = absurd (none_is k (sym g.1 ∙ f))
    go (inr s) = subst (λ (z : Option Call). Facts o t c z (bracket c past) ws past) e s.1

-- or it has none left
pub leaving_told : (o : Orders) (t c : ℕ) (ws : List What) (past : List Entry) → Read o t c ws past → next_command o (Caller c) past ≡ None → None ≡ ahead_in t (onto t (Caller c) ws past)
leaving_told o t c ws past x f = go x.seen
  where
    go : View o t c ws past → None ≡ ahead_in t (onto t (Caller c) ws past)
    go (inl g) = quiet_row t c ws (Gone ∷ []) past x.new g.0 refl
    go (inr s) = absurd (s.0 f)

first_quiet : (p : Plan) (i : Ioctl) (ws : List What) (n : ℕ) → effect_at_once p ≡ None → FirstRow p ws → loud_of (Judge i ∷ ws) n None ≡ None
first_quiet (Refused r) i ws n h row = ap (λ (vs : List What). loud_of (Judge i ∷ vs) n None) row.1
first_quiet (Same r) i ws n h row = ap (λ (vs : List What). loud_of (Judge i ∷ vs) n None) row.1
first_quiet (Reads r w) i ws n h row = ap (λ (vs : List What). loud_of (Judge i ∷ vs) n None) row.1
first_quiet (Bracketed e xs) i ws n h row = ap (λ (vs : List What). loud_of (Judge i ∷ vs) n None) row
first_quiet (Paged q) i ws n h row = ap (λ (vs : List What). loud_of (Judge i ∷ vs) n None) row
first_quiet (Short e k) i ws n h row = absurd (none_is e (sym h))

pub quiet_told : (o : Orders) (t c : ℕ) (ws : List What) (past : List Entry) (i : Ioctl) → Read o t c ws past → call c past ≡ None → next_command o (Caller c) past ≡ Some (CallCommand i) → effect_at_once (plan o.setup i (flat past)) ≡ None → None ≡ ahead_in t (onto t (Caller c) ws past)
quiet_told o t c ws past i x e f h =
    let row = idle_row o t c ws past (CallCommand i) x e f in
    let same : i ≡ row.ioctl = call_command i row.ioctl (next_command o (Caller c) past) f row.command in
    let h2 : effect_at_once (plan o.setup row.ioctl (flat past)) ≡ None = subst (λ (j : Ioctl). effect_at_once (plan o.setup j (flat past)) ≡ None) same h in
    quiet_row t c ws (Judge row.ioctl ∷ row.rest) past x.new row.is (first_quiet (plan o.setup row.ioctl (flat past)) row.ioctl row.rest (length past) h2 (first_row (plan o.setup row.ioctl (flat past)) row.rest row.row))

-- a change at once
pub at_once_is : (p : Plan) (e : Effect) → effect_at_once p ≡ Some e → (n : ℕ) × (p ≡ Short e n)
at_once_is (Short d n) e h = (n, ap (λ (z : Effect). Short z n) (some_same d e h))
at_once_is (Refused r) e h = absurd (none_is e h)
at_once_is (Same r) e h = absurd (none_is e h)
at_once_is (Reads r w) e h = absurd (none_is e h)
at_once_is (Bracketed r w) e h = absurd (none_is e h)
at_once_is (Paged r) e h = absurd (none_is e h)

-- the change that stands after a Judge, where this one may
pub short_told : (o : Orders) (t c : ℕ) (ws : List What) (past : List Entry) (i : Ioctl) (effect : Effect) → Read o t c ws past → call c past ≡ None → next_command o (Caller c) past ≡ Some (CallCommand i) → effect_at_once (plan o.setup i (flat past)) ≡ Some effect → is_mark effect ≡ false → May o (Change effect) (Caller c) (by t (Caller c) (Judge i) ∷ past) → Some (record { at = suc (suc (length past)); effect = Some effect; seq = ends past; count = count past; hull = hull past }) ≡ ahead_in t (onto t (Caller c) ws past)
short_told o t c ws past i effect x e f h unmarked may =
    let row = idle_row o t c ws past (CallCommand i) x e f in
    let same : row.ioctl ≡ i = call_command row.ioctl i (next_command o (Caller c) past) row.command f in
    let s = at_once_is (plan o.setup i (flat past)) effect h in
    let fits : is_first_row (Short effect s.0) row.rest ≡ true = subst (λ (p : Plan). is_first_row p row.rest ≡ true) s.1 (subst (λ (j : Ioctl). is_first_row (plan o.setup j (flat past)) row.rest ≡ true) same row.row) in
    let first = first_row (Short effect s.0) row.rest fits in
    let q : List Entry = by t (Caller c) (Judge i) ∷ past in
    let each : EachMay o t (Caller c) (Change first.0 ∷ (Answer first.1 ∷ [])) q = subst (λ (vs : List What). EachMay o t (Caller c) vs q) first.2 (subst (λ (j : Ioctl). EachMay o t (Caller c) row.rest (by t (Caller c) (Judge j) ∷ past)) same row.each) in
    let is : first.0 ≡ effect = change_same o.setup first.0 effect (call c q) q (unmarked ∙ sym first.3) each.0.1 may.1 in
    let whole : ws ≡ Judge i ∷ (Change effect ∷ (Answer first.1 ∷ [])) = row.is ∙ (ap (λ (j : Ioctl). Judge j ∷ row.rest) same ∙ (ap (λ (vs : List What). Judge i ∷ vs) first.2 ∙ ap (λ (z : Effect). Judge i ∷ (Change z ∷ (Answer first.1 ∷ []))) is)) in
    subst (λ (vs : List What). Some (record { at = suc (suc (length past)); effect = Some effect; seq = ends past; count = count past; hull = hull past }) ≡ ahead_in t (onto t (Caller c) vs past)) (sym whole)
    (told_onto t (Caller c) (Judge i ∷ (Change effect ∷ (Answer first.1 ∷ []))) past x.new)
