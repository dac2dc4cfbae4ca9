-- What the turn owes in which a call is judged: one that goes on, and one that is answered at once.
use Rattle.std.proofs.Common.{◌≡◌, ℕ, ◌<◌, List, [], ◌∷◌, Bool, true, false, not, length, Option, Some, None, arith, subst, sym, refl, ◌∙◌, ap}
use Rattle.gm_base.specs.Scripts.{Orders}
use Rattle.gm_base.specs.declared.calls.Ioctl.{Ioctl}
use Rattle.gm_base.specs.declared.values.Actor.TheVariants.{Caller as OfCaller}
use Rattle.gm_base.specs.declared.values.Errno.{Errno}
use Rattle.gm_base.specs.declared.values.Setup.{Setup}
use Rattle.gm_calls.specs.Judgements.{IsAnswer as IsAnswerOf}
use Rattle.gm_calls.specs.declared.judged.Judged.{Judged}
use Rattle.gm_calls.specs.declared.judged.Judged.TheVariants as judgement
use Rattle.gm_flat.specs.Calls.{Plan, Refused, Same, Reads, Short, Bracketed, Paged, plan}
use Rattle.gm_flat.specs.FlatState.{Flat}
use Rattle.gm_flat.specs.Histories.{Call as Past, call, Bracket, bracket, is_mark}
use Rattle.gm_flat.specs.Replay.{flat}
use Rattle.gm_flat.specs.RightCalls.{IsAnswer, IsChange, IsEffect, RightAnswer, RightChange}
use Rattle.gm_flat.specs.RightLives.{plan_of}
use Rattle.gm_flat.specs.RightOrder.{Changes, IsDue, IsDueBy, is_first_row, is_row}
use Rattle.gm_flat.specs.Roomy.{Roomy}
use Rattle.gm_flat.specs.Words.{user_word}
use Rattle.gm_flat.specs.declared.effect.Effect.{Effect}
use Rattle.gm_flat.specs.declared.effect.Reply.{Reply}
use Rattle.gm_flat.specs.declared.effect.Reply.TheVariants.{Bad, Good}
use Rattle.gm_flat.specs.declared.entry.Entry.{Entry}
use Rattle.gm_flat.specs.declared.entry.What.TheVariants.{Judge, Change, Answer}
use Rattle.gm_laws.specs.May.{May}
use Rattle.gm_words.specs.Banks.{word_in}
use Rattle.gm_callers.proofs.Lists.{self}
use Rattle.gm_callers.proofs.Moves.{at_before, by, idle}
use Rattle.gm_callers.proofs.Stays.{plan_keep}
use Rattle.gm_callers.proofs.Unmarked.{short_unmarked}
use Rattle.gm_callers.specs.Callers.{caller_at}
use Rattle.gm_callers.specs.Stand.{CallersStand, IsJudged}
use Rattle.gm_callers.specs.declared.caller.Caller.{Caller}

-- rows

-- a call that goes on is judged alone
goes_on : (j : Judged) (spans : Option Roomy) (p : Plan) → IsJudged j spans p → is_first_row p [] ≡ true
goes_on (judgement.Bracket effect) (Some ss) p h = ap (λ (q : Plan). is_first_row q []) h
goes_on (judgement.Bracket effect) None p h = absurd h
goes_on (judgement.Pages q) spans p h = ap (λ (r : Plan). is_first_row r []) h
goes_on (judgement.Refused errno) spans p h = absurd h
goes_on (judgement.Same answer) spans p h = absurd h
goes_on (judgement.Short effect answer) spans p h = absurd h

pub row_judged : (s : Setup) (c : ℕ) (i : Ioctl) (j : Judged) (spans : Option Roomy) (past : List Entry) → IsJudged j spans (plan s i (flat past)) → is_row s (OfCaller c) (Judge i ∷ []) past ≡ true
row_judged s c i j spans past h = goes_on j spans (plan s i (flat past)) h

pub row_refused : (s : Setup) (c : ℕ) (i : Ioctl) (errno : Errno) (reply : Reply) (past : List Entry) → plan s i (flat past) ≡ Refused errno → is_row s (OfCaller c) (Judge i ∷ Answer reply ∷ []) past ≡ true
row_refused s c i errno reply past h = ap (λ (p : Plan). is_first_row p (Answer reply ∷ [])) h

answered_row : (user : List (List ℕ)) (p : Plan) (answer : ℕ) (reply : Reply) → IsAnswerOf user p answer → is_first_row p (Answer reply ∷ []) ≡ true
answered_row user (Same given) answer reply h = refl
answered_row user (Reads page word) answer reply h = refl
answered_row user (Refused errno) answer reply h = absurd h
answered_row user (Short effect given) answer reply h = absurd h
answered_row user (Bracketed effect spans) answer reply h = absurd h
answered_row user (Paged pages) answer reply h = absurd h

pub row_same : (s : Setup) (c : ℕ) (i : Ioctl) (user : List (List ℕ)) (answer : ℕ) (reply : Reply) (past : List Entry) → IsAnswerOf user (plan s i (flat past)) answer → is_row s (OfCaller c) (Judge i ∷ Answer reply ∷ []) past ≡ true
row_same s c i user answer reply past h = answered_row user (plan s i (flat past)) answer reply h

pub row_short : (s : Setup) (c : ℕ) (i : Ioctl) (effect : Effect) (answer : ℕ) (reply : Reply) (past : List Entry) → plan s i (flat past) ≡ Short effect answer → is_row s (OfCaller c) (Judge i ∷ Change effect ∷ Answer reply ∷ []) past ≡ true
row_short s c i effect answer reply past h = ap (λ (p : Plan). is_first_row p (Change effect ∷ Answer reply ∷ [])) h ∙ ap not (short_unmarked s i (flat past) effect answer h)

-- the call that was judged last

abbrev pub judged_now : Ioctl → List Entry → Past
judged_now i past = record { judged = length past; ioctl = i; made = false; pages = 0 }

call_now : (t c : ℕ) (i : Ioctl) (past : List Entry) → call c (by t c (Judge i) ∷ past) ≡ Some (judged_now i past)
call_now t c i past = rw (self c) refl

plan_now : (s : Setup) (t c : ℕ) (i : Ioctl) (past : List Entry) → plan_of s (judged_now i past) (by t c (Judge i) ∷ past) ≡ plan s i (flat past)
plan_now s t c i past = ap (λ (f : Flat). plan s i f) (at_before (by t c (Judge i)) past)

-- it is answered where it is judged

pub may_reply : (o : Orders) {cs : List Caller} {past : List Entry} (t c : ℕ) (i : Ioctl) (reply : Reply) → CallersStand o.setup cs past → c < o.setup.callers → (caller_at cs c).call ≡ None → IsAnswer o.setup reply (judged_now i past) (plan o.setup i (flat past)) (by t c (Judge i) ∷ past) → May o (Answer reply) (OfCaller c) (by t c (Judge i) ∷ past)
may_reply o {past = past} t c i reply st lt none h =
    let new : List Entry = by t c (Judge i) ∷ past in (
      (idle c st lt none).1,
      subst (λ (x : Option Past). RightAnswer o.setup reply x new) (sym (call_now t c i past))
          (subst (λ (p : Plan). IsAnswer o.setup reply (judged_now i past) p new) (sym (plan_now o.setup t c i past)) h),
    )

pub may_refuse : (o : Orders) {cs : List Caller} {past : List Entry} (t c : ℕ) (i : Ioctl) (errno : Errno) → CallersStand o.setup cs past → c < o.setup.callers → (caller_at cs c).call ≡ None → plan o.setup i (flat past) ≡ Refused errno → May o (Answer (Bad errno)) (OfCaller c) (by t c (Judge i) ∷ past)
may_refuse o {past = past} t c i errno st lt none h =
    may_reply o t c i (Bad errno) st lt none (subst (λ (p : Plan). IsAnswer o.setup (Bad errno) (judged_now i past) p (by t c (Judge i) ∷ past)) (sym h) refl)

-- its answer is the plan's, or the word of user memory that the plan names
reply_same : (s : Setup) (t c : ℕ) (i : Ioctl) (user : List (List ℕ)) (answer : ℕ) (past : List Entry) (p : Plan) → ((page word : ℕ) → p ≡ Reads page word → word_in user page word ≡ user_word page word past) → IsAnswerOf user p answer → IsAnswer s (Good answer) (judged_now i past) p (by t c (Judge i) ∷ past)
reply_same s t c i user answer past (Same given) words h = ap Good (sym h)
reply_same s t c i user answer past (Reads page word) words h = ap Good (sym h ∙ words page word refl)
reply_same s t c i user answer past (Refused errno) words h = absurd h
reply_same s t c i user answer past (Short effect given) words h = absurd h
reply_same s t c i user answer past (Bracketed effect spans) words h = absurd h
reply_same s t c i user answer past (Paged pages) words h = absurd h

pub may_same : (o : Orders) {cs : List Caller} {past : List Entry} (t c : ℕ) (i : Ioctl) (user : List (List ℕ)) (answer : ℕ) → CallersStand o.setup cs past → c < o.setup.callers → (caller_at cs c).call ≡ None → ((page word : ℕ) → plan o.setup i (flat past) ≡ Reads page word → word_in user page word ≡ user_word page word past) → IsAnswerOf user (plan o.setup i (flat past)) answer → May o (Answer (Good answer)) (OfCaller c) (by t c (Judge i) ∷ past)
may_same o {past = past} t c i user answer st lt none words h =
    may_reply o t c i (Good answer) st lt none (reply_same o.setup t c i user answer past (plan o.setup i (flat past)) words h)

-- it makes its change and is answered where it is judged

pub may_change : (o : Orders) {cs : List Caller} {past : List Entry} (t c : ℕ) (i : Ioctl) (effect : Effect) (answer : ℕ) → CallersStand o.setup cs past → c < o.setup.callers → (caller_at cs c).call ≡ None → plan o.setup i (flat past) ≡ Short effect answer → May o (Change effect) (OfCaller c) (by t c (Judge i) ∷ past)
may_change o {past = past} t c i effect answer st lt none h =
    let new : List Entry = by t c (Judge i) ∷ past in
    let y = judged_now i past in
    let p : plan_of o.setup y new ≡ Short effect answer = plan_now o.setup t c i past ∙ h in
    let k = short_unmarked o.setup i (flat past) effect answer h in
    let due : Changes o.setup effect (Some y) None new =
    (refl, subst (λ (m : Bool). IsDueBy m (length new) y.judged (plan_of o.setup y new) None) (sym k) (subst (λ (q : Plan). IsDue (length new) y.judged q None) (sym p) refl)) in
    let right : RightChange o.setup effect (Some y) new =
    subst (λ (m : Bool). IsChange m effect (plan_of o.setup y new)) (sym k) (subst (λ (q : Plan). IsEffect effect q) (sym p) refl) in (
      subst (λ (x : Option Past). Changes o.setup effect x (bracket c past) new) (sym (call_now t c i past))
          (subst (λ (b : Option Bracket). Changes o.setup effect (Some y) b new) (sym (idle c st lt none).1) due),
      subst (λ (x : Option Past). RightChange o.setup effect x new) (sym (call_now t c i past)) right,
    )

changed_now : (t c : ℕ) (i : Ioctl) (effect : Effect) (past : List Entry) → is_mark effect ≡ false → call c (by t c (Change effect) ∷ by t c (Judge i) ∷ past) ≡ Some (record (judged_now i past) { made = true })
changed_now t c i effect past k = rw (self c, k) refl

pub may_answer : (o : Orders) {cs : List Caller} {past : List Entry} (t c : ℕ) (i : Ioctl) (effect : Effect) (answer : ℕ) → CallersStand o.setup cs past → c < o.setup.callers → (caller_at cs c).call ≡ None → plan o.setup i (flat past) ≡ Short effect answer → May o (Answer (Good answer)) (OfCaller c) (by t c (Change effect) ∷ by t c (Judge i) ∷ past)
may_answer o {past = past} t c i effect answer st lt none h =
    let one : List Entry = by t c (Judge i) ∷ past in
    let new : List Entry = by t c (Change effect) ∷ one in
    let y : Past = record (judged_now i past) { made = true } in
    let k = short_unmarked o.setup i (flat past) effect answer h in
    let p : plan_of o.setup y new ≡ Short effect answer = plan_keep o.setup y (by t c (Change effect)) one (omega arith) ∙ (plan_now o.setup t c i past ∙ h) in (
      (idle c st lt none).1,
      subst (λ (x : Option Past). RightAnswer o.setup (Good answer) x new) (sym (changed_now t c i effect past k))
          (subst (λ (q : Plan). IsAnswer o.setup (Good answer) y q new) (sym p) (refl, refl)),
    )
