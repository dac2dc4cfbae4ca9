-- The rows of the tables are calm.
use Rattle.std.proofs.Common.{◌≡◌, ℕ, ◌<◌, List, [], ◌∷◌, Bool, true, false, not, ◌&&◌, ◌||◌, eqb, Option, Some, None, arith, refl, ap, ◌∙◌}
use Rattle.std.proofs.lemmas.Bool.{and_parts, both_ways}
use Rattle.std.proofs.lemmas.Bool.Decides.{nat_tests}
use Rattle.gm_base.specs.declared.values.Actor.{Actor}
use Rattle.gm_base.specs.declared.values.Actor.TheVariants.{Caller, Vcpu}
use Rattle.gm_base.specs.declared.values.Setup.{Setup}
use Rattle.gm_flat.specs.Calls.{Bracketed, Paged, Plan, Reads, Refused, Same, Short, mark_of, plan}
use Rattle.gm_flat.specs.Histories.{Call, call}
use Rattle.gm_flat.specs.Replay.{flat}
use Rattle.gm_flat.specs.RightHistory.{Each}
use Rattle.gm_flat.specs.RightLives.{plan_of}
use Rattle.gm_flat.specs.RightOrder.{are_frees, begins_by, is_begin_row, is_caller_row, is_first_row, is_marking, is_row, is_vcpu_row}
use Rattle.gm_flat.specs.declared.effect.Effect.{Effect}
use Rattle.gm_flat.specs.declared.entry.Entry.{Entry}
use Rattle.gm_flat.specs.declared.entry.What.{What}
use Rattle.gm_flat.specs.declared.entry.What.TheVariants.{Acked, Answer, Begin, Change, End, Enter, Flush, Free, Get, Gone, Install, Judge, Left, Look, Miss, Page, Retry, Sample, Touch}
use Rattle.gm_laws.proofs.Kit.{by}
use Rattle.gm_laws.specs.Turns.{onto}
use Rattle.gm_turns.specs.Ahead.{is_loud}
use Rattle.gm_publish.specs.Kept.{IsCalm, firm_in, is_firm}
use Rattle.gm_publish.proofs.Showing.{AllBelow}

-- no loud entry follows a firm one; whether one stands before
abbrev pub is_calm : Bool → List What → Bool
is_calm firm [] = true
is_calm firm (w ∷ ws) = not (firm && is_loud w) && is_calm (is_firm w || firm) ws

false_true : {A : Type 0} → false ≡ true → A
false_true e = absurd (both_ways false refl e)

frees_calm : (firm : Bool) (ws : List What) → are_frees ws ≡ true → is_calm firm ws ≡ true
frees_calm firm [] h = refl
frees_calm true (Free folio pages ∷ ws) h = frees_calm true ws h
frees_calm false (Free folio pages ∷ ws) h = frees_calm false ws h
frees_calm firm (_ ∷ ws) h = false_true h

vcpu_calm : (ws : List What) → is_vcpu_row ws ≡ true → is_calm false ws ≡ true
vcpu_calm (Flush ∷ []) h = refl
vcpu_calm (Flush ∷ (Enter ∷ [])) h = refl
vcpu_calm (Enter ∷ []) h = refl
vcpu_calm (Touch access backing level value fill ∷ []) h = refl
vcpu_calm (Miss access ∷ []) h = refl
vcpu_calm (Sample at ∷ []) h = refl
vcpu_calm (Sample at ∷ (Look seen slot attr file ∷ [])) h = refl
vcpu_calm (Look at slot attr file ∷ []) h = refl
vcpu_calm (Left why ∷ []) h = refl
vcpu_calm (Get backing fresh ∷ []) h = refl
vcpu_calm (Install page level ∷ []) h = refl
vcpu_calm (Retry ∷ ws) h = frees_calm false ws h
vcpu_calm (Gone ∷ []) h = refl
vcpu_calm _ h = false_true h

first_calm : (p : Plan) (ws : List What) → is_first_row p ws ≡ true → is_calm false ws ≡ true
first_calm (Refused errno) (Answer reply ∷ []) h = refl
first_calm (Same answer) (Answer reply ∷ []) h = refl
first_calm (Reads page word) (Answer reply ∷ []) h = refl
first_calm (Short effect answer) (Change e ∷ (Answer reply ∷ [])) h = refl
first_calm (Bracketed effect spans) [] h = refl
first_calm (Paged pages) [] h = refl
first_calm _ _ h = false_true h

marking_calm : (mark : Option Effect) (ws : List What) → is_marking mark ws ≡ true → is_calm false ws ≡ true
marking_calm None [] h = refl
marking_calm (Some mark) (Change effect ∷ []) h = refl
marking_calm _ _ h = false_true h

begin_calm : (p : Plan) (ws : List What) → is_begin_row p ws ≡ true → is_calm false ws ≡ true
begin_calm (Bracketed effect spans) ws h = marking_calm (mark_of effect) ws h
begin_calm _ ws h = false_true h

begins_calm : (s : Setup) (x : Option Call) (ws : List What) (before : List Entry) → begins_by s x ws before ≡ true → is_calm false ws ≡ true
begins_calm s None ws before h = false_true h
begins_calm s (Some x) ws before h = begin_calm (plan_of s x before) ws h

caller_calm : (s : Setup) (c : ℕ) (ws : List What) (before : List Entry) → is_caller_row s c ws before ≡ true → is_calm false ws ≡ true
caller_calm s c (Judge ioctl ∷ ws) before h = first_calm (plan s ioctl (flat before)) ws h
caller_calm s c (Begin spans ∷ ws) before h = begins_calm s (call c before) ws before h
caller_calm s c (Acked ∷ []) before h = refl
caller_calm s c (Change effect ∷ ws) before h = frees_calm true ws (and_parts _ (are_frees ws) h).1
caller_calm s c (End ∷ (Answer reply ∷ [])) before h = refl
caller_calm s c (Page index folio pages ∷ []) before h = refl
caller_calm s c (Answer reply ∷ []) before h = refl
caller_calm s c (Gone ∷ []) before h = refl
caller_calm s c _ before h = false_true h

pub row_calm : (s : Setup) (a : Actor) (ws : List What) (before : List Entry) → is_row s a ws before ≡ true → is_calm false ws ≡ true
row_calm s (Vcpu v) ws before h = vcpu_calm ws h
row_calm s (Caller c) ws before h = caller_calm s c ws before h

own : (t : ℕ) → eqb t t ≡ true
own t = grind (arith, nat_tests)

both_not : (a b : Bool) → not (a && b) ≡ true → b ≡ true → a ≡ false
both_not a b h e = grind arith

-- a turn of a calm row keeps a history calm
calm_more : (t : ℕ) (a : Actor) (ws : List What) (past : List Entry) (firm : Bool) → firm_in t past ≡ firm → Each IsCalm past → is_calm firm ws ≡ true → Each IsCalm (onto t a ws past)
calm_more t a [] past firm is c h = c
calm_more t a (w ∷ ws) past firm is c h =
    let k = and_parts (not (firm && is_loud w)) (is_calm (is_firm w || firm) ws) h in
    let now : firm_in t (by t a w ∷ past) ≡ (is_firm w || firm) = ap (λ (b : Bool). (b && is_firm w) || firm_in t past) (own t) ∙ ap (λ (b : Bool). is_firm w || b) is in
    calm_more t a ws (by t a w ∷ past) (is_firm w || firm) now ((λ l. is ∙ both_not firm (is_loud w) k.0 l), c) k.1

other_number : (m n : ℕ) → m < n → eqb m n ≡ false
other_number m n h = grind (arith, nat_tests)

none_firm : (t : ℕ) (past : List Entry) → AllBelow t past → firm_in t past ≡ false
none_firm t [] b = refl
none_firm t (e ∷ past) b = ap (λ (x : Bool). (x && is_firm e.what) || firm_in t past) (other_number e.turn t b.0) ∙ none_firm t past b.1

pub turn_calm : (s : Setup) (t : ℕ) (a : Actor) (ws : List What) (past : List Entry) → AllBelow t past → is_row s a ws past ≡ true → Each IsCalm past → Each IsCalm (onto t a ws past)
turn_calm s t a ws past b row c = calm_more t a ws past false (none_firm t past b) c (row_calm s a ws past row)
