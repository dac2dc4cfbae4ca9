-- The Frees of a turn are determined by what stands before it and its first entry.
use Rattle.std.proofs.Common.{List, None, Option, Some, [], ap, false, inl, inr, not, refl, sym, true, ℕ, ◌∙◌, ◌∷◌, ◌≡◌, ◌⊎◌}
use Rattle.std.proofs.lemmas.Bool.{and_parts}
use Rattle.gm_base.specs.Scripts.{Orders}
use Rattle.gm_base.specs.declared.values.Actor.{Actor}
use Rattle.gm_base.specs.declared.values.Actor.TheVariants.{Caller, Vcpu}
use Rattle.gm_base.specs.declared.values.Setup.{Setup}
use Rattle.gm_flat.specs.Calls.{Bracketed, Paged, Plan, Reads, Refused, Same, Short, mark_of, plan}
use Rattle.gm_flat.specs.Histories.{Call, call, is_mark, same_turn}
use Rattle.gm_flat.specs.Plays.{turn_entries}
use Rattle.gm_flat.specs.Replay.{flat}
use Rattle.gm_flat.specs.RightHistory.{Right}
use Rattle.gm_flat.specs.RightLives.{plan_of}
use Rattle.gm_flat.specs.RightOrder.{are_frees, begins_by, is_begin_row, is_caller_row, is_first_row, is_marking, is_row, is_vcpu_row}
use Rattle.gm_flat.specs.declared.effect.Effect.{Effect}
use Rattle.gm_flat.specs.declared.entry.Entry.{Entry}
use Rattle.gm_flat.specs.declared.entry.What.{What}
use Rattle.gm_flat.specs.declared.entry.What.TheVariants.{Acked, Answer, Begin, Change, End, Enter, Flush, Free, Get, Gone, Install, Judge, Left, Look, Miss, Page, Retry, Sample, Touch}
use Rattle.gm_laws.specs.Ruled.{Ruled}
use Rattle.gm_laws.specs.Stands.{Stands}
use Rattle.gm_laws.specs.Turns.{IsTurn}
use Rattle.gm_determined.specs.Determined.{frees_in}
use Rattle.gm_determined.proofs.Frees.{IsFreer, frees_same}
use Rattle.gm_determined.proofs.Placed.{begins}
use Rattle.gm_determined.proofs.Small.{false_true}

-- a Free comes after a Change or a Retry alone
first_none : (p : Plan) (ws : List What) → is_first_row p ws ≡ true → frees_in ws ≡ []
first_none (Refused r) (Answer x ∷ []) e = refl
first_none (Same r) (Answer x ∷ []) e = refl
first_none (Reads r w) (Answer x ∷ []) e = refl
first_none (Short r n) (Change f ∷ (Answer x ∷ [])) e = refl
first_none (Bracketed r s) [] e = refl
first_none (Paged p) [] e = refl
first_none _ ws e = false_true e

marking_none : (m : Option Effect) (ws : List What) → is_marking m ws ≡ true → frees_in ws ≡ []
marking_none None [] e = refl
marking_none (Some m) (Change d ∷ []) e = refl
marking_none m ws e = false_true e

begin_none : (p : Plan) (ws : List What) → is_begin_row p ws ≡ true → frees_in ws ≡ []
begin_none (Bracketed f spans) ws e = marking_none (mark_of f) ws e
begin_none _ ws e = false_true e

begins_none : (s : Setup) (z : Option Call) (ws : List What) (past : List Entry) → begins_by s z ws past ≡ true → frees_in ws ≡ []
begins_none s None ws past e = false_true e
begins_none s (Some x) ws past e = begin_none (plan_of s x past) ws e

abbrev FreesOf : What → List What → Type 0
FreesOf w ws = (IsFreer w × (are_frees ws ≡ true)) ⊎ (frees_in ws ≡ [])

caller_frees : (s : Setup) (c : ℕ) (w : What) (ws : List What) (past : List Entry) → is_caller_row s c (w ∷ ws) past ≡ true → FreesOf w ws
caller_frees s c (Judge i) ws past e = inr (first_none (plan s i (flat past)) ws e)
caller_frees s c (Begin x) ws past e = inr (begins_none s (call c past) ws past e)
caller_frees s c (Change x) ws past e = inl (tt, (and_parts (not (is_mark x)) (are_frees ws) e).1)
caller_frees s c Acked [] past e = inr refl
caller_frees s c End (Answer x ∷ []) past e = inr refl
caller_frees s c (Page i fo n) [] past e = inr refl
caller_frees s c (Answer x) [] past e = inr refl
caller_frees s c Gone [] past e = inr refl
caller_frees s c w ws past e = false_true e

vcpu_frees : (w : What) (ws : List What) → is_vcpu_row (w ∷ ws) ≡ true → FreesOf w ws
vcpu_frees Retry ws e = inl (tt, e)
vcpu_frees Flush [] e = inr refl
vcpu_frees Flush (Enter ∷ []) e = inr refl
vcpu_frees Enter [] e = inr refl
vcpu_frees (Touch a b l v f) [] e = inr refl
vcpu_frees (Miss a) [] e = inr refl
vcpu_frees (Sample at) [] e = inr refl
vcpu_frees (Sample at) (Look k s a f ∷ []) e = inr refl
vcpu_frees (Look k s a f) [] e = inr refl
vcpu_frees (Left why) [] e = inr refl
vcpu_frees (Get b n) [] e = inr refl
vcpu_frees (Install p l) [] e = inr refl
vcpu_frees Gone [] e = inr refl
vcpu_frees w ws e = false_true e

row_frees : (s : Setup) (a : Actor) (w : What) (ws : List What) (past : List Entry) → is_row s a (w ∷ ws) past ≡ true → FreesOf w ws
row_frees s (Vcpu v) w ws past e = vcpu_frees w ws e
row_frees s (Caller c) w ws past e = caller_frees s c w ws past e

-- where one of two turns frees, the rows are those of a first entry that frees, so both are
not_freer : (ws us : List What) (w : What) → FreesOf w ws → FreesOf w us → ((IsFreer w → are_frees ws ≡ true → are_frees us ≡ true → ws ≡ us)) → (IsFreer w → (are_frees ws ≡ true) × (are_frees us ≡ true)) → frees_in ws ≡ frees_in us
not_freer ws us w (inr x) (inr y) same both = x ∙ sym y
not_freer ws us w (inl x) y same both = let b = both x.0 in ap frees_in (same x.0 b.0 b.1)
not_freer ws us w x (inl y) same both = let b = both y.0 in ap frees_in (same y.0 b.0 b.1)

freer_row : (s : Setup) (a : Actor) (w : What) (ws : List What) (past : List Entry) → IsFreer w → is_row s a (w ∷ ws) past ≡ true → are_frees ws ≡ true
freer_row s (Vcpu v) Retry ws past f e = e
freer_row s (Caller c) Retry ws past f e = false_true e
freer_row s (Vcpu v) (Change x) ws past f e = false_true e
freer_row s (Caller c) (Change x) ws past f e = (and_parts (not (is_mark x)) (are_frees ws) e).1
freer_row s a w ws past f e = absurd f

pub turns_free : (o : Orders) (t : ℕ) (a : Actor) (w : What) (ws us : List What) (past : List Entry) → Ruled o past → IsTurn o t a (w ∷ ws) past → IsTurn o t a (w ∷ us) past → frees_in ws ≡ frees_in us
turns_free o t a w ws us past r x y =
    not_freer ws us w (row_frees o.setup a w ws past x.row) (row_frees o.setup a w us past y.row)
    (λ f p q. frees_same o t a w ws us past r x.new f x.each_may.0 p q x.each_may.1 y.each_may.1 x.freed y.freed)
    (λ f. (freer_row o.setup a w ws past f x.row, freer_row o.setup a w us past f y.row))

cons_frees : (w : What) (ws us : List What) → frees_in ws ≡ frees_in us → frees_in (w ∷ ws) ≡ frees_in (w ∷ us)
cons_frees (Free fo n) ws us e = ap (λ (xs : List What). Free fo n ∷ xs) e
cons_frees _ ws us e = e

pub histories_free : (o : Orders) (e : Entry) (past g h : List Entry) → Right o g → Right o h → Stands e past g → Stands e past h → same_turn e past ≡ false → frees_in (turn_entries e.turn g) ≡ frees_in (turn_entries e.turn h)
histories_free o e past g h r q s t n =
    let x = begins o e past g r s n in
    let y = begins o e past h q t n in
    ap frees_in x.1.entries ∙ (cons_frees e.what x.0 y.0 (turns_free o e.turn e.actor e.what x.0 y.0 past x.1.rules x.1.turn y.1.turn) ∙ sym (ap frees_in y.1.entries))
