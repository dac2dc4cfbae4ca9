-- A whole turn is determined.
use Rattle.std.proofs.Common.{List, None, Option, Some, [], ap, false, not, refl, sym, true, ℕ, ◌∙◌, ◌∷◌, ◌≡◌}
use Rattle.std.proofs.lemmas.Bool.{and_parts}
use Rattle.gm_base.specs.Scripts.{Orders}
use Rattle.gm_base.specs.declared.values.Actor.{Actor}
use Rattle.gm_base.specs.declared.values.Actor.TheVariants.{Caller, Vcpu}
use Rattle.gm_base.specs.declared.values.Setup.{Setup}
use Rattle.gm_flat.specs.Calls.{Bracketed, Paged, Plan, Reads, Refused, Same, Short, mark_of, plan}
use Rattle.gm_flat.specs.Histories.{Call, call, is_mark}
use Rattle.gm_flat.specs.Plays.{is_kick}
use Rattle.gm_flat.specs.Replay.{flat}
use Rattle.gm_flat.specs.RightLives.{plan_of}
use Rattle.gm_flat.specs.RightOrder.{are_frees, begins_by, is_begin_row, is_caller_row, is_first_row, is_marking}
use Rattle.gm_flat.specs.declared.effect.Effect.{Effect}
use Rattle.gm_flat.specs.declared.entry.Entry.{Entry}
use Rattle.gm_flat.specs.declared.entry.What.{What}
use Rattle.gm_flat.specs.declared.entry.What.TheVariants.{Acked, Answer, Begin, Change, End, Flush, Free, Gone, Judge, Page}
use Rattle.gm_laws.proofs.Kit.{by_test}
use Rattle.gm_laws.specs.Ruled.{Ruled}
use Rattle.gm_laws.specs.Turns.{IsTurn}
use Rattle.gm_determined.specs.Determined.{AreHere, roomless_turn, stamps}
use Rattle.gm_determined.proofs.CallerTurn.{caller_same}
use Rattle.gm_determined.proofs.Small.{false_true}
use Rattle.gm_determined.proofs.VcpuTurn.{vcpu_here, vcpu_none, vcpu_stamped}

pub kick_is : (ws : List What) → is_kick ws ≡ true → ws ≡ Flush ∷ []
kick_is (Flush ∷ []) e = refl
kick_is _ e = false_true e

-- with the same stamps
pub turn_stamped : (o : Orders) (t : ℕ) (a : Actor) (ws gs : List What) (past : List Entry) → Ruled o past → IsTurn o t a ws past → IsTurn o t a gs past → stamps ws ≡ stamps gs → is_kick ws ≡ is_kick gs → roomless_turn ws ≡ roomless_turn gs
turn_stamped o t (Vcpu v) ws gs past r x y st e = by_test (is_kick ws)
    (λ k. ap roomless_turn (kick_is ws k ∙ sym (kick_is gs (sym e ∙ k))))
    (λ k. ap roomless_turn (vcpu_stamped o t v ws gs past r x.new x.row y.row k (sym e ∙ k) x.each_may y.each_may st x.freed y.freed))
turn_stamped o t (Caller c) ws gs past r x y st e = caller_same o t c ws gs past r x.new x.row y.row x.each_may y.each_may x.freed y.freed

pub turn_same : (o : Orders) (t : ℕ) (a : Actor) (ws gs : List What) (past : List Entry) → Ruled o past → IsTurn o t a ws past → IsTurn o t a gs past → AreHere t a ws past → AreHere t a gs past → is_kick ws ≡ is_kick gs → roomless_turn ws ≡ roomless_turn gs
turn_same o t (Vcpu v) ws gs past r x y h g e = by_test (is_kick ws)
    (λ k. ap roomless_turn (kick_is ws k ∙ sym (kick_is gs (sym e ∙ k))))
    (λ k. turn_stamped o t (Vcpu v) ws gs past r x y (vcpu_here o t v ws gs past r x.row y.row k (sym e ∙ k) x.each_may y.each_may h g x.freed y.freed) e)
turn_same o t (Caller c) ws gs past r x y h g e = caller_same o t c ws gs past r x.new x.row y.row x.each_may y.each_may x.freed y.freed

-- where each sample and look has its own position, two turns have the same stamps
frees_stamps : (ws : List What) → are_frees ws ≡ true → stamps ws ≡ []
frees_stamps [] e = refl
frees_stamps (Free fo n ∷ ws) e = frees_stamps ws e
frees_stamps (_ ∷ ws) e = false_true e

first_stamps : (p : Plan) (ws : List What) → is_first_row p ws ≡ true → stamps ws ≡ []
first_stamps (Refused r) (Answer x ∷ []) e = refl
first_stamps (Same r) (Answer x ∷ []) e = refl
first_stamps (Reads r w) (Answer x ∷ []) e = refl
first_stamps (Short r n) (Change f ∷ (Answer x ∷ [])) e = refl
first_stamps (Bracketed r s) [] e = refl
first_stamps (Paged p) [] e = refl
first_stamps _ ws e = false_true e

marking_stamps : (m : Option Effect) (ws : List What) → is_marking m ws ≡ true → stamps ws ≡ []
marking_stamps None [] e = refl
marking_stamps (Some m) (Change d ∷ []) e = refl
marking_stamps m ws e = false_true e

begin_stamps : (p : Plan) (ws : List What) → is_begin_row p ws ≡ true → stamps ws ≡ []
begin_stamps (Bracketed f spans) ws e = marking_stamps (mark_of f) ws e
begin_stamps _ ws e = false_true e

begins_stamps : (s : Setup) (z : Option Call) (ws : List What) (past : List Entry) → begins_by s z ws past ≡ true → stamps ws ≡ []
begins_stamps s None ws past e = false_true e
begins_stamps s (Some x) ws past e = begin_stamps (plan_of s x past) ws e

caller_stamps : (s : Setup) (c : ℕ) (ws : List What) (past : List Entry) → is_caller_row s c ws past ≡ true → stamps ws ≡ []
caller_stamps s c (Judge i ∷ ws) past e = first_stamps (plan s i (flat past)) ws e
caller_stamps s c (Begin x ∷ ws) past e = begins_stamps s (call c past) ws past e
caller_stamps s c (Acked ∷ []) past e = refl
caller_stamps s c (Change x ∷ ws) past e = frees_stamps ws (and_parts (not (is_mark x)) (are_frees ws) e).1
caller_stamps s c (End ∷ (Answer x ∷ [])) past e = refl
caller_stamps s c (Page i fo n ∷ []) past e = refl
caller_stamps s c (Answer x ∷ []) past e = refl
caller_stamps s c (Gone ∷ []) past e = refl
caller_stamps s c _ past e = false_true e

pub turn_here : (o : Orders) (t : ℕ) (a : Actor) (ws gs : List What) (past : List Entry) → Ruled o past → IsTurn o t a ws past → IsTurn o t a gs past → is_kick ws ≡ false → is_kick gs ≡ false → AreHere t a ws past → AreHere t a gs past → stamps ws ≡ stamps gs
turn_here o t (Vcpu v) ws gs past r x y k l h g = vcpu_here o t v ws gs past r x.row y.row k l x.each_may y.each_may h g x.freed y.freed
turn_here o t (Caller c) ws gs past r x y k l h g = caller_stamps o.setup c ws past x.row ∙ sym (caller_stamps o.setup c gs past y.row)

pub turn_none : (o : Orders) (t : ℕ) (a : Actor) (ws gs : List What) (past : List Entry) → Ruled o past → IsTurn o t a ws past → IsTurn o t a gs past → is_kick ws ≡ false → is_kick gs ≡ false → stamps ws ≡ [] → stamps gs ≡ []
turn_none o t (Vcpu v) ws gs past r x y k l e = vcpu_none o t v ws gs past r x.row y.row k l x.each_may y.each_may x.freed y.freed e
turn_none o t (Caller c) ws gs past r x y k l e = caller_stamps o.setup c gs past y.row
