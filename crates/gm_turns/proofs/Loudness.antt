-- What the entries of a turn tell of what is shown.
use Rattle.std.proofs.Common.{◌≡◌, ℕ, suc, ◌+◌, ◌-◌, ◌<◌, ◌≤◌, List, [], ◌∷◌, Bool, true, false, length, Option, Some, None, arith, eqb, cond, refl, ap, sym, ◌∙◌, subst}
use Rattle.std.proofs.lemmas.Bool.Decides.{nat_tests}
use Rattle.gm_base.specs.declared.values.Actor.{Actor}
use Rattle.gm_base.specs.declared.values.Actor.TheVariants.{Vcpu}
use Rattle.gm_flat.specs.Invalidation.{count, hull}
use Rattle.gm_flat.specs.RightOrder.{are_frees, is_vcpu_row}
use Rattle.gm_flat.specs.declared.effect.Effect.{Effect}
use Rattle.gm_flat.specs.declared.entry.Entry.{Entry}
use Rattle.gm_flat.specs.declared.entry.What.{What}
use Rattle.gm_flat.specs.declared.entry.What.TheVariants.{Change, Enter, Flush, Free, Get, Gone, Install, Left, Look, Miss, Retry, Sample, Touch}
use Rattle.gm_determined.proofs.Small.{false_true}
use Rattle.gm_laws.proofs.Kit.{by}
use Rattle.gm_laws.specs.Counting.{ends}
use Rattle.gm_laws.specs.Turns.{IsNewTurn, onto}
use Rattle.gm_turns.specs.Ahead.{Loud, ahead_by, ahead_in, effect_in, is_loud, loud_in}
use Rattle.gm_turns.specs.declared.outcome.Ahead.{Ahead}

-- after one entry more, at a position
abbrev pub louder : What → ℕ → Option Loud → Option Loud
louder w n found = cond (is_loud w) (Some (record { at = suc n; effect = effect_in w })) found

abbrev pub loud_of : List What → ℕ → Option Loud → Option Loud
loud_of [] n found = found
loud_of (w ∷ ws) n found = loud_of ws (suc n) (louder w n found)

same_number : (t : ℕ) → eqb t t ≡ true
same_number t = grind (arith, nat_tests)

other_number : (m n : ℕ) → m < n → eqb m n ≡ false
other_number m n h = grind (arith, nat_tests)

one_more : (t : ℕ) (a : Actor) (w : What) (past : List Entry) → loud_in t (by t a w ∷ past) ≡ louder w (length past) (loud_in t past)
one_more t a w past = ap (λ (b : Bool). cond b (louder w (length past) (loud_in t past)) None) (same_number t)

pub loud_onto : (t : ℕ) (a : Actor) (ws : List What) (past : List Entry) → loud_in t (onto t a ws past) ≡ loud_of ws (length past) (loud_in t past)
loud_onto t a [] past = refl
loud_onto t a (w ∷ ws) past = loud_onto t a ws (by t a w ∷ past) ∙ ap (loud_of ws (suc (length past))) (one_more t a w past)

-- no entry of a turn that is new
pub none_yet : (t : ℕ) (past : List Entry) → IsNewTurn t past → loud_in t past ≡ None
none_yet t [] n = refl
none_yet t (d ∷ past) n = ap (λ (b : Bool). cond b (louder d.what (length past) (loud_in t past)) None) (other_number d.turn t n)

pub nothing_ahead : (t : ℕ) (past : List Entry) → IsNewTurn t past → None ≡ ahead_in t past
nothing_ahead t past n = sym (ap (λ (l : Option Loud). ahead_by l past) (none_yet t past n))

-- what a turn of these entries tells
pub told_onto : (t : ℕ) (a : Actor) (ws : List What) (past : List Entry) → IsNewTurn t past → ahead_by (loud_of ws (length past) None) (onto t a ws past) ≡ ahead_in t (onto t a ws past)
told_onto t a ws past n = sym (ap (λ (l : Option Loud). ahead_by l (onto t a ws past)) (loud_onto t a ws past ∙ ap (loud_of ws (length past)) (none_yet t past n)))

-- frees tell nothing
frees_quiet : (ws : List What) (n : ℕ) (found : Option Loud) → are_frees ws ≡ true → loud_of ws n found ≡ found
frees_quiet [] n found h = refl
frees_quiet (Free folio pages ∷ ws) n found h = frees_quiet ws (suc n) found h
frees_quiet (_ ∷ ws) n found h = false_true h

frees_told : (t : ℕ) (a : Actor) (ws : List What) (past : List Entry) (l : Loud) → are_frees ws ≡ true → ahead_by (Some l) (onto t a ws past) ≡ ahead_by (Some l) past
frees_told t a [] past l h = refl
frees_told t a (Free folio pages ∷ ws) past l h = frees_told t a ws (by t a (Free folio pages) ∷ past) l h
frees_told t a (_ ∷ ws) past l h = false_true h

-- a change with its frees
pub change_told : (t : ℕ) (a : Actor) (effect : Effect) (frees : List What) (past : List Entry) → IsNewTurn t past → are_frees frees ≡ true → Some (record { at = suc (length past); effect = Some effect; seq = ends past; count = count past; hull = hull past }) ≡ ahead_in t (onto t a (Change effect ∷ frees) past)
change_told t a effect frees past n h =
    let l : Loud = record { at = suc (length past); effect = Some effect } in
    sym (frees_told t a frees (by t a (Change effect) ∷ past) l h)
    ∙ (sym (ap (λ (o : Option Loud). ahead_by o (onto t a (Change effect ∷ frees) past)) (frees_quiet frees (suc (length past)) (Some l) h))
    ∙ told_onto t a (Change effect ∷ frees) past n)

-- a turn of a vCPU tells nothing, nor does a kick
vcpu_quiet : (ws : List What) (n : ℕ) → is_vcpu_row ws ≡ true → loud_of ws n None ≡ None
vcpu_quiet (Flush ∷ []) n h = refl
vcpu_quiet (Flush ∷ (Enter ∷ [])) n h = refl
vcpu_quiet (Enter ∷ []) n h = refl
vcpu_quiet (Touch access backing level value fill ∷ []) n h = refl
vcpu_quiet (Miss access ∷ []) n h = refl
vcpu_quiet (Sample at ∷ []) n h = refl
vcpu_quiet (Sample at ∷ (Look seen slot attr file ∷ [])) n h = refl
vcpu_quiet (Look at slot attr file ∷ []) n h = refl
vcpu_quiet (Left why ∷ []) n h = refl
vcpu_quiet (Get backing fresh ∷ []) n h = refl
vcpu_quiet (Install page level ∷ []) n h = refl
vcpu_quiet (Retry ∷ ws) n h = frees_quiet ws (suc n) None h
vcpu_quiet (Gone ∷ []) n h = refl
vcpu_quiet _ n h = false_true h

pub vcpu_told : (t v : ℕ) (ws : List What) (past : List Entry) → IsNewTurn t past → is_vcpu_row ws ≡ true → None ≡ ahead_in t (onto t (Vcpu v) ws past)
vcpu_told t v ws past n h = sym (ap (λ (l : Option Loud). ahead_by l (onto t (Vcpu v) ws past)) (vcpu_quiet ws (length past) h)) ∙ told_onto t (Vcpu v) ws past n
