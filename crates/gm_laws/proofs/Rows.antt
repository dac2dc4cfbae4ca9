-- What helps to show by computing that a concrete history follows the tables.
use Rattle.std.proofs.Common.{◌&&◌, ◌+◌, ◌<◌, Bool, List, None, Option, Some, [], ap, arith, cond, eq-eqb, eqb, eqb-true, false, inl, inr, length, not, refl, subst, suc, sym, true, zero, ℕ, ◌∙◌, ◌∷◌, ◌≡◌, ◌≤◌, ◌⊎◌}
use Rattle.std.proofs.lemmas.Bool.{and_parts, both_ways}
use Rattle.gm_base.specs.Scripts.{IsOf, Orders}
use Rattle.gm_base.specs.declared.calls.Ioctl.{Ioctl}
use Rattle.gm_base.specs.declared.script.Turn.{Turn}
use Rattle.gm_base.specs.declared.values.Actor.{Actor}
use Rattle.gm_base.specs.declared.values.Actor.TheVariants.{Caller, Vcpu}
use Rattle.gm_base.specs.declared.values.Folio.{Folio}
use Rattle.gm_base.specs.declared.values.Setup.{Setup}
use Rattle.gm_flat.specs.FlatState.{Triple, is_triple}
use Rattle.gm_flat.specs.Histories.{Bracket, Call, call, call_step, fault, is_mark, same_turn}
use Rattle.gm_flat.specs.Locks.{WaitsForLock}
use Rattle.gm_flat.specs.Mappings.{flushed, inside, inside_step}
use Rattle.gm_flat.specs.Plays.{turn_at}
use Rattle.gm_flat.specs.RightLives.{FaultHolds, IsHeld}
use Rattle.gm_flat.specs.RightOrder.{IsTogether, IsWhole, WaitsForFlush}
use Rattle.gm_flat.specs.declared.entry.Entry.{Entry}
use Rattle.gm_flat.specs.declared.entry.What.{What}
use Rattle.gm_flat.specs.declared.entry.What.TheVariants.{Answer, Change, Enter, Get, Gone, Judge, Miss, Page}
use Rattle.gm_laws.proofs.Folios.{HeldBy, held_before}
use Rattle.gm_laws.proofs.Kit.{cond_is, none_is, some_same}
use Rattle.gm_laws.specs.May.{May}
use Rattle.gm_laws.specs.Ruled.{AllFreed, Follows, FollowsRules, loosened, loosens}

pub false_true : {A : Type 0} → false ≡ true → A
false_true e = absurd (both_ways false refl e)

pub quiet : (past : List Entry) → loosened past ≡ false → AllFreed past
quiet past e h = absurd (both_ways (loosened past) e h)

-- the first entry of a turn, and a further one
pub first : (o : Orders) (e : Entry) (past : List Entry) → IsOf o.setup e.actor → IsTogether e past → IsWhole o.setup past → AllFreed past → May o e.what e.actor past → same_turn e past ≡ false → FollowsRules o e past
first o e past a t r f m n = record { actor_is = a; together = t; row = λ _. r; freed = λ _. f; begins_turn = λ _. n; may = m }

pub further : (o : Orders) (e : Entry) (past : List Entry) → IsOf o.setup e.actor → IsTogether e past → same_turn e past ≡ true → loosens e.what ≡ false → May o e.what e.actor past → FollowsRules o e past
further o e past a t s l m =
    record {
      actor_is = a;
      together = t;
      row = λ n. absurd (both_ways (same_turn e past) n s);
      freed = λ n. absurd (both_ways (same_turn e past) n s);
      begins_turn = λ y. absurd (both_ways (loosens e.what) l y);
      may = m;
    }

-- only actors of the setup are anywhere
call_by : (c n : ℕ) (w : What) (a : Actor) (s : Setup) (k : ℕ) (o : Option Call) (x : Call) → IsOf s a → ((y : Call) → o ≡ Some y → c < s.callers) → call_step c w a k o ≡ Some x → c < s.callers
call_by c n (Judge i) (Caller d) s k o x lt ih e = elim (cond_is (eqb d c) _ o (Some x) e) [ inl y ↦ subst (λ (z : ℕ). z < s.callers) (eqb-true d c y.0) lt | inr y ↦ ih x y.1 ]
call_by c n (Change f) (Caller d) s k o x lt ih e = elim (cond_is (eqb d c && not (is_mark f)) _ o (Some x) e) [ inl y ↦ subst (λ (z : ℕ). z < s.callers) (eqb-true d c (and_parts (eqb d c) (not (is_mark f)) y.0).0) lt | inr y ↦ ih x y.1 ]
call_by c n (Page i fo m) (Caller d) s k o x lt ih e = elim (cond_is (eqb d c) _ o (Some x) e) [ inl y ↦ subst (λ (z : ℕ). z < s.callers) (eqb-true d c y.0) lt | inr y ↦ ih x y.1 ]
call_by c n (Answer r) (Caller d) s k o x lt ih e = elim (cond_is (eqb d c) _ o (Some x) e) [ inl y ↦ subst (λ (z : ℕ). z < s.callers) (eqb-true d c y.0) lt | inr y ↦ ih x y.1 ]
call_by c n (Judge i) (Vcpu v) s k o x lt ih e = ih x e
call_by c n (Change f) (Vcpu v) s k o x lt ih e = ih x e
call_by c n (Page i fo m) (Vcpu v) s k o x lt ih e = ih x e
call_by c n (Answer r) (Vcpu v) s k o x lt ih e = ih x e
call_by c n w a s k o x lt ih e = ih x e

pub call_lt : (o : Orders) (past : List Entry) → Follows o past → (c : ℕ) (x : Call) → call c past ≡ Some x → c < o.setup.callers
call_lt o [] r c x e = absurd (none_is x e)
call_lt o (e ∷ past) r c x h = call_by c 0 e.what e.actor o.setup (length past) (call c past) x r.0.actor_is (λ y q. call_lt o past r.1 c y q) h

inside_by : (v : ℕ) (w : What) (a : Actor) (s : Setup) (x : Bool) → IsOf s a → (x ≡ true → v < s.vcpus) → inside_step v w a x ≡ true → v < s.vcpus
inside_by v Enter (Vcpu u) s x lt ih e = elim (cond_is (eqb u v) true x true e) [ inl y ↦ subst (λ (z : ℕ). z < s.vcpus) (eqb-true u v y.0) lt | inr y ↦ ih y.1 ]
inside_by v (Miss access) (Vcpu u) s x lt ih e = elim (cond_is (eqb u v) false x true e) [ inl y ↦ false_true y.1 | inr y ↦ ih y.1 ]
inside_by v Gone (Vcpu u) s x lt ih e = elim (cond_is (eqb u v) false x true e) [ inl y ↦ false_true y.1 | inr y ↦ ih y.1 ]
inside_by v Enter (Caller c) s x lt ih e = ih e
inside_by v (Miss access) (Caller c) s x lt ih e = ih e
inside_by v Gone (Caller c) s x lt ih e = ih e
inside_by v w a s x lt ih e = ih e

pub inside_lt : (o : Orders) (past : List Entry) → Follows o past → (v : ℕ) → inside v past ≡ true → v < o.setup.vcpus
inside_lt o [] r v e = false_true e
inside_lt o (e ∷ past) r v h = inside_by v e.what e.actor o.setup (inside v past) r.0.actor_is (inside_lt o past r.1 v) h

get_owner : (o : Orders) (t : ℕ) (w : What) (a : Actor) (past : List Entry) (s v : ℕ) → IsOf o.setup a → HeldBy w a s v past → v < o.setup.vcpus
get_owner o t (Get b n) (Vcpu u) past s v lt h = subst (λ (z : ℕ). z < o.setup.vcpus) h.0 lt
get_owner o t (Get b n) (Caller c) past s v lt h = absurd h
get_owner o t w a past s v lt h = absurd h

pub held_lt : (o : Orders) (past : List Entry) → Follows o past → (s v : ℕ) → FaultHolds s (fault v past) → v < o.setup.vcpus
held_lt o [] r s v h = absurd h
held_lt o (e ∷ past) r s v h =
    elim (held_before e.turn e.what e.actor past s v h) [
      | inl y ↦ held_lt o past r.1 s v y
      | inr y ↦ get_owner o e.turn e.what e.actor past s v r.0.actor_is y
    ]

-- in a machine of one caller or one vCPU it is the first
below_one : (c : ℕ) → c < 1 → c ≡ 0
below_one c h = omega arith

pub one_caller : (o : Orders) (past : List Entry) (i : Ioctl) → o.setup.callers ≡ 1 → Follows o past → WaitsForLock 0 i past → ⊥
one_caller o past i e r w = w.another (below_one w.holder (subst (λ (n : ℕ). w.holder < n) e (call_lt o past r w.holder w.holds.0 w.holds.1)))

pub one_vcpu : (o : Orders) (past : List Entry) (b : Bracket) → o.setup.vcpus ≡ 1 → Follows o past → (inside 0 past ≡ true → flushed 0 past ≤ b.begun → ⊥) → WaitsForFlush b past → ⊥
one_vcpu o past b e r f w =
    let z : w.vcpu ≡ 0 = below_one w.vcpu (subst (λ (n : ℕ). w.vcpu < n) e (inside_lt o past r w.vcpu w.is_inside)) in
    f (subst (λ (v : ℕ). inside v past ≡ true) z w.is_inside) (subst (λ (v : ℕ). flushed v past ≤ b.begun) z w.not_flushed)

pub one_holder : (o : Orders) (past : List Entry) (s : ℕ) → o.setup.vcpus ≡ 1 → Follows o past → IsHeld s past → FaultHolds s (fault 0 past)
one_holder o past s e r h =
    let z : h.0 ≡ 0 = below_one h.0 (subst (λ (n : ℕ). h.0 < n) e (held_lt o past r s h.0 h.1)) in
    subst (λ (v : ℕ). FaultHolds s (fault v past)) z h.1

pub below : (k : ℕ) → k < 1 → 0 ≡ k
below k h = omega arith

pub one_cached : (F i s : ℕ) (t : Triple) (fo : Folio) → cond (is_triple F i t) (Some t.folio) None ≡ Some fo → fo.serial ≡ s → t.folio.serial ≡ s
one_cached F i s t fo e q = elim (cond_is (is_triple F i t) (Some t.folio) None (Some fo) e) [ inl y ↦ ap (λ (x : Folio). x.serial) (some_same t.folio fo y.1) ∙ q | inr y ↦ absurd (none_is fo y.1) ]

pub two_cached : (F i s : ℕ) (t u : Triple) (fo : Folio) → cond (is_triple F i t) (Some t.folio) (cond (is_triple F i u) (Some u.folio) None) ≡ Some fo → fo.serial ≡ s → (t.folio.serial ≡ s) ⊎ (u.folio.serial ≡ s)
two_cached F i s t u fo e q = elim (cond_is (is_triple F i t) (Some t.folio) (cond (is_triple F i u) (Some u.folio) None) (Some fo) e) [
  | inl y ↦ inl (ap (λ (x : Folio). x.serial) (some_same t.folio fo y.1) ∙ q)
  | inr y ↦ inr (one_cached F i s u fo y.1 q)
]

-- turns of a script
pub differ : {A : Type 0} (a b : ℕ) → eqb a b ≡ false → a ≡ b → A
differ a b n e = absurd (both_ways (eqb a b) n (eq-eqb a b e))

pub cons_nil : {A : Type 0} {w : What} {ws : List What} → w ∷ ws ≡ [] → A
cons_nil {A} {w} {ws} e = absurd (cc)

pub true_false_any : {A : Type 0} → true ≡ false → A
true_false_any e = absurd (both_ways true e refl)

pub some_none_call : {x : Call} → Some x ≡ None → ⊥
some_none_call {x} e = none_is x (sym e)

abbrev pub AllTurns : (ℕ → Turn → Type 0) → List Turn → ℕ → Type 0
AllTurns P [] n = Unit {0}
AllTurns P (t ∷ ts) n = P n t × AllTurns P ts (suc n)

turns_from : (P : ℕ → Turn → Type 0) (ts : List Turn) (n : ℕ) → AllTurns P ts n → (k : ℕ) (t : Turn) → turn_at ts k ≡ Some t → P (n + k) t
turns_from P [] n a k t e = absurd (none_is t e)
turns_from P (x ∷ ts) n a zero t e = subst (λ (y : Turn). P (n + 0) y) (some_same x t e) (subst (λ (m : ℕ). P m x) (plus n) a.0)
  where
    plus : (n : ℕ) → n ≡ n + 0
    plus n = omega arith
turns_from P (x ∷ ts) n a (suc k) t e = subst (λ (m : ℕ). P m t) (shift n k) (turns_from P ts (suc n) a.1 k t e)
  where
    shift : (n k : ℕ) → suc n + k ≡ n + suc k
    shift n k = omega arith

pub all_turns : (P : ℕ → Turn → Type 0) (ts : List Turn) → AllTurns P ts 0 → (k : ℕ) (t : Turn) → turn_at ts k ≡ Some t → P k t
all_turns P ts a k t e = subst (λ (m : ℕ). P m t) (plus k) (turns_from P ts 0 a k t e)
  where
    plus : (k : ℕ) → 0 + k ≡ k
    plus k = omega arith
