-- Who has a call in progress, and who is inside, is an actor of the setup.
use Rattle.std.proofs.Common.{◌≡◌, ◌&&◌, ◌∷◌, ℕ, ◌<◌, List, [], Bool, true, false, not, Option, Some, cond, eqb, eqb-true, subst, inl, inr}
use Rattle.std.proofs.lemmas.Bool.{and_parts}
use Rattle.gm_base.specs.Scripts.{IsOf, Orders}
use Rattle.gm_base.specs.declared.values.Actor.{Actor}
use Rattle.gm_base.specs.declared.values.Actor.TheVariants.{Vcpu, Caller}
use Rattle.gm_base.specs.declared.values.Setup.{Setup}
use Rattle.gm_flat.specs.Histories.{Call, call, call_step, is_mark}
use Rattle.gm_flat.specs.Mappings.{inside, inside_step}
use Rattle.gm_flat.specs.RightHistory.{Each}
use Rattle.gm_flat.specs.RightOrder.{RightOrder}
use Rattle.gm_flat.specs.declared.entry.Entry.{Entry}
use Rattle.gm_flat.specs.declared.entry.What.{What}
use Rattle.gm_flat.specs.declared.entry.What.TheVariants.{Enter, Miss, Judge, Change, Page, Answer, Gone}
use Rattle.gm_laws.proofs.Kit.{cond_is, none_is}

-- a test that holds is of this caller
own_call : (s : Setup) (c d : ℕ) (y o : Option Call) (x : Call) → d < s.callers → ((z : Call) → o ≡ Some z → c < s.callers) → cond (eqb d c) y o ≡ Some x → c < s.callers
own_call s c d y o x lt before e = elim (cond_is (eqb d c) y o (Some x) e) [
  | inl own ↦ subst (λ (n : ℕ). n < s.callers) (eqb-true d c own.0) lt
  | inr other ↦ before x other.1
]

call_by : (s : Setup) (c : ℕ) (w : What) (a : Actor) (k : ℕ) (o : Option Call) (x : Call) → IsOf s a → ((z : Call) → o ≡ Some z → c < s.callers) → call_step c w a k o ≡ Some x → c < s.callers
call_by s c (Judge ioctl) (Caller d) k o x lt before e = own_call s c d _ o x lt before e
call_by s c (Change effect) (Caller d) k o x lt before e = elim (cond_is (eqb d c && not (is_mark effect)) _ o (Some x) e) [
  | inl own ↦ subst (λ (n : ℕ). n < s.callers) (eqb-true d c (and_parts (eqb d c) (not (is_mark effect)) own.0).0) lt
  | inr other ↦ before x other.1
]
call_by s c (Page index folio pages) (Caller d) k o x lt before e = own_call s c d _ o x lt before e
call_by s c (Answer reply) (Caller d) k o x lt before e = own_call s c d _ o x lt before e
call_by s c (Judge ioctl) (Vcpu v) k o x lt before e = before x e
call_by s c (Change effect) (Vcpu v) k o x lt before e = before x e
call_by s c (Page index folio pages) (Vcpu v) k o x lt before e = before x e
call_by s c (Answer reply) (Vcpu v) k o x lt before e = before x e
call_by s c w a k o x lt before e = before x e

pub caller_is : (o : Orders) (past : List Entry) → Each (λ e p. RightOrder o e p) past → (c : ℕ) (x : Call) → call c past ≡ Some x → c < o.setup.callers
caller_is o [] r c x e = absurd (none_is x e)
caller_is o (d ∷ past) r c x e = call_by o.setup c d.what d.actor _ (call c past) x r.0.actor_is (λ z q. caller_is o past r.1 c z q) e

-- so is who is inside

false_is : false ≡ true → ⊥
false_is e = cc

moved_out : (s : Setup) (v u : ℕ) (x : Bool) → (x ≡ true → v < s.vcpus) → cond (eqb u v) false x ≡ true → v < s.vcpus
moved_out s v u x before e = elim (cond_is (eqb u v) false x true e) [
  | inl own ↦ absurd (false_is own.1)
  | inr other ↦ before other.1
]

inside_by : (s : Setup) (v : ℕ) (w : What) (a : Actor) (x : Bool) → IsOf s a → (x ≡ true → v < s.vcpus) → inside_step v w a x ≡ true → v < s.vcpus
inside_by s v Enter (Vcpu u) x lt before e = elim (cond_is (eqb u v) true x true e) [
  | inl own ↦ subst (λ (n : ℕ). n < s.vcpus) (eqb-true u v own.0) lt
  | inr other ↦ before other.1
]
inside_by s v (Miss access) (Vcpu u) x lt before e = moved_out s v u x before e
inside_by s v Gone (Vcpu u) x lt before e = moved_out s v u x before e
inside_by s v Enter (Caller c) x lt before e = before e
inside_by s v (Miss access) (Caller c) x lt before e = before e
inside_by s v Gone (Caller c) x lt before e = before e
inside_by s v w a x lt before e = before e

pub vcpu_is : (o : Orders) (past : List Entry) → Each (λ e p. RightOrder o e p) past → (v : ℕ) → inside v past ≡ true → v < o.setup.vcpus
vcpu_is o [] r v e = absurd (false_is e)
vcpu_is o (d ∷ past) r v e = inside_by o.setup v d.what d.actor (inside v past) r.0.actor_is (vcpu_is o past r.1 v) e
