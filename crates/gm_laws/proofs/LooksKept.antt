-- What a fault looked up stays known after its Get.
use Rattle.std.proofs.Common.{Bool, List, None, Option, Some, [], cond, eqb, false, length, refl, suc, true, ℕ, ◌∷◌, ◌≡◌}
use Rattle.gm_base.specs.Aim.{Aim}
use Rattle.gm_base.specs.Scripts.{Orders}
use Rattle.gm_base.specs.declared.values.Actor.{Actor}
use Rattle.gm_base.specs.declared.values.Actor.TheVariants.{Caller, Vcpu}
use Rattle.gm_base.specs.declared.values.Kind.{Kind}
use Rattle.gm_flat.specs.Histories.{Fault, Faulting, Gotten, NoFault, Seen, fault, with_get, with_look, with_sample}
use Rattle.gm_flat.specs.RightLook.{RightSeen}
use Rattle.gm_flat.specs.RightOrder.{IsMissed, IsSampled}
use Rattle.gm_flat.specs.declared.entry.Entry.{Entry}
use Rattle.gm_flat.specs.declared.entry.What.{What}
use Rattle.gm_flat.specs.declared.entry.What.TheVariants.{Get, Install, Left, Look, Miss, Retry, Sample}
use Rattle.gm_laws.proofs.Good.{LookOk}
use Rattle.gm_laws.proofs.Keep.{at_vcpu, look_fault, look_more}
use Rattle.gm_laws.proofs.Kit.{by}
use Rattle.gm_laws.specs.May.{May}
use Rattle.gm_laws.specs.Ruled.{Follows}

abbrev pub LookKept : List Entry → Fault → Type 0
LookKept past (Faulting a m (Some s) (Some l) q) = LookOk a s l past
LookKept past _ = Unit {0}

look_kept-more : (e : Entry) (past : List Entry) (x : Fault) → LookKept past x → LookKept (e ∷ past) x
look_kept-more e past NoFault k = tt
look_kept-more e past (Faulting a m None l q) k = tt
look_kept-more e past (Faulting a m (Some s) None q) k = tt
look_kept-more e past (Faulting a m (Some s) (Some l) q) k = look_more e a s l past k

cond_kept : (past : List Entry) (t : Bool) (x y : Fault) → (t ≡ true → LookKept past x) → LookKept past y → LookKept past (cond t x y)
cond_kept past true x y f h = f refl
cond_kept past false x y f h = h

sample_kept : (past : List Entry) (s : ℕ) (x : Fault) → IsMissed x → LookKept past (with_sample s x)
sample_kept past s NoFault i = absurd i
sample_kept past s (Faulting a m None None None) i = tt
sample_kept past s (Faulting a m None None (Some q)) i = absurd i
sample_kept past s (Faulting a m None (Some l) q) i = absurd i
sample_kept past s (Faulting a m (Some k) l q) i = absurd i

seen_kept : (past : List Entry) (at : ℕ) (slot : Option ℕ) (attr : Kind) (file : Option ℕ) (e : Entry) (x : Fault) → IsSampled x → RightSeen at slot attr file past x → LookKept (e ∷ past) (with_look (record { place = length past; at = at; slot = slot; attr = attr; file = file }) x)
seen_kept past at slot attr file e (Faulting a m (Some s) None None) i r = look_fault past at slot attr file e (Faulting a m (Some s) None None) i r
seen_kept past at slot attr file e (Faulting a m (Some s) None (Some q)) i r = absurd i
seen_kept past at slot attr file e (Faulting a m (Some s) (Some l) q) i r = absurd i
seen_kept past at slot attr file e (Faulting a m None l q) i r = absurd i
seen_kept past at slot attr file e NoFault i r = absurd i

get_kept : (past : List Entry) (g : Gotten) (x : Fault) → LookKept past x → LookKept past (with_get g x)
get_kept past g NoFault k = tt
get_kept past g (Faulting a m None l q) k = tt
get_kept past g (Faulting a m (Some s) None q) k = tt
get_kept past g (Faulting a m (Some s) (Some l) q) k = k

kept_by : (o : Orders) (t : ℕ) (w : What) (a : Actor) (past : List Entry) → May o w a past → ((v : ℕ) → LookKept past (fault v past)) → (v : ℕ) → LookKept (by t a w ∷ past) (fault v (by t a w ∷ past))
kept_by o t (Miss access) (Vcpu u) past m k v = cond_kept (by t (Vcpu u) (Miss access) ∷ past) (eqb u v) (Faulting access (suc (length past)) None None None) (fault v past) (λ _. tt) (look_kept-more (by t (Vcpu u) (Miss access)) past (fault v past) (k v))
kept_by o t (Sample s) (Vcpu u) past m k v = cond_kept (by t (Vcpu u) (Sample s) ∷ past) (eqb u v) (with_sample s (fault v past)) (fault v past) (λ e. sample_kept (by t (Vcpu u) (Sample s) ∷ past) s (fault v past) (at_vcpu u v (λ x. IsMissed (fault x past)) e m.0)) (look_kept-more (by t (Vcpu u) (Sample s)) past (fault v past) (k v))
kept_by o t (Look at slot attr file) (Vcpu u) past m k v = cond_kept (by t (Vcpu u) (Look at slot attr file) ∷ past) (eqb u v) (with_look (record { place = length past; at = at; slot = slot; attr = attr; file = file }) (fault v past)) (fault v past) (λ e. seen_kept past at slot attr file (by t (Vcpu u) (Look at slot attr file)) (fault v past) (at_vcpu u v (λ x. IsSampled (fault x past)) e m.0) (at_vcpu u v (λ x. RightSeen at slot attr file past (fault x past)) e m.1)) (look_kept-more (by t (Vcpu u) (Look at slot attr file)) past (fault v past) (k v))
kept_by o t (Get b n) (Vcpu u) past m k v = cond_kept (by t (Vcpu u) (Get b n) ∷ past) (eqb u v) (with_get (record { after = suc (length past); backing = b }) (fault v past)) (fault v past) (λ e. get_kept (by t (Vcpu u) (Get b n) ∷ past) (record { after = suc (length past); backing = b }) (fault v past) (look_kept-more (by t (Vcpu u) (Get b n)) past (fault v past) (k v))) (look_kept-more (by t (Vcpu u) (Get b n)) past (fault v past) (k v))
kept_by o t (Install page level) (Vcpu u) past m k v = cond_kept (by t (Vcpu u) (Install page level) ∷ past) (eqb u v) NoFault (fault v past) (λ _. tt) (look_kept-more (by t (Vcpu u) (Install page level)) past (fault v past) (k v))
kept_by o t Retry (Vcpu u) past m k v = cond_kept (by t (Vcpu u) Retry ∷ past) (eqb u v) NoFault (fault v past) (λ _. tt) (look_kept-more (by t (Vcpu u) Retry) past (fault v past) (k v))
kept_by o t (Left why) (Vcpu u) past m k v = cond_kept (by t (Vcpu u) (Left why) ∷ past) (eqb u v) NoFault (fault v past) (λ _. tt) (look_kept-more (by t (Vcpu u) (Left why)) past (fault v past) (k v))
kept_by o t (Miss access) (Caller c) past m k v = absurd m
kept_by o t (Sample s) (Caller c) past m k v = absurd m
kept_by o t (Look at slot attr file) (Caller c) past m k v = absurd m
kept_by o t (Get b n) (Caller c) past m k v = absurd m
kept_by o t (Install page level) (Caller c) past m k v = absurd m
kept_by o t Retry (Caller c) past m k v = absurd m
kept_by o t (Left why) (Caller c) past m k v = absurd m
kept_by o t w a past m k v = look_kept-more (by t a w) past (fault v past) (k v)

pub looks_kept : (o : Orders) (past : List Entry) → Follows o past → (v : ℕ) → LookKept past (fault v past)
looks_kept o [] r = λ v. tt
looks_kept o (e ∷ past) r = kept_by o e.turn e.what e.actor past r.0.may (looks_kept o past r.1)
