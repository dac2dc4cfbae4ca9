-- A fault that has only missed.
use Rattle.std.proofs.Common.{◌≡◌, ℕ, suc, ◌≤◌, List, [], ◌∷◌, Bool, true, false, cond, length, None, arith, subst}
use Rattle.gm_base.specs.Aim.{Aim}
use Rattle.gm_base.specs.declared.values.Actor.{Actor}
use Rattle.gm_flat.specs.Histories.{Fault, Faulting, Gotten, NoFault, Seen, fault, fault_step, is_vcpu, with_get, with_look, with_sample}
use Rattle.gm_flat.specs.declared.entry.Entry.{Entry}
use Rattle.gm_flat.specs.declared.entry.What.{What}
use Rattle.gm_flat.specs.declared.entry.What.TheVariants.{Get, Install, Left, Look, Miss, Retry, Sample}

-- the miss of a fault stands before a position
abbrev MissedBy : ℕ → Fault → Type 0
MissedBy n NoFault = Unit {0}
MissedBy n (Faulting a missed sample look got) = missed ≤ n

either : (n : ℕ) (t : Bool) (x y : Fault) → MissedBy n x → MissedBy n y → MissedBy n (cond t x y)
either n true x y h k = h
either n false x y h k = k

later : (n : ℕ) (x : Fault) → MissedBy n x → MissedBy (suc n) x
later n NoFault h = tt
later n (Faulting a missed sample look got) h = omega arith

sampled : (n at : ℕ) (x : Fault) → MissedBy n x → MissedBy n (with_sample at x)
sampled n at NoFault h = tt
sampled n at (Faulting a missed sample look got) h = h

looked : (n : ℕ) (seen : Seen) (x : Fault) → MissedBy n x → MissedBy n (with_look seen x)
looked n seen NoFault h = tt
looked n seen (Faulting a missed sample look got) h = h

gotten : (n : ℕ) (g : Gotten) (x : Fault) → MissedBy n x → MissedBy n (with_get g x)
gotten n g NoFault h = tt
gotten n g (Faulting a missed sample look got) h = h

self : (n : ℕ) → n ≤ n
self n = omega arith

step : (v : ℕ) (w : What) (a : Actor) (n : ℕ) (x : Fault) → MissedBy (suc n) x → MissedBy (suc n) (fault_step v w a n x)
step v (Miss access) a n x h = either (suc n) (is_vcpu v a) (Faulting access (suc n) None None None) x (self (suc n)) h
step v (Sample at) a n x h = either (suc n) (is_vcpu v a) (with_sample at x) x (sampled (suc n) at x h) h
step v (Look at slot attr file) a n x h = either (suc n) (is_vcpu v a) (with_look (record { place = n; at = at; slot = slot; attr = attr; file = file }) x) x (looked (suc n) _ x h) h
step v (Get backing fresh) a n x h = either (suc n) (is_vcpu v a) (with_get (record { after = suc n; backing = backing }) x) x (gotten (suc n) _ x h) h
step v (Install page level) a n x h = either (suc n) (is_vcpu v a) NoFault x tt h
step v Retry a n x h = either (suc n) (is_vcpu v a) NoFault x tt h
step v (Left why) a n x h = either (suc n) (is_vcpu v a) NoFault x tt h
step v _ a n x h = h

pub missed_by : (v : ℕ) (past : List Entry) → MissedBy (length past) (fault v past)
missed_by v [] = tt
missed_by v (e ∷ past) = step v e.what e.actor (length past) (fault v past) (later (length past) (fault v past) (missed_by v past))

pub missed_at : (v : ℕ) (past : List Entry) (a : Aim) (missed : ℕ) → fault v past ≡ Faulting a missed None None None → missed ≤ length past
missed_at v past a missed is = subst (MissedBy (length past)) is (missed_by v past)
