-- A population adds no more pages than its plan has.
use Rattle.std.proofs.Common.{◌≡◌, ℕ, ◌≤◌, ◌&&◌, not, List, [], ◌∷◌, Bool, true, false, length, suc, Option, Some, None, arith, refl, cond, eqb, eqb-true, subst, sym}
use Rattle.gm_base.specs.Scripts.{Orders}
use Rattle.gm_base.specs.declared.values.Actor.{Actor}
use Rattle.gm_base.specs.declared.values.Actor.TheVariants.{Vcpu, Caller}
use Rattle.gm_base.specs.declared.values.Setup.{Setup}
use Rattle.gm_callers.proofs.Stays.{plan_keep, still_other}
use Rattle.gm_flat.specs.Calls.{PagePlan as Planned, Plan, Refused, Same, Reads, Short, Bracketed, Paged}
use Rattle.gm_flat.specs.FlatState.{Flat}
use Rattle.gm_flat.specs.Histories.{Call, call, call_step, is_mark, with_change, with_page}
use Rattle.gm_flat.specs.Replay.{flat}
use Rattle.gm_flat.specs.RightCalls.{IsPage, IsPageOf, RightPage}
use Rattle.gm_flat.specs.RightLives.{plan_of}
use Rattle.gm_flat.specs.declared.entry.Entry.{Entry}
use Rattle.gm_flat.specs.declared.entry.What.{What}
use Rattle.gm_flat.specs.declared.entry.What.TheVariants.{Answer, Change, Judge, Page}
use Rattle.gm_laws.proofs.Kit.{by}
use Rattle.gm_laws.specs.May.{May}
use Rattle.gm_laws.specs.Ruled.{Follows}

-- so many pages were added of this plan at most
abbrev IsWithinBase : ℕ → ℕ → Option ℕ → Type 0
IsWithinBase n pages None = Unit {0}
IsWithinBase n pages (Some base) = n ≤ pages

abbrev IsWithin : ℕ → Plan → Type 0
IsWithin n (Paged p) = IsWithinBase n p.pages p.base
IsWithin n plan = Unit {0}

abbrev CallIsWithin : Setup → Option Call → List Entry → Type 0
CallIsWithin s None past = Unit {0}
CallIsWithin s (Some x) past = (x.judged ≤ length past) × IsWithin x.pages (plan_of s x past)

none_base : (n : ℕ) (base : Option ℕ) → IsWithinBase 0 n base
none_base n None = tt
none_base n (Some base) = omega arith

none_within : (p : Plan) → IsWithin 0 p
none_within (Paged p) = none_base p.pages p.base
none_within (Refused errno) = tt
none_within (Same answer) = tt
none_within (Reads page word) = tt
none_within (Short effect answer) = tt
none_within (Bracketed effect spans) = tt

more_base : (p : Planned) (base : Option ℕ) (index n : ℕ) (f : Flat) → IsPageOf p base index n f → IsWithinBase (suc n) p.pages base
more_base p None index n f h = tt
more_base p (Some base) index n f h = let m = h.more in omega arith

more_within : (index : ℕ) (x : Call) (p : Plan) (f : Flat) → IsPage index x p f → IsWithin (suc x.pages) p
more_within index x (Paged p) f h = more_base p p.base index x.pages f h
more_within index x (Refused errno) f h = tt
more_within index x (Same answer) f h = tt
more_within index x (Reads page word) f h = tt
more_within index x (Short effect answer) f h = tt
more_within index x (Bracketed effect spans) f h = tt

-- an entry that leaves the call as it was
later : (s : Setup) (x : Option Call) (e : Entry) (past : List Entry) → CallIsWithin s x past → CallIsWithin s x (e ∷ past)
later s None e past h = tt
later s (Some x) e past h = let l = h.0 in (omega arith, subst (IsWithin x.pages) (sym (plan_keep s x e past l)) h.1)

changed : (s : Setup) (x : Option Call) (e : Entry) (past : List Entry) → CallIsWithin s x past → CallIsWithin s (with_change x) (e ∷ past)
changed s None e past h = tt
changed s (Some x) e past h = later s (Some x) e past h

paged : (s : Setup) (index : ℕ) (x : Option Call) (e : Entry) (past : List Entry) → RightPage s index x past → CallIsWithin s x past → CallIsWithin s (with_page x) (e ∷ past)
paged s index None e past right h = tt
paged s index (Some x) e past right h =
    let l = h.0 in
    (omega arith, subst (IsWithin (suc x.pages)) (sym (plan_keep s x e past l)) (more_within index x (plan_of s x past) (flat past) right))

either : (s : Setup) (t : Bool) (x y : Option Call) (past : List Entry) → (t ≡ true → CallIsWithin s x past) → CallIsWithin s y past → CallIsWithin s (cond t x y) past
either s true x y past a b = a refl
either s false x y past a b = b

step : (o : Orders) (c t : ℕ) (w : What) (a : Actor) (past : List Entry) → May o w a past → CallIsWithin o.setup (call c past) past → CallIsWithin o.setup (call_step c w a (length past) (call c past)) (by t a w ∷ past)
step o c t w (Vcpu v) past m h =
    subst (λ (x : Option Call). CallIsWithin o.setup x (by t (Vcpu v) w ∷ past)) (sym ((still_other c w (Vcpu v) refl).call_stays (length past) (call c past))) (later o.setup (call c past) (by t (Vcpu v) w) past h)
step o c t (Judge ioctl) (Caller d) past m h =
    let e : Entry = by t (Caller d) (Judge ioctl) in
    let x : Call = record { judged = length past; ioctl = ioctl; made = false; pages = 0 } in
    either o.setup (eqb d c) (Some x) (call c past) (e ∷ past) (λ _. (omega arith, none_within (plan_of o.setup x (e ∷ past)))) (later o.setup (call c past) e past h)
step o c t (Change effect) (Caller d) past m h =
    let e : Entry = by t (Caller d) (Change effect) in
    either o.setup (eqb d c && not (is_mark effect)) (with_change (call c past)) (call c past) (e ∷ past) (λ _. changed o.setup (call c past) e past h) (later o.setup (call c past) e past h)
step o c t (Page index folio n) (Caller d) past m h =
    let e : Entry = by t (Caller d) (Page index folio n) in
    either o.setup (eqb d c) (with_page (call c past)) (call c past) (e ∷ past)
    (λ own. paged o.setup index (call c past) e past (subst (λ (k : ℕ). RightPage o.setup index (call k past) past) (eqb-true d c own) m.1) h)
    (later o.setup (call c past) e past h)
step o c t (Answer reply) (Caller d) past m h =
    let e : Entry = by t (Caller d) (Answer reply) in
    either o.setup (eqb d c) None (call c past) (e ∷ past) (λ _. tt) (later o.setup (call c past) e past h)
step o c t w (Caller d) past m h = later o.setup (call c past) (by t (Caller d) w) past h

within : (o : Orders) (c : ℕ) (past : List Entry) → Follows o past → CallIsWithin o.setup (call c past) past
within o c [] r = tt
within o c (e ∷ past) r = step o c e.turn e.what e.actor past r.0.may (within o c past r.1)

-- of a call in progress
pub pages_within : (o : Orders) (c base : ℕ) (p : Planned) (x : Call) (past : List Entry) → Follows o past → call c past ≡ Some x → plan_of o.setup x past ≡ Paged p → p.base ≡ Some base → x.pages ≤ p.pages
pages_within o c base p x past r e plan is =
    let h : CallIsWithin o.setup (Some x) past = subst (λ (y : Option Call). CallIsWithin o.setup y past) e (within o c past r) in
    let g : IsWithin x.pages (Paged p) = subst (IsWithin x.pages) plan h.1 in
    subst (IsWithinBase x.pages p.pages) is g
