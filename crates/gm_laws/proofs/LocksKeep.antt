-- Each entry keeps what the locks keep.
use Rattle.std.proofs.Common.{◌&&◌, ◌<◌, Bool, List, None, Option, Some, ap, arith, cond, eqb, eqb-true, false, inl, inr, length, ne_eqb, not, refl, subst, suc, sym, true, ℕ, ◌∙◌, ◌∷◌, ◌≡◌, ◌⊎◌}
use Rattle.std.proofs.lemmas.Bool.{both_ways, cases_Bool, cases_lt, eqb-false}
use Rattle.std.proofs.lemmas.Bool.Decides.{nat_tests}
use Rattle.gm_base.specs.Extent.{Extent}
use Rattle.gm_base.specs.Scripts.{Orders}
use Rattle.gm_base.specs.declared.calls.Ioctl.{Ioctl}
use Rattle.gm_base.specs.declared.values.Actor.{Actor}
use Rattle.gm_base.specs.declared.values.Actor.TheVariants.{Caller, Vcpu}
use Rattle.gm_base.specs.declared.values.Setup.{Setup}
use Rattle.gm_flat.specs.Calls.{Bracketed, plan}
use Rattle.gm_flat.specs.FlatState.{FileState, Flat, in_use}
use Rattle.gm_flat.specs.Histories.{Bracket, Call, bracket, call, is_mark, with_change, with_page}
use Rattle.gm_flat.specs.Locks.{FileLock, Lock, SlotsLock, takes, takes_slots}
use Rattle.gm_flat.specs.Replay.{flat, flat_at}
use Rattle.gm_flat.specs.RightCalls.{IsChange, RightBegin, RightChange}
use Rattle.gm_flat.specs.RightLives.{plan_of}
use Rattle.gm_flat.specs.RightOrder.{Changes, IsDueBy, Judges}
use Rattle.gm_flat.specs.declared.effect.Effect.{Effect}
use Rattle.gm_flat.specs.declared.entry.Entry.{Entry}
use Rattle.gm_flat.specs.declared.entry.What.{What}
use Rattle.gm_flat.specs.declared.entry.What.TheVariants.{Acked, Answer, Begin, Change, End, Judge, Page}
use Rattle.gm_flat.specs.declared.views.SlotView.{SlotView}
use Rattle.gm_laws.proofs.Aside.{aside}
use Rattle.gm_laws.proofs.Grow.{same_state}
use Rattle.gm_laws.proofs.Ids.{IdsApart, IdsAt, MemSlot}
use Rattle.gm_laws.proofs.KeepCaller.{acked_bracket, new_bracket, opened, shut_bracket}
use Rattle.gm_laws.proofs.Kit.{by, cond_is, flat_at_all, flat_at_here, flat_at_keep, none_is, some_same}
use Rattle.gm_laws.proofs.Locks.{Apart, AtOnce, BoundSame, CallLt, ChangeIn, Facts, FilesAt, IsPlanned, Locks, MarkIn, PlannedBy, SlotFiles, SlotsSame, bound, bound_or, change_in, facts, files_keep, ids_keep, mark_in, marker, slots_or}
use Rattle.gm_laws.specs.May.{May}

-- no other call in progress holds a lock that the call needs
abbrev IsFreeToJudge : Ioctl → List Entry → Type 0
IsFreeToJudge ioctl past = (d : ℕ) (x : Call) (lock : Lock) → call d past ≡ Some x → takes lock ioctl (flat past) ≡ true → takes lock x.ioctl (flat_at x.judged past) ≡ false

free_judge : (o : Orders) (c : ℕ) (i : Ioctl) (past : List Entry) → Judges o c i past → IsFreeToJudge i past
free_judge o c i past m d x lock e h =
    elim (cases_Bool (takes lock x.ioctl (flat_at x.judged past))) [
      | inl y ↦ absurd (m.locks_free (record { lock = lock; holder = d; another = λ same. none_is x (sym m.none_in_progress ∙ (ap (λ (z : ℕ). call z past) (sym same) ∙ e)); holds = (x, e, y); needed = h }))
      | inr y ↦ y
    ]

abbrev pub CanChange : Setup → Effect → List Entry → Option Call → Option Bracket → Type 0
CanChange s e past None b = ⊥
CanChange s e past (Some x) b = (x.made ≡ false) × (((is_mark e ≡ false) × ChangeIn s e past x b) ⊎ MarkIn s e past x b)

pub can_change : (s : Setup) (e : Effect) (past : List Entry) (x : Option Call) (b : Option Bracket) → Changes s e x b past × RightChange s e x past → CanChange s e past x b
can_change s e past None b m = absurd m.0
can_change s e past (Some x) b m = (m.0.0, by_mark (is_mark e) refl m.0.1 m.1)
  where
    by_mark : (t : Bool) → is_mark e ≡ t → IsDueBy t (length past) x.judged (plan_of s x past) b → IsChange t e (plan_of s x past) → ((is_mark e ≡ false) × ChangeIn s e past x b) ⊎ MarkIn s e past x b
    by_mark true k due c = inr (mark_in s e past x b (plan_of s x past) refl due c)
    by_mark false k due c = inl (k, change_in s e past x b (plan_of s x past) refl due c)

abbrev pub is_judge : What → Bool
is_judge (Judge i) = true
is_judge _ = false

-- where a call in progress comes from
abbrev pub NotOwn : What → Actor → ℕ → Type 0
NotOwn (Change e) (Caller d) c = is_mark e ≡ false → d ≡ c → ⊥
NotOwn _ a c = Unit {0}

abbrev pub NewCall : What → Actor → ℕ → Call → List Entry → Type 0
NewCall (Judge i) (Caller d) c x past = (d ≡ c) × (x.judged ≡ length past) × (x.ioctl ≡ i)
NewCall _ a c x past = ⊥

abbrev pub OldCall : What → Actor → ℕ → Call → List Entry → Type 0
OldCall w a c x past = (y : Call) × (call c past ≡ Some y) × (y.judged ≡ x.judged) × (y.ioctl ≡ x.ioctl) × (x.made ≡ false → (y.made ≡ false) × NotOwn w a c)

made_is : (d c : ℕ) (k : Bool) (x : Call) (o : Option Call) → cond (eqb d c && not k) (with_change o) o ≡ Some x → (y : Call) × (o ≡ Some y) × (y.judged ≡ x.judged) × (y.ioctl ≡ x.ioctl) × (x.made ≡ false → (y.made ≡ false) × (k ≡ false → d ≡ c → ⊥))
made_is d c k x None e = elim (cond_is (eqb d c && not k) None None (Some x) e) [ inl y ↦ absurd (cc (y.1)) | inr y ↦ absurd (cc (y.1)) ]
made_is d c k x (Some y) e =
    elim (cond_is (eqb d c && not k) (Some (record y { made = true })) (Some y) (Some x) e) [
      | inl z ↦ let s : record y { made = true } ≡ x = some_same (record y { made = true }) x z.1 in
          (y, refl, ap (λ (q : Call). q.judged) s, ap (λ (q : Call). q.ioctl) s, λ m. absurd (both_ways x.made m (sym (ap (λ (q : Call). q.made) s))))
      | inr z ↦ let s : y ≡ x = some_same y x z.1 in
          (y, refl, ap (λ (q : Call). q.judged) s, ap (λ (q : Call). q.ioctl) s, λ m. (ap (λ (q : Call). q.made) s ∙ m, λ f h. another d c k z.0 f h))
    ]
  where
    another : (d c : ℕ) (k : Bool) → (eqb d c && not k) ≡ false → k ≡ false → d ≡ c → ⊥
    another d c k e f h = grind (arith, nat_tests)

paged_is : (d c : ℕ) (x : Call) (o : Option Call) → cond (eqb d c) (with_page o) o ≡ Some x → (y : Call) × (o ≡ Some y) × (y.judged ≡ x.judged) × (y.ioctl ≡ x.ioctl) × (x.made ≡ false → (y.made ≡ false) × Unit {0})
paged_is d c x None e = elim (cond_is (eqb d c) None None (Some x) e) [ inl y ↦ absurd (cc (y.1)) | inr y ↦ absurd (cc (y.1)) ]
paged_is d c x (Some y) e =
    elim (cond_is (eqb d c) (Some (record y { pages = suc y.pages })) (Some y) (Some x) e) [
      | inl z ↦ let s : record y { pages = suc y.pages } ≡ x = some_same (record y { pages = suc y.pages }) x z.1 in
          (y, refl, ap (λ (q : Call). q.judged) s, ap (λ (q : Call). q.ioctl) s, λ m. (ap (λ (q : Call). q.made) s ∙ m, tt))
      | inr z ↦ let s : y ≡ x = some_same y x z.1 in
          (y, refl, ap (λ (q : Call). q.judged) s, ap (λ (q : Call). q.ioctl) s, λ m. (ap (λ (q : Call). q.made) s ∙ m, tt))
    ]

old_same : (w : What) (a : Actor) (c : ℕ) (x : Call) (past : List Entry) → NotOwn w a c → call c past ≡ Some x → OldCall w a c x past
old_same w a c x past n e = (x, e, refl, refl, λ m. (m, n))

pub inverted : (t : ℕ) (w : What) (a : Actor) (past : List Entry) (c : ℕ) (x : Call) → call c (by t a w ∷ past) ≡ Some x → NewCall w a c x past ⊎ OldCall w a c x past
inverted t (Judge i) (Caller d) past c x e =
    elim (cond_is (eqb d c) (Some (record { judged = length past; ioctl = i; made = false; pages = 0 })) (call c past) (Some x) e) [
      | inl y ↦ let s : record { judged = length past; ioctl = i; made = false; pages = 0 } ≡ x = some_same _ x y.1 in
          inl (eqb-true d c y.0, sym (ap (λ (q : Call). q.judged) s), sym (ap (λ (q : Call). q.ioctl) s))
      | inr y ↦ inr (old_same (Judge i) (Caller d) c x past tt y.1)
    ]
inverted t (Judge i) (Vcpu v) past c x e = inr (old_same (Judge i) (Vcpu v) c x past tt e)
inverted t (Page i fo n) (Caller d) past c x e = inr (paged_is d c x (call c past) e)
inverted t (Page i fo n) (Vcpu v) past c x e = inr (old_same (Page i fo n) (Vcpu v) c x past tt e)
inverted t (Change k) (Caller d) past c x e = inr (made_is d c (is_mark k) x (call c past) e)
inverted t (Change k) (Vcpu v) past c x e = inr (old_same (Change k) (Vcpu v) c x past tt e)
inverted t (Answer r) (Caller d) past c x e =
    elim (cond_is (eqb d c) None (call c past) (Some x) e) [
      | inl y ↦ absurd (cc (y.1))
      | inr y ↦ inr (old_same (Answer r) (Caller d) c x past tt y.1)
    ]
inverted t (Answer r) (Vcpu v) past c x e = inr (old_same (Answer r) (Vcpu v) c x past tt e)
inverted t w a past c x e = inr (old_same w a c x past tt e)

-- the state at a Judge stays
pub then_same : (t : ℕ) (w : What) (a : Actor) (past : List Entry) (x y : Call) → y.judged < length past → y.judged ≡ x.judged → flat_at x.judged (by t a w ∷ past) ≡ flat_at y.judged past
then_same t w a past x y lt e =
    ap (λ (p : ℕ). flat_at p (by t a w ∷ past)) (sym e) ∙ flat_at_keep y.judged (by t a w) past (omega arith)

pub takes_same : (t : ℕ) (w : What) (a : Actor) (past : List Entry) (x y : Call) (lock : Lock) → y.judged < length past → y.judged ≡ x.judged → y.ioctl ≡ x.ioctl → takes lock x.ioctl (flat_at x.judged (by t a w ∷ past)) ≡ takes lock y.ioctl (flat_at y.judged past)
takes_same t w a past x y lock lt e f =
    ap (λ (s : Flat). takes lock x.ioctl s) (then_same t w a past x y lt e) ∙ ap (λ (i : Ioctl). takes lock i (flat_at y.judged past)) (sym f)

pub new_then : (t : ℕ) (w : What) (a : Actor) (past : List Entry) (x : Call) → x.judged ≡ length past → flat_at x.judged (by t a w ∷ past) ≡ flat past
new_then t w a past x e = ap (λ (p : ℕ). flat_at p (by t a w ∷ past)) e ∙ (flat_at_keep (length past) (by t a w) past (omega arith) ∙ flat_at_all past)

pub takes_new : (t : ℕ) (w : What) (a : Actor) (past : List Entry) (x : Call) (i : Ioctl) (lock : Lock) → x.judged ≡ length past → x.ioctl ≡ i → takes lock x.ioctl (flat_at x.judged (by t a w ∷ past)) ≡ takes lock i (flat past)
takes_new t w a past x i lock e f =
    ap (λ (s : Flat). takes lock x.ioctl s) (new_then t w a past x e) ∙ ap (λ (j : Ioctl). takes lock j (flat past)) f

call_lt_keep : {s : Setup} (t : ℕ) (w : What) (a : Actor) (past : List Entry) → Locks s past → CallLt (by t a w ∷ past)
call_lt_keep t w a past k c x e =
    elim (inverted t w a past c x e) [
      | inl y ↦ new_lt w a c x past y
      | inr y ↦ old_lt y.0.judged x.judged (length past) (k.call_lt c y.0 y.1) y.2
    ]
  where
    old_lt : (p q n : ℕ) → p < n → p ≡ q → q < suc n
    old_lt p q n h e = omega arith

    at_end : (p n : ℕ) → p ≡ n → p < suc n
    at_end p n e = omega arith

    new_lt : (w : What) (a : Actor) (c : ℕ) (x : Call) (past : List Entry) → NewCall w a c x past → x.judged < suc (length past)
    new_lt (Judge i) (Caller d) c x past y = at_end x.judged (length past) y.1
    new_lt (Judge i) (Vcpu v) c x past y = absurd y
    new_lt w a c x past y = absurd y

-- both calls were in progress before
apart_old : {s : Setup} (t : ℕ) (w : What) (a : Actor) (past : List Entry) (c d : ℕ) (x y : Call) (lock : Lock) → Locks s past → (c ≡ d → ⊥) → OldCall w a c x past → OldCall w a d y past → takes lock x.ioctl (flat_at x.judged (by t a w ∷ past)) ≡ true → takes lock y.ioctl (flat_at y.judged (by t a w ∷ past)) ≡ false
apart_old t w a past c d x y lock k ne p q h =
    takes_same t w a past y q.0 lock (k.call_lt d q.0 q.1) q.2 q.3 ∙ k.apart c d p.0 q.0 lock ne p.1 q.1 (sym (takes_same t w a past x p.0 lock (k.call_lt c p.0 p.1) p.2 p.3) ∙ h)

apart_judge : {s : Setup} (t : ℕ) (i : Ioctl) (o : ℕ) (past : List Entry) → Locks s past → IsFreeToJudge i past → Apart (by t (Caller o) (Judge i) ∷ past)
apart_judge t i o past k free c d x y lock ne ec ed h =
    elim (inverted t (Judge i) (Caller o) past c x ec) [
      | inl p ↦ elim (inverted t (Judge i) (Caller o) past d y ed) [
        | inl q ↦ absurd (ne (sym p.0 ∙ q.0))
        | inr q ↦ takes_same t (Judge i) (Caller o) past y q.0 lock (k.call_lt d q.0 q.1) q.2 q.3 ∙ free d q.0 lock q.1 (sym (takes_new t (Judge i) (Caller o) past x i lock p.1 p.2) ∙ h)
      ]
      | inr p ↦ elim (inverted t (Judge i) (Caller o) past d y ed) [
        | inl q ↦ takes_new t (Judge i) (Caller o) past y i lock q.1 q.2 ∙ elim (cases_Bool (takes lock i (flat past))) [
          | inl z ↦ absurd (both_ways (takes lock p.0.ioctl (flat_at p.0.judged past)) (free c p.0 lock p.1 z) (sym (takes_same t (Judge i) (Caller o) past x p.0 lock (k.call_lt c p.0 p.1) p.2 p.3) ∙ h))
          | inr z ↦ z
        ]
        | inr q ↦ apart_old t (Judge i) (Caller o) past c d x y lock k ne p q h
      ]
    ]

pub no_new : (w : What) (a : Actor) (c : ℕ) (x : Call) (past : List Entry) → is_judge w ≡ false → NewCall w a c x past → ⊥
no_new (Judge i) a c x past e y = both_ways true e refl
no_new w a c x past e y = y

apart_keep : (o : Orders) (t : ℕ) (w : What) (a : Actor) (past : List Entry) → Locks o.setup past → May o w a past → Apart (by t a w ∷ past)
apart_keep o t (Judge i) (Caller d) past k m = apart_judge t i d past k (free_judge o d i past m)
apart_keep o t (Judge i) (Vcpu v) past k m = absurd m
apart_keep o t w a past k m = λ c d x y lock ne ec ed h.
    elim (inverted t w a past c x ec) [
      | inl p ↦ absurd (no_new w a c x past refl p)
      | inr p ↦ elim (inverted t w a past d y ed) [
        | inl q ↦ absurd (no_new w a d y past refl q)
        | inr q ↦ apart_old t w a past c d x y lock k ne p q h
      ]
    ]

-- what a Change does: its call and its facts
pub changer : {s : Setup} (e : Effect) (d : ℕ) (past : List Entry) (o : Option Call) → Locks s past → call d past ≡ o → CanChange s e past o (bracket d past) → (y : Call) × (call d past ≡ Some y) × Facts e y.ioctl (flat_at y.judged past) (flat past)
changer {s} e d past None k c m = absurd m
changer {s} e d past (Some y) k c m = (y, c, elim m.1 [ inl x ↦ facts s e d y past (bracket d past) k c m.0 x.1 | inr x ↦ marker s e y past (bracket d past) x ])

slots_old : {s : Setup} (t : ℕ) (w : What) (a : Actor) (past : List Entry) (c : ℕ) (x : Call) → Locks s past → aside (flat (by t a w ∷ past)).slots ≡ aside (flat past).slots → OldCall w a c x past → x.made ≡ false → takes_slots x.ioctl ≡ true → aside (flat (by t a w ∷ past)).slots ≡ aside (flat_at x.judged (by t a w ∷ past)).slots
slots_old t w a past c x k same p m h =
    same ∙ (k.slots_same c p.0 p.1 (p.4 m).0 (ap takes_slots p.3 ∙ h) ∙ ap (λ (f : Flat). aside f.slots) (sym (then_same t w a past x p.0 (k.call_lt c p.0 p.1) p.2)))

bound_old : {s : Setup} (t : ℕ) (w : What) (a : Actor) (past : List Entry) (c F : ℕ) (x : Call) → Locks s past → bound F (aside (flat (by t a w ∷ past)).slots) ≡ bound F (aside (flat past).slots) → OldCall w a c x past → x.made ≡ false → takes (FileLock F) x.ioctl (flat_at x.judged (by t a w ∷ past)) ≡ true → bound F (aside (flat (by t a w ∷ past)).slots) ≡ bound F (aside (flat_at x.judged (by t a w ∷ past)).slots)
bound_old t w a past c F x k same p m h =
    same ∙ (k.bound_same c F p.0 p.1 (p.4 m).0 (sym (takes_same t w a past x p.0 (FileLock F) (k.call_lt c p.0 p.1) p.2 p.3) ∙ h) ∙ ap (λ (f : Flat). bound F (aside f.slots)) (sym (then_same t w a past x p.0 (k.call_lt c p.0 p.1) p.2)))

slots_change : {s : Setup} (t : ℕ) (e : Effect) (d : ℕ) (past : List Entry) → Locks s past → CanChange s e past (call d past) (bracket d past) → SlotsSame (by t (Caller d) (Change e) ∷ past)
slots_change t e d past k m c x ec made h =
    elim (inverted t (Change e) (Caller d) past c x ec) [
      | inl p ↦ absurd p
      | inr p ↦
          let y = changer e d past (call d past) k refl m in
          elim (slots_or e y.0.ioctl (flat_at y.0.judged past) (flat past) y.2) [
            | inl same ↦ slots_old t (Change e) (Caller d) past c x k same p made h
            | inr lock ↦ absurd (both_ways (takes_slots p.0.ioctl) (k.apart d c y.0 p.0 SlotsLock ((p.4 made).1 lock.0) y.1 p.1 lock.1) (ap takes_slots p.3 ∙ h))
          ]
    ]

slots_keep : (o : Orders) (t : ℕ) (w : What) (a : Actor) (past : List Entry) → Locks o.setup past → May o w a past → SlotsSame (by t a w ∷ past)
slots_keep o t (Change e) (Caller d) past k m = slots_change t e d past k (can_change o.setup e past (call d past) (bracket d past) m)
slots_keep o t (Change e) (Vcpu v) past k m = absurd m
slots_keep o t (Judge i) (Vcpu v) past k m = absurd m
slots_keep o t (Judge i) (Caller d) past k m = λ c x ec made h.
    elim (inverted t (Judge i) (Caller d) past c x ec) [
      | inl p ↦ ap (λ (f : Flat). aside f.slots) (sym (new_then t (Judge i) (Caller d) past x p.1))
      | inr p ↦ slots_old t (Judge i) (Caller d) past c x k refl p made h
    ]
slots_keep o t w a past k m = λ c x ec made h.
    elim (inverted t w a past c x ec) [
      | inl p ↦ absurd (no_new w a c x past refl p)
      | inr p ↦ slots_old t w a past c x k (ap aside (same_state t w a past refl).0) p made h
    ]

bound_change : {s : Setup} (t : ℕ) (e : Effect) (d : ℕ) (past : List Entry) → Locks s past → CanChange s e past (call d past) (bracket d past) → BoundSame (by t (Caller d) (Change e) ∷ past)
bound_change t e d past k m c F x ec made h =
    elim (inverted t (Change e) (Caller d) past c x ec) [
      | inl p ↦ absurd p
      | inr p ↦
          let y = changer e d past (call d past) k refl m in
          elim (bound_or F e y.0.ioctl (flat_at y.0.judged past) (flat past) y.2) [
            | inl same ↦ bound_old t (Change e) (Caller d) past c F x k same p made h
            | inr lock ↦ absurd (both_ways (takes (FileLock F) p.0.ioctl (flat_at p.0.judged past)) (k.apart d c y.0 p.0 (FileLock F) ((p.4 made).1 lock.0) y.1 p.1 lock.1) (sym (takes_same t (Change e) (Caller d) past x p.0 (FileLock F) (k.call_lt c p.0 p.1) p.2 p.3) ∙ h))
          ]
    ]

bound_keep : (o : Orders) (t : ℕ) (w : What) (a : Actor) (past : List Entry) → Locks o.setup past → May o w a past → BoundSame (by t a w ∷ past)
bound_keep o t (Change e) (Caller d) past k m = bound_change t e d past k (can_change o.setup e past (call d past) (bracket d past) m)
bound_keep o t (Change e) (Vcpu v) past k m = absurd m
bound_keep o t (Judge i) (Vcpu v) past k m = absurd m
bound_keep o t (Judge i) (Caller d) past k m = λ c F x ec made h.
    elim (inverted t (Judge i) (Caller d) past c x ec) [
      | inl p ↦ ap (λ (f : Flat). bound F (aside f.slots)) (sym (new_then t (Judge i) (Caller d) past x p.1))
      | inr p ↦ bound_old t (Judge i) (Caller d) past c F x k refl p made h
    ]
bound_keep o t w a past k m = λ c F x ec made h.
    elim (inverted t w a past c x ec) [
      | inl p ↦ absurd (no_new w a c x past refl p)
      | inr p ↦ bound_old t w a past c F x k (ap (λ (rs : List SlotView). bound F (aside rs)) (same_state t w a past refl).0) p made h
    ]

files_at_keep : (o : Orders) (t : ℕ) (w : What) (a : Actor) (past : List Entry) → Locks o.setup past → May o w a past → FilesAt (by t a w ∷ past)
files_at_keep o t w a past k m p =
    elim (cases_lt (length past) p) [
      | inl lt ↦ subst (λ (f : Flat). SlotFiles f) (sym (flat_at_here p (by t a w) past lt)) (now w a m)
      | inr ge ↦ subst (λ (f : Flat). SlotFiles f) (sym (flat_at_keep p (by t a w) past ge)) (k.files_at p)
    ]
  where
    here : SlotFiles (flat past)
    here = subst (λ (f : Flat). SlotFiles f) (flat_at_all past) (k.files_at (length past))

    like : (f g : Flat) → f.slots ≡ g.slots → f.files ≡ g.files → SlotFiles g → SlotFiles f
    like f g e q s r F m y = let w = s r F (subst (λ (z : List SlotView). MemSlot r z) e m) y in (ap (λ (z : List FileState). in_use F z) q ∙ w.0, w.1)

    now : (w : What) (a : Actor) → May o w a past → SlotFiles (flat (by t a w ∷ past))
    now (Change e) (Caller d) m = let y = changer e d past (call d past) k refl (can_change o.setup e past (call d past) (bracket d past) m) in files_keep e y.0.ioctl (flat_at y.0.judged past) (flat past) y.2 here
    now (Change e) (Vcpu v) m = absurd m
    now w a m = let x = same_state t w a past refl in like (flat (by t a w ∷ past)) (flat past) x.0 x.2 here

ids_now : (o : Orders) (t : ℕ) (w : What) (a : Actor) (past : List Entry) → Locks o.setup past → May o w a past → IdsAt (by t a w ∷ past)
ids_now o t w a past k m p =
    elim (cases_lt (length past) p) [
      | inl lt ↦ subst (λ (f : Flat). IdsApart f.slots) (sym (flat_at_here p (by t a w) past lt)) (now w a m)
      | inr ge ↦ subst (λ (f : Flat). IdsApart f.slots) (sym (flat_at_keep p (by t a w) past ge)) (k.ids p)
    ]
  where
    here : IdsApart (flat past).slots
    here = subst (λ (f : Flat). IdsApart f.slots) (flat_at_all past) (k.ids (length past))

    now : (w : What) (a : Actor) → May o w a past → IdsApart (flat (by t a w ∷ past)).slots
    now (Change e) (Caller d) m = let y = changer e d past (call d past) k refl (can_change o.setup e past (call d past) (bracket d past) m) in ids_keep e y.0.ioctl (flat_at y.0.judged past) (flat past) y.2 here
    now (Change e) (Vcpu v) m = absurd m
    now w a m = let x = same_state t w a past refl in subst IdsApart (sym x.0) here

too_old : (p q n : ℕ) → p < n → p ≡ q → suc n ≡ suc q → ⊥
too_old p q n h e f = omega arith

at_once_keep : (o : Orders) (t : ℕ) (w : What) (a : Actor) (past : List Entry) → Locks o.setup past → May o w a past → AtOnce (by t a w ∷ past)
at_once_keep o t (Judge i) (Caller d) past k m = λ c x ec h.
    elim (inverted t (Judge i) (Caller d) past c x ec) [
      | inl p ↦ sym (new_then t (Judge i) (Caller d) past x p.1)
      | inr p ↦ absurd (too_old p.0.judged x.judged (length past) (k.call_lt c p.0 p.1) p.2 h)
    ]
at_once_keep o t (Judge i) (Vcpu v) past k m = absurd m
at_once_keep o t w a past k m = λ c x ec h.
    elim (inverted t w a past c x ec) [
      | inl p ↦ absurd (no_new w a c x past refl p)
      | inr p ↦ absurd (too_old p.0.judged x.judged (length past) (k.call_lt c p.0 p.1) p.2 h)
    ]

-- brackets keep their plans
planned_old : (s : Setup) (t : ℕ) (w : What) (a : Actor) (past : List Entry) (b : Bracket) (x y : Call) → y.judged < length past → y.judged ≡ x.judged → y.ioctl ≡ x.ioctl → PlannedBy s b y past → PlannedBy s b x (by t a w ∷ past)
planned_old s t w a past b x y lt e f p =
    (p.0, ap (λ (z : Flat). plan s x.ioctl z) (then_same t w a past x y lt e) ∙ (ap (λ (i : Ioctl). plan s i (flat_at y.judged past)) (sym f) ∙ p.1))

pub made_some : (t : Bool) (o : Option Call) (x : Call) → o ≡ Some x → (y : Call) × (cond t (with_change o) o ≡ Some y) × (x.judged ≡ y.judged) × (x.ioctl ≡ y.ioctl)
made_some true o x e = (record x { made = true }, ap with_change e, refl, refl)
made_some false o x e = (x, e, refl, refl)

pub paged_some : (t : Bool) (o : Option Call) (x : Call) → o ≡ Some x → (y : Call) × (cond t (with_page o) o ≡ Some y) × (x.judged ≡ y.judged) × (x.ioctl ≡ y.ioctl)
paged_some true o x e = (record x { pages = suc x.pages }, ap with_page e, refl, refl)
paged_some false o x e = (x, e, refl, refl)

begin_plan : (s : Setup) (past : List Entry) (d : ℕ) (spans : List Extent) (o : Option Call) → call d past ≡ o → RightBegin s spans o past → (x : Call) × (call d past ≡ Some x) × ((e : Effect) × (plan s x.ioctl (flat_at x.judged past) ≡ Bracketed e spans))
begin_plan s past d spans None e m = absurd m
begin_plan s past d spans (Some x) e m = (x, e, m)

cond_other : {A : Type 0} (d c : ℕ) (x y : A) → (d ≡ c → ⊥) → cond (eqb d c) x y ≡ y
cond_other d c x y ne = rw (ne_eqb d c ne) refl

some_none : (d c : ℕ) (past : List Entry) (x : Call) → call d past ≡ None → d ≡ c → call c past ≡ Some x → ⊥
some_none d c past x m same e = let y : call d past ≡ Some x = ap (λ (z : ℕ). call z past) same ∙ e in cc

open_none : (d c : ℕ) (past : List Entry) (b : Bracket) → bracket d past ≡ None → d ≡ c → bracket c past ≡ Some b → ⊥
open_none d c past b m same e = let y : bracket d past ≡ Some b = ap (λ (z : ℕ). bracket z past) same ∙ e in cc

planned_keep : (o : Orders) (t : ℕ) (w : What) (a : Actor) (past : List Entry) → Locks o.setup past → May o w a past → IsPlanned o.setup (by t a w ∷ past)
planned_keep o t (Begin spans) (Caller d) past k m = λ c b e.
    elim (new_bracket d c (opened (length past) spans.list) b (bracket c past) e) [
      | inl y ↦
          let x = begin_plan o.setup past d spans.list (call d past) refl m.1 in
          (x.0, subst (λ (z : ℕ). call z past ≡ Some x.0) y.0 x.1, planned_old o.setup t (Begin spans) (Caller d) past b x.0 x.0 (k.call_lt d x.0 x.1) refl refl (x.2.0, x.2.1 ∙ ap (λ (s : List Extent). Bracketed x.2.0 s) (ap (λ (q : Bracket). q.spans) y.1)))
      | inr y ↦ let p = k.planned c b y in (p.0, p.1, planned_old o.setup t (Begin spans) (Caller d) past b p.0 p.0 (k.call_lt c p.0 p.1) refl refl p.2)
    ]
planned_keep o t Acked (Caller d) past k m = λ c b e.
    let y = acked_bracket d c b (bracket c past) e in
    let p = k.planned c y.0 y.1 in
    (p.0, p.1, planned_old o.setup t Acked (Caller d) past b p.0 p.0 (k.call_lt c p.0 p.1) refl refl (p.2.0, p.2.1 ∙ ap (λ (s : List Extent). Bracketed p.2.0 s) y.3))
planned_keep o t End (Caller d) past k m = λ c b e.
    let p = k.planned c b (shut_bracket d c b (bracket c past) e).1 in
    (p.0, p.1, planned_old o.setup t End (Caller d) past b p.0 p.0 (k.call_lt c p.0 p.1) refl refl p.2)
planned_keep o t (Change f) (Caller d) past k m = λ c b e.
    let p = k.planned c b e in
    let x = made_some (eqb d c && not (is_mark f)) (call c past) p.0 p.1 in
    (x.0, x.1, planned_old o.setup t (Change f) (Caller d) past b x.0 p.0 (k.call_lt c p.0 p.1) x.2 x.3 p.2)
planned_keep o t (Page i fo n) (Caller d) past k m = λ c b e.
    let p = k.planned c b e in
    let x = paged_some (eqb d c) (call c past) p.0 p.1 in
    (x.0, x.1, planned_old o.setup t (Page i fo n) (Caller d) past b x.0 p.0 (k.call_lt c p.0 p.1) x.2 x.3 p.2)
planned_keep o t (Page i fo n) (Vcpu v) past k m = absurd m
planned_keep o t (Judge i) (Caller d) past k m = λ c b e.
    let p = k.planned c b e in
    (p.0, cond_other d c (Some (record { judged = length past; ioctl = i; made = false; pages = 0 })) (call c past) (λ same. some_none d c past p.0 m.none_in_progress same p.1) ∙ p.1, planned_old o.setup t (Judge i) (Caller d) past b p.0 p.0 (k.call_lt c p.0 p.1) refl refl p.2)
planned_keep o t (Answer r) (Caller d) past k m = λ c b e.
    let p = k.planned c b e in
    (p.0, cond_other d c None (call c past) (λ same. open_none d c past b m.0 same e) ∙ p.1, planned_old o.setup t (Answer r) (Caller d) past b p.0 p.0 (k.call_lt c p.0 p.1) refl refl p.2)
planned_keep o t (Begin spans) (Vcpu v) past k m = absurd m
planned_keep o t Acked (Vcpu v) past k m = absurd m
planned_keep o t End (Vcpu v) past k m = absurd m
planned_keep o t (Change f) (Vcpu v) past k m = absurd m
planned_keep o t (Judge i) (Vcpu v) past k m = absurd m
planned_keep o t (Answer r) (Vcpu v) past k m = absurd m
planned_keep o t w a past k m = λ c b e.
    let p = k.planned c b e in
    (p.0, p.1, planned_old o.setup t w a past b p.0 p.0 (k.call_lt c p.0 p.1) refl refl p.2)

pub locks_keep : (o : Orders) (t : ℕ) (w : What) (a : Actor) (past : List Entry) → Locks o.setup past → May o w a past → Locks o.setup (by t a w ∷ past)
locks_keep o t w a past k m =
    record {
      call_lt = call_lt_keep t w a past k;
      apart = apart_keep o t w a past k m;
      slots_same = slots_keep o t w a past k m;
      bound_same = bound_keep o t w a past k m;
      planned = planned_keep o t w a past k m;
      files_at = files_at_keep o t w a past k m;
      at_once = at_once_keep o t w a past k m;
      ids = ids_now o t w a past k m;
    }
