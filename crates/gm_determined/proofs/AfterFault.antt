-- What comes of a fault after its Look, and after a Get.
use Rattle.std.proofs.Common.{◌++◌, Bool, List, None, Option, Some, [], ap, eq-eqb, eqb, false, inl, inr, refl, subst, sym, true, ℕ, ◌∙◌, ◌∷◌, ◌≡◌, ◌⊎◌}
use Rattle.std.proofs.lemmas.Bool.{both_ways, cond-true}
use Rattle.gm_base.specs.Aim.{Aim}
use Rattle.gm_base.specs.Scripts.{Orders}
use Rattle.gm_base.specs.declared.script.Command.{Command}
use Rattle.gm_base.specs.declared.script.Command.TheVariants.{Touch as TouchCommand}
use Rattle.gm_base.specs.declared.values.Actor.{Actor}
use Rattle.gm_base.specs.declared.values.Actor.TheVariants.{Vcpu}
use Rattle.gm_base.specs.declared.values.Folio.{Folio}
use Rattle.gm_base.specs.declared.values.Level.{Level}
use Rattle.gm_flat.specs.Histories.{Fault as AFault, Faulting, Gotten, NoFault, Seen, fault}
use Rattle.gm_flat.specs.Invalidation.{stale}
use Rattle.gm_flat.specs.Plays.{before_number}
use Rattle.gm_flat.specs.Replay.{get_adds, states}
use Rattle.gm_flat.specs.RightHistory.{Right}
use Rattle.gm_flat.specs.RightInstall.{RightGet}
use Rattle.gm_flat.specs.RightLevel.{LevelIs}
use Rattle.gm_flat.specs.RightLives.{RightGetAdds}
use Rattle.gm_flat.specs.RightLook.{RightExit}
use Rattle.gm_flat.specs.RightOrder.{IsLooked, IsMissed, IsSampled, are_frees, is_row, is_vcpu_row, next_command}
use Rattle.gm_flat.specs.declared.entry.Entry.{Entry}
use Rattle.gm_flat.specs.declared.entry.What.{What}
use Rattle.gm_flat.specs.declared.entry.What.TheVariants.{Enter, Flush, Free, Get, Gone, Install, Left, Look, Miss, Retry, Sample, Touch}
use Rattle.gm_laws.proofs.Fates.{idle}
use Rattle.gm_laws.proofs.Fronts.{front_follows}
use Rattle.gm_laws.proofs.Kit.{by, none_is}
use Rattle.gm_laws.proofs.RightIsRuled.{ruled}
use Rattle.gm_laws.specs.May.{May, MayInstall, MayRetry}
use Rattle.gm_laws.specs.Ruled.{Follows}
use Rattle.gm_laws.specs.Stands.{Stands}
use Rattle.gm_laws.specs.Turns.{onto}
use Rattle.gm_determined.specs.Exactly.{AfterGet}
use Rattle.gm_determined.proofs.Placed.{InTurn, in_turn}
use Rattle.gm_determined.proofs.Small.{false_true}
use Rattle.gm_determined.proofs.Waits.{FaultWaits, faults_wait}

-- a Free of a vCPU comes after its Retry
abbrev has_free : List What → Bool
has_free [] = false
has_free (Free fo n ∷ ws) = true
has_free (_ ∷ ws) = has_free ws

free_in : (ws : List What) (fo : Folio) (n : ℕ) (us : List What) → has_free (ws ++ Free fo n ∷ us) ≡ true
free_in [] fo n us = refl
free_in (Free g m ∷ ws) fo n us = refl
free_in (_ ∷ ws) fo n us = free_in ws fo n us

row_frees : (w : What) (us : List What) → is_vcpu_row (w ∷ us) ≡ true → ((w ≡ Retry) × (are_frees us ≡ true)) ⊎ (has_free us ≡ false)
row_frees Retry us e = inl (refl, e)
row_frees Flush [] e = inr refl
row_frees Flush (Enter ∷ []) e = inr refl
row_frees Enter [] e = inr refl
row_frees (Touch a b l v f) [] e = inr refl
row_frees (Miss a) [] e = inr refl
row_frees (Sample at) [] e = inr refl
row_frees (Sample at) (Look k s a f ∷ []) e = inr refl
row_frees (Look k s a f) [] e = inr refl
row_frees (Left why) [] e = inr refl
row_frees (Get b n) [] e = inr refl
row_frees (Install p l) [] e = inr refl
row_frees Gone [] e = inr refl
row_frees w us e = false_true e

front_frees : (ws us : List What) → are_frees (ws ++ us) ≡ true → are_frees ws ≡ true
front_frees [] us e = refl
front_frees (Free fo n ∷ ws) us e = front_frees ws us e
front_frees (_ ∷ ws) us e = false_true e

after_retry : (fo : Folio) (n : ℕ) (ws us : List What) → is_vcpu_row (ws ++ Free fo n ∷ us) ≡ true → (fs : List What) × (ws ≡ Retry ∷ fs) × (are_frees fs ≡ true)
after_retry fo n [] us e = false_true e
after_retry fo n (w ∷ ws) us e = elim (row_frees w (ws ++ Free fo n ∷ us) e) [
  | inl x ↦ (ws, ap (λ (v : What). v ∷ ws) x.0, front_frees ws (Free fo n ∷ us) x.1)
  | inr x ↦ absurd (both_ways (has_free (ws ++ Free fo n ∷ us)) x (free_in ws fo n us))
]

frees_fault : (t v : ℕ) (a : Actor) (fs : List What) (p : List Entry) → are_frees fs ≡ true → fault v (onto t a fs p) ≡ fault v p
frees_fault t v a [] p e = refl
frees_fault t v a (Free fo n ∷ fs) p e = frees_fault t v a fs (by t a (Free fo n) ∷ p) e
frees_fault t v a (_ ∷ fs) p e = false_true e

no_fault : (t v : ℕ) (fs : List What) (p : List Entry) → are_frees fs ≡ true → fault v (onto t (Vcpu v) (Retry ∷ fs) p) ≡ NoFault
no_fault t v fs p e = frees_fault t v (Vcpu v) fs (by t (Vcpu v) Retry ∷ p) e ∙ cond-true (eqb v v) NoFault (fault v p) (eq-eqb v v refl)

freed_fault : (o : Orders) (v : ℕ) (fo : Folio) (n : ℕ) (e : Entry) (past h : List Entry) → InTurn o e past h → e.actor ≡ Vcpu v → e.what ≡ Free fo n → fault v past ≡ NoFault
freed_fault o v fo n e past h x a w =
    let front = x.place.before in
    let row : is_vcpu_row (front ++ Free fo n ∷ x.place.after) ≡ true = subst (λ (y : What). is_vcpu_row (front ++ y ∷ x.place.after) ≡ true) w
    (subst (λ (b : Actor). is_row o.setup b (front ++ e.what ∷ x.place.after) (before_number e.turn h) ≡ true) a
    (subst (λ (ws : List What). is_row o.setup e.actor ws (before_number e.turn h) ≡ true) x.place.entries x.turn.row)) in
    let r = after_retry fo n front x.place.after row in
    let stands : past ≡ onto e.turn (Vcpu v) (Retry ∷ r.0) (before_number e.turn h) = x.place.stands ∙ (ap (λ (b : Actor). onto e.turn b front (before_number e.turn h)) a ∙ ap (λ (ws : List What). onto e.turn (Vcpu v) ws (before_number e.turn h)) r.1) in
    ap (fault v) stands ∙ no_fault e.turn v r.0 (before_number e.turn h) r.2

-- what is known of an entry of a vCPU
pub record Known (o : Orders) (v : ℕ) (w : What) (past : List Entry) : Type 0 where
  pub may : May o w (Vcpu v) past
  pub follows : Follows o past
  pub free_rests : (fo : Folio) (n : ℕ) → w ≡ Free fo n → fault v past ≡ NoFault

pub known : (o : Orders) (v : ℕ) (e : Entry) (past h : List Entry) → Right o h → Stands e past h → e.actor ≡ Vcpu v → Known o v e.what past
known o v e past h r s a =
    let f = front_follows o e past h s (ruled o h r).follows in
    record {
      may = subst (λ (b : Actor). May o e.what b past) a f.0.may;
      follows = f.1;
      free_rests = λ fo n w. freed_fault o v fo n e past h (in_turn o e past h r s) a w;
    }

-- where a fault waits, its vCPU is outside and its command is next
faulting : (a : Aim) (m : ℕ) (s : Option ℕ) (l : Option Seen) (g : Option Gotten) → Faulting a m s l g ≡ NoFault → ⊥
faulting a m s l g e = cc

waits_next : (c : Option Command) (a : Aim) (m : ℕ) (s : Option ℕ) (l : Option Seen) (g : Option Gotten) (z : AFault) → z ≡ Faulting a m s l g → FaultWaits c z → c ≡ None → ⊥
waits_next c a m s l g z e w n = none_is (TouchCommand a) (sym n ∙ subst (FaultWaits c) e w)

-- the entries that can come
abbrev pub Comes : Orders → What → AFault → List Entry → Type 0
Comes o (Get b n) z past = IsLooked z × RightGet b n past z × RightGetAdds o.setup.frames n z (get_adds b n z (states past)) past
Comes o (Left why) z past = IsLooked z × RightExit o.setup.frames why past z
Comes o (Install page level) z past = MayInstall page past z × LevelIs level o.setup.huge page past
Comes o Retry z past = MayRetry past z
Comes o _ z past = ⊥

abbrev pub IsHeld : AFault → Type 0
IsHeld z = (IsMissed z → ⊥) × (IsSampled z → ⊥)

comes : (o : Orders) (v : ℕ) (w : What) (past : List Entry) → Known o v w past → (fault v past ≡ NoFault → ⊥) → (next_command o (Vcpu v) past ≡ None → ⊥) → IsHeld (fault v past) → (w ≡ Flush → ⊥) → Comes o w (fault v past) past
comes o v Enter past k f c h n = absurd (f k.may.no_fault)
comes o v Flush past k f c h n = absurd (n refl)
comes o v (Miss a) past k f c h n = absurd (f (idle o past k.follows v k.may.not_served.is_inside))
comes o v (Sample at) past k f c h n = absurd (h.0 k.may.0)
comes o v (Look at slot attr file) past k f c h n = absurd (h.1 k.may.0)
comes o v (Get b m) past k f c h n = k.may
comes o v (Install page level) past k f c h n = k.may
comes o v Retry past k f c h n = k.may
comes o v (Touch a b l x y) past k f c h n = absurd (f (idle o past k.follows v k.may.is_inside))
comes o v (Left why) past k f c h n = k.may
comes o v (Free fo m) past k f c h n = absurd (f (k.free_rests fo m refl))
comes o v Gone past k f c h n = absurd (c k.may.none_left)
comes o v w past k f c h n = absurd k.may

pub faults_entry : (o : Orders) (v : ℕ) (w : What) (a : Aim) (m : ℕ) (s : Option ℕ) (l : Option Seen) (g : Option Gotten) (past : List Entry) → Known o v w past → fault v past ≡ Faulting a m s l g → IsHeld (Faulting a m s l g) → (w ≡ Flush → ⊥) → Comes o w (Faulting a m s l g) past
faults_entry o v w a m s l g past k e h n =
    subst (λ (z : AFault). Comes o w z past) e
    (comes o v w past k (λ x. faulting a m s l g (sym e ∙ x)) (waits_next (next_command o (Vcpu v) past) a m s l g (fault v past) e (faults_wait o past k.follows v)) (subst IsHeld (sym e) h) n)

-- after a Get
got_held : (a : Aim) (m : ℕ) (s : Option ℕ) (l : Option Seen) (g : Gotten) → IsHeld (Faulting a m s l (Some g))
got_held a m None None g = (λ x. x, λ x. x)
got_held a m None (Some l) g = (λ x. x, λ x. x)
got_held a m (Some s) None g = (λ x. x, λ x. x)
got_held a m (Some s) (Some l) g = (λ x. x, λ x. x)

got_looked : (a : Aim) (m : ℕ) (s : Option ℕ) (l : Option Seen) (g : Gotten) → IsLooked (Faulting a m s l (Some g)) → ⊥
got_looked a m None None g x = x
got_looked a m None (Some l) g x = x
got_looked a m (Some s) None g x = x
got_looked a m (Some s) (Some l) g x = x

got_install : (a : Aim) (m page : ℕ) (s : Option ℕ) (l : Option Seen) (g : Gotten) (past : List Entry) → MayInstall page past (Faulting a m s l (Some g)) → (page ≡ a.page) × (stale s a.page past ≡ false)
got_install a m page (Some s) (Some l) g past x = x
got_install a m page None None g past x = absurd x
got_install a m page None (Some l) g past x = absurd x
got_install a m page (Some s) None g past x = absurd x

got_retry : (a : Aim) (m : ℕ) (s : Option ℕ) (l : Option Seen) (g : Gotten) (past : List Entry) → MayRetry past (Faulting a m s l (Some g)) → stale s a.page past ≡ true
got_retry a m (Some s) (Some l) g past x = x
got_retry a m None None g past x = absurd x
got_retry a m None (Some l) g past x = absurd x
got_retry a m (Some s) None g past x = absurd x

install_not_retry : (page : ℕ) (level : Level) → Install page level ≡ Retry → ⊥
install_not_retry page level e = cc

same_install : (p q : ℕ) (l k : Level) → Install p l ≡ Install q k → (p ≡ q) × (l ≡ k)
same_install p q l k e = (cc, cc)

after_get : (o : Orders) (w : What) (a : Aim) (m : ℕ) (s : Option ℕ) (l : Option Seen) (g : Gotten) (past : List Entry) → Comes o w (Faulting a m s l (Some g)) past → AfterGet o.setup.huge w a s past
after_get o (Install page level) a m s l g past x =
    let y = got_install a m page s l g past x.0 in
    record {
      stale_retries = (λ e. absurd (both_ways (stale s a.page past) y.1 e), λ e. absurd (install_not_retry page level e));
      fresh_installs = (λ e. (level, ap (λ (n : ℕ). Install n level) y.0, subst (λ (n : ℕ). LevelIs level o.setup.huge n past) y.0 x.1), λ e. y.1);
    }
after_get o Retry a m s l g past x =
    let y = got_retry a m s l g past x in
    record {
      stale_retries = (λ e. refl, λ e. y);
      fresh_installs = (λ e. absurd (both_ways (stale s a.page past) e y), λ e. absurd (install_not_retry a.page e.0 (sym e.1)));
    }
after_get o (Get b n) a m s l g past x = absurd (got_looked a m s l g x.0)
after_get o (Left why) a m s l g past x = absurd (got_looked a m s l g x.0)
after_get o _ a m s l g past x = absurd x

pub get_followed : (o : Orders) (e : Entry) (past h : List Entry) (v : ℕ) (a : Aim) (m : ℕ) (s : Option ℕ) (l : Option Seen) (g : Gotten) → Right o h → Stands e past h → e.actor ≡ Vcpu v → (e.what ≡ Flush → ⊥) → fault v past ≡ Faulting a m s l (Some g) → AfterGet o.setup.huge e.what a s past
get_followed o e past h v a m s l g r st actor n f =
    after_get o e.what a m s l g past (faults_entry o v e.what a m s l (Some g) past (known o v e past h r st actor) f (got_held a m s l g) n)
