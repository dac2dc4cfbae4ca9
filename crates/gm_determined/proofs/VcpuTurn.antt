-- A turn of a vCPU is determined.
use Rattle.std.proofs.Common.{Bool, List, None, Option, Some, [], ap, eq-eqb, eqb, false, inl, inr, length, refl, subst, sym, true, ℕ, ◌∙◌, ◌∷◌, ◌≡◌, ◌⊎◌}
use Rattle.std.proofs.lemmas.Bool.{both_ways}
use Rattle.gm_base.specs.Aim.{Aim}
use Rattle.gm_base.specs.Scripts.{Orders}
use Rattle.gm_base.specs.declared.script.Command.{Command}
use Rattle.gm_base.specs.declared.script.Command.TheVariants.{Touch as TouchCommand}
use Rattle.gm_base.specs.declared.values.Actor.TheVariants.{Vcpu}
use Rattle.gm_base.specs.declared.values.Kind.{Kind}
use Rattle.gm_base.specs.declared.values.Level.{Level}
use Rattle.gm_flat.specs.Histories.{Fault, Faulting, NoFault, fault}
use Rattle.gm_flat.specs.Invalidation.{stale}
use Rattle.gm_flat.specs.Mappings.{inside, pending}
use Rattle.gm_flat.specs.Plays.{is_kick}
use Rattle.gm_flat.specs.Replay.{get_adds, states}
use Rattle.gm_flat.specs.RightInstall.{RightGet}
use Rattle.gm_flat.specs.RightLevel.{LevelIs}
use Rattle.gm_flat.specs.RightLives.{RightGetAdds}
use Rattle.gm_flat.specs.RightLook.{RightExit, RightSeen}
use Rattle.gm_flat.specs.RightOrder.{IsLooked, IsMissed, IsSampled, IsWaiting, are_frees, is_vcpu_row, next_command}
use Rattle.gm_flat.specs.declared.effect.Backing.{Backing}
use Rattle.gm_flat.specs.declared.effect.Exit.{Exit}
use Rattle.gm_flat.specs.declared.entry.Entry.{Entry}
use Rattle.gm_flat.specs.declared.entry.What.{What}
use Rattle.gm_flat.specs.declared.entry.What.TheVariants.{Enter, Flush, Free, Get, Gone, Install, Left, Look, Miss, Retry, Sample, Touch}
use Rattle.gm_laws.proofs.Fates.{idle}
use Rattle.gm_laws.proofs.Kit.{by, none_is}
use Rattle.gm_laws.specs.May.{May, MayInstall, MayMiss, MayRetry, MayTouch}
use Rattle.gm_laws.specs.Ruled.{AllFreed, Ruled}
use Rattle.gm_laws.specs.Turns.{EachMay, IsNewTurn, onto}
use Rattle.gm_determined.specs.Determined.{AreHere, LookedAt, SampledAt, Stamp, stamps}
use Rattle.gm_determined.proofs.Entries.{RetryNow, get_same, get_retry, install_same, left_get, left_same, left_retry, look_at, miss_same, touch_miss, touch_same}
use Rattle.gm_determined.proofs.Frees.{frees_same}
use Rattle.gm_determined.proofs.Small.{false_true}
use Rattle.gm_determined.proofs.Waits.{FaultWaits, faults_wait}

-- the rows, each with what its entries say
abbrev TouchRow : Orders → ℕ → List What → List Entry → Type 0
TouchRow o v ws past = (a : Aim) × (b : Backing) × (l : Level) × (x : ℕ) × (f : ℕ) × (ws ≡ Touch a b l x f ∷ []) × MayTouch o v a b l x f past

abbrev MissRow : Orders → ℕ → List What → List Entry → Type 0
MissRow o v ws past = (a : Aim) × (ws ≡ Miss a ∷ []) × MayMiss o v a past

abbrev OutRow : ℕ → List What → List Entry → Type 0
OutRow v ws past = ((ws ≡ Enter ∷ []) × (pending v past ≡ false)) ⊎ ((ws ≡ Flush ∷ (Enter ∷ [])) × (pending v past ≡ true))

abbrev LookRow : Fault → List What → List Entry → Type 0
LookRow z ws past = (at : ℕ) × (slot : Option ℕ) × (attr : Kind) × (file : Option ℕ) × (ws ≡ Look at slot attr file ∷ []) × RightSeen at slot attr file past z

abbrev SampleRow : List What → Type 0
SampleRow ws = (at : ℕ) × (ws ≡ Sample at ∷ [])

-- a Sample and a Look in one turn
abbrev BothRow : ℕ → ℕ → List What → List Entry → Type 0
BothRow t v ws past = (at : ℕ) × (n : ℕ) × (slot : Option ℕ) × (attr : Kind) × (file : Option ℕ) × (ws ≡ Sample at ∷ (Look n slot attr file ∷ [])) × RightSeen n slot attr file (by t (Vcpu v) (Sample at) ∷ past) (fault v (by t (Vcpu v) (Sample at) ∷ past))

abbrev LeftRow : Orders → Fault → List What → List Entry → Type 0
LeftRow o z ws past = (why : Exit) × (ws ≡ Left why ∷ []) × RightExit o.setup.frames why past z

abbrev GetRow : Orders → Fault → List What → List Entry → Type 0
GetRow o z ws past = (b : Backing) × (n : ℕ) × (ws ≡ Get b n ∷ []) × RightGet b n past z × RightGetAdds o.setup.frames n z (get_adds b n z (states past)) past

abbrev InstallRow : Orders → Fault → List What → List Entry → Type 0
InstallRow o z ws past = (page : ℕ) × (level : Level) × (ws ≡ Install page level ∷ []) × MayInstall page past z × LevelIs level o.setup.huge page past

-- a Retry with its Frees
record RetryRow (o : Orders) (t v : ℕ) (ws : List What) (past : List Entry) : Type 0 where
  frees : List What
  is : ws ≡ Retry ∷ frees
  are : are_frees frees ≡ true
  may : May o Retry (Vcpu v) past
  each : EachMay o t (Vcpu v) frees (by t (Vcpu v) Retry ∷ past)
  freed : AllFreed (onto t (Vcpu v) frees (by t (Vcpu v) Retry ∷ past))

-- by where the vCPU is, and how far its fault
abbrev Facts : Orders → ℕ → ℕ → Bool → Fault → List What → List Entry → Type 0
Facts o t v true z ws past = TouchRow o v ws past ⊎ MissRow o v ws past
Facts o t v false NoFault ws past = OutRow v ws past
Facts o t v false (Faulting a m None None None) ws past = SampleRow ws ⊎ BothRow t v ws past
Facts o t v false (Faulting a m (Some s) None None) ws past = LookRow (Faulting a m (Some s) None None) ws past
Facts o t v false (Faulting a m (Some s) (Some l) None) ws past = LeftRow o (Faulting a m (Some s) (Some l) None) ws past ⊎ (GetRow o (Faulting a m (Some s) (Some l) None) ws past ⊎ (RetryNow a l past × RetryRow o t v ws past))
Facts o t v false (Faulting a m (Some s) (Some l) (Some g)) ws past = (InstallRow o (Faulting a m (Some s) (Some l) (Some g)) ws past × (stale (Some s) a.page past ≡ false)) ⊎ ((stale (Some s) a.page past ≡ true) × RetryRow o t v ws past)
Facts o t v false _ ws past = ⊥

-- rows of a state are the same
cons_frees : (w : What) (ws gs fs hs : List What) → ws ≡ w ∷ fs → gs ≡ w ∷ hs → fs ≡ hs → ws ≡ gs
cons_frees w ws gs fs hs a b e = a ∙ (ap (λ (xs : List What). w ∷ xs) e ∙ sym b)

one_what : (w x : What) (ws gs : List What) → ws ≡ w ∷ [] → gs ≡ x ∷ [] → w ≡ x → ws ≡ gs
one_what w x ws gs a b e = a ∙ (ap (λ (z : What). z ∷ []) e ∙ sym b)

retry_same : (o : Orders) (t v : ℕ) (ws gs : List What) (past : List Entry) → Ruled o past → IsNewTurn t past → RetryRow o t v ws past → RetryRow o t v gs past → ws ≡ gs
retry_same o t v ws gs past r n x y = cons_frees Retry ws gs x.frees y.frees x.is y.is (frees_same o t (Vcpu v) Retry x.frees y.frees past r n tt x.may x.are y.are x.each y.each x.freed y.freed)

-- stamps
on_stamps : (ws gs us vs : List What) → ws ≡ us → gs ≡ vs → stamps ws ≡ stamps gs → stamps us ≡ stamps vs
on_stamps ws gs us vs p q e = sym (ap stamps p) ∙ (e ∙ ap stamps q)

sampled_at : (a b : ℕ) → SampledAt a ∷ [] ≡ SampledAt b ∷ [] → a ≡ b
sampled_at a b e = cc

looked_at : (a b : ℕ) → LookedAt a ∷ [] ≡ LookedAt b ∷ [] → a ≡ b
looked_at a b e = cc

one_two : (a b c : ℕ) → SampledAt a ∷ [] ≡ SampledAt b ∷ (LookedAt c ∷ []) → ⊥
one_two a b c e = cc

two_at : (a b c d : ℕ) → SampledAt a ∷ (LookedAt c ∷ []) ≡ SampledAt b ∷ (LookedAt d ∷ []) → (a ≡ b) × (c ≡ d)
two_at a b c d e = (cc, cc)

both_same : (t v a b n m : ℕ) (s r : Option ℕ) (k j : Kind) (f g : Option ℕ) (past : List Entry) → a ≡ b → n ≡ m → RightSeen n s k f (by t (Vcpu v) (Sample a) ∷ past) (fault v (by t (Vcpu v) (Sample a) ∷ past)) → RightSeen m r j g (by t (Vcpu v) (Sample b) ∷ past) (fault v (by t (Vcpu v) (Sample b) ∷ past)) → Look n s k f ≡ Look m r j g
both_same t v a b n m s r k j f g past p q x y =
    look_at n m s r k j f g (by t (Vcpu v) (Sample a) ∷ past) (fault v (by t (Vcpu v) (Sample a) ∷ past)) q x
    (subst (λ (z : ℕ). RightSeen m r j g (by t (Vcpu v) (Sample z) ∷ past) (fault v (by t (Vcpu v) (Sample z) ∷ past))) (sym p) y)

facts_same : (o : Orders) (t v : ℕ) (i : Bool) (z : Fault) (ws gs : List What) (past : List Entry) → Ruled o past → IsNewTurn t past → stamps ws ≡ stamps gs → Facts o t v i z ws past → Facts o t v i z gs past → ws ≡ gs
facts_same o t v true z ws gs past r n st (inl x) (inl y) = one_what (Touch x.0 x.1 x.2 x.3 x.4) (Touch y.0 y.1 y.2 y.3 y.4) ws gs x.5 y.5 (touch_same o v x.0 y.0 x.1 y.1 x.2 y.2 x.3 y.3 x.4 y.4 past x.6 y.6)
facts_same o t v true z ws gs past r n st (inl x) (inr y) = absurd (touch_miss o v x.0 y.0 x.1 x.2 x.3 x.4 past x.6 y.2)
facts_same o t v true z ws gs past r n st (inr x) (inl y) = absurd (touch_miss o v y.0 x.0 y.1 y.2 y.3 y.4 past y.6 x.2)
facts_same o t v true z ws gs past r n st (inr x) (inr y) = one_what (Miss x.0) (Miss y.0) ws gs x.1 y.1 (miss_same o v x.0 y.0 past x.2 y.2)
facts_same o t v false NoFault ws gs past r n st (inl x) (inl y) = x.0 ∙ sym y.0
facts_same o t v false NoFault ws gs past r n st (inr x) (inr y) = x.0 ∙ sym y.0
facts_same o t v false NoFault ws gs past r n st (inl x) (inr y) = absurd (both_ways (pending v past) x.1 y.1)
facts_same o t v false NoFault ws gs past r n st (inr x) (inl y) = absurd (both_ways (pending v past) y.1 x.1)
facts_same o t v false (Faulting a m None None None) ws gs past r n st (inl x) (inl y) = one_what (Sample x.0) (Sample y.0) ws gs x.1 y.1 (ap (λ (k : ℕ). Sample k) (sampled_at x.0 y.0 (on_stamps ws gs (Sample x.0 ∷ []) (Sample y.0 ∷ []) x.1 y.1 st)))
facts_same o t v false (Faulting a m None None None) ws gs past r n st (inl x) (inr y) = absurd (one_two x.0 y.0 y.1 (on_stamps ws gs (Sample x.0 ∷ []) (Sample y.0 ∷ (Look y.1 y.2 y.3 y.4 ∷ [])) x.1 y.5 st))
facts_same o t v false (Faulting a m None None None) ws gs past r n st (inr x) (inl y) = absurd (one_two y.0 x.0 x.1 (on_stamps gs ws (Sample y.0 ∷ []) (Sample x.0 ∷ (Look x.1 x.2 x.3 x.4 ∷ [])) y.1 x.5 (sym st)))
facts_same o t v false (Faulting a m None None None) ws gs past r n st (inr x) (inr y) =
    let e = two_at x.0 y.0 x.1 y.1 (on_stamps ws gs (Sample x.0 ∷ (Look x.1 x.2 x.3 x.4 ∷ [])) (Sample y.0 ∷ (Look y.1 y.2 y.3 y.4 ∷ [])) x.5 y.5 st) in
    x.5 ∙ (ap (λ (w : What). Sample x.0 ∷ (w ∷ [])) (both_same t v x.0 y.0 x.1 y.1 x.2 y.2 x.3 y.3 x.4 y.4 past e.0 e.1 x.6 y.6) ∙ (ap (λ (k : ℕ). Sample k ∷ (Look y.1 y.2 y.3 y.4 ∷ [])) e.0 ∙ sym y.5))
facts_same o t v false (Faulting a m (Some s) None None) ws gs past r n st x y = one_what (Look x.0 x.1 x.2 x.3) (Look y.0 y.1 y.2 y.3) ws gs x.4 y.4 (look_at x.0 y.0 x.1 y.1 x.2 y.2 x.3 y.3 past (Faulting a m (Some s) None None) (looked_at x.0 y.0 (on_stamps ws gs (Look x.0 x.1 x.2 x.3 ∷ []) (Look y.0 y.1 y.2 y.3 ∷ []) x.4 y.4 st)) x.5 y.5)
facts_same o t v false (Faulting a m (Some s) (Some l) None) ws gs past r n st (inl x) (inl y) = one_what (Left x.0) (Left y.0) ws gs x.1 y.1 (left_same o.setup.frames x.0 y.0 past (Faulting a m (Some s) (Some l) None) x.2 y.2)
facts_same o t v false (Faulting a m (Some s) (Some l) None) ws gs past r n st (inl x) (inr (inl y)) = absurd (left_get x.0 o.setup.frames y.1 y.0 past (Faulting a m (Some s) (Some l) None) x.2 y.3 y.4)
facts_same o t v false (Faulting a m (Some s) (Some l) None) ws gs past r n st (inl x) (inr (inr y)) = absurd (left_retry x.0 o.setup.frames a l past x.2 y.0)
facts_same o t v false (Faulting a m (Some s) (Some l) None) ws gs past r n st (inr (inl x)) (inl y) = absurd (left_get y.0 o.setup.frames x.1 x.0 past (Faulting a m (Some s) (Some l) None) y.2 x.3 x.4)
facts_same o t v false (Faulting a m (Some s) (Some l) None) ws gs past r n st (inr (inl x)) (inr (inl y)) = one_what (Get x.0 x.1) (Get y.0 y.1) ws gs x.2 y.2 (get_same o.setup.frames x.1 y.1 x.0 y.0 past (Faulting a m (Some s) (Some l) None) x.3 y.3 x.4 y.4)
facts_same o t v false (Faulting a m (Some s) (Some l) None) ws gs past r n st (inr (inl x)) (inr (inr y)) = absurd (get_retry x.0 x.1 a l past x.3 y.0)
facts_same o t v false (Faulting a m (Some s) (Some l) None) ws gs past r n st (inr (inr x)) (inl y) = absurd (left_retry y.0 o.setup.frames a l past y.2 x.0)
facts_same o t v false (Faulting a m (Some s) (Some l) None) ws gs past r n st (inr (inr x)) (inr (inl y)) = absurd (get_retry y.0 y.1 a l past y.3 x.0)
facts_same o t v false (Faulting a m (Some s) (Some l) None) ws gs past r n st (inr (inr x)) (inr (inr y)) = retry_same o t v ws gs past r n x.1 y.1
facts_same o t v false (Faulting a m (Some s) (Some l) (Some g)) ws gs past r n st (inl x) (inl y) = one_what (Install x.0.0 x.0.1) (Install y.0.0 y.0.1) ws gs x.0.2 y.0.2 (install_same x.0.0 y.0.0 x.0.1 y.0.1 o.setup.huge past (Faulting a m (Some s) (Some l) (Some g)) x.0.3 y.0.3 x.0.4 y.0.4)
facts_same o t v false (Faulting a m (Some s) (Some l) (Some g)) ws gs past r n st (inl x) (inr y) = absurd (both_ways (stale (Some s) a.page past) x.1 y.0)
facts_same o t v false (Faulting a m (Some s) (Some l) (Some g)) ws gs past r n st (inr x) (inl y) = absurd (both_ways (stale (Some s) a.page past) y.1 x.0)
facts_same o t v false (Faulting a m (Some s) (Some l) (Some g)) ws gs past r n st (inr x) (inr y) = retry_same o t v ws gs past r n x.1 y.1
facts_same o t v false (Faulting a m None (Some l) g) ws gs past r n st x y = absurd x
facts_same o t v false (Faulting a m None None (Some g)) ws gs past r n st x y = absurd x
facts_same o t v false (Faulting a m (Some s) None (Some g)) ws gs past r n st x y = absurd x

-- a turn is of its state; none but Gone comes without a command
abbrev State : Orders → ℕ → ℕ → Bool → Fault → Option Command → List What → List Entry → Type 0
State o t v i z c ws past = (c ≡ None → ⊥) × Facts o t v i z ws past

abbrev View : Orders → ℕ → ℕ → List What → List Entry → Type 0
View o t v ws past = ((ws ≡ Gone ∷ []) × (next_command o (Vcpu v) past ≡ None)) ⊎ State o t v (inside v past) (fault v past) (next_command o (Vcpu v) past) ws past

some_next : (c : Option Command) (k : Command) → c ≡ Some k → c ≡ None → ⊥
some_next c k e f = none_is k (sym f ∙ e)

waiting_next : (c : Option Command) → IsWaiting c → c ≡ None → ⊥
waiting_next None w e = w
waiting_next (Some k) w e = none_is k (sym e)

in_state : (o : Orders) (t v : ℕ) (i : Bool) (z : Fault) (c : Option Command) (ws : List What) (past : List Entry) → i ≡ true → (c ≡ None → ⊥) → TouchRow o v ws past ⊎ MissRow o v ws past → State o t v i z c ws past
in_state o t v i z c ws past e n x = (n, subst (λ (j : Bool). Facts o t v j z ws past) (sym e) x)

out_state : (o : Orders) (t v : ℕ) (i : Bool) (z : Fault) (c : Option Command) (ws : List What) (past : List Entry) → i ≡ false → z ≡ NoFault → IsWaiting c → OutRow v ws past → State o t v i z c ws past
out_state o t v i z c ws past e f n x = (waiting_next c n, subst (λ (j : Bool). Facts o t v j z ws past) (sym e) (subst (λ (y : Fault). Facts o t v false y ws past) (sym f) x))

sample_state : (o : Orders) (t v : ℕ) (i : Bool) (z : Fault) (c : Option Command) (ws : List What) (past : List Entry) → (i ≡ true → z ≡ NoFault) → FaultWaits c z → IsMissed z → SampleRow ws ⊎ BothRow t v ws past → State o t v i z c ws past
sample_state o t v true z c ws past f w h e = absurd (subst IsMissed (f refl) h)
sample_state o t v false (Faulting a m None None None) c ws past f w h e = (some_next c (TouchCommand a) w, e)
sample_state o t v false _ c ws past f w h e = absurd h

look_state : (o : Orders) (t v : ℕ) (i : Bool) (z : Fault) (c : Option Command) (ws : List What) (past : List Entry) → (i ≡ true → z ≡ NoFault) → FaultWaits c z → IsSampled z → LookRow z ws past → State o t v i z c ws past
look_state o t v true z c ws past f w h e = absurd (subst IsSampled (f refl) h)
look_state o t v false (Faulting a m (Some s) None None) c ws past f w h e = (some_next c (TouchCommand a) w, e)
look_state o t v false _ c ws past f w h e = absurd h

left_state : (o : Orders) (t v : ℕ) (i : Bool) (z : Fault) (c : Option Command) (ws : List What) (past : List Entry) → (i ≡ true → z ≡ NoFault) → FaultWaits c z → IsLooked z → LeftRow o z ws past → State o t v i z c ws past
left_state o t v true z c ws past f w h e = absurd (subst IsLooked (f refl) h)
left_state o t v false (Faulting a m (Some s) (Some l) None) c ws past f w h e = (some_next c (TouchCommand a) w, inl e)
left_state o t v false _ c ws past f w h e = absurd h

get_state : (o : Orders) (t v : ℕ) (i : Bool) (z : Fault) (c : Option Command) (ws : List What) (past : List Entry) → (i ≡ true → z ≡ NoFault) → FaultWaits c z → IsLooked z → GetRow o z ws past → State o t v i z c ws past
get_state o t v true z c ws past f w h e = absurd (subst IsLooked (f refl) h)
get_state o t v false (Faulting a m (Some s) (Some l) None) c ws past f w h e = (some_next c (TouchCommand a) w, inr (inl e))
get_state o t v false _ c ws past f w h e = absurd h

install_state : (o : Orders) (t v page : ℕ) (level : Level) (i : Bool) (z : Fault) (c : Option Command) (ws : List What) (past : List Entry) → (i ≡ true → z ≡ NoFault) → FaultWaits c z → MayInstall page past z → LevelIs level o.setup.huge page past → ws ≡ Install page level ∷ [] → State o t v i z c ws past
install_state o t v page level true z c ws past f w h k e = absurd (subst (MayInstall page past) (f refl) h)
install_state o t v page level false (Faulting a m (Some s) (Some l) (Some g)) c ws past f w h k e = (some_next c (TouchCommand a) w, inl ((page, level, e, h, k), h.1))
install_state o t v page level false _ c ws past f w h k e = absurd h

retry_state : (o : Orders) (t v : ℕ) (i : Bool) (z : Fault) (c : Option Command) (ws : List What) (past : List Entry) → (i ≡ true → z ≡ NoFault) → FaultWaits c z → MayRetry past z → RetryRow o t v ws past → State o t v i z c ws past
retry_state o t v true z c ws past f w h e = absurd (subst (MayRetry past) (f refl) h)
retry_state o t v false (Faulting a m (Some s) (Some l) (Some g)) c ws past f w h e = (some_next c (TouchCommand a) w, inr (h, e))
retry_state o t v false (Faulting a m (Some s) (Some l) None) c ws past f w h e = (some_next c (TouchCommand a) w, inr (inr (h, e)))
retry_state o t v false _ c ws past f w h e = absurd h

view : (o : Orders) (t v : ℕ) (ws : List What) (past : List Entry) → Ruled o past → is_vcpu_row ws ≡ true → is_kick ws ≡ false → EachMay o t (Vcpu v) ws past → AllFreed (onto t (Vcpu v) ws past) → View o t v ws past
view o t v (Flush ∷ []) past r e k m f = absurd (both_ways true k refl)
view o t v (Flush ∷ (Enter ∷ [])) past r e k m f = inr (out_state o t v _ _ _ _ past m.1.0.outside m.1.0.no_fault m.1.0.waiting (inr (refl, m.0)))
view o t v (Enter ∷ []) past r e k m f = inr (out_state o t v _ _ _ _ past m.0.outside m.0.no_fault m.0.waiting (inl (refl, m.0.flushed_before)))
view o t v (Touch a b l x g ∷ []) past r e k m f = inr (in_state o t v _ _ _ _ past m.0.is_inside (some_next _ (TouchCommand a) m.0.command) (inl (a, b, l, x, g, refl, m.0)))
view o t v (Miss a ∷ []) past r e k m f = inr (in_state o t v _ _ _ _ past m.0.not_served.is_inside (some_next _ (TouchCommand a) m.0.command) (inr (a, refl, m.0)))
view o t v (Sample at ∷ []) past r e k m f = inr (sample_state o t v _ _ _ _ past (idle o past r.follows v) (faults_wait o past r.follows v) m.0.0 (inl (at, refl)))
view o t v (Sample at ∷ (Look n s a g ∷ [])) past r e k m f = inr (sample_state o t v _ _ _ _ past (idle o past r.follows v) (faults_wait o past r.follows v) m.0.0 (inr (at, n, s, a, g, refl, m.1.0.1)))
view o t v (Look n s a g ∷ []) past r e k m f = inr (look_state o t v _ _ _ _ past (idle o past r.follows v) (faults_wait o past r.follows v) m.0.0 (n, s, a, g, refl, m.0.1))
view o t v (Left why ∷ []) past r e k m f = inr (left_state o t v _ _ _ _ past (idle o past r.follows v) (faults_wait o past r.follows v) m.0.0 (why, refl, m.0.1))
view o t v (Get b n ∷ []) past r e k m f = inr (get_state o t v _ _ _ _ past (idle o past r.follows v) (faults_wait o past r.follows v) m.0.0 (b, n, refl, m.0.1, m.0.2))
view o t v (Install page level ∷ []) past r e k m f = inr (install_state o t v page level _ _ _ _ past (idle o past r.follows v) (faults_wait o past r.follows v) m.0.0 m.0.1 refl)
view o t v (Retry ∷ ws) past r e k m f = inr (retry_state o t v _ _ _ _ past (idle o past r.follows v) (faults_wait o past r.follows v) m.0 (record { frees = ws; is = refl; are = e; may = m.0; each = m.1; freed = f }))
view o t v (Gone ∷ []) past r e k m f = inl (refl, m.0.none_left)
view o t v _ past r e k m f = false_true e

view_same : (o : Orders) (t v : ℕ) (ws gs : List What) (past : List Entry) → Ruled o past → IsNewTurn t past → stamps ws ≡ stamps gs → View o t v ws past → View o t v gs past → ws ≡ gs
view_same o t v ws gs past r n st (inl x) (inl y) = x.0 ∙ sym y.0
view_same o t v ws gs past r n st (inl x) (inr y) = absurd (y.0 x.1)
view_same o t v ws gs past r n st (inr x) (inl y) = absurd (x.0 y.1)
view_same o t v ws gs past r n st (inr x) (inr y) = facts_same o t v (inside v past) (fault v past) ws gs past r n st x.1 y.1

pub vcpu_stamped : (o : Orders) (t v : ℕ) (ws gs : List What) (past : List Entry) → Ruled o past → IsNewTurn t past → is_vcpu_row ws ≡ true → is_vcpu_row gs ≡ true → is_kick ws ≡ false → is_kick gs ≡ false → EachMay o t (Vcpu v) ws past → EachMay o t (Vcpu v) gs past → stamps ws ≡ stamps gs → AllFreed (onto t (Vcpu v) ws past) → AllFreed (onto t (Vcpu v) gs past) → ws ≡ gs
vcpu_stamped o t v ws gs past r n a b c d e f g i j = view_same o t v ws gs past r n g (view o t v ws past r a c e i) (view o t v gs past r b d f j)

-- where each sample and look has its own position, the state tells the stamps
frees_stamps : (ws : List What) → are_frees ws ≡ true → stamps ws ≡ []
frees_stamps [] e = refl
frees_stamps (Free fo n ∷ ws) e = frees_stamps ws e
frees_stamps (_ ∷ ws) e = false_true e

abbrev here_of : Bool → Fault → List Entry → List Stamp
here_of false (Faulting a m None None None) past = SampledAt (length past) ∷ []
here_of false (Faulting a m (Some s) None None) past = LookedAt (length past) ∷ []
here_of i z past = []

retry_stamps : (o : Orders) (t v : ℕ) (ws : List What) (past : List Entry) → RetryRow o t v ws past → stamps ws ≡ []
retry_stamps o t v ws past x = ap stamps x.is ∙ frees_stamps x.frees x.are

facts_here : (o : Orders) (t v : ℕ) (i : Bool) (z : Fault) (ws : List What) (past : List Entry) → Facts o t v i z ws past → AreHere t (Vcpu v) ws past → stamps ws ≡ here_of i z past
facts_here o t v true z ws past (inl x) h = ap stamps x.5
facts_here o t v true z ws past (inr x) h = ap stamps x.1
facts_here o t v false NoFault ws past (inl x) h = ap stamps x.0
facts_here o t v false NoFault ws past (inr x) h = ap stamps x.0
facts_here o t v false (Faulting a m None None None) ws past (inl x) h = ap stamps x.1 ∙ ap (λ (n : ℕ). SampledAt n ∷ []) (subst (λ (us : List What). AreHere t (Vcpu v) us past) x.1 h).0
facts_here o t v false (Faulting a m None None None) ws past (inr x) h = absurd (both_ways (eqb t t) (subst (λ (us : List What). AreHere t (Vcpu v) us past) x.5 h).1.0.1 (eq-eqb t t refl))
facts_here o t v false (Faulting a m (Some s) None None) ws past x h = ap stamps x.4 ∙ ap (λ (n : ℕ). LookedAt n ∷ []) (subst (λ (us : List What). AreHere t (Vcpu v) us past) x.4 h).0.0
facts_here o t v false (Faulting a m (Some s) (Some l) None) ws past (inl x) h = ap stamps x.1
facts_here o t v false (Faulting a m (Some s) (Some l) None) ws past (inr (inl x)) h = ap stamps x.2
facts_here o t v false (Faulting a m (Some s) (Some l) None) ws past (inr (inr x)) h = retry_stamps o t v ws past x.1
facts_here o t v false (Faulting a m (Some s) (Some l) (Some g)) ws past (inl x) h = ap stamps x.0.2
facts_here o t v false (Faulting a m (Some s) (Some l) (Some g)) ws past (inr x) h = retry_stamps o t v ws past x.1
facts_here o t v false (Faulting a m None (Some l) g) ws past x h = absurd x
facts_here o t v false (Faulting a m None None (Some g)) ws past x h = absurd x
facts_here o t v false (Faulting a m (Some s) None (Some g)) ws past x h = absurd x

view_here : (o : Orders) (t v : ℕ) (ws gs : List What) (past : List Entry) → View o t v ws past → View o t v gs past → AreHere t (Vcpu v) ws past → AreHere t (Vcpu v) gs past → stamps ws ≡ stamps gs
view_here o t v ws gs past (inl x) (inl y) h g = ap stamps (x.0 ∙ sym y.0)
view_here o t v ws gs past (inl x) (inr y) h g = absurd (y.0 x.1)
view_here o t v ws gs past (inr x) (inl y) h g = absurd (x.0 y.1)
view_here o t v ws gs past (inr x) (inr y) h g = facts_here o t v (inside v past) (fault v past) ws past x.1 h ∙ sym (facts_here o t v (inside v past) (fault v past) gs past y.1 g)

pub vcpu_here : (o : Orders) (t v : ℕ) (ws gs : List What) (past : List Entry) → Ruled o past → is_vcpu_row ws ≡ true → is_vcpu_row gs ≡ true → is_kick ws ≡ false → is_kick gs ≡ false → EachMay o t (Vcpu v) ws past → EachMay o t (Vcpu v) gs past → AreHere t (Vcpu v) ws past → AreHere t (Vcpu v) gs past → AllFreed (onto t (Vcpu v) ws past) → AllFreed (onto t (Vcpu v) gs past) → stamps ws ≡ stamps gs
vcpu_here o t v ws gs past r a b c d e f g h i j = view_here o t v ws gs past (view o t v ws past r a c e i) (view o t v gs past r b d f j) g h

-- whether a turn samples or looks is told by the state
some_stamp : (k : Stamp) (ks : List Stamp) → k ∷ ks ≡ [] → ⊥
some_stamp k ks e = cc

facts_none : (o : Orders) (t v : ℕ) (i : Bool) (z : Fault) (ws gs : List What) (past : List Entry) → Facts o t v i z ws past → Facts o t v i z gs past → stamps ws ≡ [] → stamps gs ≡ []
facts_none o t v true z ws gs past x (inl y) e = ap stamps y.5
facts_none o t v true z ws gs past x (inr y) e = ap stamps y.1
facts_none o t v false NoFault ws gs past x (inl y) e = ap stamps y.0
facts_none o t v false NoFault ws gs past x (inr y) e = ap stamps y.0
facts_none o t v false (Faulting a m None None None) ws gs past (inl x) y e = absurd (some_stamp (SampledAt x.0) [] (sym (ap stamps x.1) ∙ e))
facts_none o t v false (Faulting a m None None None) ws gs past (inr x) y e = absurd (some_stamp (SampledAt x.0) (LookedAt x.1 ∷ []) (sym (ap stamps x.5) ∙ e))
facts_none o t v false (Faulting a m (Some s) None None) ws gs past x y e = absurd (some_stamp (LookedAt x.0) [] (sym (ap stamps x.4) ∙ e))
facts_none o t v false (Faulting a m (Some s) (Some l) None) ws gs past x (inl y) e = ap stamps y.1
facts_none o t v false (Faulting a m (Some s) (Some l) None) ws gs past x (inr (inl y)) e = ap stamps y.2
facts_none o t v false (Faulting a m (Some s) (Some l) None) ws gs past x (inr (inr y)) e = retry_stamps o t v gs past y.1
facts_none o t v false (Faulting a m (Some s) (Some l) (Some g)) ws gs past x (inl y) e = ap stamps y.0.2
facts_none o t v false (Faulting a m (Some s) (Some l) (Some g)) ws gs past x (inr y) e = retry_stamps o t v gs past y.1
facts_none o t v false (Faulting a m None (Some l) g) ws gs past x y e = absurd x
facts_none o t v false (Faulting a m None None (Some g)) ws gs past x y e = absurd x
facts_none o t v false (Faulting a m (Some s) None (Some g)) ws gs past x y e = absurd x

view_none : (o : Orders) (t v : ℕ) (ws gs : List What) (past : List Entry) → View o t v ws past → View o t v gs past → stamps ws ≡ [] → stamps gs ≡ []
view_none o t v ws gs past (inl x) (inl y) e = ap stamps y.0
view_none o t v ws gs past (inl x) (inr y) e = absurd (y.0 x.1)
view_none o t v ws gs past (inr x) (inl y) e = absurd (x.0 y.1)
view_none o t v ws gs past (inr x) (inr y) e = facts_none o t v (inside v past) (fault v past) ws gs past x.1 y.1 e

pub vcpu_none : (o : Orders) (t v : ℕ) (ws gs : List What) (past : List Entry) → Ruled o past → is_vcpu_row ws ≡ true → is_vcpu_row gs ≡ true → is_kick ws ≡ false → is_kick gs ≡ false → EachMay o t (Vcpu v) ws past → EachMay o t (Vcpu v) gs past → AllFreed (onto t (Vcpu v) ws past) → AllFreed (onto t (Vcpu v) gs past) → stamps ws ≡ [] → stamps gs ≡ []
vcpu_none o t v ws gs past r a b c d e f i j st = view_none o t v ws gs past (view o t v ws past r a c e i) (view o t v gs past r b d f j) st
