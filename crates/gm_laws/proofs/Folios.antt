-- A folio that is cached or held is live, and two live folios have different frames.
use Rattle.std.proofs.Common.{◌&&◌, ◌+◌, ◌<◌, Bool, List, None, Option, Some, [], ap, arith, cond, eqb, eqb-true, false, inl, inr, leb, length, ltb, refl, subst, suc, sym, true, zero, ℕ, ◌∙◌, ◌∷◌, ◌≡◌, ◌≤◌, ◌⊎◌}
use Rattle.std.proofs.lemmas.Bool.Decides.{nat_tests}
use Rattle.gm_base.specs.Aim.{Aim}
use Rattle.gm_base.specs.Scripts.{Orders}
use Rattle.gm_base.specs.declared.values.Actor.{Actor}
use Rattle.gm_base.specs.declared.values.Actor.TheVariants.{Caller, Vcpu}
use Rattle.gm_base.specs.declared.values.Folio.{Folio}
use Rattle.gm_base.specs.declared.values.Setup.{Setup}
use Rattle.gm_flat.specs.Calls.{Bracketed, PagePlan, Paged, Plan, Reads, Refused, Same, Short}
use Rattle.gm_flat.specs.Effects.{Addition, add, apply, get_addition, is_cut, shut_files, shut_slots, slot_fits, with_run, without, without_file}
use Rattle.gm_flat.specs.FlatState.{Flat, Triple, cached, is_free, is_live, is_triple, was_made}
use Rattle.gm_flat.specs.Histories.{Call, Fault, Faulting, Gotten, NoFault, Seen, call, fault, is_vcpu, with_get, with_look, with_sample}
use Rattle.gm_flat.specs.Replay.{adds, flat, get_adds, index_in, looked_slot, page_adds, states}
use Rattle.gm_flat.specs.RightCalls.{IsPage, IsPageOf, RightPage}
use Rattle.gm_flat.specs.RightInstall.{GetBy, RightGet, UserGet}
use Rattle.gm_flat.specs.RightLives.{AddsOne, FaultHolds, FreeIsRight, GetAdds, IsCached, IsHeld, IsOfFolio, PageAdds, PageAddsBy, RightGetAdds, RightPageAdds, UsesFirst, frame_of, plan_of}
use Rattle.gm_flat.specs.RightLook.{Route, ToAgain, ToFault, ToFile, ToMmio, ToUser, route_seen}
use Rattle.gm_flat.specs.RightOrder.{IsLooked}
use Rattle.gm_flat.specs.declared.effect.Backing.{Backing}
use Rattle.gm_flat.specs.declared.effect.Backing.TheVariants.{Folio as InFolio, User}
use Rattle.gm_flat.specs.declared.effect.Effect.{Effect}
use Rattle.gm_flat.specs.declared.effect.Effect.TheVariants.{Attr, Cut, File, Mark, Move, NoSlot, Shut, Slot, Word}
use Rattle.gm_flat.specs.declared.entry.Entry.{Entry}
use Rattle.gm_flat.specs.declared.entry.What.{What}
use Rattle.gm_flat.specs.declared.entry.What.TheVariants.{Change, Free, Get, Install, Left, Look, Miss, Page, Retry, Sample}
use Rattle.gm_flat.specs.declared.views.SlotView.{SlotView}
use Rattle.gm_laws.proofs.Adds.{FileHas, file_get, none_fresh}
use Rattle.gm_laws.proofs.Flats.{cond_P}
use Rattle.gm_laws.proofs.Kit.{by, cond_is, none_is, some_same}
use Rattle.gm_laws.proofs.Lives.{frame_free, frame_with, free_none, live_stays, live_with}
use Rattle.gm_laws.specs.May.{May}
use Rattle.gm_laws.specs.Ruled.{Follows}

pub record LivesOk (past : List Entry) : Type 0 where
  pub cached_live : (s : ℕ) → IsCached s (flat past) → is_live s (flat past).folios ≡ true
  pub held_live : (s : ℕ) → IsHeld s past → is_live s (flat past).folios ≡ true
  pub frames_differ : (s t r : ℕ) → frame_of s (flat past).folios ≡ Some r → frame_of t (flat past).folios ≡ Some r → s ≡ t

-- the frames of what is added are free
abbrev pub FramesFree : Option Addition → Flat → Type 0
FramesFree None f = Unit {0}
FramesFree (Some d) f = (k : ℕ) → k < d.pages → is_free (d.frame + k) f.folios ≡ true

one_frame : (frame k n : ℕ) → n ≡ 1 → k < n → frame + k ≡ frame
one_frame frame k n e h = omega arith

one_free : (frames i : ℕ) (d : Addition) (f : Flat) → AddsOne frames i d f → FramesFree (Some d) f
one_free frames i d f x = λ k h. ap (λ (r : ℕ). is_free r f.folios) (one_frame d.frame k d.pages x.pages h) ∙ x.frame.free

first_free : (frames i : ℕ) (d : Addition) (f : Flat) → UsesFirst frames i d f → FramesFree (Some d) f
first_free frames i d f (inl x) = λ k h. x.frame.block.free k (subst (λ (n : ℕ). k < n) x.pages h)
first_free frames i d f (inr x) = one_free frames i d f x.0

adds_free : (frames : ℕ) (I : Option ℕ) (d : Option Addition) (f : Flat) → GetAdds frames I d f → FramesFree d f
adds_free frames (Some i) (Some d) f x = first_free frames i d f x.1
adds_free frames (Some i) None f x = tt
adds_free frames None d f x = absurd x

none_frames : (d : Option Addition) (f : Flat) → d ≡ None → FramesFree d f
none_frames d f e = subst (λ (x : Option Addition). FramesFree x f) (sym e) tt

pub get_frames : (b : Backing) (fresh frames : ℕ) (x : Fault) (past : List Entry) → IsLooked x → RightGetAdds frames fresh x (get_adds b fresh x (states past)) past → FramesFree (get_adds b fresh x (states past)) (flat past)
get_frames b zero frames (Faulting a m (Some s) (Some l) None) past i h = none_frames (get_adds b zero (Faulting a m (Some s) (Some l) None) (states past)) (flat past) (none_fresh b l.file (index_in a.page (looked_slot l past)) (flat past).files)
get_frames b (suc k) frames (Faulting a m (Some s) (Some l) None) past i h = adds_free frames (index_in a.page (looked_slot l past)) (get_adds b (suc k) (Faulting a m (Some s) (Some l) None) (states past)) (flat past) (h (omega arith))
get_frames b fresh frames (Faulting a m (Some s) (Some l) (Some q)) past i h = absurd i
get_frames b fresh frames (Faulting a m (Some s) None q) past i h = absurd i
get_frames b fresh frames (Faulting a m None l q) past i h = absurd i
get_frames b fresh frames NoFault past i h = absurd i

page_base : (frames i pages : ℕ) (p : PagePlan) (base : Option ℕ) (d : Addition) (f : Flat) → IsPageOf p base i pages f → PageAddsBy frames p base d f → FramesFree (Some d) f
page_base frames i pages p None d f page h = first_free frames page.0 d f (h page.0 page.1)
page_base frames i pages p (Some base) d f page h = one_free frames d.index d f h

page_frames_by : (frames i : ℕ) (x : Call) (plan : Plan) (a : Option Addition) (f : Flat) → IsPage i x plan f → PageAdds frames plan a f → FramesFree a f
page_frames_by frames i x (Paged p) (Some d) f page h = page_base frames i x.pages p p.base d f page h.2
page_frames_by frames i x (Paged p) None f page h = tt
page_frames_by frames i x (Refused r) a f page h = absurd page
page_frames_by frames i x (Same r) a f page h = absurd page
page_frames_by frames i x (Reads p w) a f page h = absurd page
page_frames_by frames i x (Short r w) a f page h = absurd page
page_frames_by frames i x (Bracketed r w) a f page h = absurd page

pub page_frames : (s : Setup) (i : ℕ) (fo : Folio) (n : ℕ) (o : Option Call) (past : List Entry) → RightPage s i o past → RightPageAdds s o (page_adds i fo n o (states past)) past → FramesFree (page_adds i fo n o (states past)) (flat past)
page_frames s i fo n None past page h = absurd page
page_frames s i fo n (Some x) past page h = page_frames_by s.frames i x (plan_of s x past) (page_adds i fo n (Some x) (states past)) (flat past) page h

-- what is cached after a run was cached before, or is of the run
pub run_from : (n K j F i s r : ℕ) (fo : Folio) (ts : List Triple) → cached K j (with_run n F i s r ts) ≡ Some fo → (cached K j ts ≡ Some fo) ⊎ ((s ≤ fo.serial) × (fo.serial < s + n))
run_from zero K j F i s r fo ts h = inl h
run_from (suc k) K j F i s r fo ts h =
    elim (cond_is (eqb F K && eqb (i + k) j) (Some (record { serial = s + k; frame = r + k })) (cached K j (with_run k F i s r ts)) (Some fo) h) [
      | inl y ↦ inr (new_serial s k fo (ap (λ (q : Folio). q.serial) (some_same (record { serial = s + k; frame = r + k }) fo y.1)))
      | inr y ↦ elim (run_from k K j F i s r fo ts y.1) [ inl z ↦ inl z | inr z ↦ inr (z.0, wider fo.serial s k z.1) ]
    ]
  where
    wider : (x s k : ℕ) → x < s + k → x < s + suc k
    wider x s k h = omega arith

    new_serial : (s k : ℕ) (fo : Folio) → s + k ≡ fo.serial → (s ≤ fo.serial) × (fo.serial < s + suc k)
    new_serial s k fo f = (omega arith, omega arith)

run_true : (a n s : ℕ) → a ≤ s → s < a + n → (leb a s && ltb s (a + n)) ≡ true
run_true a n s h k = grind (arith, nat_tests)

cond_true_or : (t x : Bool) → x ≡ true → cond t true x ≡ true
cond_true_or true x e = refl
cond_true_or false x e = e

pub live_more : (o : Option Addition) (s : ℕ) (f : Flat) → is_live s f.folios ≡ true → is_live s (add o f).folios ≡ true
live_more None s f e = e
live_more (Some d) s f e = live_with d.pages d.serial d.frame s f.folios ∙ cond_true_or (leb d.serial s && ltb s (d.serial + d.pages)) (is_live s f.folios) e

add_live : (o : Option Addition) (s : ℕ) (f : Flat) → ((x : ℕ) → IsCached x f → is_live x f.folios ≡ true) → IsCached s (add o f) → is_live s (add o f).folios ≡ true
add_live None s f old c = old s c
add_live (Some d) s f old c =
    elim (run_from d.pages c.0 c.1 d.file d.index d.serial d.frame c.2 f.cache c.3) [
      | inl y ↦ live_more (Some d) s f (old s (c.0, c.1, c.2, y, c.4))
      | inr y ↦
          let z : in_run_of d s ≡ true = run_true d.serial d.pages s (subst (λ (x : ℕ). d.serial ≤ x) c.4 y.0) (subst (λ (x : ℕ). x < d.serial + d.pages) c.4 y.1) in
          live_with d.pages d.serial d.frame s f.folios ∙ ap (λ (t : Bool). cond t true (is_live s f.folios)) z
    ]
  where
    in_run_of : Addition → ℕ → Bool
    in_run_of d s = leb d.serial s && ltb s (d.serial + d.pages)

add_frames : (o : Option Addition) (f : Flat) → FramesFree o f → ((s t r : ℕ) → frame_of s f.folios ≡ Some r → frame_of t f.folios ≡ Some r → s ≡ t) → (s t r : ℕ) → frame_of s (add o f).folios ≡ Some r → frame_of t (add o f).folios ≡ Some r → s ≡ t
add_frames None f free old s t r a b = old s t r a b
add_frames (Some d) f free old s t r a b =
    elim (frame_with d.pages d.serial d.frame s r f.folios a) [
      | inl x ↦ elim (frame_with d.pages d.serial d.frame t r f.folios b) [
        | inl y ↦ old s t r x y
        | inr y ↦ absurd (free_none s (d.frame + y.0) f.folios (free y.0 y.1) (x ∙ ap (λ (q : ℕ). Some q) (sym y.3)))
      ]
      | inr x ↦ elim (frame_with d.pages d.serial d.frame t r f.folios b) [
        | inl y ↦ absurd (free_none t (d.frame + x.0) f.folios (free x.0 x.1) (y ∙ ap (λ (q : ℕ). Some q) (sym x.3)))
        | inr y ↦ same_run d.serial d.frame s t r x.0 y.0 x.2 x.3 y.2 y.3
      ]
    ]
  where
    same_run : (a b s t r j k : ℕ) → a + j ≡ s → b + j ≡ r → a + k ≡ t → b + k ≡ r → s ≡ t
    same_run a b s t r j k p q u v = omega arith

-- what a cut or a shut leaves was there
cut_left : (t u : Bool) (K i F lo hi : ℕ) (x : Triple) (ts : List Triple) (fo : Folio) → is_cut F lo hi x ≡ t → is_triple K i x ≡ u → (cached K i (without F lo hi ts) ≡ Some fo → cached K i ts ≡ Some fo) → ((is_cut F lo hi x ≡ true) → (is_triple K i x ≡ true) → cached K i (without F lo hi ts) ≡ Some fo → ⊥) → cached K i (cond t (without F lo hi ts) (x ∷ without F lo hi ts)) ≡ Some fo → cond u (Some x.folio) (cached K i ts) ≡ Some fo
cut_left true true K i F lo hi x ts fo a b ih never h = absurd (never a b h)
cut_left true false K i F lo hi x ts fo a b ih never h = ih h
cut_left false true K i F lo hi x ts fo a b ih never h = subst (λ (z : Bool). cond z (Some x.folio) (cached K i (without F lo hi ts)) ≡ Some fo) b h
cut_left false false K i F lo hi x ts fo a b ih never h = ih (subst (λ (z : Bool). cond z (Some x.folio) (cached K i (without F lo hi ts)) ≡ Some fo) b h)

cut_same : (K i F lo hi file index : ℕ) → (eqb file F && (leb lo index && ltb index hi)) ≡ true → (eqb file K && eqb index i) ≡ true → (eqb K F && (leb lo i && ltb i hi)) ≡ true
cut_same K i F lo hi file index a b = grind (arith, nat_tests)

cut_none : (K i F lo hi : ℕ) (ts : List Triple) (fo : Folio) → (eqb K F && (leb lo i && ltb i hi)) ≡ true → cached K i (without F lo hi ts) ≡ Some fo → ⊥
cut_none K i F lo hi [] fo c h = none_is fo h
cut_none K i F lo hi (x ∷ ts) fo c h = go (is_cut F lo hi x) (is_triple K i x) refl refl h (cut_none K i F lo hi ts fo c)
  where
    kept : (K i F lo hi file index : ℕ) → (eqb K F && (leb lo i && ltb i hi)) ≡ true → (eqb file F && (leb lo index && ltb index hi)) ≡ false → (eqb file K && eqb index i) ≡ true → ⊥
    kept K i F lo hi file index c a b = grind (arith, nat_tests)

    go : (t u : Bool) → is_cut F lo hi x ≡ t → is_triple K i x ≡ u → cached K i (cond t (without F lo hi ts) (x ∷ without F lo hi ts)) ≡ Some fo → (cached K i (without F lo hi ts) ≡ Some fo → ⊥) → ⊥
    go true u a b h ih = ih h
    go false true a b h ih = kept K i F lo hi x.file x.index c a b
    go false false a b h ih = ih (subst (λ (z : Bool). cond z (Some x.folio) (cached K i (without F lo hi ts)) ≡ Some fo) b h)

pub cached_cut : (K i F lo hi : ℕ) (ts : List Triple) (fo : Folio) → cached K i (without F lo hi ts) ≡ Some fo → cached K i ts ≡ Some fo
cached_cut K i F lo hi [] fo h = h
cached_cut K i F lo hi (x ∷ ts) fo h =
    cut_left (is_cut F lo hi x) (is_triple K i x) K i F lo hi x ts fo refl refl (cached_cut K i F lo hi ts fo) (λ a b. cut_none K i F lo hi ts fo (cut_same K i F lo hi x.file x.index a b)) h

pub shut_none : (K i F : ℕ) (ts : List Triple) (fo : Folio) → eqb K F ≡ true → cached K i (without_file F ts) ≡ Some fo → ⊥
shut_none K i F [] fo c h = none_is fo h
shut_none K i F (x ∷ ts) fo c h = go (eqb x.file F) (is_triple K i x) refl refl h (shut_none K i F ts fo c)
  where
    kept : (K i F file index : ℕ) → eqb K F ≡ true → eqb file F ≡ false → (eqb file K && eqb index i) ≡ true → ⊥
    kept K i F file index c a b = grind (arith, nat_tests)

    go : (t u : Bool) → eqb x.file F ≡ t → is_triple K i x ≡ u → cached K i (cond t (without_file F ts) (x ∷ without_file F ts)) ≡ Some fo → (cached K i (without_file F ts) ≡ Some fo → ⊥) → ⊥
    go true u a b h ih = ih h
    go false true a b h ih = kept K i F x.file x.index c a b
    go false false a b h ih = ih (subst (λ (z : Bool). cond z (Some x.folio) (cached K i (without_file F ts)) ≡ Some fo) b h)

pub cached_shut : (K i F : ℕ) (ts : List Triple) (fo : Folio) → cached K i (without_file F ts) ≡ Some fo → cached K i ts ≡ Some fo
cached_shut K i F [] fo h = h
cached_shut K i F (x ∷ ts) fo h = go (eqb x.file F) (is_triple K i x) refl refl h (cached_shut K i F ts fo)
  where
    same : (K i F file index : ℕ) → eqb file F ≡ true → (eqb file K && eqb index i) ≡ true → eqb K F ≡ true
    same K i F file index a b = grind (arith, nat_tests)

    go : (t u : Bool) → eqb x.file F ≡ t → is_triple K i x ≡ u → cached K i (cond t (without_file F ts) (x ∷ without_file F ts)) ≡ Some fo → (cached K i (without_file F ts) ≡ Some fo → cached K i ts ≡ Some fo) → cond u (Some x.folio) (cached K i ts) ≡ Some fo
    go true true a b h ih = absurd (shut_none K i F ts fo (same K i F x.file x.index a b) h)
    go true false a b h ih = ih h
    go false true a b h ih = subst (λ (z : Bool). cond z (Some x.folio) (cached K i (without_file F ts)) ≡ Some fo) b h
    go false false a b h ih = ih (subst (λ (z : Bool). cond z (Some x.folio) (cached K i (without_file F ts)) ≡ Some fo) b h)

-- an effect adds no folio to a cache, and changes no folio
abbrev pub Keeps : Flat → Flat → Type 0
Keeps f g = (g.folios ≡ f.folios) × ((s : ℕ) → IsCached s g → IsCached s f)

pub effect_keeps : (e : Effect) (f : Flat) → Keeps f (apply e f)
effect_keeps (Cut F lo hi) f = (refl, λ s c. (c.0, c.1, c.2, cached_cut c.0 c.1 F lo hi f.cache c.2 c.3, c.4))
effect_keeps (Shut F) f = cond_P (Keeps f) (was_made F f.files) (record f { slots = shut_slots F f.slots; files = shut_files F f.files; cache = without_file F f.cache }) f (refl, λ s c. (c.0, c.1, c.2, cached_shut c.0 c.1 F f.cache c.2 c.3, c.4)) (refl, λ s c. c)
effect_keeps (Slot id base pages user flags file index) f =
    let r : SlotView = record { id = id; base = base; pages = pages; user = user; flags = flags; file = file; index = index; invalid = false } in
    cond_P (Keeps f) (slot_fits r) (record f { slots = r ∷ f.slots }) f (refl, λ s c. c) (refl, λ s c. c)
effect_keeps (Mark id) f = (refl, λ s c. c)
effect_keeps (NoSlot id) f = (refl, λ s c. c)
effect_keeps (Move id base) f = (refl, λ s c. c)
effect_keeps (Attr span kind) f = (refl, λ s c. c)
effect_keeps (File file pages block) f = (refl, λ s c. c)
effect_keeps (Word page word value) f = (refl, λ s c. c)

-- holds: what is held after an entry was held before, but for a Get
abbrev pub HeldBy : What → Actor → ℕ → ℕ → List Entry → Type 0
HeldBy (Get b n) (Vcpu u) s v past = (u ≡ v) × IsOfFolio s b
HeldBy _ a s v past = ⊥

cond_hold : (s : ℕ) (t : Bool) (x y : Fault) → (FaultHolds s x → FaultHolds s y) → FaultHolds s (cond t x y) → FaultHolds s y
cond_hold s true x y f h = f h
cond_hold s false x y f h = h

sample_hold : (s at : ℕ) (x : Fault) → FaultHolds s (with_sample at x) → FaultHolds s x
sample_hold s at NoFault h = h
sample_hold s at (Faulting a m k l None) h = h
sample_hold s at (Faulting a m k l (Some q)) h = h

look_hold : (s : ℕ) (l : Seen) (x : Fault) → FaultHolds s (with_look l x) → FaultHolds s x
look_hold s l NoFault h = h
look_hold s l (Faulting a m k j None) h = h
look_hold s l (Faulting a m k j (Some q)) h = h

get_hold : (s : ℕ) (q : Gotten) (u v : ℕ) (x : Fault) (t : Bool) → eqb u v ≡ t → FaultHolds s (cond t (with_get q x) x) → FaultHolds s x ⊎ ((u ≡ v) × IsOfFolio s q.backing)
get_hold s q u v NoFault true e h = absurd h
get_hold s q u v (Faulting a m k l g) true e h = inr (eqb-true u v e, h)
get_hold s q u v x false e h = inl h

pub held_before : (t : ℕ) (w : What) (a : Actor) (past : List Entry) (s v : ℕ) → FaultHolds s (fault v (by t a w ∷ past)) → FaultHolds s (fault v past) ⊎ HeldBy w a s v past
held_before t (Miss access) a past s v h = inl (cond_hold s (is_vcpu v a) (Faulting access (suc (length past)) None None None) (fault v past) (λ x. absurd x) h)
held_before t (Sample at) a past s v h = inl (cond_hold s (is_vcpu v a) (with_sample at (fault v past)) (fault v past) (sample_hold s at (fault v past)) h)
held_before t (Look at slot attr file) a past s v h = inl (cond_hold s (is_vcpu v a) (with_look (record { place = length past; at = at; slot = slot; attr = attr; file = file }) (fault v past)) (fault v past) (look_hold s (record { place = length past; at = at; slot = slot; attr = attr; file = file }) (fault v past)) h)
held_before t (Get b n) (Vcpu u) past s v h = get_hold s (record { after = suc (length past); backing = b }) u v (fault v past) (eqb u v) refl h
held_before t (Get b n) (Caller c) past s v h = inl h
held_before t (Install page level) a past s v h = inl (cond_hold s (is_vcpu v a) NoFault (fault v past) (λ x. absurd x) h)
held_before t Retry a past s v h = inl (cond_hold s (is_vcpu v a) NoFault (fault v past) (λ x. absurd x) h)
held_before t (Left why) a past s v h = inl (cond_hold s (is_vcpu v a) NoFault (fault v past) (λ x. absurd x) h)
held_before t w a past s v h = inl h

-- what a Get holds is cached
has_cached : (s : ℕ) (b : Backing) (F I : Option ℕ) (f : Flat) → FileHas b F I f → IsOfFolio s b → IsCached s f
has_cached s (InFolio fo) (Some F) (Some i) f h e = (F, i, fo, h, e)
has_cached s (InFolio fo) (Some F) None f h e = absurd h
has_cached s (InFolio fo) None I f h e = absurd h
has_cached s (User u) F I f h e = absurd e

user_holds : (s : ℕ) (b : Backing) (n page : ℕ) (o : Option SlotView) → UserGet b n page o → IsOfFolio s b → ⊥
user_holds s b n page None g e = g
user_holds s b n page (Some r) g e = subst (λ (x : Backing). IsOfFolio s x) g.0 e

route_cached : (r : Route) (b : Backing) (n s frames : ℕ) (a : Aim) (l : Seen) (past : List Entry) → GetBy r b n a l past → (0 < n → GetAdds frames (index_in a.page (looked_slot l past)) (get_addition b n l.file (index_in a.page (looked_slot l past)) (flat past).files) (flat past)) → IsOfFolio s b → IsCached s (add (get_addition b n l.file (index_in a.page (looked_slot l past)) (flat past).files) (flat past))
route_cached ToUser b n s frames a l past g h e = absurd (user_holds s b n a.page (looked_slot l past) g e)
route_cached ToFile b n s frames a l past g h e = has_cached s b l.file (index_in a.page (looked_slot l past)) (add (get_addition b n l.file (index_in a.page (looked_slot l past)) (flat past).files) (flat past)) (file_get b n frames l.file (index_in a.page (looked_slot l past)) (flat past) g h).1 e
route_cached ToAgain b n s frames a l past g h e = absurd g
route_cached ToFault b n s frames a l past g h e = absurd g
route_cached ToMmio b n s frames a l past g h e = absurd g

get_cached : (b : Backing) (n s frames : ℕ) (x : Fault) (past : List Entry) → IsLooked x → RightGet b n past x → RightGetAdds frames n x (get_adds b n x (states past)) past → IsOfFolio s b → IsCached s (add (get_adds b n x (states past)) (flat past))
get_cached b n s frames (Faulting a m (Some k) (Some l) None) past i g h e = route_cached (route_seen a l past) b n s frames a l past g h e
get_cached b n s frames (Faulting a m (Some k) (Some l) (Some q)) past i g h e = absurd i
get_cached b n s frames (Faulting a m (Some k) None q) past i g h e = absurd i
get_cached b n s frames (Faulting a m None l q) past i g h e = absurd i
get_cached b n s frames NoFault past i g h e = absurd i

-- a folio that is freed is neither cached nor held
free_ok : (t : ℕ) (a : Actor) (fo : Folio) (n : ℕ) (past : List Entry) → LivesOk past → FreeIsRight fo n past → LivesOk (by t a (Free fo n) ∷ past)
free_ok t a fo n past l m =
    record {
      cached_live = λ s c. live_stays n fo.serial s (flat past).folios (λ k h e. m.not_cached k h (subst (λ (x : ℕ). IsCached x (flat past)) (sym e) c)) (l.cached_live s c);
      held_live = λ s h. live_stays n fo.serial s (flat past).folios (λ k q e. m.not_held k q (subst (λ (x : ℕ). IsHeld x past) (sym e) h)) (l.held_live s h);
      frames_differ = λ s u r p q. l.frames_differ s u r (frame_free n fo.serial s r (flat past).folios p) (frame_free n fo.serial u r (flat past).folios q);
    }

change_ok : (e : Effect) (t : ℕ) (a : Actor) (past : List Entry) → LivesOk past → LivesOk (by t a (Change e) ∷ past)
change_ok e t a past l =
    let k = effect_keeps e (flat past) in
    record {
      cached_live = λ s c. ap (is_live s) k.0 ∙ l.cached_live s (k.1 s c);
      held_live = λ s h. ap (is_live s) k.0 ∙ l.held_live s h;
      frames_differ = λ s u r p q. l.frames_differ s u r (sym (ap (frame_of s) k.0) ∙ p) (sym (ap (frame_of u) k.0) ∙ q);
    }

same_ok : (t : ℕ) (w : What) (a : Actor) (past : List Entry) → flat (by t a w ∷ past) ≡ flat past → ((s v : ℕ) → HeldBy w a s v past → ⊥) → LivesOk past → LivesOk (by t a w ∷ past)
same_ok t w a past e none l =
    record {
      cached_live = λ s c. ap (λ (f : Flat). is_live s f.folios) e ∙ l.cached_live s (subst (IsCached s) e c);
      held_live = λ s h. ap (λ (f : Flat). is_live s f.folios) e ∙ elim (held_before t w a past s h.0 h.1) [
        | inl y ↦ l.held_live s (h.0, y)
        | inr y ↦ absurd (none s h.0 y)
      ];
      frames_differ = λ s u r p q. l.frames_differ s u r (sym (ap (λ (f : Flat). frame_of s f.folios) e) ∙ p) (sym (ap (λ (f : Flat). frame_of u f.folios) e) ∙ q);
    }

pub lives_keep : (o : Orders) (t : ℕ) (w : What) (a : Actor) (past : List Entry) → LivesOk past → May o w a past → LivesOk (by t a w ∷ past)
lives_keep o t (Get b n) (Vcpu u) past l m =
    let d : Option Addition = adds (Get b n) (Vcpu u) past (states past) in
    let c : (s : ℕ) → IsCached s (add d (flat past)) → is_live s (add d (flat past)).folios ≡ true = λ s x. add_live d s (flat past) l.cached_live x in
    record {
      cached_live = c;
      held_live = λ s h. elim (held_before t (Get b n) (Vcpu u) past s h.0 h.1) [
        | inl y ↦ live_more d s (flat past) (l.held_live s (h.0, y))
        | inr y ↦ c s (get_cached b n s o.setup.frames (fault u past) past m.0 m.1 m.2 y.1)
      ];
      frames_differ = add_frames d (flat past) (get_frames b n o.setup.frames (fault u past) past m.0 m.2) l.frames_differ;
    }
lives_keep o t (Get b n) (Caller c) past l m = absurd m
lives_keep o t (Page i fo n) (Caller c) past l m =
    let d : Option Addition = adds (Page i fo n) (Caller c) past (states past) in
    record {
      cached_live = λ s x. add_live d s (flat past) l.cached_live x;
      held_live = λ s h. live_more d s (flat past) (l.held_live s h);
      frames_differ = add_frames d (flat past) (page_frames o.setup i fo n (call c past) past m.1 m.2) l.frames_differ;
    }
lives_keep o t (Page i fo n) (Vcpu v) past l m = absurd m
lives_keep o t (Change e) a past l m = change_ok e t a past l
lives_keep o t (Free fo n) (Vcpu v) past l m = free_ok t (Vcpu v) fo n past l m
lives_keep o t (Free fo n) (Caller c) past l m = free_ok t (Caller c) fo n past l m
lives_keep o t w a past l m = same_ok t w a past refl (λ s v h. h) l

empty_lives : LivesOk []
empty_lives =
    record {
      cached_live = λ s c. absurd (none_is c.2 c.3);
      held_live = λ s h. absurd h.1;
      frames_differ = λ s t r e f. absurd (none_is r e);
    }

pub lives : (o : Orders) (past : List Entry) → Follows o past → LivesOk past
lives o [] r = empty_lives
lives o (e ∷ past) r = lives_keep o e.turn e.what e.actor past (lives o past r.1) r.0.may
