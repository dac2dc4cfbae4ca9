-- A folio that is cached has the frame that it was added with.
use Rattle.std.proofs.Common.{◌&&◌, ◌+◌, ◌<◌, Bool, List, None, Option, Some, [], ap, arith, cond, eqb, false, inl, inr, ne_eqb, refl, subst, suc, sym, true, zero, ℕ, ◌∙◌, ◌∷◌, ◌≡◌, ◌⊎◌}
use Rattle.std.proofs.lemmas.Bool.Decides.{nat_tests}
use Rattle.gm_base.specs.Aim.{Aim}
use Rattle.gm_base.specs.Scripts.{Orders}
use Rattle.gm_base.specs.declared.values.Actor.{Actor}
use Rattle.gm_base.specs.declared.values.Actor.TheVariants.{Caller, Vcpu}
use Rattle.gm_base.specs.declared.values.Folio.{Folio}
use Rattle.gm_flat.specs.Attribute.{attr_of}
use Rattle.gm_flat.specs.Effects.{Addition, add, apply, are_added, free_each, free_one, free_run, shut_files, shut_slots, slot_fits, with_folios, with_run, without_file}
use Rattle.gm_flat.specs.FlatState.{Flat, FolioState, Triple, cached, is_live, was_made}
use Rattle.gm_flat.specs.NamedPage.{Named, named_aside}
use Rattle.gm_flat.specs.Replay.{adds, flat, states}
use Rattle.gm_flat.specs.RightHistory.{Each, Right}
use Rattle.gm_flat.specs.RightLives.{FreeIsRight, IsCached, frame_of}
use Rattle.gm_flat.specs.RightTouch.{CanUse}
use Rattle.gm_flat.specs.declared.effect.Backing.{Backing}
use Rattle.gm_flat.specs.declared.effect.Backing.TheVariants.{Folio as InFolio, User}
use Rattle.gm_flat.specs.declared.effect.Effect.{Effect}
use Rattle.gm_flat.specs.declared.effect.Effect.TheVariants.{Attr, Cut, File, Mark, Move, NoSlot, Shut, Slot, Word}
use Rattle.gm_flat.specs.declared.entry.Entry.{Entry}
use Rattle.gm_flat.specs.declared.entry.What.{What}
use Rattle.gm_flat.specs.declared.entry.What.TheVariants.{Change, Free, Get, Page, Touch}
use Rattle.gm_flat.specs.declared.views.SlotView.{SlotView}
use Rattle.gm_laws.proofs.Contents.{AddsNext, IsCounted, adds_next, counted}
use Rattle.gm_laws.proofs.Fates.{named_folio}
use Rattle.gm_laws.proofs.Flats.{cond_P, over}
use Rattle.gm_laws.proofs.Folios.{LivesOk, cached_cut, cached_shut, effect_keeps, lives}
use Rattle.gm_laws.proofs.Kit.{by, cond_is, none_is, some_same}
use Rattle.gm_laws.proofs.RightIsRuled.{ruled}
use Rattle.gm_laws.proofs.RuledIsRight.{each}
use Rattle.gm_laws.proofs.Touches.{good, touched}
use Rattle.gm_laws.specs.May.{May}
use Rattle.gm_laws.specs.Ruled.{Follows}
use Rattle.gm_laws.specs.TouchFrames.{HasItsFrame, TouchFrames}

abbrev pub CachedFrames : Flat → Type 0
CachedFrames f = (F i : ℕ) (fo : Folio) → cached F i f.cache ≡ Some fo → frame_of fo.serial f.folios ≡ Some fo.frame

-- the frames of a run, and of the others
frame_old : (n s0 r0 s : ℕ) (xs : List FolioState) → s < s0 → frame_of s (with_folios n s0 r0 xs) ≡ frame_of s xs
frame_old zero s0 r0 s xs h = refl
frame_old (suc k) s0 r0 s xs h = let e : eqb (s0 + k) s ≡ false = other s0 k s h in rw e (frame_old k s0 r0 s xs h)
  where
    other : (s0 k s : ℕ) → s < s0 → eqb (s0 + k) s ≡ false
    other s0 k s h = grind (arith, nat_tests)

frame_run : (n k s0 r0 : ℕ) (xs : List FolioState) → k < n → frame_of (s0 + k) (with_folios n s0 r0 xs) ≡ Some (r0 + k)
frame_run zero k s0 r0 xs h = absurd (omega arith)
frame_run (suc j) k s0 r0 xs h = go (eqb (s0 + j) (s0 + k)) refl (λ lt. frame_run j k s0 r0 xs lt)
  where
    same : (s0 j k : ℕ) → eqb (s0 + j) (s0 + k) ≡ true → j ≡ k
    same s0 j k e = grind (arith, nat_tests)

    less : (s0 j k : ℕ) → eqb (s0 + j) (s0 + k) ≡ false → k < suc j → k < j
    less s0 j k e h = grind (arith, nat_tests)

    go : (t : Bool) → eqb (s0 + j) (s0 + k) ≡ t → (k < j → frame_of (s0 + k) (with_folios j s0 r0 xs) ≡ Some (r0 + k)) → cond t (Some (r0 + j)) (frame_of (s0 + k) (with_folios j s0 r0 xs)) ≡ Some (r0 + k)
    go true e ih = ap (λ (x : ℕ). Some (r0 + x)) (same s0 j k e)
    go false e ih = ih (less s0 j k e h)

run_folio : (n K j F i s r : ℕ) (fo : Folio) (ts : List Triple) → cached K j (with_run n F i s r ts) ≡ Some fo → (cached K j ts ≡ Some fo) ⊎ ((k : ℕ) × (k < n) × (s + k ≡ fo.serial) × (r + k ≡ fo.frame))
run_folio zero K j F i s r fo ts h = inl h
run_folio (suc k) K j F i s r fo ts h =
    elim (cond_is (eqb F K && eqb (i + k) j) (Some (record { serial = s + k; frame = r + k })) (cached K j (with_run k F i s r ts)) (Some fo) h) [
      | inl y ↦
          let e : record { serial = s + k; frame = r + k } ≡ fo = some_same (record { serial = s + k; frame = r + k }) fo y.1 in
          inr (k, own k, ap (λ (q : Folio). q.serial) e, ap (λ (q : Folio). q.frame) e)
      | inr y ↦ elim (run_folio k K j F i s r fo ts y.1) [ inl z ↦ inl z | inr z ↦ inr (z.0, more z.0 k z.1, z.2, z.3) ]
    ]
  where
    own : (k : ℕ) → k < suc k
    own k = omega arith

    more : (a k : ℕ) → a < k → a < suc k
    more a k h = omega arith

add_frames_kept : (o : Option Addition) (f : Flat) → AddsNext o f → IsCounted f → ((s : ℕ) → IsCached s f → is_live s f.folios ≡ true) → CachedFrames f → CachedFrames (add o f)
add_frames_kept None f e c l h = h
add_frames_kept (Some d) f e c l h = λ F i fo q. elim (run_folio d.pages F i d.file d.index d.serial d.frame fo f.cache q) [
  | inl y ↦ frame_old d.pages d.serial d.frame fo.serial f.folios (subst (λ (n : ℕ). fo.serial < n) (sym e) (c fo.serial (l fo.serial (F, i, fo, y, refl)))) ∙ h F i fo y
  | inr y ↦ subst (λ (s : ℕ). frame_of s (with_folios d.pages d.serial d.frame f.folios) ≡ Some fo.frame) y.2 (frame_run d.pages y.0 d.serial d.frame f.folios y.1 ∙ ap (λ (r : ℕ). Some r) y.3)
]

-- what an effect leaves cached was cached
pub effect_cached : (e : Effect) (f : Flat) (K i : ℕ) (fo : Folio) → cached K i (apply e f).cache ≡ Some fo → cached K i f.cache ≡ Some fo
effect_cached (Cut F lo hi) f K i fo = λ h. cached_cut K i F lo hi f.cache fo h
effect_cached (Shut F) f K i fo = cond_P (λ (x : Flat). cached K i x.cache ≡ Some fo → cached K i f.cache ≡ Some fo) (was_made F f.files) (record f { slots = shut_slots F f.slots; files = shut_files F f.files; cache = without_file F f.cache }) f (λ h. cached_shut K i F f.cache fo h) (λ h. h)
effect_cached (Slot id base pages user flags file index) f K i fo =
    let r : SlotView = record { id = id; base = base; pages = pages; user = user; flags = flags; file = file; index = index; invalid = false } in
    cond_P (λ (x : Flat). cached K i x.cache ≡ Some fo → cached K i f.cache ≡ Some fo) (slot_fits r) (record f { slots = r ∷ f.slots }) f (λ h. h) (λ h. h)
effect_cached (Mark id) f K i fo = λ h. h
effect_cached (NoSlot id) f K i fo = λ h. h
effect_cached (Move id base) f K i fo = λ h. h
effect_cached (Attr span kind) f K i fo = λ h. h
effect_cached (File file pages block) f K i fo = λ h. h
effect_cached (Word page word value) f K i fo = λ h. h

-- frees
one_stays : (j s : ℕ) (xs : List FolioState) → eqb j s ≡ false → frame_of s (free_one j xs) ≡ frame_of s xs
one_stays j s [] e = refl
one_stays j s (x ∷ xs) e = go (eqb x.folio.serial j) (eqb x.folio.serial s) refl refl (one_stays j s xs e)
  where
    apart : (x j s : ℕ) → eqb j s ≡ false → eqb x j ≡ true → eqb x s ≡ true → ⊥
    apart x j s e a b = grind (arith, nat_tests)

    go : (t u : Bool) → eqb x.folio.serial j ≡ t → eqb x.folio.serial s ≡ u → frame_of s (free_one j xs) ≡ frame_of s xs → frame_of s (cond t (record x { live = false } ∷ xs) (x ∷ free_one j xs)) ≡ cond u (cond x.live (Some x.folio.frame) None) (frame_of s xs)
    go true true a b ih = absurd (apart x.folio.serial j s e a b)
    go true false a b ih = rw b refl
    go false true a b ih = rw b refl
    go false false a b ih = rw b ih

each_stays : (n j s : ℕ) (xs : List FolioState) → ((k : ℕ) → k < n → j + k ≡ s → ⊥) → frame_of s (free_each n j xs) ≡ frame_of s xs
each_stays zero j s xs off = refl
each_stays (suc k) j s xs off = one_stays (j + k) s (free_each k j xs) (ne_eqb (j + k) s (off k (own k))) ∙ each_stays k j s xs (λ i h. off i (more i k h))
  where
    own : (k : ℕ) → k < suc k
    own k = omega arith

    more : (a k : ℕ) → a < k → a < suc k
    more a k h = omega arith

run_stays : (n j s : ℕ) (xs : List FolioState) → ((k : ℕ) → k < n → j + k ≡ s → ⊥) → frame_of s (free_run n j xs) ≡ frame_of s xs
run_stays n j s xs off = cond_P (λ (ys : List FolioState). frame_of s ys ≡ frame_of s xs) (are_added n j xs) (free_each n j xs) xs (each_stays n j s xs off) refl

free_frames : (t : ℕ) (a : Actor) (fo : Folio) (n : ℕ) (past : List Entry) → FreeIsRight fo n past → CachedFrames (flat past) → CachedFrames (flat (by t a (Free fo n) ∷ past))
free_frames t a fo n past m h F i x q = run_stays n fo.serial x.serial (flat past).folios (λ k lt e. m.not_cached k lt (F, i, x, q, sym e)) ∙ h F i x q

frames_keep : (o : Orders) (t : ℕ) (w : What) (a : Actor) (past : List Entry) → LivesOk past → IsCounted (flat past) → May o w a past → CachedFrames (flat past) → CachedFrames (flat (by t a w ∷ past))
frames_keep o t (Get b n) a past l c m h = add_frames_kept (adds (Get b n) a past (states past)) (flat past) (adds_next o (Get b n) a past m) c l.cached_live h
frames_keep o t (Page i fo n) a past l c m h = add_frames_kept (adds (Page i fo n) a past (states past)) (flat past) (adds_next o (Page i fo n) a past m) c l.cached_live h
frames_keep o t (Change e) a past l c m h = λ F i fo q. ap (frame_of fo.serial) (effect_keeps e (flat past)).0 ∙ h F i fo (effect_cached e (flat past) F i fo q)
frames_keep o t (Free fo n) (Vcpu v) past l c m h = free_frames t (Vcpu v) fo n past m h
frames_keep o t (Free fo n) (Caller d) past l c m h = free_frames t (Caller d) fo n past m h
frames_keep o t w a past l c m h = h

pub cached_frames : (o : Orders) (past : List Entry) → Follows o past → CachedFrames (flat past)
cached_frames o [] r = λ F i fo e. absurd (none_is fo e)
cached_frames o (e ∷ past) r = frames_keep o e.turn e.what e.actor past (lives o past r.1) (counted o past r.1) r.0.may (cached_frames o past r.1)

-- so a touch names its folio's frame
use_frame : (fo : Folio) (a : Aim) (f : Flat) (g : ℕ) (o : Option Named) → CachedFrames f → named_aside f g ≡ o → CanUse a (InFolio fo) o → frame_of fo.serial f.folios ≡ Some fo.frame
use_frame fo a f g None h e u = absurd u
use_frame fo a f g (Some m) h e u = let x = named_folio f g fo (attr_of g f.attrs) (over g f.slots) m e u.1 in h x.0 x.1 fo x.2

touch_frame_by : (b : Backing) (a : Aim) (f : Flat) (g : ℕ) → CachedFrames f → CanUse a b (named_aside f g) → HasItsFrame b f
touch_frame_by (User u) a f g h c = tt
touch_frame_by (InFolio fo) a f g h c = use_frame fo a f g (named_aside f g) h refl c

touch_frame : (o : Orders) (w : What) (a : Actor) (past : List Entry) → Follows o past → May o w a past → TouchFrames w a past
touch_frame o (Touch a b level value fill) (Vcpu u) past r m = touch_frame_by b a (flat past) a.page (cached_frames o past r) (touched o u fill value a b level past (good o past r) m).now_named
touch_frame o (Touch a b level value fill) (Caller c) past r m = absurd m
touch_frame o w a past r m = tt

pub right_frames : (o : Orders) (past : List Entry) → Right o past → Each (λ e p. TouchFrames e.what e.actor p) past
right_frames o past r = each o (λ e p. TouchFrames e.what e.actor p) (λ e p x f. touch_frame o e.what e.actor p f x.may) past (ruled o past r).follows
