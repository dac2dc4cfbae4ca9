-- The invariant holds of each ruled history; so its touches, installs and retries are right.
use Rattle.std.proofs.Common.{Bool, List, None, Option, Some, [], ap, arith, cond, eqb, false, inl, inr, length, max, refl, subst, suc, sym, true, zero, ℕ, ◌∙◌, ◌∷◌, ◌≡◌, ◌≤◌}
use Rattle.std.proofs.lemmas.Bool.{both_ways}
use Rattle.std.proofs.lemmas.Bool.Decides.{nat_tests}
use Rattle.gm_base.specs.Aim.{Aim}
use Rattle.gm_base.specs.Scripts.{IsOf, Orders}
use Rattle.gm_base.specs.declared.values.Actor.{Actor}
use Rattle.gm_base.specs.declared.values.Actor.TheVariants.{Caller, Vcpu}
use Rattle.gm_base.specs.declared.values.Kind.{Kind}
use Rattle.gm_base.specs.declared.values.Level.{Level}
use Rattle.gm_base.specs.declared.values.Setup.{Setup}
use Rattle.gm_flat.specs.FlatState.{Flat, in_use}
use Rattle.gm_flat.specs.Histories.{Fault, Faulting, NoFault, Seen, bracket, call, fault, is_vcpu}
use Rattle.gm_flat.specs.Invalidation.{stale}
use Rattle.gm_flat.specs.Mappings.{Mapping, fills, first_serving, flushed, flushed_step, inside, leaves}
use Rattle.gm_flat.specs.NamedPage.{Named, named, named_aside}
use Rattle.gm_flat.specs.Replay.{flat, flat_at, looked_slot}
use Rattle.gm_flat.specs.RightInstall.{IsShut, Retries, RightInstall}
use Rattle.gm_flat.specs.RightLook.{ToFile, file_of, route_seen}
use Rattle.gm_flat.specs.RightTouch.{CanUse, IsServed, RightTouch, TouchIsRight}
use Rattle.gm_flat.specs.Window.{changed, settled}
use Rattle.gm_flat.specs.declared.effect.Backing.{Backing}
use Rattle.gm_flat.specs.declared.entry.Entry.{Entry}
use Rattle.gm_flat.specs.declared.entry.What.{What}
use Rattle.gm_flat.specs.declared.entry.What.TheVariants.{Acked, Begin, Change, End, Enter, Flush, Get, Gone, Install, Miss, Retry, Touch}
use Rattle.gm_flat.specs.declared.views.SlotView.{SlotView}
use Rattle.gm_laws.proofs.Flats.{named_is_aside, of_file, over}
use Rattle.gm_laws.proofs.Good.{FaultOk, Good, KindIs, LookOk, LooksSince, fill_at_more, from_more, looks_more, since_more}
use Rattle.gm_laws.proofs.Grow.{grow, grow_aside, looked_over, same_look, stale_since}
use Rattle.gm_laws.proofs.Ids.{MemSlot, over_mem}
use Rattle.gm_laws.proofs.Keep.{faults_keep, keep_enter, keep_flush, keep_gone, keep_miss}
use Rattle.gm_laws.proofs.KeepCaller.{keep_acked, keep_begin, keep_change, keep_end}
use Rattle.gm_laws.proofs.KeepVcpu.{IsFirst, install_right, installed, is_first, keep_install, keep_touch, serves_use, walked}
use Rattle.gm_laws.proofs.Kit.{by, changed-le, flat_at_all, none_is, settled-le, some_same}
use Rattle.gm_laws.proofs.Locks.{Locks, SlotFiles}
use Rattle.gm_laws.proofs.LocksKeep.{can_change, locks_keep}
use Rattle.gm_laws.proofs.Routes.{route_file}
use Rattle.gm_laws.proofs.SafeChange.{safe, safe_all}
use Rattle.gm_laws.proofs.Tally.{tally}
use Rattle.gm_laws.specs.May.{May, MayRetry, MayTouch, ServedBy}
use Rattle.gm_laws.specs.Ruled.{Follows}

flushed_step-le : (v : ℕ) (w : What) (a : Actor) (n x : ℕ) → x ≤ n → flushed_step v w a n x ≤ suc n
flushed_step-le v Flush a n x h = flush_le (is_vcpu v a) n x h
  where
    flush_le : (t : Bool) (n x : ℕ) → x ≤ n → cond t (suc n) x ≤ suc n
    flush_le t n x h = grind arith
flushed_step-le v _ a n x h = omega arith

pub flushed-le : (past : List Entry) (v : ℕ) → flushed v past ≤ length past
flushed-le [] v = omega arith
flushed-le (e ∷ past) v = flushed_step-le v e.what e.actor (length past) (flushed v past) (flushed-le past v)

-- what a leaf or a fill gave is named still, where names only grow
grown : (k : Kind) (N : Flat → ℕ → Option Named) (f g : Flat) (h : ℕ) (o : Option Named) → ((m : Named) → N f h ≡ Some m → N g h ≡ Some m) → KindIs k o → N f h ≡ o → N g h ≡ o
grown k N f g h None stay kind e = absurd kind
grown k N f g h (Some m) stay kind e = stay m e

pub keep : (o : Orders) (t : ℕ) (w : What) (a : Actor) (past : List Entry) → IsOf o.setup a → Locks o.setup past → Good o.setup.callers past → May o w a past → Good o.setup.callers (by t a w ∷ past)
keep o t Enter (Vcpu u) past lt k g m = keep_enter o t u past k.ids g m
keep o t Flush (Vcpu u) past lt k g m = keep_flush o t u past k.ids g m
keep o t (Miss access) (Vcpu u) past lt k g m = keep_miss o t u access past k.ids g m
keep o t Gone (Vcpu u) past lt k g m = keep_gone o t u past k.ids g m
keep o t (Install page level) (Vcpu u) past lt k g m = keep_install o t u page level past k.ids g m
keep o t (Touch a b level value fill) (Vcpu u) past lt k g m = keep_touch o t u fill a b level value past (flushed-le past) k.ids g m
keep o t (Begin spans) (Caller d) past lt k g m = keep_begin o t d spans past lt k.ids g m
keep o t Acked (Caller d) past lt k g m = keep_acked o t d past k.ids g m
keep o t (Change effect) (Caller d) past lt k g m = keep_change o t d effect past k.ids g m (safe o.setup effect d past (call d past) (bracket d past) k refl refl (can_change o.setup effect past (call d past) (bracket d past) m)) (safe_all o.setup effect d past (call d past) (bracket d past) k refl refl (can_change o.setup effect past (call d past) (bracket d past) m))
keep o t End (Caller d) past lt k g m = keep_end o t d past lt k.ids g m
keep o t Enter (Caller d) past lt k g m = absurd m
keep o t Flush (Caller d) past lt k g m = absurd m
keep o t (Miss access) (Caller d) past lt k g m = absurd m
keep o t (Install page level) (Caller d) past lt k g m = absurd m
keep o t (Touch a b level value fill) (Caller d) past lt k g m = absurd m
keep o t (Begin spans) (Vcpu u) past lt k g m = absurd m
keep o t Acked (Vcpu u) past lt k g m = absurd m
keep o t (Change effect) (Vcpu u) past lt k g m = absurd m
keep o t End (Vcpu u) past lt k g m = absurd m
keep o t w a past lt k g m =
    record {
      count_is = g.count_is;
      hull_none = g.hull_none;
      from_lt = from_more o.setup.callers past g.from_lt;
      asked = g.asked;
      in_hull_of = g.in_hull_of;
      no_leaf = g.no_leaf;
      old_fill = g.old_fill;
      is_flushed = g.is_flushed;
      fill_in = λ v f i. ((g.fill_in v f i).0, fill_at_more (by t a w) past f (g.fill_in v f i).1);
      leaf_names = λ l h i q. (grown l.kind named (flat past) (flat (by t a w ∷ past)) h (l.gives h) (grow o t w a past refl m h) (g.leaf_names l h i q).1 (g.leaf_names l h i q).0, (g.leaf_names l h i q).1);
      fill_names = λ v h f i q. elim (g.fill_names v h f i q) [
        | inl y ↦ inl (grown f.kind named_aside (flat past) (flat (by t a w ∷ past)) h (f.gives h) (grow_aside o t w a past refl m h) ((g.fill_in v f i).1.2 h q) y.0, y.1)
        | inr y ↦ inr y
      ];
      since = since_more (by t a w) past (grow o t w a past refl m) g.since;
      looks = looks_more (by t a w) past (same_look t w a past refl) g.looks;
      faults = faults_keep o t w a past k.ids g m;
    }

tally_none : (n : ℕ) → tally n (λ c. None) ≡ 0
tally_none zero = refl
tally_none (suc k) = let e : tally k (λ c. None) ≡ 0 = tally_none k in omega arith

empty_good : (n : ℕ) → Good n []
empty_good n =
    record {
      count_is = sym (tally_none n);
      hull_none = λ _. refl;
      from_lt = λ c b e. absurd (none_is b e);
      asked = λ c v b e. absurd (none_is b e);
      in_hull_of = λ c g b e k. absurd (none_is b e);
      no_leaf = λ c h b l e i k. absurd i;
      old_fill = λ c v h b f e i k q. absurd i;
      is_flushed = λ c v b e k i. absurd (none_is b e);
      fill_in = λ v f i. absurd i;
      leaf_names = λ l h i k. absurd i;
      fill_names = λ v h f i k. absurd i;
      since = λ p g m le e. inr (inr e);
      looks = λ p g r le e. absurd (none_is r e);
      faults = λ v. tt;
    }

empty_locks : (s : Setup) → Locks s []
empty_locks s =
    record {
      call_lt = λ c x e. absurd (none_is x e);
      apart = λ c d x y lock ne e f h. absurd (none_is x e);
      slots_same = λ c x e m h. absurd (none_is x e);
      bound_same = λ c F x e m h. absurd (none_is x e);
      planned = λ c b e. absurd (none_is b e);
      files_at = λ p r F m y. absurd m;
      at_once = λ c x e h. absurd (none_is x e);
      ids = λ p. tt;
    }

pub locks : (o : Orders) (past : List Entry) → Follows o past → Locks o.setup past
locks o [] r = empty_locks o.setup
locks o (e ∷ past) r = locks_keep o e.turn e.what e.actor past (locks o past r.1) r.0.may

pub good : (o : Orders) (past : List Entry) → Follows o past → Good o.setup.callers past
good o [] r = empty_good o.setup.callers
good o (e ∷ past) r = keep o e.turn e.what e.actor past r.0.actor_is (locks o past r.1) (good o past r.1) r.0.may

-- touches

older : (x y z w : ℕ) → x ≤ y → y ≤ z → w ≡ z → x ≤ w
older x y z w h k e = omega arith

in_window_of : (f s x : ℕ) → f ≤ x → s ≤ x → max f s ≤ x
in_window_of f s x h k = omega arith

-- what a touch by a vCPU inside has is named at its fill's position, and now; and no change on the page is newer
pub record Touched (v : ℕ) (a : Aim) (b : Backing) (level : Level) (fill : ℕ) (past : List Entry) : Type 0 where
  pub served : IsServed level fill (length past) (first_serving a (fills v past)) (first_serving a (leaves past))
  pub flush : flushed v past ≤ fill
  pub change : changed a.page past ≤ fill
  pub then_named : CanUse a b (named (flat_at fill past) a.page)
  pub now_named : CanUse a b (named_aside (flat past) a.page)

served_by : (a : Aim) (b : Backing) (level : Level) (fill n : ℕ) (x p : Option Mapping) → ServedBy a b level fill n x p → IsServed level fill n x p
served_by a b level fill n (Some f) p s = (s.0, s.1)
served_by a b level fill n None (Some l) s = (s.0, s.1)
served_by a b level fill n None None s = s

pub use_aside : (a : Aim) (b : Backing) (f : Flat) (g : ℕ) → CanUse a b (named f g) → CanUse a b (named_aside f g)
use_aside a b f g u = go (named f g) refl u
  where
    go : (o : Option Named) → named f g ≡ o → CanUse a b o → CanUse a b (named_aside f g)
    go None e u = absurd u
    go (Some m) e u = subst (λ (z : Option Named). CanUse a b z) (sym (named_is_aside f g m e)) u

touched_by : (o : Orders) (u fill : ℕ) (a : Aim) (b : Backing) (level : Level) (past : List Entry) (x p : Option Mapping) → first_serving a (fills u past) ≡ x → first_serving a (leaves past) ≡ p → Good o.setup.callers past → inside u past ≡ true → IsFirst a (fills u past) x → IsFirst a (leaves past) p → ServedBy a b level fill (length past) x p → Touched u a b level fill past
touched_by o u fill a b level past (Some f) p ex ep g i h k s =
    let x = serves_use a b f h.1 in
    let at = (g.fill_in u f h.0).1 in
    let given : CanUse a b (f.gives a.page) = x.2 (at.2 a.page x.0) s.2 in
    let now : (named_aside (flat past) a.page ≡ f.gives a.page) × (changed a.page past ≤ f.made) = elim (g.fill_names u a.page f h.0 x.0) [
      | inl y ↦ y
      | inr y ↦ absurd (both_ways (inside u past) y.0 i)
    ] in
    record {
      served = subst (λ (z : Option Mapping). IsServed level fill (length past) z (first_serving a (leaves past))) (sym ex) (s.0, s.1);
      flush = rw s.0 (g.fill_in u f h.0).0;
      change = rw s.0 now.1;
      then_named = subst (λ (y : ℕ). CanUse a b (named (flat_at y past) a.page)) (sym s.0) (subst (λ (y : Option Named). CanUse a b y) (sym (at.1 a.page)) given);
      now_named = subst (λ (y : Option Named). CanUse a b y) (sym now.0) given;
    }
touched_by o u fill a b level past None (Some l) ex ep g i h k s =
    let w = walked o u fill a b level past None (Some l) g h k s s.0 in
    record {
      served = subst (λ (z : Option Mapping). IsServed level fill (length past) z (first_serving a (leaves past))) (sym ex) (subst (λ (z : Option Mapping). IsServed level fill (length past) None z) (sym ep) (s.0, s.1));
      flush = rw s.0 (flushed-le past u);
      change = rw s.0 (changed-le a.page past);
      then_named = subst (λ (y : Flat). CanUse a b (named y a.page)) (sym (ap (λ (y : ℕ). flat_at y past) s.0 ∙ flat_at_all past)) w.5;
      now_named = use_aside a b (flat past) a.page w.5;
    }
touched_by o u fill a b level past None None ex ep g i h k s = absurd s

pub touched : (o : Orders) (u fill value : ℕ) (a : Aim) (b : Backing) (level : Level) (past : List Entry) → Good o.setup.callers past → MayTouch o u a b level value fill past → Touched u a b level fill past
touched o u fill value a b level past g m =
    touched_by o u fill a b level past (first_serving a (fills u past)) (first_serving a (leaves past)) refl refl g m.is_inside (is_first a (fills u past)) (is_first a (leaves past)) m.is_served

pub touch_right : (o : Orders) (u fill value : ℕ) (a : Aim) (b : Backing) (level : Level) (past : List Entry) → Good o.setup.callers past → MayTouch o u a b level value fill past → TouchIsRight u a b level value fill past
touch_right o u fill value a b level past g m =
    let t = touched o u fill value a b level past g m in
    record {
      is_inside = m.is_inside;
      is_served = t.served;
      in_window = in_window_of (flushed u past) (settled a.page past) fill t.flush (older (settled a.page past) (changed a.page past) fill fill (settled-le a.page past) t.change refl);
      is_named = t.then_named;
      right_value = m.right_value;
    }

pub right_touch : (o : Orders) (w : What) (a : Actor) (past : List Entry) → Good o.setup.callers past → May o w a past → RightTouch w a past
right_touch o (Touch a b level value fill) (Vcpu u) past g m = touch_right o u fill value a b level past g m
right_touch o (Touch a b level value fill) (Caller c) past g m = absurd m
right_touch o (Miss a) (Vcpu u) past g m = m.not_served
right_touch o (Miss a) (Caller c) past g m = absurd m
right_touch o w a past g m = tt

-- retries

shut_use : (F : ℕ) (r : SlotView) (f : Flat) → SlotFiles f → MemSlot r f.slots → r.file ≡ Some F → in_use F f.files ≡ false → ⊥
shut_use F r f s m e h = both_ways (in_use F f.files) h (s r F m (ap (of_file F) e ∙ eqb_self F)).0
  where
    eqb_self : (F : ℕ) → eqb F F ≡ true
    eqb_self F = grind (arith, nat_tests)

shut_seen : (F : ℕ) (o : Option ℕ) (f : Flat) → o ≡ Some F → IsShut o f → in_use F f.files ≡ false
shut_seen F None f e h = absurd h
shut_seen F (Some K) f e h = ap (λ (x : ℕ). in_use x f.files) (sym (some_same K F e)) ∙ h

retry_shut : (o : Orders) (past : List Entry) (a : Aim) (s : ℕ) (l : Seen) → Locks o.setup past → LooksSince past → LookOk a s l past → route_seen a l past ≡ ToFile → IsShut l.file (flat past) → stale (Some s) a.page past ≡ true
retry_shut o past a s l k looks ok e h =
    let u = route_file a l.attr (looked_slot l past) e in
    let row : over a.page (flat_at l.at past).slots ≡ Some u.2.0 = sym (looked_over a s l past k.ids ok) ∙ u.2.2 in
    let file : l.file ≡ Some u.2.1 = ok.file_is ∙ (ap file_of row ∙ u.2.3) in
    elim (looks l.at a.page u.2.0 (let x = ok.at_le in let y = ok.place_lt in omega arith) row) [
      | inl x ↦ stale_since s l.at a.page past ok.sampled (inl x)
      | inr y ↦ elim y [
        | inl x ↦ stale_since s l.at a.page past ok.sampled (inr x)
        | inr x ↦ absurd (shut_use u.2.1 u.2.0 (flat past) (subst SlotFiles (flat_at_all past) (k.files_at (length past))) (over_mem a.page u.2.0 (flat past).slots x.0).0 u.2.3 (shut_seen u.2.1 l.file (flat past) file h))
      ]
    ]

retry_right : (o : Orders) (past : List Entry) (x : Fault) → Locks o.setup past → LooksSince past → FaultOk past x → MayRetry past x → Retries past x
retry_right o past (Faulting a m (Some s) (Some l) (Some q)) k looks ok h = h
retry_right o past (Faulting a m (Some s) (Some l) None) k looks ok h = elim h [
  | inl again ↦ inl again
  | inr shut ↦ inr (record { right_route = shut.0; is_shut = shut.1; is_stale = retry_shut o past a s l k looks ok shut.0 shut.1 })
]
retry_right o past (Faulting a m (Some s) None q) k looks ok h = absurd h
retry_right o past (Faulting a m None l q) k looks ok h = absurd h
retry_right o past NoFault k looks ok h = absurd h

pub right_install : (o : Orders) (w : What) (a : Actor) (past : List Entry) → Locks o.setup past → Good o.setup.callers past → May o w a past → RightInstall w a past
right_install o (Get b n) (Vcpu u) past k g m = m.1
right_install o (Get b n) (Caller c) past k g m = absurd m
right_install o (Install page level) (Vcpu u) past k g m = install_right page past (fault u past) (installed page past (fault u past) g.since (g.faults u) m.0)
right_install o (Install page level) (Caller c) past k g m = absurd m
right_install o Retry (Vcpu u) past k g m = retry_right o past (fault u past) k g.looks (g.faults u) m
right_install o Retry (Caller c) past k g m = absurd m
right_install o w a past k g m = tt
