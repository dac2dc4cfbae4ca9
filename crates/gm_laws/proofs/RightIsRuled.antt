-- A right history follows the tables.
use Rattle.std.proofs.Common.{◌+◌, List, None, Option, Some, [], ap, false, inl, inr, length, refl, subst, true, ℕ, ◌∙◌, ◌∷◌, ◌≡◌}
use Rattle.gm_base.specs.Aim.{Aim}
use Rattle.gm_base.specs.Scripts.{Orders}
use Rattle.gm_base.specs.declared.script.Command.TheVariants.{Touch as TouchCommand}
use Rattle.gm_base.specs.declared.values.Actor.{Actor}
use Rattle.gm_base.specs.declared.values.Actor.TheVariants.{Caller, Vcpu}
use Rattle.gm_base.specs.declared.values.Level.{Level}
use Rattle.gm_flat.specs.FlatState.{Flat, is_live}
use Rattle.gm_flat.specs.Histories.{Fault, Faulting, NoFault, fault, same_turn}
use Rattle.gm_flat.specs.Invalidation.{count}
use Rattle.gm_flat.specs.Mappings.{Mapping, fills, first_serving, leaves}
use Rattle.gm_flat.specs.NamedPage.{Named, named}
use Rattle.gm_flat.specs.Replay.{flat, flat_at}
use Rattle.gm_flat.specs.RightCalls.{RightCalls}
use Rattle.gm_flat.specs.RightHistory.{Each, Right}
use Rattle.gm_flat.specs.RightInstall.{Installs, Retries, RightInstall}
use Rattle.gm_flat.specs.RightLevel.{RightLevel}
use Rattle.gm_flat.specs.RightLives.{LivesAtRest, LivesOf, RightLives}
use Rattle.gm_flat.specs.RightLook.{RightLook}
use Rattle.gm_flat.specs.RightOrder.{HasGot, HasLooked, RightOrder, StepIs, next_command}
use Rattle.gm_flat.specs.RightTouch.{CanUse, IsServed, RightTouch, TouchIsRight}
use Rattle.gm_flat.specs.Words.{folio_word}
use Rattle.gm_flat.specs.declared.effect.Backing.{Backing}
use Rattle.gm_flat.specs.declared.entry.Entry.{Entry}
use Rattle.gm_flat.specs.declared.entry.What.{What}
use Rattle.gm_flat.specs.declared.entry.What.TheVariants.{Acked, Answer, Begin, Change, End, Enter, Flush, Free, Get, Gone, Install, Judge, Left, Look, Miss, Page, Retry, Sample, Touch}
use Rattle.gm_laws.proofs.Contents.{each_now, each_read, word_read}
use Rattle.gm_laws.proofs.Good.{Good}
use Rattle.gm_laws.proofs.KeepVcpu.{IsFirst, is_first, serves_use}
use Rattle.gm_laws.proofs.Kit.{by_test, flat_at_all}
use Rattle.gm_laws.proofs.Locks.{Locks}
use Rattle.gm_laws.proofs.MoreReadings.{count_is_rest}
use Rattle.gm_laws.proofs.Prefix.{IsBegun, after_judge, begun_back, loose_first, same_row_actor, whole_begun}
use Rattle.gm_laws.proofs.Touches.{good, locks}
use Rattle.gm_laws.specs.Contents.{ReadsTheLast, added_word, last_write, or_else}
use Rattle.gm_laws.specs.May.{Backs, May, MayInstall, MayRetry, MayTouch, ServedBy}
use Rattle.gm_laws.specs.Readings.{how_many, is_begin, is_end}
use Rattle.gm_laws.specs.Ruled.{AllFreed, Follows, Ruled, loosens}
use Rattle.gm_laws.specs.TouchesNow.{TouchesNow}

-- the facts of a right history, as far as an entry
pub record RightSoFar (o : Orders) (past : List Entry) : Type 0 where
  pub touches : Each (λ e p. RightTouch e.what e.actor p) past
  pub looks : Each (λ e p. RightLook o.setup e.what e.actor p) past
  pub installs : Each (λ e p. RightInstall e.what e.actor p) past
  pub levels : Each (λ e p. RightLevel o.setup e.what e.actor p) past
  pub lives : Each (λ e p. RightLives o.setup e p) past
  pub calls : Each (λ e p. RightCalls o.setup e.what e.actor p) past
  pub order : Each (λ e p. RightOrder o e p) past
  pub begun : IsBegun o.setup past

back : (o : Orders) (e : Entry) (past : List Entry) → RightSoFar o (e ∷ past) → RightSoFar o past
back o e past f =
    record {
      touches = f.touches.1;
      looks = f.looks.1;
      installs = f.installs.1;
      levels = f.levels.1;
      lives = f.lives.1;
      calls = f.calls.1;
      order = f.order.1;
      begun = begun_back o e past f.order.0 f.begun;
    }

-- what serves gives the entry's backing
use_backs : (a : Aim) (b : Backing) (o : Option Named) → CanUse a b o → Backs b o
use_backs a b None u = u
use_backs a b (Some m) u = u.1

serves_back : (o : Orders) (u fill : ℕ) (a : Aim) (b : Backing) (level : Level) (past : List Entry) (x p : Option Mapping) → Good o.setup.callers past → IsFirst a (fills u past) x → IsFirst a (leaves past) p → CanUse a b (named (flat_at fill past) a.page) → IsServed level fill (length past) x p → ServedBy a b level fill (length past) x p
serves_back o u fill a b level past (Some f) p g h k c s = (
  s.0,
  s.1,
  use_backs a b (f.gives a.page) (subst (λ (z : Option Named). CanUse a b z) ((g.fill_in u f h.0).1.1 a.page) (subst (λ (n : ℕ). CanUse a b (named (flat_at n past) a.page)) s.0 c)),
)
serves_back o u fill a b level past None (Some l) g h k c s =
    let cover = (serves_use a b l k.1).0 in (
      s.0,
      s.1,
      use_backs a b (l.gives a.page) (subst (λ (z : Option Named). CanUse a b z) (g.leaf_names l a.page k.0 cover).0 (subst (λ (f : Flat). CanUse a b (named f a.page)) (ap (λ (n : ℕ). flat_at n past) s.0 ∙ flat_at_all past) c)),
    )
serves_back o u fill a b level past None None g h k c s = s

may_touch : (o : Orders) (u fill value : ℕ) (a : Aim) (b : Backing) (level : Level) (past : List Entry) → Good o.setup.callers past → TouchIsRight u a b level value fill past → next_command o (Vcpu u) past ≡ Some (TouchCommand a) → MayTouch o u a b level value fill past
may_touch o u fill value a b level past g t c =
    record {
      is_inside = t.is_inside;
      is_served = serves_back o u fill a b level past (first_serving a (fills u past)) (first_serving a (leaves past)) g (is_first a (fills u past)) (is_first a (leaves past)) t.is_named t.is_served;
      right_value = t.right_value;
      command = c;
    }

may_install : (page : ℕ) (past : List Entry) (x : Fault) → HasGot x → Installs page past x → MayInstall page past x
may_install page past (Faulting a m (Some s) (Some l) (Some q)) h i = (i.own_page, i.not_stale)
may_install page past (Faulting a m (Some s) (Some l) None) h i = absurd h
may_install page past (Faulting a m (Some s) None q) h i = absurd h
may_install page past (Faulting a m None l q) h i = absurd h
may_install page past NoFault h i = absurd h

may_retry : (past : List Entry) (x : Fault) → HasLooked x → Retries past x → MayRetry past x
may_retry past (Faulting a m (Some s) (Some l) (Some q)) h i = i
may_retry past (Faulting a m (Some s) (Some l) None) h i = elim i [ inl again ↦ inl again | inr shut ↦ inr (shut.right_route, shut.is_shut) ]
may_retry past (Faulting a m (Some s) None q) h i = absurd h
may_retry past (Faulting a m None l q) h i = absurd h
may_retry past NoFault h i = absurd h

may : (o : Orders) (w : What) (a : Actor) (past : List Entry) → Good o.setup.callers past → RightTouch w a past → RightLook o.setup w a past → RightInstall w a past → RightLevel o.setup w a past → LivesOf o.setup w a past → RightCalls o.setup w a past → StepIs o w a past → May o w a past
may o Enter (Vcpu v) past g t k i l f c s = s
may o Flush (Vcpu v) past g t k i l f c s = s
may o (Miss a) (Vcpu v) past g t k i l f c s = record { not_served = t; command = s }
may o (Sample at) (Vcpu v) past g t k i l f c s = (s, k)
may o (Look at slot attr file) (Vcpu v) past g t k i l f c s = (s, k)
may o (Get b n) (Vcpu v) past g t k i l f c s = (s, i, f)
may o (Install page level) (Vcpu v) past g t k i l f c s = (may_install page past (fault v past) s i, l)
may o Retry (Vcpu v) past g t k i l f c s = may_retry past (fault v past) s i
may o (Touch a b level value fill) (Vcpu v) past g t k i l f c s = may_touch o v fill value a b level past g t s
may o (Left why) (Vcpu v) past g t k i l f c s = (s, k)
may o (Judge ioctl) (Caller d) past g t k i l f c s = s
may o (Begin spans) (Caller d) past g t k i l f c s = (s, c)
may o Acked (Caller d) past g t k i l f c s = s
may o (Change effect) (Caller d) past g t k i l f c s = (s, c)
may o (Page index folio pages) (Caller d) past g t k i l f c s = (s, c, f)
may o End (Caller d) past g t k i l f c s = s
may o (Answer reply) (Caller d) past g t k i l f c s = (s, c)
may o (Free folio pages) (Vcpu v) past g t k i l f c s = f
may o (Free folio pages) (Caller d) past g t k i l f c s = f
may o Gone (Vcpu v) past g t k i l f c s = s
may o Gone (Caller d) past g t k i l f c s = s
may o Enter (Caller d) past g t k i l f c s = s
may o Flush (Caller d) past g t k i l f c s = s
may o (Miss a) (Caller d) past g t k i l f c s = s
may o (Sample at) (Caller d) past g t k i l f c s = s
may o (Look at slot attr file) (Caller d) past g t k i l f c s = s
may o (Get b n) (Caller d) past g t k i l f c s = s
may o (Install page level) (Caller d) past g t k i l f c s = s
may o Retry (Caller d) past g t k i l f c s = s
may o (Touch a b level value fill) (Caller d) past g t k i l f c s = s
may o (Left why) (Caller d) past g t k i l f c s = s
may o (Judge ioctl) (Vcpu v) past g t k i l f c s = s
may o (Begin spans) (Vcpu v) past g t k i l f c s = s
may o Acked (Vcpu v) past g t k i l f c s = s
may o (Change effect) (Vcpu v) past g t k i l f c s = s
may o (Page index folio pages) (Vcpu v) past g t k i l f c s = s
may o End (Vcpu v) past g t k i l f c s = s
may o (Answer reply) (Vcpu v) past g t k i l f c s = s

-- at rest, nothing is left over
all_freed : (past : List Entry) → LivesAtRest past → AllFreed past
all_freed past r h s u = by_test (is_live s (flat past).folios) (λ y. inl (r.live_is_used s y)) (λ n. inr n)

begins : (o : Orders) (e : Entry) (past : List Entry) → Locks o.setup past → RightSoFar o (e ∷ past) → ((d : Entry) (p : List Entry) → past ≡ d ∷ p → Locks o.setup p) → loosens e.what ≡ true → same_turn e past ≡ false
begins o e [] k f older l = refl
begins o e (d ∷ p) k f older l = by_test (same_turn e (d ∷ p))
    (λ t. absurd (loose_first o e.what e.actor d p (older d p refl) (same_row_actor d e p t f.order.0.together) (after_judge o.setup e d p f.begun t l) f.order.1.0.step f.order.0.step f.calls.0 l))
    (λ n. n)

older_locks : (o : Orders) (past : List Entry) → Follows o past → (d : Entry) (p : List Entry) → past ≡ d ∷ p → Locks o.setup p
older_locks o past r d p e = locks o p (subst (Follows o) e r).1

pub follows : (o : Orders) (past : List Entry) → RightSoFar o past → Follows o past
follows o [] f = tt
follows o (e ∷ past) f = go (follows o past (back o e past f))
  where
    go : Follows o past → Follows o (e ∷ past)
    go r = (
      record {
        actor_is = f.order.0.actor_is;
        together = f.order.0.together;
        row = f.order.0.whole_before;
        freed = λ n. all_freed past (f.lives.0.at_rest n);
        begins_turn = begins o e past (locks o past r) f (older_locks o past r);
        may = may o e.what e.actor past (good o past r) f.touches.0 f.looks.0 f.installs.0 f.levels.0 f.lives.0.here f.calls.0 f.order.0.step;
      },
      r,
    )

pub ruled : (o : Orders) (past : List Entry) → Right o past → Ruled o past
ruled o past r =
    record {
      follows = follows o past (record {
        touches = r.touches;
        looks = r.looks;
        installs = r.installs;
        levels = r.levels;
        lives = r.lives;
        calls = r.calls;
        order = r.order;
        begun = whole_begun o.setup past r.whole;
      });
      row = r.whole;
      freed = all_freed past r.at_rest;
    }

-- laws of right histories
pub right_now : (o : Orders) (past : List Entry) → Right o past → Each (λ e p. TouchesNow e.what e.actor p) past
right_now o past r = each_now o past (ruled o past r).follows

pub right_word : (o : Orders) (past : List Entry) → Right o past → (serial word : ℕ) → folio_word serial word past ≡ or_else (last_write serial word past) (added_word serial word past)
right_word o past r serial word = word_read o past serial word (ruled o past r).follows

pub right_count : (o : Orders) (past : List Entry) → Right o past → how_many is_begin past ≡ how_many is_end past + count past
right_count o past r = count_is_rest o past (ruled o past r).follows

pub reads_of_right : (o : Orders) (past : List Entry) → Right o past → Each (λ e p. ReadsTheLast e.what e.actor p) past
reads_of_right o past r = each_read o past (ruled o past r).follows
