-- A history that follows the tables is right, definition by definition.
use Rattle.std.proofs.Common.{List, None, Some, [], ℕ, ◌∷◌}
use Rattle.gm_base.specs.Scripts.{Orders}
use Rattle.gm_base.specs.declared.values.Actor.{Actor}
use Rattle.gm_base.specs.declared.values.Actor.TheVariants.{Caller, Vcpu}
use Rattle.gm_flat.specs.Histories.{Fault, Faulting, NoFault, fault}
use Rattle.gm_flat.specs.RightCalls.{RightCalls}
use Rattle.gm_flat.specs.RightHistory.{Each, Right}
use Rattle.gm_flat.specs.RightInstall.{RightInstall}
use Rattle.gm_flat.specs.RightLevel.{RightLevel}
use Rattle.gm_flat.specs.RightLives.{LivesAtRest, RightLives}
use Rattle.gm_flat.specs.RightLook.{RightLook}
use Rattle.gm_flat.specs.RightOrder.{HasGot, HasLooked, IsWhole, RightOrder, StepIs}
use Rattle.gm_flat.specs.RightTouch.{RightTouch}
use Rattle.gm_flat.specs.declared.entry.Entry.{Entry}
use Rattle.gm_flat.specs.declared.entry.What.{What}
use Rattle.gm_flat.specs.declared.entry.What.TheVariants.{Acked, Answer, Begin, Change, End, Enter, Flush, Free, Get, Gone, Install, Judge, Left, Look, Miss, Page, Retry, Sample, Touch}
use Rattle.gm_laws.proofs.Fates.{at_rest, lives_of}
use Rattle.gm_laws.proofs.Folios.{lives}
use Rattle.gm_laws.proofs.Touches.{good, locks, right_install, right_touch}
use Rattle.gm_laws.specs.May.{May, MayInstall, MayRetry}
use Rattle.gm_laws.specs.Ruled.{Follows, FollowsRules, Ruled}

right_look : (o : Orders) (w : What) (a : Actor) (past : List Entry) → May o w a past → RightLook o.setup w a past
right_look o (Sample at) (Vcpu v) past m = m.1
right_look o (Sample at) (Caller c) past m = absurd m
right_look o (Look at slot attr file) (Vcpu v) past m = m.1
right_look o (Look at slot attr file) (Caller c) past m = absurd m
right_look o (Left why) (Vcpu v) past m = m.1
right_look o (Left why) (Caller c) past m = absurd m
right_look o w a past m = tt

right_level : (o : Orders) (w : What) (a : Actor) (past : List Entry) → May o w a past → RightLevel o.setup w a past
right_level o (Install page level) (Vcpu v) past m = m.1
right_level o (Install page level) (Caller c) past m = absurd m
right_level o w a past m = tt

pub right_calls : (o : Orders) (w : What) (a : Actor) (past : List Entry) → May o w a past → RightCalls o.setup w a past
right_calls o (Begin spans) (Caller c) past m = m.1
right_calls o (Begin spans) (Vcpu v) past m = absurd m
right_calls o (Change effect) (Caller c) past m = m.1
right_calls o (Change effect) (Vcpu v) past m = absurd m
right_calls o (Page index folio pages) (Caller c) past m = m.1
right_calls o (Page index folio pages) (Vcpu v) past m = absurd m
right_calls o (Answer reply) (Caller c) past m = m.1
right_calls o (Answer reply) (Vcpu v) past m = absurd m
right_calls o w a past m = tt

installs_got : (page : ℕ) (past : List Entry) (x : Fault) → MayInstall page past x → HasGot x
installs_got page past (Faulting a m (Some s) (Some l) (Some q)) i = tt
installs_got page past (Faulting a m (Some s) (Some l) None) i = absurd i
installs_got page past (Faulting a m (Some s) None q) i = absurd i
installs_got page past (Faulting a m None l q) i = absurd i
installs_got page past NoFault i = absurd i

retries_looked : (past : List Entry) (x : Fault) → MayRetry past x → HasLooked x
retries_looked past (Faulting a m (Some s) (Some l) q) i = tt
retries_looked past (Faulting a m (Some s) None q) i = absurd i
retries_looked past (Faulting a m None l q) i = absurd i
retries_looked past NoFault i = absurd i

pub step_is : (o : Orders) (w : What) (a : Actor) (past : List Entry) → May o w a past → StepIs o w a past
step_is o Enter (Vcpu v) past m = m
step_is o Flush (Vcpu v) past m = m
step_is o (Miss a) (Vcpu v) past m = m.command
step_is o (Sample at) (Vcpu v) past m = m.0
step_is o (Look at slot attr file) (Vcpu v) past m = m.0
step_is o (Get b n) (Vcpu v) past m = m.0
step_is o (Install page level) (Vcpu v) past m = installs_got page past (fault v past) m.0
step_is o Retry (Vcpu v) past m = retries_looked past (fault v past) m
step_is o (Touch a b level value fill) (Vcpu v) past m = m.command
step_is o (Left why) (Vcpu v) past m = m.0
step_is o (Judge ioctl) (Caller c) past m = m
step_is o (Begin spans) (Caller c) past m = m.0
step_is o Acked (Caller c) past m = m
step_is o (Change effect) (Caller c) past m = m.0
step_is o (Page index folio pages) (Caller c) past m = m.0
step_is o End (Caller c) past m = m
step_is o (Answer reply) (Caller c) past m = m.0
step_is o (Free folio pages) (Vcpu v) past m = tt
step_is o (Free folio pages) (Caller c) past m = tt
step_is o Gone (Vcpu v) past m = m
step_is o Gone (Caller c) past m = m
step_is o Enter (Caller c) past m = absurd m
step_is o Flush (Caller c) past m = absurd m
step_is o (Miss a) (Caller c) past m = absurd m
step_is o (Sample at) (Caller c) past m = absurd m
step_is o (Look at slot attr file) (Caller c) past m = absurd m
step_is o (Get b n) (Caller c) past m = absurd m
step_is o (Install page level) (Caller c) past m = absurd m
step_is o Retry (Caller c) past m = absurd m
step_is o (Touch a b level value fill) (Caller c) past m = absurd m
step_is o (Left why) (Caller c) past m = absurd m
step_is o (Judge ioctl) (Vcpu v) past m = absurd m
step_is o (Begin spans) (Vcpu v) past m = absurd m
step_is o Acked (Vcpu v) past m = absurd m
step_is o (Change effect) (Vcpu v) past m = absurd m
step_is o (Page index folio pages) (Vcpu v) past m = absurd m
step_is o End (Vcpu v) past m = absurd m
step_is o (Answer reply) (Vcpu v) past m = absurd m

pub right_order : (o : Orders) (e : Entry) (past : List Entry) → FollowsRules o e past → RightOrder o e past
right_order o e past r = record { actor_is = r.actor_is; together = r.together; whole_before = r.row; step = step_is o e.what e.actor past r.may }

right_lives : (o : Orders) (e : Entry) (past : List Entry) → FollowsRules o e past → Follows o past → RightLives o.setup e past
right_lives o e past r f = record { here = lives_of o e.what e.actor past (lives o past f) (good o past f) r.may; at_rest = λ new. at_rest o past f (r.freed new) }

-- each of them at each position
pub each : (o : Orders) (P : Entry → List Entry → Type 0) → ((e : Entry) (past : List Entry) → FollowsRules o e past → Follows o past → P e past) → (past : List Entry) → Follows o past → Each P past
each o P f [] r = tt
each o P f (e ∷ past) r = (f e past r.0 r.1, each o P f past r.1)

pub ruled_touches : (o : Orders) (past : List Entry) → Ruled o past → Each (λ e p. RightTouch e.what e.actor p) past
ruled_touches o past r = each o (λ e p. RightTouch e.what e.actor p) (λ e p x f. right_touch o e.what e.actor p (good o p f) x.may) past r.follows

pub ruled_looks : (o : Orders) (past : List Entry) → Ruled o past → Each (λ e p. RightLook o.setup e.what e.actor p) past
ruled_looks o past r = each o (λ e p. RightLook o.setup e.what e.actor p) (λ e p x f. right_look o e.what e.actor p x.may) past r.follows

pub ruled_installs : (o : Orders) (past : List Entry) → Ruled o past → Each (λ e p. RightInstall e.what e.actor p) past
ruled_installs o past r = each o (λ e p. RightInstall e.what e.actor p) (λ e p x f. right_install o e.what e.actor p (locks o p f) (good o p f) x.may) past r.follows

pub ruled_levels : (o : Orders) (past : List Entry) → Ruled o past → Each (λ e p. RightLevel o.setup e.what e.actor p) past
ruled_levels o past r = each o (λ e p. RightLevel o.setup e.what e.actor p) (λ e p x f. right_level o e.what e.actor p x.may) past r.follows

pub ruled_lives : (o : Orders) (past : List Entry) → Ruled o past → Each (λ e p. RightLives o.setup e p) past × LivesAtRest past
ruled_lives o past r = (each o (λ e p. RightLives o.setup e p) (λ e p x f. right_lives o e p x f) past r.follows, at_rest o past r.follows r.freed)

pub ruled_calls : (o : Orders) (past : List Entry) → Ruled o past → Each (λ e p. RightCalls o.setup e.what e.actor p) past
ruled_calls o past r = each o (λ e p. RightCalls o.setup e.what e.actor p) (λ e p x f. right_calls o e.what e.actor p x.may) past r.follows

pub ruled_order : (o : Orders) (past : List Entry) → Ruled o past → Each (λ e p. RightOrder o e p) past × IsWhole o.setup past
ruled_order o past r = (each o (λ e p. RightOrder o e p) (λ e p x f. right_order o e p x) past r.follows, r.row)

pub right : (o : Orders) (past : List Entry) → Ruled o past → Right o past
right o past r =
    record {
      touches = ruled_touches o past r;
      looks = ruled_looks o past r;
      installs = ruled_installs o past r;
      levels = ruled_levels o past r;
      lives = (ruled_lives o past r).0;
      at_rest = (ruled_lives o past r).1;
      calls = ruled_calls o past r;
      order = (ruled_order o past r).0;
      whole = (ruled_order o past r).1;
    }
