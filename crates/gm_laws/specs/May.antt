-- Which entry may come next, by the tables of turns and calls and by what a machine can see: the first fill or leaf that
-- serves, staleness, the plan of a call, the cache and the frames. One clause for each kind of entry with its actor.
use Rattle.std.specs.Prelude.{◌≡◌, ℕ, List, true, false, ◌⊎◌, length, Some, None}
use Rattle.std.specs.declared.option.Option.{Option}
use Rattle.gm_base.specs.Aim.{Aim}
use Rattle.gm_base.specs.Scripts.{Orders}
use Rattle.gm_base.specs.declared.script.Command.TheVariants.{Touch as TouchCommand}
use Rattle.gm_base.specs.declared.values.Level.{Level}
use Rattle.gm_base.specs.declared.values.Actor.{Actor}
use Rattle.gm_base.specs.declared.values.Actor.TheVariants.{Vcpu, Caller}
use Rattle.gm_flat.specs.declared.effect.Backing.{Backing}
use Rattle.gm_flat.specs.declared.entry.Entry.{Entry}
use Rattle.gm_flat.specs.declared.entry.What.{What}
use Rattle.gm_flat.specs.declared.entry.What.TheVariants.{Enter, Flush, Miss, Sample, Look, Get, Install, Retry, Touch, Left, Judge, Begin, Acked, Change, Page, End, Answer, Free, Gone}
use Rattle.gm_flat.specs.Histories.{Fault, Faulting, fault, call, bracket}
use Rattle.gm_flat.specs.NamedPage.{Named}
use Rattle.gm_flat.specs.Replay.{flat, added_by}
use Rattle.gm_flat.specs.Words.{word_of}
use Rattle.gm_flat.specs.Mappings.{Mapping, pending, inside, fills, leaves, first_serving}
use Rattle.gm_flat.specs.Invalidation.{stale}
use Rattle.gm_flat.specs.RightTouch.{IsValue, MissIsRight}
use Rattle.gm_flat.specs.RightLook.{ToAgain, ToFile, route_seen, RightSample, RightSeen, RightExit}
use Rattle.gm_flat.specs.RightInstall.{IsShut, RightGet}
use Rattle.gm_flat.specs.RightLevel.{LevelIs}
use Rattle.gm_flat.specs.RightLives.{RightGetAdds, RightPageAdds, FreeIsRight}
use Rattle.gm_flat.specs.RightCalls.{RightBegin, RightChange, RightPage, RightAnswer}
use Rattle.gm_flat.specs.RightOrder.{next_command, IsMissed, IsSampled, IsLooked, Enters, Departs, Judges, Begins, Acks, Changes, Ends}

abbrev pub Backs : Backing → Option Named → Type 0
Backs backing None = ⊥
Backs backing (Some m) = m.backing ≡ backing

-- the fill or the leaf gives what the entry says
abbrev pub ServedBy : Aim → Backing → Level → ℕ → ℕ → Option Mapping → Option Mapping → Type 0
ServedBy a backing level fill here (Some f) leaf = (fill ≡ f.made) × (level ≡ f.level) × Backs backing (f.gives a.page)
ServedBy a backing level fill here None (Some l) = (fill ≡ here) × (level ≡ l.level) × Backs backing (l.gives a.page)
ServedBy a backing level fill here None None = ⊥

pub record MayTouch (o : Orders) (v : ℕ) (a : Aim) (backing : Backing) (level : Level) (value fill : ℕ) (past : List Entry) : Type 0 where
  pub is_inside : inside v past ≡ true
  pub is_served : ServedBy a backing level fill (length past) (first_serving a (fills v past)) (first_serving a (leaves past))
  pub right_value : IsValue a.op (word_of backing a.word past) value
  pub command : next_command o (Vcpu v) past ≡ Some (TouchCommand a)

pub record MayMiss (o : Orders) (v : ℕ) (a : Aim) (past : List Entry) : Type 0 where
  pub not_served : MissIsRight v a past
  pub command : next_command o (Vcpu v) past ≡ Some (TouchCommand a)

-- after a Get that isn't stale, for the access's page
abbrev pub MayInstall : ℕ → List Entry → Fault → Type 0
MayInstall page past (Faulting a missed (Some sample) (Some seen) (Some gotten)) = (page ≡ a.page) × (stale (Some sample) a.page past ≡ false)
MayInstall page past _ = ⊥

-- after a Get that is stale, or after a Look that found a marked slot, or one for a file that is shut now
abbrev pub MayRetry : List Entry → Fault → Type 0
MayRetry past (Faulting a missed (Some sample) (Some seen) (Some gotten)) = stale (Some sample) a.page past ≡ true
MayRetry past (Faulting a missed (Some sample) (Some seen) None) = (route_seen a seen past ≡ ToAgain) ⊎ ((route_seen a seen past ≡ ToFile) × IsShut seen.file (flat past))
MayRetry past _ = ⊥

abbrev pub May : Orders → What → Actor → List Entry → Type 0
May o Enter (Vcpu v) past = Enters o v past
May o Flush (Vcpu v) past = pending v past ≡ true
May o (Miss a) (Vcpu v) past = MayMiss o v a past
May o (Sample at) (Vcpu v) past = IsMissed (fault v past) × RightSample at past (fault v past)
May o (Look at slot attr file) (Vcpu v) past = IsSampled (fault v past) × RightSeen at slot attr file past (fault v past)
May o (Get backing fresh) (Vcpu v) past = IsLooked (fault v past) × RightGet backing fresh past (fault v past) × RightGetAdds o.setup.frames fresh (fault v past) (added_by (Get backing fresh) (Vcpu v) past) past
May o (Install page level) (Vcpu v) past = MayInstall page past (fault v past) × LevelIs level o.setup.huge page past
May o Retry (Vcpu v) past = MayRetry past (fault v past)
May o (Touch a backing level value fill) (Vcpu v) past = MayTouch o v a backing level value fill past
May o (Left why) (Vcpu v) past = IsLooked (fault v past) × RightExit o.setup.frames why past (fault v past)
May o (Judge ioctl) (Caller c) past = Judges o c ioctl past
May o (Begin spans) (Caller c) past = Begins (call c past) (bracket c past) × RightBegin o.setup spans.list (call c past) past
May o Acked (Caller c) past = Acks (bracket c past) past
May o (Change effect) (Caller c) past = Changes o.setup effect (call c past) (bracket c past) past × RightChange o.setup effect (call c past) past
May o (Page index folio pages) (Caller c) past = (bracket c past ≡ None) × RightPage o.setup index (call c past) past × RightPageAdds o.setup (call c past) (added_by (Page index folio pages) (Caller c) past) past
May o End (Caller c) past = Ends (call c past) (bracket c past)
May o (Answer reply) (Caller c) past = (bracket c past ≡ None) × RightAnswer o.setup reply (call c past) past
May o (Free folio pages) (Vcpu v) past = FreeIsRight folio pages past
May o (Free folio pages) (Caller c) past = FreeIsRight folio pages past
May o Gone (Vcpu v) past = Departs o (Vcpu v) past
May o Gone (Caller c) past = Departs o (Caller c) past
May o _ a past = ⊥
