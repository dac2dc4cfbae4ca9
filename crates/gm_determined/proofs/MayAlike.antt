-- What may come depends on the readings alone.
use Rattle.std.proofs.Common.{◌+◌, ◌<◌, ◌||◌, Bool, List, None, Option, Some, ap, inl, inr, length, subst, sym, true, ℕ, ◌∙◌, ◌≡◌, ◌≤◌}
use Rattle.gm_base.specs.Aim.{Aim}
use Rattle.gm_base.specs.Extent.{Extent}
use Rattle.gm_base.specs.Scripts.{Orders, commands_of}
use Rattle.gm_base.specs.declared.calls.Ioctl.{Ioctl}
use Rattle.gm_base.specs.declared.values.Actor.{Actor}
use Rattle.gm_base.specs.declared.values.Actor.TheVariants.{Caller, Vcpu}
use Rattle.gm_base.specs.declared.values.Folio.{Folio}
use Rattle.gm_base.specs.declared.values.Kind.{Kind}
use Rattle.gm_base.specs.declared.values.Level.{Level}
use Rattle.gm_base.specs.declared.values.Level.TheVariants.{Block, Small}
use Rattle.gm_base.specs.declared.values.Setup.{Setup}
use Rattle.gm_flat.specs.Calls.{Bracketed, Paged, Plan, Reads, Refused, Same, Short, plan}
use Rattle.gm_flat.specs.Effects.{get_addition}
use Rattle.gm_flat.specs.Histories.{Bracket, Call, Fault, Faulting, NoFault, Seen, before_turn, bracket, call, fault, is_mark, newest_turn}
use Rattle.gm_flat.specs.Invalidation.{ended, hull, in_hull, stale}
use Rattle.gm_flat.specs.Locks.{WaitsForLock, takes}
use Rattle.gm_flat.specs.Mappings.{Mapping, fills, first_serving, leaves}
use Rattle.gm_flat.specs.Replay.{States, flat, get_adds, index_in, page_adds, seen_slot, states}
use Rattle.gm_flat.specs.RightCalls.{IsAnswer, IsChange, IsPage, PagesEnd, RightAnswer, RightBegin, RightChange, RightPage}
use Rattle.gm_flat.specs.RightInstall.{FileGet, GetBy, IsShut, RightGet, UserGet}
use Rattle.gm_flat.specs.RightLevel.{IsWholeBlock, LevelIs}
use Rattle.gm_flat.specs.RightLives.{FaultHolds, FreeIsRight, GetAdds, IsCached, IsPlaced, PageAdds, RightGetAdds, RightPageAdds, frame_of, plan_of}
use Rattle.gm_flat.specs.RightLook.{ExitIsRight, IsFull, NotCached, RightExit, RightSample, RightSeen, Route, ToAgain, ToFault, ToFile, ToMmio, ToUser, file_of, id_of, route, route_seen}
use Rattle.gm_flat.specs.RightOrder.{Acks, Begins, Changes, Ends, IsBlocked, IsDueBy, IsLooked, IsMissed, IsSampled, IsWaiting, WaitsForFlush, WaitsToAck, command_at, next_command}
use Rattle.gm_flat.specs.RightTouch.{IsValue}
use Rattle.gm_flat.specs.Slots.{slot_over}
use Rattle.gm_flat.specs.Attribute.{attr_of}
use Rattle.gm_flat.specs.Words.{word_of}
use Rattle.gm_flat.specs.declared.effect.Backing.{Backing}
use Rattle.gm_flat.specs.declared.effect.Backing.TheVariants.{Folio as InFolio, User}
use Rattle.gm_flat.specs.declared.effect.Effect.{Effect}
use Rattle.gm_flat.specs.declared.effect.Exit.{Exit}
use Rattle.gm_flat.specs.declared.effect.Exit.TheVariants.{Fault as MemoryFault, Mmio, NoFrame}
use Rattle.gm_flat.specs.declared.effect.Reply.{Reply}
use Rattle.gm_flat.specs.declared.effect.Reply.TheVariants.{Good}
use Rattle.gm_flat.specs.declared.entry.Entry.{Entry}
use Rattle.gm_flat.specs.declared.entry.What.{What}
use Rattle.gm_flat.specs.declared.entry.What.TheVariants.{Acked, Answer, Begin, Change, End, Enter, Flush, Free, Get, Gone, Install, Judge, Left, Look, Miss, Page, Retry, Sample, Touch}
use Rattle.gm_laws.specs.May.{May, MayInstall, MayRetry, ServedBy}
use Rattle.gm_laws.specs.Ruled.{IsUsed}
use Rattle.gm_determined.proofs.Alike.{Alike, alike_sym}

-- waits
flush_alike : (b : Bracket) (p q : List Entry) → Alike p q → WaitsForFlush b p → WaitsForFlush b q
flush_alike b p q x w = record { vcpu = w.vcpu; is_inside = sym (x.r_inside w.vcpu) ∙ w.is_inside; not_flushed = subst (λ (n : ℕ). n ≤ b.begun) (x.r_flushed w.vcpu) w.not_flushed }

lock_alike : (c : ℕ) (i : Ioctl) (p q : List Entry) → Alike p q → WaitsForLock c i p → WaitsForLock c i q
lock_alike c i p q x w =
    record {
      lock = w.lock;
      holder = w.holder;
      another = w.another;
      holds = (w.holds.0, sym (x.r_call w.holder) ∙ w.holds.1, subst (λ (s : States). takes w.lock w.holds.0.ioctl (s.before w.holds.0.judged) ≡ true) x.r_states w.holds.2);
      needed = subst (λ (s : States). takes w.lock i s.now ≡ true) x.r_states w.needed;
    }

next_alike : (o : Orders) (a : Actor) (p q : List Entry) → Alike p q → next_command o a q ≡ next_command o a p
next_alike o a p q x = ap (λ (n : ℕ). command_at (commands_of o a) n) (sym (x.r_done a))

stale_alike : (s : Option ℕ) (page : ℕ) (p q : List Entry) → Alike p q → stale s page q ≡ stale s page p
stale_alike None page p q x = ap (λ (h : Option Extent). in_hull page h) (sym x.r_hull)
stale_alike (Some i) page p q x = ap (λ (t : Bool). t || in_hull page (hull q)) (sym (x.r_ended i)) ∙ ap (λ (h : Option Extent). ended i p || in_hull page h) (sym x.r_hull)

-- faults
sample_alike : (at : ℕ) (z : Fault) (p q : List Entry) → Alike p q → RightSample at p z → RightSample at q z
sample_alike at (Faulting a m s l g) p q x h = record { after_miss = h.after_miss; so_far = subst (λ (n : ℕ). at ≤ n) x.r_length h.so_far }
sample_alike at NoFault p q x h = h

seen_alike : (at : ℕ) (slot : Option ℕ) (attr : Kind) (file : Option ℕ) (z : Fault) (p q : List Entry) → Alike p q → RightSeen at slot attr file p z → RightSeen at slot attr file q z
seen_alike at slot attr file (Faulting a m (Some s) l g) p q x h =
    record {
      after_sample = h.after_sample;
      so_far = subst (λ (n : ℕ). at ≤ n) x.r_length h.so_far;
      right_slot = subst (λ (r : States). slot ≡ id_of (slot_over (r.before at).slots a.page)) x.r_states h.right_slot;
      right_file = subst (λ (r : States). file ≡ file_of (slot_over (r.before at).slots a.page)) x.r_states h.right_file;
      right_attr = subst (λ (r : States). attr ≡ attr_of a.page (r.before at).attrs) x.r_states h.right_attr;
    }
seen_alike at slot attr file (Faulting a m None l g) p q x h = h
seen_alike at slot attr file NoFault p q x h = h

exit_alike : (frames : ℕ) (w : Exit) (a : Aim) (l : Seen) (p q : List Entry) → Alike p q → ExitIsRight frames w a l p → ExitIsRight frames w a l q
exit_alike frames (MemoryFault f g s) a l p q x h = record { right_route = subst (λ (r : States). route a l.attr (seen_slot l r) ≡ ToFault) x.r_states h.right_route; right_flags = h.right_flags; right_gpa = h.right_gpa; right_size = h.right_size }
exit_alike frames (Mmio g) a l p q x h = record { right_route = subst (λ (r : States). route a l.attr (seen_slot l r) ≡ ToMmio) x.r_states h.right_route; right_gpa = h.right_gpa }
exit_alike frames NoFrame a l p q x h =
    record {
      right_route = subst (λ (r : States). route a l.attr (seen_slot l r) ≡ ToFile) x.r_states h.right_route;
      not_cached = subst (λ (r : States). NotCached l.file (index_in a.page (seen_slot l r)) r.now) x.r_states h.not_cached;
      full = subst (λ (r : States). IsFull frames r.now.folios) x.r_states h.full;
    }

left_alike : (frames : ℕ) (w : Exit) (z : Fault) (p q : List Entry) → Alike p q → RightExit frames w p z → RightExit frames w q z
left_alike frames w (Faulting a m s (Some l) g) p q x h = exit_alike frames w a l p q x h
left_alike frames w (Faulting a m s None g) p q x h = h
left_alike frames w NoFault p q x h = h

get_by : (t : Route) (b : Backing) (n : ℕ) (a : Aim) (l : Seen) (p q : List Entry) → Alike p q → GetBy t b n a l p → GetBy t b n a l q
get_by ToUser b n a l p q x h = subst (λ (r : States). UserGet b n a.page (seen_slot l r)) x.r_states h
get_by ToFile b n a l p q x h = subst (λ (r : States). FileGet b n l.file (index_in a.page (seen_slot l r)) r.now) x.r_states h
get_by ToAgain b n a l p q x h = h
get_by ToFault b n a l p q x h = h
get_by ToMmio b n a l p q x h = h

get_alike : (b : Backing) (n : ℕ) (z : Fault) (p q : List Entry) → Alike p q → RightGet b n p z → RightGet b n q z
get_alike b n (Faulting a m s (Some l) g) p q x h = subst (λ (r : States). GetBy (route a l.attr (seen_slot l r)) b n a l q) x.r_states (get_by (route_seen a l p) b n a l p q x h)
get_alike b n (Faulting a m s None g) p q x h = h
get_alike b n NoFault p q x h = h

get_adds_alike : (frames : ℕ) (b : Backing) (n : ℕ) (z : Fault) (p q : List Entry) → Alike p q → RightGetAdds frames n z (get_adds b n z (states p)) p → RightGetAdds frames n z (get_adds b n z (states q)) q
get_adds_alike frames b n (Faulting a m s (Some l) g) p q x h = subst (λ (r : States). 0 < n → GetAdds frames (index_in a.page (seen_slot l r)) (get_addition b n l.file (index_in a.page (seen_slot l r)) r.now.files) r.now) x.r_states h
get_adds_alike frames b n (Faulting a m s None g) p q x h = h
get_adds_alike frames b n NoFault p q x h = h

install_alike : (page : ℕ) (z : Fault) (p q : List Entry) → Alike p q → MayInstall page p z → MayInstall page q z
install_alike page (Faulting a m (Some s) (Some l) (Some g)) p q x h = (h.0, stale_alike (Some s) a.page p q x ∙ h.1)
install_alike page (Faulting a m (Some s) (Some l) None) p q x h = h
install_alike page (Faulting a m (Some s) None g) p q x h = h
install_alike page (Faulting a m None l g) p q x h = h
install_alike page NoFault p q x h = h

retry_alike : (z : Fault) (p q : List Entry) → Alike p q → MayRetry p z → MayRetry q z
retry_alike (Faulting a m (Some s) (Some l) (Some g)) p q x h = stale_alike (Some s) a.page p q x ∙ h
retry_alike (Faulting a m (Some s) (Some l) None) p q x (inl h) = inl (subst (λ (r : States). route a l.attr (seen_slot l r) ≡ ToAgain) x.r_states h)
retry_alike (Faulting a m (Some s) (Some l) None) p q x (inr h) = inr (subst (λ (r : States). route a l.attr (seen_slot l r) ≡ ToFile) x.r_states h.0, subst (λ (r : States). IsShut l.file r.now) x.r_states h.1)
retry_alike (Faulting a m (Some s) None g) p q x h = h
retry_alike (Faulting a m None l g) p q x h = h
retry_alike NoFault p q x h = h

block_alike : (huge : Bool) (page : ℕ) (p q : List Entry) → Alike p q → IsWholeBlock huge page (flat p) (hull p) → IsWholeBlock huge page (flat q) (hull q)
block_alike huge page p q x h = subst (λ (r : States). IsWholeBlock huge page r.now (hull q)) x.r_states (subst (λ (k : Option Extent). IsWholeBlock huge page (flat p) k) x.r_hull h)

level_alike : (level : Level) (huge : Bool) (page : ℕ) (p q : List Entry) → Alike p q → LevelIs level huge page p → LevelIs level huge page q
level_alike Block huge page p q x h = block_alike huge page p q x h
level_alike Small huge page p q x h = λ k. h (block_alike huge page q p (alike_sym p q x) k)

word_alike : (b : Backing) (word : ℕ) (p q : List Entry) → Alike p q → word_of b word p ≡ word_of b word q
word_alike (User u) word p q x = x.r_user u word
word_alike (InFolio fo) word p q x = x.r_folio fo.serial word

served_alike : (a : Aim) (b : Backing) (l : Level) (f v : ℕ) (p q : List Entry) → Alike p q → ServedBy a b l f (length p) (first_serving a (fills v p)) (first_serving a (leaves p)) → ServedBy a b l f (length q) (first_serving a (fills v q)) (first_serving a (leaves q))
served_alike a b l f v p q x h =
    subst (λ (n : ℕ). ServedBy a b l f n (first_serving a (fills v q)) (first_serving a (leaves q))) x.r_length
    (subst (λ (ms : List Mapping). ServedBy a b l f (length p) (first_serving a ms) (first_serving a (leaves q))) (x.r_fills v)
    (subst (λ (ms : List Mapping). ServedBy a b l f (length p) (first_serving a (fills v p)) (first_serving a ms)) x.r_leaves h))

-- calls
begin_alike : (s : Setup) (spans : List Extent) (z : Option Call) (p q : List Entry) → Alike p q → RightBegin s spans z p → RightBegin s spans z q
begin_alike s spans (Some c) p q x h = (h.0, subst (λ (r : States). plan s c.ioctl (r.before c.judged) ≡ Bracketed h.0 spans) x.r_states h.1)
begin_alike s spans None p q x h = h

acks_alike : (b : Option Bracket) (p q : List Entry) → Alike p q → Acks b p → Acks b q
acks_alike (Some b) p q x h = (h.0, λ w. h.1 (flush_alike b q p (alike_sym p q x) w))
acks_alike None p q x h = h

changes_alike : (s : Setup) (e : Effect) (z : Option Call) (b : Option Bracket) (p q : List Entry) → Alike p q → Changes s e z b p → Changes s e z b q
changes_alike s e (Some c) b p q x h = (h.0, subst (λ (n : ℕ). IsDueBy (is_mark e) n c.judged (plan_of s c q) b) x.r_length (subst (λ (r : States). IsDueBy (is_mark e) (length p) c.judged (plan s c.ioctl (r.before c.judged)) b) x.r_states h.1))
changes_alike s e None b p q x h = h

effect_alike : (s : Setup) (e : Effect) (z : Option Call) (p q : List Entry) → Alike p q → RightChange s e z p → RightChange s e z q
effect_alike s e (Some c) p q x h = subst (λ (r : States). IsChange (is_mark e) e (plan s c.ioctl (r.before c.judged))) x.r_states h
effect_alike s e None p q x h = h

page_alike : (s : Setup) (i : ℕ) (z : Option Call) (p q : List Entry) → Alike p q → RightPage s i z p → RightPage s i z q
page_alike s i (Some c) p q x h = subst (λ (r : States). IsPage i c (plan s c.ioctl (r.before c.judged)) r.now) x.r_states h
page_alike s i None p q x h = h

page_adds_alike : (s : Setup) (i : ℕ) (fo : Folio) (n : ℕ) (z : Option Call) (p q : List Entry) → Alike p q → RightPageAdds s z (page_adds i fo n z (states p)) p → RightPageAdds s z (page_adds i fo n z (states q)) q
page_adds_alike s i fo n (Some c) p q x h = subst (λ (r : States). PageAdds s.frames (plan s c.ioctl (r.before c.judged)) (page_adds i fo n (Some c) r) r.now) x.r_states h
page_adds_alike s i fo n None p q x h = h

is_answer_alike : (s : Setup) (t : Reply) (c : Call) (y : Plan) (p q : List Entry) → Alike p q → IsAnswer s t c y p → IsAnswer s t c y q
is_answer_alike s t c (Reads g w) p q x h = h ∙ ap (λ (n : ℕ). Good n) (x.r_user g w)
is_answer_alike s t c (Paged y) p q x h = subst (λ (r : States). PagesEnd s.frames t y y.base c.pages r.now) x.r_states h
is_answer_alike s t c (Refused e) p q x h = h
is_answer_alike s t c (Same n) p q x h = h
is_answer_alike s t c (Short e n) p q x h = h
is_answer_alike s t c (Bracketed e n) p q x h = h

answer_alike : (s : Setup) (t : Reply) (z : Option Call) (p q : List Entry) → Alike p q → RightAnswer s t z p → RightAnswer s t z q
answer_alike s t (Some c) p q x h = subst (λ (r : States). IsAnswer s t c (plan s c.ioctl (r.before c.judged)) q) x.r_states (is_answer_alike s t c (plan_of s c p) p q x h)
answer_alike s t None p q x h = h

-- frees
cached_alike : (s : ℕ) (p q : List Entry) → Alike p q → IsCached s (flat p) → IsCached s (flat q)
cached_alike s p q x h = subst (λ (r : States). IsCached s r.now) x.r_states h

pub used_alike : (s : ℕ) (p q : List Entry) → Alike p q → IsUsed s p → IsUsed s q
used_alike s p q x (inl c) = inl (cached_alike s p q x c)
used_alike s p q x (inr h) = inr (h.0, subst (FaultHolds s) (x.r_fault h.0) h.1)

abbrev pub KeepsPlace : List Entry → List Entry → Type 0
KeepsPlace p q = (fo : Folio) (n : ℕ) → IsPlaced fo n (newest_turn p) (flat (before_turn p)).cache → IsPlaced fo n (newest_turn q) (flat (before_turn q)).cache

free_alike : (fo : Folio) (n : ℕ) (p q : List Entry) → Alike p q → KeepsPlace p q → FreeIsRight fo n p → FreeIsRight fo n q
free_alike fo n p q x k f =
    let y = alike_sym p q x in
    record {
      some = f.some;
      live = λ j lt. subst (λ (r : States). frame_of (fo.serial + j) r.now.folios ≡ Some (fo.frame + j)) x.r_states (f.live j lt);
      not_cached = λ j lt c. f.not_cached j lt (cached_alike (fo.serial + j) q p y c);
      not_held = λ j lt h. f.not_held j lt (h.0, subst (FaultHolds (fo.serial + j)) (y.r_fault h.0) h.1);
      placed = k fo n f.placed;
    }

pub may_alike : (o : Orders) (w : What) (a : Actor) (p q : List Entry) → Alike p q → KeepsPlace p q → May o w a p → May o w a q
may_alike o Enter (Vcpu v) p q x k m = record { outside = sym (x.r_inside v) ∙ m.outside; no_fault = sym (x.r_fault v) ∙ m.no_fault; flushed_before = sym (x.r_pending v) ∙ m.flushed_before; waiting = subst IsWaiting (sym (next_alike o (Vcpu v) p q x)) m.waiting }
may_alike o Flush (Vcpu v) p q x k m = sym (x.r_pending v) ∙ m
may_alike o (Miss a) (Vcpu v) p q x k m =
    record {
      not_served = record {
        is_inside = sym (x.r_inside v) ∙ m.not_served.is_inside;
        no_fill = ap (λ (ms : List Mapping). first_serving a ms) (sym (x.r_fills v)) ∙ m.not_served.no_fill;
        no_leaf = ap (λ (ms : List Mapping). first_serving a ms) (sym x.r_leaves) ∙ m.not_served.no_leaf;
      };
      command = next_alike o (Vcpu v) p q x ∙ m.command;
    }
may_alike o (Sample at) (Vcpu v) p q x k m = (subst IsMissed (x.r_fault v) m.0, subst (RightSample at q) (x.r_fault v) (sample_alike at (fault v p) p q x m.1))
may_alike o (Look at slot attr file) (Vcpu v) p q x k m = (subst IsSampled (x.r_fault v) m.0, subst (RightSeen at slot attr file q) (x.r_fault v) (seen_alike at slot attr file (fault v p) p q x m.1))
may_alike o (Get b n) (Vcpu v) p q x k m = (
  subst IsLooked (x.r_fault v) m.0,
  subst (RightGet b n q) (x.r_fault v) (get_alike b n (fault v p) p q x m.1),
  subst (λ (z : Fault). RightGetAdds o.setup.frames n z (get_adds b n z (states q)) q) (x.r_fault v) (get_adds_alike o.setup.frames b n (fault v p) p q x m.2),
)
may_alike o (Install page level) (Vcpu v) p q x k m = (subst (MayInstall page q) (x.r_fault v) (install_alike page (fault v p) p q x m.0), level_alike level o.setup.huge page p q x m.1)
may_alike o Retry (Vcpu v) p q x k m = subst (MayRetry q) (x.r_fault v) (retry_alike (fault v p) p q x m)
may_alike o (Touch a b level value fill) (Vcpu v) p q x k m =
    record {
      is_inside = sym (x.r_inside v) ∙ m.is_inside;
      is_served = served_alike a b level fill v p q x m.is_served;
      right_value = subst (λ (n : ℕ). IsValue a.op n value) (word_alike b a.word p q x) m.right_value;
      command = next_alike o (Vcpu v) p q x ∙ m.command;
    }
may_alike o (Left why) (Vcpu v) p q x k m = (subst IsLooked (x.r_fault v) m.0, subst (RightExit o.setup.frames why q) (x.r_fault v) (left_alike o.setup.frames why (fault v p) p q x m.1))
may_alike o (Judge i) (Caller c) p q x k m = record { command = next_alike o (Caller c) p q x ∙ m.command; none_in_progress = sym (x.r_call c) ∙ m.none_in_progress; locks_free = λ w. m.locks_free (lock_alike c i q p (alike_sym p q x) w) }
may_alike o (Begin spans) (Caller c) p q x k m = (subst (λ (b : Option Bracket). Begins (call c q) b) (x.r_bracket c) (subst (λ (z : Option Call). Begins z (bracket c p)) (x.r_call c) m.0), subst (λ (z : Option Call). RightBegin o.setup spans.list z q) (x.r_call c) (begin_alike o.setup spans.list (call c p) p q x m.1))
may_alike o Acked (Caller c) p q x k m = subst (λ (b : Option Bracket). Acks b q) (x.r_bracket c) (acks_alike (bracket c p) p q x m)
may_alike o (Change e) (Caller c) p q x k m = (
  subst (λ (b : Option Bracket). Changes o.setup e (call c q) b q) (x.r_bracket c) (subst (λ (z : Option Call). Changes o.setup e z (bracket c p) q) (x.r_call c) (changes_alike o.setup e (call c p) (bracket c p) p q x m.0)),
  subst (λ (z : Option Call). RightChange o.setup e z q) (x.r_call c) (effect_alike o.setup e (call c p) p q x m.1),
)
may_alike o (Page i fo n) (Caller c) p q x k m = (
  sym (x.r_bracket c) ∙ m.0,
  subst (λ (z : Option Call). RightPage o.setup i z q) (x.r_call c) (page_alike o.setup i (call c p) p q x m.1),
  subst (λ (z : Option Call). RightPageAdds o.setup z (page_adds i fo n z (states q)) q) (x.r_call c) (page_adds_alike o.setup i fo n (call c p) p q x m.2),
)
may_alike o End (Caller c) p q x k m = subst (λ (b : Option Bracket). Ends (call c q) b) (x.r_bracket c) (subst (λ (z : Option Call). Ends z (bracket c p)) (x.r_call c) m)
may_alike o (Answer r) (Caller c) p q x k m = (sym (x.r_bracket c) ∙ m.0, subst (λ (z : Option Call). RightAnswer o.setup r z q) (x.r_call c) (answer_alike o.setup r (call c p) p q x m.1))
may_alike o (Free fo n) (Vcpu v) p q x k m = free_alike fo n p q x k m
may_alike o (Free fo n) (Caller c) p q x k m = free_alike fo n p q x k m
may_alike o Gone (Vcpu v) p q x k m = record { none_left = next_alike o (Vcpu v) p q x ∙ m.none_left; once = sym (x.r_gone (Vcpu v)) ∙ m.once }
may_alike o Gone (Caller c) p q x k m = record { none_left = next_alike o (Caller c) p q x ∙ m.none_left; once = sym (x.r_gone (Caller c)) ∙ m.once }
may_alike o _ a p q x k m = absurd m

-- who is blocked
wait_alike : (b : Option Bracket) (p q : List Entry) → Alike p q → WaitsToAck b p → WaitsToAck b q
wait_alike (Some b) p q x w = (w.0, flush_alike b p q x w.1)
wait_alike None p q x w = w

pub blocked_alike : (o : Orders) (a : Actor) (p q : List Entry) → Alike p q → IsBlocked o a p → IsBlocked o a q
blocked_alike o (Vcpu v) p q x w = w
blocked_alike o (Caller c) p q x (inl w) = inl (record { none_in_progress = sym (x.r_call c) ∙ w.none_in_progress; ioctl = w.ioctl; command = next_alike o (Caller c) p q x ∙ w.command; waits = lock_alike c w.ioctl p q x w.waits })
blocked_alike o (Caller c) p q x (inr w) = inr (subst (λ (b : Option Bracket). WaitsToAck b q) (x.r_bracket c) (wait_alike (bracket c p) p q x w))
