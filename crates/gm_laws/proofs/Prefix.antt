-- In a right history a Change that cuts, and a Retry, begin their turn.
use Rattle.std.proofs.Common.{◌&&◌, ◌++◌, ◌<◌, Bool, List, None, Option, Some, [], ap, append-nil, append_assoc, arith, cond, eqb, false, inl, inr, not, refl, subst, sym, true, ℕ, ◌∙◌, ◌∷◌, ◌≡◌}
use Rattle.std.proofs.lemmas.Bool.{and_parts, both_ways, cond-true}
use Rattle.std.proofs.lemmas.Bool.Decides.{nat_tests}
use Rattle.gm_base.specs.Scripts.{Orders}
use Rattle.gm_base.specs.declared.calls.Ioctl.{Ioctl}
use Rattle.gm_base.specs.declared.values.Actor.{Actor}
use Rattle.gm_base.specs.declared.values.Actor.TheVariants.{Caller, Vcpu}
use Rattle.gm_base.specs.declared.values.Setup.{Setup}
use Rattle.gm_flat.specs.Calls.{Bracketed, Paged, Plan, Reads, Refused, Same, Short, mark_of, plan}
use Rattle.gm_flat.specs.FlatState.{Flat}
use Rattle.gm_flat.specs.Histories.{Bracket, Call, before_turn, bracket, call, is_mark, newest_turn, same_turn}
use Rattle.gm_flat.specs.Replay.{flat, flat_at}
use Rattle.gm_flat.specs.RightCalls.{RightCalls}
use Rattle.gm_flat.specs.RightLives.{plan_of}
use Rattle.gm_flat.specs.RightOrder.{IsTogether, IsWhole, RightOrder, StepIs, are_frees, begins_by, is_begin_row, is_caller_row, is_first_row, is_marking, is_row, is_vcpu_row}
use Rattle.gm_flat.specs.declared.effect.Effect.{Effect}
use Rattle.gm_flat.specs.declared.effect.Effect.TheVariants.{Attr, Cut, File, Mark, Move, NoSlot, Shut, Slot, Word}
use Rattle.gm_flat.specs.declared.entry.Entry.{Entry}
use Rattle.gm_flat.specs.declared.entry.What.{What}
use Rattle.gm_flat.specs.declared.entry.What.TheVariants.{Acked, Answer, Begin, Change, End, Enter, Flush, Free, Get, Gone, Install, Judge, Left, Look, Miss, Page, Retry, Sample, Touch}
use Rattle.gm_laws.proofs.Fates.{rest}
use Rattle.gm_laws.proofs.Kit.{by, by_test, none_is}
use Rattle.gm_laws.proofs.Locks.{ChangeIn, Locks, MarkIn}
use Rattle.gm_laws.proofs.LocksKeep.{CanChange, can_change}
use Rattle.gm_laws.proofs.Plans.{Fits, fits}
use Rattle.gm_laws.proofs.Rows.{false_true}
use Rattle.gm_laws.specs.Ruled.{cuts, loosens}

abbrev pub none_loose : List What → Bool
none_loose [] = true
none_loose (w ∷ ws) = cond (loosens w) false (none_loose ws)

-- none of the further entries cuts or retries, but maybe the Change right after a Judge
abbrev pub tail_quiet : List What → Bool
tail_quiet [] = true
tail_quiet (Judge i ∷ (Change e ∷ ws)) = none_loose ws
tail_quiet (w ∷ ws) = none_loose ws

frees_quiet : (ws : List What) → are_frees ws ≡ true → none_loose ws ≡ true
frees_quiet [] e = refl
frees_quiet (Free fo n ∷ ws) e = frees_quiet ws e
frees_quiet (_ ∷ ws) e = false_true e

vcpu_quiet : (ws : List What) → is_vcpu_row ws ≡ true → tail_quiet ws ≡ true
vcpu_quiet (Flush ∷ []) e = refl
vcpu_quiet (Flush ∷ (Enter ∷ [])) e = refl
vcpu_quiet (Enter ∷ []) e = refl
vcpu_quiet (Touch a b l v f ∷ []) e = refl
vcpu_quiet (Miss a ∷ []) e = refl
vcpu_quiet (Sample at ∷ []) e = refl
vcpu_quiet (Sample at ∷ (Look k s a f ∷ [])) e = refl
vcpu_quiet (Look k s a f ∷ []) e = refl
vcpu_quiet (Left why ∷ []) e = refl
vcpu_quiet (Get b n ∷ []) e = refl
vcpu_quiet (Install p l ∷ []) e = refl
vcpu_quiet (Retry ∷ ws) e = frees_quiet ws e
vcpu_quiet (Gone ∷ []) e = refl
vcpu_quiet _ e = false_true e

first_quiet : (p : Plan) (i : Ioctl) (ws : List What) → is_first_row p ws ≡ true → tail_quiet (Judge i ∷ ws) ≡ true
first_quiet (Refused r) i (Answer x ∷ []) e = refl
first_quiet (Same r) i (Answer x ∷ []) e = refl
first_quiet (Reads r w) i (Answer x ∷ []) e = refl
first_quiet (Short r n) i (Change f ∷ (Answer x ∷ [])) e = refl
first_quiet (Bracketed r s) i [] e = refl
first_quiet (Paged p) i [] e = refl
first_quiet _ i ws e = false_true e

-- a mark cuts nothing
mark_cuts : (e : Effect) → is_mark e ≡ true → cuts e ≡ false
mark_cuts (Mark id) h = refl
mark_cuts (Slot id base pages user flags file index) h = false_true h
mark_cuts (NoSlot id) h = false_true h
mark_cuts (Move id base) h = false_true h
mark_cuts (Attr span kind) h = false_true h
mark_cuts (Cut F lo hi) h = false_true h
mark_cuts (Shut F) h = false_true h
mark_cuts (File file pages block) h = false_true h
mark_cuts (Word page word value) h = false_true h

marking_quiet : (m : Option Effect) (ws : List What) → is_marking m ws ≡ true → none_loose ws ≡ true
marking_quiet None [] e = refl
marking_quiet (Some m) (Change f ∷ []) e = let c : cuts f ≡ false = mark_cuts f e in rw c refl
marking_quiet _ ws e = false_true e

begin_quiet : (p : Plan) (ws : List What) → is_begin_row p ws ≡ true → none_loose ws ≡ true
begin_quiet (Bracketed f spans) ws e = marking_quiet (mark_of f) ws e
begin_quiet _ ws e = false_true e

begins_quiet : (s : Setup) (x : Option Call) (ws : List What) (before : List Entry) → begins_by s x ws before ≡ true → none_loose ws ≡ true
begins_quiet s None ws before e = false_true e
begins_quiet s (Some x) ws before e = begin_quiet (plan_of s x before) ws e

caller_quiet : (s : Setup) (c : ℕ) (ws : List What) (before : List Entry) → is_caller_row s c ws before ≡ true → tail_quiet ws ≡ true
caller_quiet s c (Judge i ∷ ws) before e = first_quiet (plan s i (flat before)) i ws e
caller_quiet s c (Begin x ∷ ws) before e = begins_quiet s (call c before) ws before e
caller_quiet s c (Acked ∷ []) before e = refl
caller_quiet s c (Change x ∷ ws) before e = frees_quiet ws (and_parts (not (is_mark x)) (are_frees ws) e).1
caller_quiet s c (End ∷ (Answer x ∷ [])) before e = refl
caller_quiet s c (Page i fo n ∷ []) before e = refl
caller_quiet s c (Answer x ∷ []) before e = refl
caller_quiet s c (Gone ∷ []) before e = refl
caller_quiet s c _ before e = false_true e

pub row_quiet : (s : Setup) (a : Actor) (ws : List What) (before : List Entry) → is_row s a ws before ≡ true → tail_quiet ws ≡ true
row_quiet s (Vcpu v) ws before e = vcpu_quiet ws e
row_quiet s (Caller c) ws before e = caller_quiet s c ws before e

quiet_here : (t x : Bool) → cond t false x ≡ true → (t ≡ false) × (x ≡ true)
quiet_here true x e = false_true e
quiet_here false x e = (refl, e)

quiet_in : (ws : List What) (w : What) (rest : List What) → none_loose (ws ++ w ∷ rest) ≡ true → loosens w ≡ false
quiet_in [] w rest e = (quiet_here (loosens w) (none_loose rest) e).0
quiet_in (x ∷ ws) w rest e = quiet_in ws w rest (quiet_here (loosens x) (none_loose (ws ++ w ∷ rest)) e).1

-- from the third on
third_on : (x y : What) (ws : List What) → tail_quiet (x ∷ (y ∷ ws)) ≡ true → none_loose ws ≡ true
third_on (Judge i) (Change e) ws q = q
third_on (Judge i) y ws q = (quiet_here (loosens y) (none_loose ws) q).1
third_on x y ws q = (quiet_here (loosens y) (none_loose ws) q).1

abbrev pub IsJudge : What → Type 0
IsJudge (Judge i) = Unit {0}
IsJudge _ = ⊥

second : (x w : What) (ws : List What) → tail_quiet (x ∷ (w ∷ ws)) ≡ true → loosens w ≡ true → IsJudge x
second (Judge i) w ws q l = tt
second x w ws q l = absurd (both_ways (loosens w) (quiet_here (loosens w) (none_loose ws) q).0 l)

-- an entry that loosens and doesn't begin its turn comes right after a Judge
abbrev pub IsOneJudge : List What → Type 0
IsOneJudge [] = Unit {0}
IsOneJudge (x ∷ []) = IsJudge x
IsOneJudge (x ∷ (y ∷ ws)) = ⊥

pub late_loose : (ws : List What) (w : What) (rest : List What) → tail_quiet (ws ++ w ∷ rest) ≡ true → loosens w ≡ true → IsOneJudge ws
late_loose [] w rest q l = tt
late_loose (x ∷ []) w rest q l = second x w rest q l
late_loose (x ∷ (y ∷ ws)) w rest q l = absurd (both_ways (loosens w) (quiet_in ws w rest (third_on x y (ws ++ w ∷ rest) q)) l)

-- so the entry before is that Judge
not_empty : (d : Entry) (p : List Entry) (w : What) → IsOneJudge (newest_turn (d ∷ p) ++ w ∷ []) → ⊥
not_empty d p w h = go (same_turn d p) (newest_turn p) h
  where
    go : (t : Bool) (ws : List What) → IsOneJudge (cond t (ws ++ d.what ∷ []) (d.what ∷ []) ++ w ∷ []) → ⊥
    go true [] h = h
    go true (x ∷ []) h = h
    go true (x ∷ (y ∷ ws)) h = h
    go false ws h = h

pub last_judge : (d : Entry) (p : List Entry) → IsOneJudge (newest_turn (d ∷ p)) → IsJudge d.what
last_judge d [] h = h
last_judge d (e ∷ p) h = go (same_turn d (e ∷ p)) h
  where
    go : (t : Bool) → IsOneJudge (cond t (newest_turn (e ∷ p) ++ d.what ∷ []) (d.what ∷ [])) → IsJudge d.what
    go true h = absurd (not_empty e p d.what h)
    go false h = h

-- each front of a turn begins a row
abbrev pub IsBegun : Setup → List Entry → Type 0
IsBegun s [] = Unit {0}
IsBegun s (e ∷ past) = (rest : List What) × (is_row s e.actor (newest_turn (e ∷ past) ++ rest) (before_turn (e ∷ past)) ≡ true)

pub whole_begun : (s : Setup) (past : List Entry) → IsWhole s past → IsBegun s past
whole_begun s [] h = tt
whole_begun s (e ∷ past) h = ([], subst (λ (ws : List What). is_row s e.actor ws (before_turn (e ∷ past)) ≡ true) (sym (append-nil (newest_turn (e ∷ past)))) h)

pub same_row_actor : (d e : Entry) (p : List Entry) → eqb d.turn e.turn ≡ true → IsTogether e (d ∷ p) → d.actor ≡ e.actor
same_row_actor d e p t (inl x) = x.1
same_row_actor d e p t (inr x) = absurd (apart d.turn e.turn t x)
  where
    apart : (a b : ℕ) → eqb a b ≡ true → a < b → ⊥
    apart a b h k = grind (arith, nat_tests)

abbrev RowOf : Setup → Actor → List What → List What → List Entry → Type 0
RowOf s a ws rest before = is_row s a (ws ++ rest) before ≡ true

-- the row that a turn with one more entry begins
same_begun : (s : Setup) (e d : Entry) (p : List Entry) (rest : List What) → same_turn e (d ∷ p) ≡ true → is_row s e.actor (newest_turn (e ∷ (d ∷ p)) ++ rest) (before_turn (e ∷ (d ∷ p))) ≡ true → is_row s e.actor (newest_turn (d ∷ p) ++ e.what ∷ rest) (before_turn (d ∷ p)) ≡ true
same_begun s e d p rest t h =
    let a : newest_turn (e ∷ (d ∷ p)) ≡ newest_turn (d ∷ p) ++ e.what ∷ [] = cond-true (same_turn e (d ∷ p)) (newest_turn (d ∷ p) ++ e.what ∷ []) (e.what ∷ []) t in
    let b : before_turn (e ∷ (d ∷ p)) ≡ before_turn (d ∷ p) = cond-true (same_turn e (d ∷ p)) (before_turn (d ∷ p)) (d ∷ p) t in
    let c : RowOf s e.actor (newest_turn (d ∷ p) ++ e.what ∷ []) rest (before_turn (d ∷ p)) = subst (λ (q : List Entry). RowOf s e.actor (newest_turn (d ∷ p) ++ e.what ∷ []) rest q) b (subst (λ (ws : List What). RowOf s e.actor ws rest (before_turn (e ∷ (d ∷ p)))) a h) in
    subst (λ (ws : List What). is_row s e.actor ws (before_turn (d ∷ p)) ≡ true) (append_assoc (newest_turn (d ∷ p)) (e.what ∷ []) rest) c

pub begun_back : (o : Orders) (e : Entry) (past : List Entry) → RightOrder o e past → IsBegun o.setup (e ∷ past) → IsBegun o.setup past
begun_back o e [] r b = tt
begun_back o e (d ∷ p) r b = by_test (same_turn e (d ∷ p))
    (λ t. (e.what ∷ b.0, subst (λ (a : Actor). is_row o.setup a (newest_turn (d ∷ p) ++ e.what ∷ b.0) (before_turn (d ∷ p)) ≡ true) (sym (same_row_actor d e p t r.together)) (same_begun o.setup e d p b.0 t b.1)))
    (λ n. whole_begun o.setup (d ∷ p) (r.whole_before n))

pub after_judge : (s : Setup) (e d : Entry) (p : List Entry) → IsBegun s (e ∷ (d ∷ p)) → same_turn e (d ∷ p) ≡ true → loosens e.what ≡ true → IsJudge d.what
after_judge s e d p b t l = last_judge d p (late_loose (newest_turn (d ∷ p)) e.what b.0 (row_quiet s e.actor (newest_turn (d ∷ p) ++ e.what ∷ b.0) (before_turn (d ∷ p)) (same_begun s e d p b.0 t b.1)) l)

-- and such a Change isn't made right after its Judge
short_cut : (e : Effect) (i : Ioctl) (f : Flat) (n : ℕ) → cuts e ≡ true → Fits i f (Short e n) → ⊥
short_cut (Cut F lo hi) i f n c x = x
short_cut (Shut F) i f n c x = x
short_cut (Slot id base pages user flags file index) i f n c x = both_ways false refl c
short_cut (Mark id) i f n c x = both_ways false refl c
short_cut (NoSlot id) i f n c x = both_ways false refl c
short_cut (Move id base) i f n c x = both_ways false refl c
short_cut (Attr span kind) i f n c x = both_ways false refl c
short_cut (File file pages block) i f n c x = both_ways false refl c
short_cut (Word page word value) i f n c x = both_ways false refl c

no_bracket : (o : Orders) (c : ℕ) (p : List Entry) → Locks o.setup p → call c p ≡ None → bracket c p ≡ None
no_bracket o c p k e = go (bracket c p) refl
  where
    go : (b : Option Bracket) → bracket c p ≡ b → b ≡ None
    go None q = refl
    go (Some b) q = let x = k.planned c b q in absurd (none_is x.0 (sym e ∙ x.1))

none_change : (s : Setup) (e : Effect) (past : List Entry) (x : Option Call) (b : Option Bracket) → b ≡ None → cuts e ≡ true → CanChange s e past x b → ⊥
none_change s e past None b q c m = m
none_change s e past (Some x) b q c m = elim m.1 [
  | inl k ↦ no_short s e past x b q c k.1
  | inr k ↦ subst (λ (z : Option Bracket). MarkIn s e past x z) q k
]
  where
    no_short : (s : Setup) (e : Effect) (past : List Entry) (x : Call) (b : Option Bracket) → b ≡ None → cuts e ≡ true → ChangeIn s e past x b → ⊥
    no_short s e past x b q c m =
        let y : ChangeIn s e past x None = subst (λ (z : Option Bracket). ChangeIn s e past x z) q m in
        short_cut e x.ioctl (flat_at x.judged past) y.1.0 c (subst (λ (p : Plan). Fits x.ioctl (flat_at x.judged past) p) y.1.1 (fits s x.ioctl (flat_at x.judged past)))

judge_cut : (o : Orders) (t : ℕ) (w : What) (a : Actor) (c : ℕ) (p : List Entry) (e : Effect) → Locks o.setup p → IsJudge w → a ≡ Caller c → StepIs o w a p → cuts e ≡ true → CanChange o.setup e (by t a w ∷ p) (call c (by t a w ∷ p)) (bracket c (by t a w ∷ p)) → ⊥
judge_cut o t (Judge i) (Caller d) c p e k j same step q m =
    none_change o.setup e (by t (Caller d) (Judge i) ∷ p) (call c (by t (Caller d) (Judge i) ∷ p)) (bracket c p) (ap (λ (x : ℕ). bracket x p) (sym (caller_same d c same)) ∙ no_bracket o d p k step.none_in_progress) q m
  where
    caller_same : (d c : ℕ) → Caller d ≡ Caller c → d ≡ c
    caller_same d c e = cc
judge_cut o t (Judge i) (Vcpu v) c p e k j same step q m = step
judge_cut o t w a c p e k j same step q m = absurd j

pub loose_first : (o : Orders) (w : What) (a : Actor) (d : Entry) (p : List Entry) → Locks o.setup p → d.actor ≡ a → IsJudge d.what → StepIs o d.what d.actor p → StepIs o w a (d ∷ p) → RightCalls o.setup w a (d ∷ p) → loosens w ≡ true → ⊥
loose_first o (Change e) (Caller c) d p k same j sd st calls l = judge_cut o d.turn d.what d.actor c p e k j same sd l (can_change o.setup e (d ∷ p) (call c (d ∷ p)) (bracket c (d ∷ p)) (st, calls))
loose_first o (Change e) (Vcpu v) d p k same j sd st calls l = st
loose_first o Retry (Vcpu v) d p k same j sd st calls l = judge_vcpu d.what d.actor j sd same
  where
    judge_vcpu : (x : What) (a : Actor) → IsJudge x → StepIs o x a p → a ≡ Vcpu v → ⊥
    judge_vcpu (Judge i) (Caller c) j sd same = clash same
      where
        clash : Caller c ≡ Vcpu v → ⊥
        clash e = cc
    judge_vcpu (Judge i) (Vcpu u) j sd same = sd
    judge_vcpu x a j sd same = j
loose_first o Retry (Caller c) d p k same j sd st calls l = st
loose_first o w a d p k same j sd st calls l = both_ways false refl l
