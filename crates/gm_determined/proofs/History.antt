-- A right history is determined by its orders and its turns, but for the spare room of spans.
use Rattle.std.proofs.Common.{◌&&◌, ◌++◌, ◌||◌, Bool, List, None, Option, Some, [], ap, cond, eqb, false, inl, inr, length, ltb, not, refl, subst, suc, sym, true, ℕ, ◌∙◌, ◌∷◌, ◌≡◌, ◌≤◌, ◌⊎◌}
use Rattle.std.proofs.lemmas.Bool.{and_from, and_parts}
use Rattle.gm_base.specs.Scripts.{Orders}
use Rattle.gm_base.specs.declared.script.Turn.{Turn}
use Rattle.gm_base.specs.declared.script.Turn.TheVariants.{Kick, Next}
use Rattle.gm_base.specs.declared.values.Actor.{Actor}
use Rattle.gm_base.specs.declared.values.Actor.TheVariants.{Caller, Vcpu}
use Rattle.gm_base.specs.declared.values.Folio.{Folio}
use Rattle.gm_base.specs.declared.values.Setup.{Setup}
use Rattle.gm_flat.specs.Calls.{Bracketed, Paged, Plan, Reads, Refused, Same, Short, mark_of, plan}
use Rattle.gm_flat.specs.FlatState.{Flat, Triple, is_live}
use Rattle.gm_flat.specs.Histories.{Call, before_turn, call, gone, is_mark, newest_turn, same_turn}
use Rattle.gm_flat.specs.Plays.{IsHere, IsOfTurn, IsPlayed, NoFall, Plays, PlaysTurn, actor_of, before_number, is_kick, turn_entries}
use Rattle.gm_flat.specs.Replay.{States, flat}
use Rattle.gm_flat.specs.RightHistory.{Each, Right}
use Rattle.gm_flat.specs.RightLives.{ComesAfter, IsPlaced, plan_of}
use Rattle.gm_flat.specs.RightOrder.{IsBlocked, IsTogether, IsWhole, are_frees, begins_by, is_begin_row, is_caller_row, is_first_row, is_marking, is_row, is_vcpu_row}
use Rattle.gm_flat.specs.declared.effect.Effect.{Effect}
use Rattle.gm_flat.specs.declared.entry.Entry.{Entry}
use Rattle.gm_flat.specs.declared.entry.What.{What}
use Rattle.gm_flat.specs.declared.entry.What.TheVariants.{Acked, Answer, Begin, Change, End, Enter, Flush, Free, Get, Gone, Install, Judge, Left, Look, Miss, Page, Retry, Sample, Touch}
use Rattle.gm_laws.proofs.RightIsRuled.{ruled}
use Rattle.gm_laws.specs.May.{May}
use Rattle.gm_laws.specs.Ruled.{AllFreed, Follows, FollowsRules, IsUsed, Ruled, loosened, loosens}
use Rattle.gm_flat.specs.InTypes.{roomless, roomless_entries}
use Rattle.gm_determined.specs.Determined.{LookedAt, PlaysAnyAt, SampledAt, Stamp, roomless_turn, stamps}
use Rattle.gm_determined.proofs.Alike.{Alike, alike, alike_sym}
use Rattle.gm_determined.proofs.Bare.{AllHere, Played, bare_same, here_stamps}
use Rattle.gm_determined.proofs.MayAlike.{KeepsPlace, blocked_alike, may_alike, used_alike}
use Rattle.gm_determined.proofs.Small.{false_true}

abbrev bare_entry : Entry → Entry
bare_entry e = record e { what = roomless e.what }

-- turns
more : (ws : List What) (w : What) → roomless_turn (ws ++ w ∷ []) ≡ roomless_turn ws ++ roomless w ∷ []
more [] w = refl
more (x ∷ ws) w = ap (λ (xs : List What). roomless x ∷ xs) (more ws w)

twice_what : (w : What) → roomless (roomless w) ≡ roomless w
twice_what (Begin spans) = refl
twice_what _ = refl

pub twice : (ws : List What) → roomless_turn (roomless_turn ws) ≡ roomless_turn ws
twice [] = refl
twice (w ∷ ws) = ap (λ (x : What). x ∷ roomless_turn (roomless_turn ws)) (twice_what w) ∙ ap (λ (xs : List What). roomless w ∷ xs) (twice ws)

same_bare : (e : Entry) (past : List Entry) → same_turn (bare_entry e) (roomless_entries past) ≡ same_turn e past
same_bare e [] = refl
same_bare e (d ∷ p) = refl

newest_by : (t : Bool) (ns : List What) (w : What) → cond t (roomless_turn ns ++ roomless w ∷ []) (roomless w ∷ []) ≡ roomless_turn (cond t (ns ++ w ∷ []) (w ∷ []))
newest_by true ns w = sym (more ns w)
newest_by false ns w = refl

newest_bare : (past : List Entry) → newest_turn (roomless_entries past) ≡ roomless_turn (newest_turn past)
newest_bare [] = refl
newest_bare (e ∷ past) =
    ap (λ (t : Bool). cond t (newest_turn (roomless_entries past) ++ roomless e.what ∷ []) (roomless e.what ∷ [])) (same_bare e past) ∙ (ap (λ (ws : List What). cond (same_turn e past) (ws ++ roomless e.what ∷ []) (roomless e.what ∷ [])) (newest_bare past) ∙ newest_by (same_turn e past) (newest_turn past) e.what)

cond_bare : (t : Bool) (p q : List Entry) → cond t (roomless_entries p) (roomless_entries q) ≡ roomless_entries (cond t p q)
cond_bare true p q = refl
cond_bare false p q = refl

before_bare : (past : List Entry) → before_turn (roomless_entries past) ≡ roomless_entries (before_turn past)
before_bare [] = refl
before_bare (e ∷ past) =
    ap (λ (t : Bool). cond t (before_turn (roomless_entries past)) (roomless_entries past)) (same_bare e past) ∙ (ap (λ (p : List Entry). cond (same_turn e past) p (roomless_entries past)) (before_bare past) ∙ cond_bare (same_turn e past) (before_turn past) past)

pub flat_bare : (past : List Entry) → flat (roomless_entries past) ≡ flat past
flat_bare past = ap (λ (s : States). s.now) (sym (alike past).r_states)

before_flat : (past : List Entry) → flat (before_turn (roomless_entries past)) ≡ flat (before_turn past)
before_flat past = ap flat (before_bare past) ∙ flat_bare (before_turn past)

-- rows
frees_bare : (ws : List What) → are_frees ws ≡ true → are_frees (roomless_turn ws) ≡ true
frees_bare [] e = refl
frees_bare (Free fo n ∷ ws) e = frees_bare ws e
frees_bare (_ ∷ ws) e = false_true e

vcpu_bare : (ws : List What) → is_vcpu_row ws ≡ true → is_vcpu_row (roomless_turn ws) ≡ true
vcpu_bare (Flush ∷ []) e = refl
vcpu_bare (Flush ∷ (Enter ∷ [])) e = refl
vcpu_bare (Enter ∷ []) e = refl
vcpu_bare (Touch a b l v f ∷ []) e = refl
vcpu_bare (Miss a ∷ []) e = refl
vcpu_bare (Sample at ∷ []) e = refl
vcpu_bare (Sample at ∷ (Look k s a f ∷ [])) e = refl
vcpu_bare (Look k s a f ∷ []) e = refl
vcpu_bare (Left why ∷ []) e = refl
vcpu_bare (Get b n ∷ []) e = refl
vcpu_bare (Install p l ∷ []) e = refl
vcpu_bare (Retry ∷ ws) e = frees_bare ws e
vcpu_bare (Gone ∷ []) e = refl
vcpu_bare _ e = false_true e

first_bare : (p : Plan) (ws : List What) → is_first_row p ws ≡ true → is_first_row p (roomless_turn ws) ≡ true
first_bare (Refused r) (Answer x ∷ []) e = refl
first_bare (Same r) (Answer x ∷ []) e = refl
first_bare (Reads r w) (Answer x ∷ []) e = refl
first_bare (Short r n) (Change f ∷ (Answer x ∷ [])) e = e
first_bare (Bracketed r s) [] e = refl
first_bare (Paged p) [] e = refl
first_bare _ ws e = false_true e

marking_bare : (m : Option Effect) (ws : List What) → is_marking m ws ≡ true → is_marking m (roomless_turn ws) ≡ true
marking_bare None [] e = refl
marking_bare (Some m) (Change d ∷ []) e = e
marking_bare m ws e = false_true e

begin_bare : (p : Plan) (ws : List What) → is_begin_row p ws ≡ true → is_begin_row p (roomless_turn ws) ≡ true
begin_bare (Bracketed f spans) ws e = marking_bare (mark_of f) ws e
begin_bare _ ws e = false_true e

begins_bare : (s : Setup) (z : Option Call) (ws : List What) (past : List Entry) → begins_by s z ws past ≡ true → begins_by s z (roomless_turn ws) (roomless_entries past) ≡ true
begins_bare s None ws past e = false_true e
begins_bare s (Some x) ws past e = begin_bare (plan_of s x (roomless_entries past)) ws (subst (λ (r : States). is_begin_row (plan s x.ioctl (r.before x.judged)) ws ≡ true) (alike past).r_states e)

caller_bare : (s : Setup) (c : ℕ) (ws : List What) (past : List Entry) → is_caller_row s c ws past ≡ true → is_caller_row s c (roomless_turn ws) (roomless_entries past) ≡ true
caller_bare s c (Judge i ∷ ws) past e = first_bare (plan s i (flat (roomless_entries past))) ws (subst (λ (f : Flat). is_first_row (plan s i f) ws ≡ true) (sym (flat_bare past)) e)
caller_bare s c (Begin x ∷ ws) past e = subst (λ (z : Option Call). begins_by s z (roomless_turn ws) (roomless_entries past) ≡ true) ((alike past).r_call c) (begins_bare s (call c past) ws past e)
caller_bare s c (Acked ∷ []) past e = refl
caller_bare s c (Change x ∷ ws) past e = let both = and_parts (not (is_mark x)) (are_frees ws) e in and_from (not (is_mark x)) (are_frees (roomless_turn ws)) both.0 (frees_bare ws both.1)
caller_bare s c (End ∷ (Answer x ∷ [])) past e = refl
caller_bare s c (Page i fo n ∷ []) past e = refl
caller_bare s c (Answer x ∷ []) past e = refl
caller_bare s c (Gone ∷ []) past e = refl
caller_bare s c _ past e = false_true e

pub row_bare : (s : Setup) (a : Actor) (ws : List What) (past : List Entry) → is_row s a ws past ≡ true → is_row s a (roomless_turn ws) (roomless_entries past) ≡ true
row_bare s (Vcpu v) ws past e = vcpu_bare ws e
row_bare s (Caller c) ws past e = caller_bare s c ws past e

whole_bare : (s : Setup) (past : List Entry) → IsWhole s past → IsWhole s (roomless_entries past)
whole_bare s [] h = tt
whole_bare s (e ∷ past) h =
    subst (λ (p : List Entry). is_row s e.actor (newest_turn (roomless_entries (e ∷ past))) p ≡ true) (sym (before_bare (e ∷ past)))
    (subst (λ (ws : List What). is_row s e.actor ws (roomless_entries (before_turn (e ∷ past))) ≡ true) (sym (newest_bare (e ∷ past))) (row_bare s e.actor (newest_turn (e ∷ past)) (before_turn (e ∷ past)) h))

-- frees
loosens_bare : (w : What) → loosens (roomless w) ≡ loosens w
loosens_bare (Begin spans) = refl
loosens_bare _ = refl

loosened_bare : (past : List Entry) → loosened (roomless_entries past) ≡ loosened past
loosened_bare [] = refl
loosened_bare (e ∷ past) =
    ap (λ (t : Bool). t || (same_turn (bare_entry e) (roomless_entries past) && loosened (roomless_entries past))) (loosens_bare e.what) ∙ (ap (λ (t : Bool). loosens e.what || (t && loosened (roomless_entries past))) (same_bare e past) ∙ ap (λ (t : Bool). loosens e.what || (same_turn e past && t)) (loosened_bare past))

pub freed_bare : (past : List Entry) → AllFreed past → AllFreed (roomless_entries past)
freed_bare past f = λ h s u.
    elim (f (sym (loosened_bare past) ∙ h) s (used_alike s (roomless_entries (before_turn past)) (before_turn past) (alike_sym (before_turn past) (roomless_entries (before_turn past)) (alike (before_turn past))) (subst (IsUsed s) (before_bare past) u))) [
      | inl y ↦ inl (used_alike s past (roomless_entries past) (alike past) y)
      | inr n ↦ inr (ap (λ (x : Flat). is_live s x.folios) (flat_bare past) ∙ n)
    ]

comes_bare : (index : ℕ) (fo : Folio) (cache : List Triple) (ws : List What) → ComesAfter index fo cache ws → ComesAfter index fo cache (roomless_turn ws)
comes_bare index fo cache [] h = h
comes_bare index fo cache (Free l n ∷ []) h = h
comes_bare index fo cache (Free l n ∷ (w ∷ ws)) h = comes_bare index fo cache (w ∷ ws) h
comes_bare index fo cache (_ ∷ ws) h = comes_bare index fo cache ws h

placed_bare : (fo : Folio) (n : ℕ) (ws : List What) (cache : List Triple) → IsPlaced fo n ws cache → IsPlaced fo n (roomless_turn ws) cache
placed_bare fo n (Change e ∷ fs) cache h = (h.0, h.1, comes_bare h.0 fo cache fs h.2)
placed_bare fo n (Retry ∷ []) cache h = h
placed_bare fo n _ cache h = absurd h

keeps_place : (past : List Entry) → KeepsPlace past (roomless_entries past)
keeps_place past fo n h =
    subst (λ (f : Flat). IsPlaced fo n (newest_turn (roomless_entries past)) f.cache) (sym (before_flat past))
    (subst (λ (ws : List What). IsPlaced fo n ws (flat (before_turn past)).cache) (sym (newest_bare past)) (placed_bare fo n (newest_turn past) (flat (before_turn past)).cache h))

-- the rules
may_roomless : (o : Orders) (w : What) (a : Actor) (past : List Entry) → May o w a past → May o (roomless w) a past
may_roomless o (Begin spans) (Caller c) past m = m
may_roomless o (Begin spans) (Vcpu v) past m = m
may_roomless o _ a past m = m

pub may_bare : (o : Orders) (w : What) (a : Actor) (past : List Entry) → May o w a past → May o (roomless w) a (roomless_entries past)
may_bare o w a past m = may_roomless o w a (roomless_entries past) (may_alike o w a past (roomless_entries past) (alike past) (keeps_place past) m)

together_bare : (e : Entry) (past : List Entry) → IsTogether e past → IsTogether (bare_entry e) (roomless_entries past)
together_bare e [] t = t
together_bare e (d ∷ p) t = t

rules_bare : (o : Orders) (e : Entry) (past : List Entry) → FollowsRules o e past → FollowsRules o (bare_entry e) (roomless_entries past)
rules_bare o e past f =
    record {
      actor_is = f.actor_is;
      together = together_bare e past f.together;
      row = λ n. whole_bare o.setup past (f.row (sym (same_bare e past) ∙ n));
      freed = λ n. freed_bare past (f.freed (sym (same_bare e past) ∙ n));
      begins_turn = λ l. same_bare e past ∙ f.begins_turn (sym (loosens_bare e.what) ∙ l);
      may = may_bare o e.what e.actor past f.may;
    }

follows_bare : (o : Orders) (past : List Entry) → Follows o past → Follows o (roomless_entries past)
follows_bare o [] f = tt
follows_bare o (e ∷ past) f = (rules_bare o e past f.0, follows_bare o past f.1)

pub ruled_bare : (o : Orders) (past : List Entry) → Ruled o past → Ruled o (roomless_entries past)
ruled_bare o past r = record { follows = follows_bare o past r.follows; row = whole_bare o.setup past r.row; freed = freed_bare past r.freed }

-- the turns of a script
each_bare : (P Q : Entry → List Entry → Type 0) → ((e : Entry) (past : List Entry) → P e past → Q (bare_entry e) (roomless_entries past)) → (past : List Entry) → Each P past → Each Q (roomless_entries past)
each_bare P Q f [] x = tt
each_bare P Q f (e ∷ past) x = (f e past x.0, each_bare P Q f past x.1)

fall_bare : (e : Entry) (past : List Entry) → NoFall e past → NoFall (bare_entry e) (roomless_entries past)
fall_bare e [] n = n
fall_bare e (d ∷ p) n = n

here_bare : (e : Entry) (past : List Entry) → IsHere e.what (same_turn e past) past → IsHere (roomless e.what) (same_turn (bare_entry e) (roomless_entries past)) (roomless_entries past)
here_bare e past h = go e.what (same_turn e past) (same_turn (bare_entry e) (roomless_entries past)) (same_bare e past) h
  where
    go : (w : What) (t u : Bool) → u ≡ t → IsHere w t past → IsHere (roomless w) u (roomless_entries past)
    go (Sample at) t u q x = x ∙ (alike past).r_length
    go (Look at s a f) t u q x = (x.0 ∙ (alike past).r_length, q ∙ x.1)
    go (Begin spans) t u q x = x
    go _ t u q x = x

cond_turn : (t : Bool) (w : What) (ws : List What) → cond t (roomless_turn ws ++ roomless w ∷ []) (roomless_turn ws) ≡ roomless_turn (cond t (ws ++ w ∷ []) ws)
cond_turn true w ws = sym (more ws w)
cond_turn false w ws = refl

entries_bare : (k : ℕ) (past : List Entry) → turn_entries k (roomless_entries past) ≡ roomless_turn (turn_entries k past)
entries_bare k [] = refl
entries_bare k (e ∷ past) = ap (λ (ws : List What). cond (eqb e.turn k) (ws ++ roomless e.what ∷ []) ws) (entries_bare k past) ∙ cond_turn (eqb e.turn k) e.what (turn_entries k past)

number_bare : (k : ℕ) (past : List Entry) → before_number k (roomless_entries past) ≡ roomless_entries (before_number k past)
number_bare k [] = refl
number_bare k (e ∷ past) = ap (λ (p : List Entry). cond (ltb e.turn k) (roomless_entries (e ∷ past)) p) (number_bare k past) ∙ cond_bare (ltb e.turn k) (e ∷ past) (before_number k past)

pub kick_bare : (ws : List What) → is_kick (roomless_turn ws) ≡ is_kick ws
kick_bare [] = refl
kick_bare (Flush ∷ []) = refl
kick_bare (Flush ∷ (w ∷ ws)) = refl
kick_bare (Begin spans ∷ ws) = refl
kick_bare (_ ∷ ws) = refl

nil_bare : (ws : List What) → roomless_turn ws ≡ [] → ws ≡ []
nil_bare [] e = refl
nil_bare (w ∷ ws) e = absurd (none (roomless w) (roomless_turn ws) e)
  where
    none : (w : What) (ws : List What) → w ∷ ws ≡ [] → ⊥
    none w ws e = cc

silent_alike : (o : Orders) (a : Actor) (p q : List Entry) → Alike p q → (gone a p ≡ true) ⊎ IsBlocked o a p → (gone a q ≡ true) ⊎ IsBlocked o a q
silent_alike o a p q x (inl g) = inl (sym (x.r_gone a) ∙ g)
silent_alike o a p q x (inr b) = inr (blocked_alike o a p q x b)

played_bare : (o : Orders) (t : Turn) (ws : List What) (p q : List Entry) → Alike p q → IsPlayed o t ws p → IsPlayed o t (roomless_turn ws) q
played_bare o (Next a) ws p q x h = (
  kick_bare ws ∙ h.0,
  ((λ e. silent_alike o a p q x (h.1.0 (nil_bare ws e))), (λ s. ap roomless_turn (h.1.1 (silent_alike o a q p (alike_sym p q x) s)))),
)
played_bare o (Kick v) ws p q x h = (
  elim h.0 [ inl e ↦ inl (ap roomless_turn e) | inr k ↦ inr (kick_bare ws ∙ k) ],
  ((λ e. sym (x.r_pending v) ∙ h.1.0 (nil_bare ws e)), (λ n. ap roomless_turn (h.1.1 (x.r_pending v ∙ n)))),
)

turn_bare : (o : Orders) (k : ℕ) (t : Turn) (past : List Entry) → PlaysTurn o k t past → PlaysTurn o k t (roomless_entries past)
turn_bare o k t past p =
    record {
      of_actor = each_bare (IsOfTurn k (actor_of t)) (IsOfTurn k (actor_of t)) (λ e q x. x) past p.of_actor;
      played = subst (λ (q : List Entry). IsPlayed o t (turn_entries k (roomless_entries past)) q) (sym (number_bare k past))
          (subst (λ (ws : List What). IsPlayed o t ws (roomless_entries (before_number k past))) (sym (entries_bare k past)) (played_bare o t (turn_entries k past) (before_number k past) (roomless_entries (before_number k past)) (alike (before_number k past)) p.played));
    }

pub any_bare : (o : Orders) (ts : List Turn) (past : List Entry) → PlaysAnyAt o ts past → PlaysAnyAt o ts (roomless_entries past)
any_bare o ts past p =
    record {
      no_fall = each_bare NoFall NoFall fall_bare past p.no_fall;
      in_range = each_bare (λ e q. (1 ≤ e.turn) × (e.turn ≤ length ts)) (λ e q. (1 ≤ e.turn) × (e.turn ≤ length ts)) (λ e q x. x) past p.in_range;
      each_turn = λ k t e. turn_bare o (suc k) t past (p.each_turn k t e);
    }

bare_played : (o : Orders) (ts : List Turn) (past : List Entry) → Right o past → PlaysAnyAt o ts past → Played o ts (roomless_entries past)
bare_played o ts past r p =
    record {
      rules = ruled_bare o past (ruled o past r);
      plays = any_bare o ts past p;
      bare = λ k. ap roomless_turn (entries_bare k past) ∙ (twice (turn_entries k past) ∙ sym (entries_bare k past));
    }

any_at : (o : Orders) (ts : List Turn) (past : List Entry) → Plays o ts past → PlaysAnyAt o ts past
any_at o ts past p = record { no_fall = p.no_fall; in_range = p.in_range; each_turn = p.each_turn }

here_of : (o : Orders) (ts : List Turn) (past : List Entry) → Plays o ts past → AllHere (roomless_entries past)
here_of o ts past p = each_bare (λ e q. IsHere e.what (same_turn e q) q) (λ e q. IsHere e.what (same_turn e q) q) here_bare past p.here

pub histories_same : (o : Orders) (ts : List Turn) (g h : List Entry) → Right o g → Right o h → Plays o ts g → Plays o ts h → roomless_entries g ≡ roomless_entries h
histories_same o ts g h r s p q =
    let x = bare_played o ts g r (any_at o ts g p) in
    let y = bare_played o ts h s (any_at o ts h q) in
    bare_same o ts (roomless_entries g) (roomless_entries h) x y (here_stamps o ts (roomless_entries g) (roomless_entries h) x y (here_of o ts g p) (here_of o ts h q))

-- with older positions
pub stamps_bare : (ws : List What) → stamps (roomless_turn ws) ≡ stamps ws
stamps_bare [] = refl
stamps_bare (Sample at ∷ ws) = ap (λ (xs : List Stamp). SampledAt at ∷ xs) (stamps_bare ws)
stamps_bare (Look at slot attr file ∷ ws) = ap (λ (xs : List Stamp). LookedAt at ∷ xs) (stamps_bare ws)
stamps_bare (Begin spans ∷ ws) = stamps_bare ws
stamps_bare (_ ∷ ws) = stamps_bare ws

turn_stamps : (k : ℕ) (past : List Entry) → stamps (turn_entries k (roomless_entries past)) ≡ stamps (turn_entries k past)
turn_stamps k past = ap stamps (entries_bare k past) ∙ stamps_bare (turn_entries k past)

pub stamped_same : (o : Orders) (ts : List Turn) (g h : List Entry) → Right o g → Right o h → PlaysAnyAt o ts g → PlaysAnyAt o ts h → ((k : ℕ) → stamps (turn_entries k g) ≡ stamps (turn_entries k h)) → roomless_entries g ≡ roomless_entries h
stamped_same o ts g h r s p q st =
    bare_same o ts (roomless_entries g) (roomless_entries h) (bare_played o ts g r p) (bare_played o ts h s q)
    (λ n t e ih. turn_stamps (suc n) g ∙ (st (suc n) ∙ sym (turn_stamps (suc n) h)))
