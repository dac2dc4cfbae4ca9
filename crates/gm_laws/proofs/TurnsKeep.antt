-- A whole turn by the tables keeps a history ruled.
use Rattle.std.proofs.Common.{◌++◌, ◌<◌, Bool, List, [], ap, append-nil, append_assoc, arith, eq-eqb, eqb, false, inl, inr, refl, subst, sym, true, ℕ, ◌∙◌, ◌∷◌, ◌≡◌}
use Rattle.std.proofs.lemmas.Bool.{both_ways, cond-false, cond-true}
use Rattle.std.proofs.lemmas.Bool.Decides.{nat_tests}
use Rattle.gm_base.specs.Scripts.{IsOf, Orders}
use Rattle.gm_base.specs.declared.values.Actor.{Actor}
use Rattle.gm_base.specs.declared.values.Actor.TheVariants.{Caller, Vcpu}
use Rattle.gm_base.specs.declared.values.Setup.{Setup}
use Rattle.gm_flat.specs.FlatState.{Flat}
use Rattle.gm_flat.specs.Histories.{before_turn, newest_turn, same_turn}
use Rattle.gm_flat.specs.Replay.{flat}
use Rattle.gm_flat.specs.RightOrder.{IsTogether, is_row}
use Rattle.gm_flat.specs.declared.entry.Entry.{Entry}
use Rattle.gm_flat.specs.declared.entry.What.{What}
use Rattle.gm_laws.proofs.Kit.{by}
use Rattle.gm_laws.proofs.Prefix.{IsOneJudge, last_judge, late_loose, loose_first, row_quiet}
use Rattle.gm_laws.proofs.Rows.{false_true}
use Rattle.gm_laws.proofs.RuledIsRight.{right_calls, step_is}
use Rattle.gm_laws.proofs.Touches.{locks}
use Rattle.gm_laws.specs.May.{May}
use Rattle.gm_laws.specs.Ruled.{AllFreed, Follows, FollowsRules, Ruled, loosened, loosens}
use Rattle.gm_laws.specs.Turns.{EachMay, IsNewTurn, IsTurn, onto}

pub new_turn : (t : ℕ) (a : Actor) (w : What) (past : List Entry) → IsNewTurn t past → same_turn (by t a w) past ≡ false
new_turn t a w [] n = refl
new_turn t a w (d ∷ past) n = less_not d.turn t n
  where
    less_not : (x y : ℕ) → x < y → eqb x y ≡ false
    less_not x y h = grind (arith, nat_tests)

new_together : (t : ℕ) (a : Actor) (w : What) (past : List Entry) → IsNewTurn t past → IsTogether (by t a w) past
new_together t a w [] n = n
new_together t a w (d ∷ past) n = inr n

-- a turn that has begun with these entries
record Begun (o : Orders) (t : ℕ) (a : Actor) (pre : List What) (d : Entry) (p past : List Entry) : Type 0 where
  turn_is : d.turn ≡ t
  same_a : d.actor ≡ a
  entries : newest_turn (d ∷ p) ≡ pre
  before : before_turn (d ∷ p) ≡ past

-- what comes right after a Judge of the same caller doesn't cut
not_late : (o : Orders) (t : ℕ) (a : Actor) (w : What) (pre ws : List What) (d : Entry) (p past : List Entry) → Begun o t a pre d p past → is_row o.setup a (pre ++ w ∷ ws) past ≡ true → Follows o (d ∷ p) → May o w a (d ∷ p) → loosens w ≡ true → ⊥
not_late o t a w pre ws d p past b r f m l =
    loose_first o w a d p (locks o p f.1) b.same_a
    (last_judge d p (subst IsOneJudge (sym b.entries) (late_loose pre w ws (row_quiet o.setup a (pre ++ w ∷ ws) past r) l)))
    (step_is o d.what d.actor p f.0.may) (step_is o w a (d ∷ p) m) (right_calls o w a (d ∷ p) m) l

no_loose : (x : Bool) → (x ≡ true → ⊥) → x ≡ true → {y : Bool} → y ≡ false
no_loose x n h = absurd (n h)

next_rules : (o : Orders) (t : ℕ) (a : Actor) (w : What) (pre ws : List What) (d : Entry) (p past : List Entry) → IsOf o.setup a → Begun o t a pre d p past → is_row o.setup a (pre ++ w ∷ ws) past ≡ true → Follows o (d ∷ p) → May o w a (d ∷ p) → FollowsRules o (by t a w) (d ∷ p)
next_rules o t a w pre ws d p past is b r f m =
    let same : same_turn (by t a w) (d ∷ p) ≡ true = eq-eqb d.turn t b.turn_is in
    record {
      actor_is = is;
      together = inl (b.turn_is, b.same_a);
      row = λ n. absurd (both_ways (same_turn (by t a w) (d ∷ p)) n same);
      freed = λ n. absurd (both_ways (same_turn (by t a w) (d ∷ p)) n same);
      begins_turn = λ l. absurd (not_late o t a w pre ws d p past b r f m l);
      may = m;
    }

next_begun : (o : Orders) (t : ℕ) (a : Actor) (w : What) (pre : List What) (d : Entry) (p past : List Entry) → Begun o t a pre d p past → Begun o t a (pre ++ w ∷ []) (by t a w) (d ∷ p) past
next_begun o t a w pre d p past b =
    let same : same_turn (by t a w) (d ∷ p) ≡ true = eq-eqb d.turn t b.turn_is in
    record {
      turn_is = refl;
      same_a = refl;
      entries = cond-true (same_turn (by t a w) (d ∷ p)) (newest_turn (d ∷ p) ++ w ∷ []) (w ∷ []) same ∙ ap (λ (xs : List What). xs ++ w ∷ []) b.entries;
      before = cond-true (same_turn (by t a w) (d ∷ p)) (before_turn (d ∷ p)) (d ∷ p) same ∙ b.before;
    }

rest_ruled : (o : Orders) (t : ℕ) (a : Actor) (pre ws : List What) (d : Entry) (p past : List Entry) → IsOf o.setup a → Begun o t a pre d p past → is_row o.setup a (pre ++ ws) past ≡ true → Follows o (d ∷ p) → EachMay o t a ws (d ∷ p) → AllFreed (onto t a ws (d ∷ p)) → Ruled o (onto t a ws (d ∷ p))
rest_ruled o t a pre [] d p past is b r f m freed =
    record {
      follows = f;
      row = subst (λ (x : Actor). is_row o.setup x (newest_turn (d ∷ p)) (before_turn (d ∷ p)) ≡ true) (sym b.same_a)
          (subst (λ (q : List Entry). is_row o.setup a (newest_turn (d ∷ p)) q ≡ true) (sym b.before)
          (subst (λ (xs : List What). is_row o.setup a xs past ≡ true) (append-nil pre ∙ sym b.entries) r));
      freed = freed;
    }
rest_ruled o t a pre (w ∷ ws) d p past is b r f m freed =
    rest_ruled o t a (pre ++ w ∷ []) ws (by t a w) (d ∷ p) past is (next_begun o t a w pre d p past b)
    (subst (λ (xs : List What). is_row o.setup a xs past ≡ true) (sym (append_assoc pre (w ∷ []) ws)) r)
    (next_rules o t a w pre ws d p past is b r f m.0, f) m.1 freed

pub no_row : (s : Setup) (a : Actor) (f : List Entry) → is_row s a [] f ≡ true → ⊥
no_row s (Vcpu v) f e = false_true e
no_row s (Caller c) f e = false_true e

pub turn_ruled : (o : Orders) (t : ℕ) (a : Actor) (ws : List What) (past : List Entry) → IsTurn o t a ws past → Ruled o past → Ruled o (onto t a ws past)
turn_ruled o t a [] past u r = absurd (no_row o.setup a past u.row)
turn_ruled o t a (w ∷ ws) past u r =
    let new : same_turn (by t a w) past ≡ false = new_turn t a w past u.new in
    rest_ruled o t a (w ∷ []) ws (by t a w) past past u.actor_is
    (record {
      turn_is = refl;
      same_a = refl;
      entries = cond-false (same_turn (by t a w) past) (newest_turn past ++ w ∷ []) (w ∷ []) new;
      before = cond-false (same_turn (by t a w) past) (before_turn past) past new;
    })
    u.row
    (record { actor_is = u.actor_is; together = new_together t a w past u.new; row = λ _. r.row; freed = λ _. r.freed; begins_turn = λ _. new; may = u.each_may.0 }, r.follows)
    u.each_may.1 u.freed

-- a turn that neither cuts nor retries leaves nothing over
pub quiet_freed : (past : List Entry) → loosened past ≡ false → AllFreed past
quiet_freed past e h = absurd (both_ways (loosened past) e h)
