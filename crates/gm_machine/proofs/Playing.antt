-- Turns that were taken one after another play a list of turns.
use Rattle.std.proofs.Common.{◌≡◌, ℕ, ◌+◌, ◌<◌, ◌≤◌, List, [], ◌∷◌, ◌++◌, Bool, true, false, length, reverse, suc, zero, Some, arith, subst, sym, ◌∙◌, ap, refl, eqb, ltb, inl, inr, ◌⊎◌, append_assoc, append-nil}
use Rattle.std.proofs.lemmas.Bool.{both_ways, cond-false, cond-true, eq-eqb, le-ltb, lt-ltb, ne_eqb}
use Rattle.std.proofs.lemmas.List.{length-reverse, reverse-append, reverse-reverse}
use Rattle.gm_base.specs.Scripts.{Orders}
use Rattle.gm_base.specs.declared.values.Actor.{Actor}
use Rattle.gm_base.specs.declared.values.Actor.TheVariants.{Vcpu}
use Rattle.gm_base.specs.declared.script.Turn.{Turn}
use Rattle.gm_base.specs.declared.script.Turn.TheVariants.{Next, Kick}
use Rattle.gm_flat.specs.Histories.{same_turn}
use Rattle.gm_flat.specs.Plays.{IsHere, IsOfTurn, IsPlayed, NoFall, Plays, PlaysTurn as PlayedTurn, actor_of, before_number, turn_at, turn_entries}
use Rattle.gm_flat.specs.RightHistory.{Each}
use Rattle.gm_flat.specs.RightOrder.{is_row}
use Rattle.gm_flat.specs.declared.entry.Entry.{Entry}
use Rattle.gm_flat.specs.declared.entry.What.{What}
use Rattle.gm_flat.specs.declared.entry.What.TheVariants.{Sample, Look}
use Rattle.gm_laws.proofs.Kit.{by}
use Rattle.gm_laws.proofs.TurnsKeep.{new_turn, no_row}
use Rattle.gm_laws.specs.Turns.{IsNewTurn, IsTurn, onto}
use Rattle.gm_machine.specs.Played.{PlaysTurn, PlaysTurns}
use Rattle.gm_turns.specs.Ready.{HasNoLook, IsHereAlone, TookTurn}

-- each entry of a history has a turn from 1 to n
abbrev Within : ℕ → List Entry → Type 0
Within n past = Each (λ e p. (1 ≤ e.turn) × (e.turn ≤ n)) past

within_more : (n m : ℕ) (past : List Entry) → n ≤ m → Within n past → Within m past
within_more n m [] le h = tt
within_more n m (e ∷ past) le h = let x = h.0.1 in ((h.0.0, omega arith), within_more n m past le h.1)

within_onto : (n k : ℕ) (a : Actor) (ws : List What) (past : List Entry) → 1 ≤ k → k ≤ n → Within n past → Within n (onto k a ws past)
within_onto n k a [] past one le h = h
within_onto n k a (w ∷ ws) past one le h = within_onto n k a ws (by k a w ∷ past) one le ((one, le), h)

-- entries of another turn aren't among those of turn j
entries_skip : (j k : ℕ) (a : Actor) (ws : List What) (past : List Entry) → eqb k j ≡ false → turn_entries j (onto k a ws past) ≡ turn_entries j past
entries_skip j k a [] past ne = refl
entries_skip j k a (w ∷ ws) past ne = entries_skip j k a ws (by k a w ∷ past) ne ∙ cond-false (eqb k j) (turn_entries j past ++ w ∷ []) (turn_entries j past) ne

before_skip : (j k : ℕ) (a : Actor) (ws : List What) (past : List Entry) → ltb k j ≡ false → before_number j (onto k a ws past) ≡ before_number j past
before_skip j k a [] past ne = refl
before_skip j k a (w ∷ ws) past ne = before_skip j k a ws (by k a w ∷ past) ne ∙ cond-false (ltb k j) (by k a w ∷ past) (before_number j past) ne

entries_own : (k : ℕ) (a : Actor) (ws : List What) (past : List Entry) → turn_entries k (onto k a ws past) ≡ turn_entries k past ++ ws
entries_own k a [] past = sym (append-nil (turn_entries k past))
entries_own k a (w ∷ ws) past =
    entries_own k a ws (by k a w ∷ past)
    ∙ (ap (λ (xs : List What). xs ++ ws) (cond-true (eqb k k) (turn_entries k past ++ w ∷ []) (turn_entries k past) (eq-eqb k k refl)) ∙ append_assoc (turn_entries k past) (w ∷ []) ws)

none_yet : (n k : ℕ) (past : List Entry) → n < k → Within n past → turn_entries k past ≡ []
none_yet n k [] lt h = refl
none_yet n k (e ∷ past) lt h =
    let x = h.0.1 in
    let apart : e.turn ≡ k → ⊥ = λ s. absurd (omega arith) in
    cond-false (eqb e.turn k) (turn_entries k past ++ e.what ∷ []) (turn_entries k past) (ne_eqb e.turn k apart) ∙ none_yet n k past lt h.1

all_before : (n k : ℕ) (past : List Entry) → n < k → Within n past → before_number k past ≡ past
all_before n k [] lt h = refl
all_before n k (e ∷ past) lt h = let x = h.0.1 in cond-true (ltb e.turn k) (e ∷ past) (before_number k past) (lt-ltb e.turn k (omega arith))

of_skip : (j k : ℕ) (a b : Actor) (ws : List What) (past : List Entry) → (k ≡ j → ⊥) → Each (IsOfTurn j b) past → Each (IsOfTurn j b) (onto k a ws past)
of_skip j k a b [] past ne h = h
of_skip j k a b (w ∷ ws) past ne h = of_skip j k a b ws (by k a w ∷ past) ne ((λ e. absurd (ne e)), h)

of_own : (k : ℕ) (a : Actor) (ws : List What) (past : List Entry) → Each (IsOfTurn k a) past → Each (IsOfTurn k a) (onto k a ws past)
of_own k a [] past h = h
of_own k a (w ∷ ws) past h = of_own k a ws (by k a w ∷ past) ((λ e. refl), h)

of_none : (n k : ℕ) (a : Actor) (past : List Entry) → n < k → Within n past → Each (IsOfTurn k a) past
of_none n k a [] lt h = tt
of_none n k a (e ∷ past) lt h = ((λ s. let x = h.0.1 in absurd (omega arith)), of_none n k a past lt h.1)

-- a later turn leaves the earlier ones as they were
later : (o : Orders) (j k : ℕ) (t : Turn) (a : Actor) (ws : List What) (past : List Entry) → j < k → PlayedTurn o j t past → PlayedTurn o j t (onto k a ws past)
later o j k t a ws past lt p =
    let ne : k ≡ j → ⊥ = λ e. absurd (omega arith) in
    record {
      of_actor = of_skip j k a (actor_of t) ws past ne p.of_actor;
      played = subst (λ (xs : List What). IsPlayed o t xs (before_number j (onto k a ws past))) (sym (entries_skip j k a ws past (ne_eqb k j ne)))
          (subst (λ (q : List Entry). IsPlayed o t (turn_entries j past) q) (sym (before_skip j k a ws past (le-ltb k j (omega arith)))) p.played);
    }

-- each turn, the last one first, was played
abbrev Numbered : Orders → List Turn → List Entry → Type 0
Numbered o [] past = Unit {0}
Numbered o (t ∷ ts) past = PlayedTurn o (length ts + 1) t past × Numbered o ts past

later_all : (o : Orders) (ts : List Turn) (k : ℕ) (a : Actor) (ws : List What) (past : List Entry) → length ts < k → Numbered o ts past → Numbered o ts (onto k a ws past)
later_all o [] k a ws past lt n = tt
later_all o (t ∷ ts) k a ws past lt n = (later o (length ts + 1) k t a ws past (omega arith) n.0, later_all o ts k a ws past (omega arith) n.1)

-- turn k itself: its entries, and what stood before
own : (o : Orders) (k n : ℕ) (t : Turn) (ws : List What) (past : List Entry) → n < k → Within n past → IsPlayed o t ws past → PlayedTurn o k t (onto k (actor_of t) ws past)
own o k n t ws past lt w p = record {
  of_actor = of_own k (actor_of t) ws past (of_none n k (actor_of t) past lt w);
  played = subst (λ (xs : List What). IsPlayed o t xs (before_number k (onto k (actor_of t) ws past))) (sym (entries_own k (actor_of t) ws past ∙ ap (λ (xs : List What). xs ++ ws) (none_yet n k past lt w)))
      (subst (λ (q : List Entry). IsPlayed o t ws q) (sym (before_skip k k (actor_of t) ws past (le-ltb k k (omega arith)) ∙ all_before n k past lt w)) p);
}

-- turn numbers never fall
fall_first : (k n : ℕ) (a : Actor) (w : What) (past : List Entry) → n ≤ k → Within n past → NoFall (by k a w) past
fall_first k n a w [] le h = tt
fall_first k n a w (e ∷ past) le h = let x = h.0.1 in omega arith

refl_le : (n : ℕ) → n ≤ n
refl_le n = omega arith

fall_onto : (k : ℕ) (a : Actor) (ws : List What) (past : List Entry) → 1 ≤ k → Within k past → Each NoFall past → Each NoFall (onto k a ws past)
fall_onto k a [] past one w h = h
fall_onto k a (x ∷ ws) past one w h = fall_onto k a ws (by k a x ∷ past) one ((one, refl_le k), w) (fall_first k k a x past (refl_le k) w, h)

-- samples and looks are where they say
abbrev Here : List Entry → Type 0
Here past = Each (λ e p. IsHere e.what (same_turn e p) p) past

no_look : (w : What) (ws : List What) (b : Bool) (past : List Entry) → HasNoLook (w ∷ ws) → IsHere w b past × HasNoLook ws
no_look (Sample at) ws b past h = absurd h
no_look (Look at slot attr file) ws b past h = absurd h
no_look w ws b past h = (tt, h)

here_rest : (k : ℕ) (a : Actor) (ws : List What) (past : List Entry) → HasNoLook ws → Here past → Here (onto k a ws past)
here_rest k a [] past n h = h
here_rest k a (w ∷ ws) past n h = let p = no_look w ws (same_turn (by k a w) past) past n in here_rest k a ws (by k a w ∷ past) p.1 (p.0, h)

no_look_end : (ws : List What) → ws ≡ [] → HasNoLook ws
no_look_end ws e = subst HasNoLook (sym e) tt

first_here : (w : What) (ws : List What) (b : Bool) (past : List Entry) → b ≡ false → IsHereAlone (w ∷ ws) past → IsHere w b past × HasNoLook ws
first_here (Sample at) ws b past e h = (h.0, no_look_end ws h.1)
first_here (Look at slot attr file) ws b past e h = ((h.0, e), no_look_end ws h.1)
first_here w ws b past e h = (tt, h)

here_turn : (k : ℕ) (a : Actor) (ws : List What) (past : List Entry) → IsNewTurn k past → IsHereAlone ws past → Here past → Here (onto k a ws past)
here_turn k a [] past n h past_here = past_here
here_turn k a (w ∷ ws) past n h past_here =
    let p = first_here w ws (same_turn (by k a w) past) past (new_turn k a w past n) h in
    here_rest k a ws (by k a w ∷ past) p.1 (p.0, past_here)

-- what is known of a history of turns
record Playing (o : Orders) (rev : List Turn) (past : List Entry) : Type 0 where
  within : Within (length rev) past
  numbered : Numbered o rev past
  no_fall : Each NoFall past
  here : Here past

some_entries : (o : Orders) (k : ℕ) (a : Actor) (ws : List What) (past : List Entry) → IsTurn o k a ws past → ws ≡ [] → ⊥
some_entries o k a ws past t e = no_row o.setup a past (subst (λ (xs : List What). is_row o.setup a xs past ≡ true) e t.row)

taken : (o : Orders) (t : Turn) (ts : List Turn) (kick : Bool) (before past : List Entry) → Playing o ts before → (p : TookTurn o (length ts + 1) (actor_of t) kick before past) → IsPlayed o t p.entries before → Playing o (t ∷ ts) past
taken o t ts kick before past q p played =
    let k : ℕ = length ts + 1 in
    let lt : length ts < k = omega arith in
    let one : 1 ≤ k = omega arith in
    let up : k ≤ suc (length ts) = omega arith in
    let wide : length ts ≤ k = omega arith in
    subst (Playing o (t ∷ ts)) (sym p.past_is) (record {
      within = within_onto (suc (length ts)) k (actor_of t) p.entries before one up (within_more (length ts) (suc (length ts)) before (omega arith) q.within);
      numbered = (own o k (length ts) t p.entries before lt q.within played, later_all o ts k (actor_of t) p.entries before lt q.numbered);
      no_fall = fall_onto k (actor_of t) p.entries before one (within_more (length ts) k before wide q.within) q.no_fall;
      here = here_turn k (actor_of t) p.entries before p.by_tables.new p.here q.here;
    })

idle : (o : Orders) (t : Turn) (ts : List Turn) (before past : List Entry) → Playing o ts before → past ≡ before → IsPlayed o t [] before → Playing o (t ∷ ts) past
idle o t ts before past q e played =
    let k : ℕ = length ts + 1 in
    let lt : length ts < k = omega arith in
    subst (Playing o (t ∷ ts)) (sym e) (record {
      within = within_more (length ts) (suc (length ts)) before (omega arith) q.within;
      numbered = (own o k (length ts) t [] before lt q.within played, q.numbered);
      no_fall = q.no_fall;
      here = q.here;
    })

one_turn : (o : Orders) (t : Turn) (ts : List Turn) (before past : List Entry) → Playing o ts before → PlaysTurn o t (length ts + 1) before past → Playing o (t ∷ ts) past
one_turn o (Next a) ts before past q h =
    elim h [
      | inl c ↦ taken o (Next a) ts false before past q c.took
          (c.took.kick_is, ((λ e. absurd (some_entries o (length ts + 1) a c.took.entries before c.took.by_tables e)), (λ u. elim u [ inl g ↦ absurd (both_ways _ c.present g) | inr b ↦ absurd (c.unblocked b) ])))
      | inr s ↦ idle o (Next a) ts before past q s.same (refl, ((λ e. s.cause), (λ u. refl)))
    ]
one_turn o (Kick v) ts before past q h =
    elim h [
      | inl c ↦ taken o (Kick v) ts true before past q c.took
          (inr c.took.kick_is, ((λ e. absurd (some_entries o (length ts + 1) (Vcpu v) c.took.entries before c.took.by_tables e)), (λ u. absurd (both_ways _ u c.was_pending))))
      | inr s ↦ idle o (Kick v) ts before past q s.same (inl refl, ((λ e. s.none_pending), (λ u. refl)))
    ]

playing : (o : Orders) (rev : List Turn) (past : List Entry) → PlaysTurns o rev past → Playing o rev past
playing o [] past h = subst (Playing o []) (sym h) (record { within = tt; numbered = tt; no_fall = tt; here = tt })
playing o (t ∷ ts) past h = one_turn o t ts h.0 past (playing o ts h.0 h.1) h.2

-- by the number of a turn

last_turn : (xs : List Turn) (x t : Turn) (k : ℕ) → turn_at (xs ++ x ∷ []) k ≡ Some t → (turn_at xs k ≡ Some t) ⊎ ((k ≡ length xs) × (x ≡ t))
last_turn [] x t zero h = inr (refl, (let e : x ≡ t = cc in e))
last_turn [] x t (suc k) h = absurd (cc)
last_turn (y ∷ xs) x t zero h = inl h
last_turn (y ∷ xs) x t (suc k) h = elim (last_turn xs x t k h) [ inl e ↦ inl e | inr e ↦ inr (ap suc e.0, e.1) ]

at_number : (o : Orders) (rev : List Turn) (past : List Entry) → Numbered o rev past → (k : ℕ) (t : Turn) → turn_at (reverse rev) k ≡ Some t → PlayedTurn o (suc k) t past
at_number o [] past n k t h = absurd (cc)
at_number o (x ∷ ts) past n k t h =
    let r : reverse (x ∷ ts) ≡ reverse ts ++ x ∷ [] = reverse-append (x ∷ []) ts in
    elim (last_turn (reverse ts) x t k (subst (λ (xs : List Turn). turn_at xs k ≡ Some t) r h)) [
      | inl e ↦ at_number o ts past n.1 k t e
      | inr e ↦ let l : k ≡ length ts = e.0 ∙ length-reverse ts in
          let m : length ts + 1 ≡ suc k = omega arith in
          subst (λ (y : Turn). PlayedTurn o (suc k) y past) e.1 (subst (λ (j : ℕ). PlayedTurn o j x past) m n.0)
    ]

-- turns that were taken one after another play the list of them
pub plays_turns : (o : Orders) (turns : List Turn) (past : List Entry) → PlaysTurns o (reverse turns) past → Plays o turns past
plays_turns o turns past h =
    let q = playing o (reverse turns) past h in
    record {
      no_fall = q.no_fall;
      in_range = subst (λ (n : ℕ). Within n past) (length-reverse turns) q.within;
      each_turn = λ k t e. at_number o (reverse turns) past q.numbered k t (subst (λ (xs : List Turn). turn_at xs k ≡ Some t) (sym (reverse-reverse turns)) e);
      here = q.here;
    }
