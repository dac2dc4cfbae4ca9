-- A turn keeps the turn numbers counted.
use Rattle.std.proofs.Common.{◌≡◌, ℕ, suc, ◌+◌, ◌≤◌, List, [], ◌∷◌, true, length, refl, inl, inr, sym, ap, ◌∙◌, add-one, arith}
use Rattle.gm_base.specs.declared.values.Actor.{Actor}
use Rattle.gm_base.specs.declared.values.Actor.TheVariants.{Vcpu, Caller}
use Rattle.gm_base.specs.declared.values.Setup.{Setup}
use Rattle.gm_flat.specs.Plays.{IsCounted}
use Rattle.gm_flat.specs.RightHistory.{Each}
use Rattle.gm_flat.specs.RightOrder.{is_row}
use Rattle.gm_flat.specs.declared.entry.Entry.{Entry}
use Rattle.gm_flat.specs.declared.entry.What.{What}
use Rattle.gm_laws.specs.Turns.{onto}
use Rattle.gm_publish.specs.Counts.{CountedTo}

-- further entries of the turn
same_turn : (n : ℕ) (actor : Actor) (ws : List What) (e : Entry) (past : List Entry) → e.turn ≡ n → Each IsCounted (e ∷ past) → CountedTo n (onto n actor ws (e ∷ past))
same_turn n actor [] e past is h = record { ends = is; each = h }
same_turn n actor (w ∷ ws) e past is h = same_turn n actor ws _ (e ∷ past) refl (inl (sym is), h)

first : (n : ℕ) (past : List Entry) (actor : Actor) (w : What) → CountedTo n past → IsCounted (record { turn = n + 1; actor = actor; what = w }) past
first n [] actor w h = omega (arith, h.ends)
first n (d ∷ past) actor w h = inr (add-one n ∙ ap suc (sym h.ends))

row_is_some : (s : Setup) (actor : Actor) (before : List Entry) → is_row s actor [] before ≡ true → ⊥
row_is_some s (Vcpu v) before is = cc
row_is_some s (Caller c) before is = cc

pub next_turn : (n : ℕ) (s : Setup) (actor : Actor) (ws : List What) (past : List Entry) → is_row s actor ws past ≡ true → CountedTo n past → CountedTo (n + 1) (onto (n + 1) actor ws past)
next_turn n s actor [] past row h = absurd (row_is_some s actor past row)
next_turn n s actor (w ∷ ws) past row h = same_turn (n + 1) actor ws _ past refl (first n past actor w h, h.each)

turn_le : (e : Entry) (past : List Entry) → Each IsCounted (e ∷ past) → e.turn ≤ length (e ∷ past)
turn_le e [] h = omega (arith, h.0)
turn_le e (d ∷ past) (is, h) = let k = turn_le d past h in elim is [ inl same ↦ omega arith | inr one ↦ omega arith ]

-- there are no more turns than entries
pub counted_le : (n : ℕ) (past : List Entry) → CountedTo n past → n ≤ length past
counted_le n [] h = omega (arith, h.ends)
counted_le n (e ∷ past) h = let k = turn_le e past h.each in omega (arith, h.ends)
