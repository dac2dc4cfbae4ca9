-- The views of a history show what is true.
use Rattle.std.proofs.Common.{◌≡◌, ℕ, suc, ◌<◌, ◌≤◌, inl, inr, List, [], ◌∷◌, ◌++◌, Bool, true, false, not, ◌&&◌, cond, eqb, eqb-true, length, nat_eq, Option, Some, None, arith, refl, ap, sym, ◌∙◌, subst}
use Rattle.std.proofs.lemmas.Bool.{and_from, and_parts, both_ways, cases_lt}
use Rattle.std.proofs.lemmas.Bool.Decides.{nat_tests}
use Rattle.gm_base.specs.declared.values.Actor.{Actor}
use Rattle.gm_flat.specs.FlatState.{AttrCall, Flat}
use Rattle.gm_flat.specs.Invalidation.{count, hull}
use Rattle.gm_flat.specs.Plays.{IsCounted}
use Rattle.gm_flat.specs.Replay.{flat}
use Rattle.gm_flat.specs.RightHistory.{Each}
use Rattle.gm_flat.specs.declared.entry.Entry.{Entry}
use Rattle.gm_flat.specs.declared.entry.What.{What}
use Rattle.gm_flat.specs.declared.entry.What.TheVariants.{Begin, Change, End}
use Rattle.gm_flat.specs.declared.views.SlotView.{SlotView}
use Rattle.gm_laws.proofs.Kit.{by, none_is, some_same}
use Rattle.gm_laws.specs.Counting.{ends}
use Rattle.gm_laws.specs.Stands.{Stands}
use Rattle.gm_laws.specs.Turns.{onto}
use Rattle.gm_views.proofs.Following.{follows}
use Rattle.gm_views.proofs.Rising.{last_snoc}
use Rattle.gm_views.specs.Follows.{FindsRoom, sight_calls, sight_slots}
use Rattle.gm_views.specs.Shows.{changed}
use Rattle.gm_views.specs.Sights.{last_of}
use Rattle.gm_views.specs.declared.shown.Change.{Change as ViewChange}
use Rattle.gm_views.specs.declared.sights.Sight.{Sight}
use Rattle.gm_turns.specs.Ahead.{Loud, effect_in, is_loud, loud_in}
use Rattle.gm_publish.specs.Kept.{IsCalm, firm_in}
use Rattle.gm_publish.specs.Lookups.{sight_by}
use Rattle.gm_publish.specs.Views.{has_view, is_turn, sight_after, views_of, views_until}
use Rattle.gm_publish.proofs.Looking.{Agrees, NoFirm, at_end, by_last, by_others, early, loose, loose_ends, loose_flat, no_firm_before, no_view, quiet_count, quiet_firm, quiet_hull}

-- what the newest entry adds to the views
abbrev with_view : Bool → Option ℕ → Entry → List Entry → List Sight
with_view b next e past = cond b (views_until (Some e.turn) past ++ sight_after (e ∷ past) ∷ []) (views_until next past)

loud_there : (next : Option ℕ) (e : Entry) → has_view e next ≡ true → is_loud e.what ≡ true
loud_there next e h = (and_parts (is_loud e.what) (not (is_turn e.turn next)) h).0

-- the last view at a position has what is true there
module _ (at : ℕ) (next : Option ℕ) (e : Entry) (past : List Entry) (n : NoFirm next (e ∷ past)) (calm : IsCalm e past) where
  tell : (b : Bool) → has_view e next ≡ b → ((o : Option ℕ) → NoFirm o past → Agrees at past (sight_by at (views_until o past))) → Agrees at (e ∷ past) (sight_by at (with_view b next e past))
  tell false h ih = loose at e past (sight_by at (views_until next past)) (no_view next e past h n) (ih next (no_firm_before next e past n))
  tell true h ih =
      let before : List Sight = views_until (Some e.turn) past in
      let s : Sight = sight_after (e ∷ past) in
      elim (cases_lt (length past) at) [
        | inl lt ↦ subst (Agrees at (e ∷ past)) (sym (by_last at before s (omega arith))) (at_end at (e ∷ past) s (omega arith) refl refl refl)
        | inr ge ↦ subst (Agrees at (e ∷ past)) (sym (by_others at before s (omega arith))) (early at e past (sight_by at before) ge (ih (Some e.turn) (calm (loud_there next e h))))
      ]

pub tells : (at : ℕ) (past : List Entry) → Each IsCalm past → (next : Option ℕ) → NoFirm next past → Agrees at past (sight_by at (views_until next past))
tells at [] c next n = record { seq = refl; slots = refl; calls = refl }
tells at (e ∷ past) c next n = tell at next e past n c.0 (has_view e next) refl (λ o m. tells at past c.1 o m)

-- the last view shows the slots and the attributes
pub record IsLatest (past : List Entry) (s : Sight) : Type 0 where
  pub position : s.position ≤ length past
  pub slots : s.slots ≡ (flat past).slots
  pub calls : s.calls ≡ (flat past).attrs

module _ (next : Option ℕ) (e : Entry) (past : List Entry) (n : NoFirm next (e ∷ past)) where
  show : (b : Bool) → has_view e next ≡ b → IsLatest past (last_of (views_until next past)) → IsLatest (e ∷ past) (last_of (with_view b next e past))
  show false h l =
      let same = loose_flat e past (no_view next e past h n) in
      let p = l.position in
      record { position = omega arith; slots = l.slots ∙ sym same.0; calls = l.calls ∙ sym same.1 }
  show true h l =
      subst (IsLatest (e ∷ past)) (sym (last_snoc (views_until (Some e.turn) past) (sight_after (e ∷ past))))
      (record { position = omega arith; slots = refl; calls = refl })

pub latest : (past : List Entry) (next : Option ℕ) → NoFirm next past → IsLatest past (last_of (views_until next past))
latest [] next n = record { position = omega arith; slots = refl; calls = refl }
latest (e ∷ past) next n = show next e past n (has_view e next) refl (latest past next (no_firm_before next e past n))

-- what a turn adds

pub skip : (next : Option ℕ) (e : Entry) (past : List Entry) → has_view e next ≡ false → views_until next (e ∷ past) ≡ views_until next past
skip next e past h = ap (λ (b : Bool). with_view b next e past) h

take_in : (next : Option ℕ) (e : Entry) (past : List Entry) → has_view e next ≡ true → views_until next (e ∷ past) ≡ views_until (Some e.turn) past ++ sight_after (e ∷ past) ∷ []
take_in next e past h = ap (λ (b : Bool). with_view b next e past) h

quiet_view : (next : Option ℕ) (e : Entry) → is_loud e.what ≡ false → has_view e next ≡ false
quiet_view next e h = ap (λ (b : Bool). b && not (is_turn e.turn next)) h

loud_view : (next : Option ℕ) (e : Entry) → is_loud e.what ≡ true → is_turn e.turn next ≡ false → has_view e next ≡ true
loud_view next e h k = and_from (is_loud e.what) (not (is_turn e.turn next)) h (ap not k)

same_view : (next : Option ℕ) (e : Entry) → is_turn e.turn next ≡ true → has_view e next ≡ false
same_view next e h = none_of (is_loud e.what) (is_turn e.turn next) h
  where
    none_of : (a b : Bool) → b ≡ true → (a && not b) ≡ false
    none_of a b h = grind arith

-- the change of a view by a turn's loud entry
abbrev pub loud_change : Loud → List Entry → ViewChange
loud_change l past = record { position = l.at; seq = ends past; count = count past; hull = hull past; effect = l.effect }

-- the change made to the view before the turn is the one view that the turn adds
pub record Makes (turn : ℕ) (past : List Entry) (l : Loud) : Type 0 where
  pub views : views_of past ≡ views_until (Some turn) past ++ changed (last_of (views_until (Some turn) past)) (loud_change l past) ∷ []
  pub later : (last_of (views_until (Some turn) past)).position ≤ l.at

-- where an entry is a Change, the view has room for it
abbrev pub HasRoom : What → Flat → Type 0
HasRoom (Change effect) f = FindsRoom effect f
HasRoom _ f = Unit {0}

followed : (t : ℕ) (w : What) (a : Actor) (past : List Entry) → is_loud w ≡ true → HasRoom w (flat past) → ((flat (by t a w ∷ past)).slots ≡ sight_slots (effect_in w) (flat past).slots) × ((flat (by t a w ∷ past)).attrs ≡ sight_calls (effect_in w) (flat past).attrs)
followed t (Change effect) a past h room = let f = follows effect (flat past) room in (f.slots, f.calls)
followed t (Begin spans) a past h room = (refl, refl)
followed t End a past h room = (refl, refl)
followed t _ a past h room = absurd (both_ways false refl h)

module _ (turn : ℕ) (e : Entry) (past : List Entry) where
  -- the view after a loud entry
  shown : (before : Sight) → IsLatest past before → is_loud e.what ≡ true → HasRoom e.what (flat past)
      → sight_after (e ∷ past) ≡ changed before (loud_change (record { at = suc (length past); effect = effect_in e.what }) (e ∷ past))
  shown before l h room =
      let f = followed e.turn e.what e.actor past h room in
      let slots : (flat (e ∷ past)).slots ≡ sight_slots (effect_in e.what) before.slots = f.0 ∙ ap (sight_slots (effect_in e.what)) (sym l.slots) in
      let calls : (flat (e ∷ past)).attrs ≡ sight_calls (effect_in e.what) before.calls = f.1 ∙ ap (sight_calls (effect_in e.what)) (sym l.calls) in
      let view : List SlotView → List AttrCall → Sight = λ s c. record { position = suc (length past); seq = ends (e ∷ past); count = count (e ∷ past); hull = hull (e ∷ past); slots = s; calls = c } in
      ap (λ s. view s (flat (e ∷ past)).attrs) slots ∙ ap (λ c. view (sight_slots (effect_in e.what) before.slots) c) calls

  loud_makes : IsCalm e past → e.turn ≡ turn → is_loud e.what ≡ true → HasRoom e.what (flat past) → (l : Loud) → record { at = suc (length past); effect = effect_in e.what } ≡ l → Makes turn (e ∷ past) l
  loud_makes calm is h room l here =
      let V : List Sight = views_until (Some turn) past in
      let n : NoFirm (Some turn) past = subst (λ (t : ℕ). firm_in t past ≡ false) is (calm h) in
      let last = latest past (Some turn) n in
      let p = last.position in
      let same : is_turn e.turn (Some turn) ≡ true = subst (λ (t : ℕ). eqb e.turn t ≡ true) is (own e.turn) in
      let before : views_until (Some turn) (e ∷ past) ≡ V = skip (Some turn) e past (same_view (Some turn) e same) in
      let after : views_of (e ∷ past) ≡ V ++ sight_after (e ∷ past) ∷ [] = take_in None e past (loud_view None e h refl) ∙ ap (λ (t : ℕ). views_until (Some t) past ++ sight_after (e ∷ past) ∷ []) is in
      let one : Loud = record { at = suc (length past); effect = effect_in e.what } in
      subst (λ (x : Loud). Makes turn (e ∷ past) x) here
      (record {
        views = subst (λ (x : List Sight). views_of (e ∷ past) ≡ x ++ changed (last_of x) (loud_change one (e ∷ past)) ∷ []) (sym before) (after ∙ ap (λ (s : Sight). V ++ s ∷ []) (shown (last_of V) last h room));
        later = subst (λ (x : List Sight). (last_of x).position ≤ suc (length past)) (sym before) (omega arith);
      })
    where
      own : (t : ℕ) → eqb t t ≡ true
      own t = grind (arith, nat_tests)

  quiet_makes : is_loud e.what ≡ false → (l : Loud) → Makes turn past l → Makes turn (e ∷ past) l
  quiet_makes h l m =
      let before : views_until (Some turn) (e ∷ past) ≡ views_until (Some turn) past = skip (Some turn) e past (quiet_view (Some turn) e h) in
      let after : views_of (e ∷ past) ≡ views_of past = skip None e past (quiet_view None e h) in
      let same : loud_change l past ≡ loud_change l (e ∷ past) = numbers (sym (loose_ends e.what (ends past) (quiet_firm e.what h))) (sym (quiet_count e.what (count past) h)) (sym (quiet_hull e.what (count past) (hull past) h)) in
      record {
        views = subst (λ (x : List Sight). views_of (e ∷ past) ≡ x ++ changed (last_of x) (loud_change l (e ∷ past)) ∷ []) (sym before)
            (after ∙ (m.views ∙ ap (λ (c : ViewChange). views_until (Some turn) past ++ changed (last_of (views_until (Some turn) past)) c ∷ []) same));
        later = subst (λ (x : List Sight). (last_of x).position ≤ l.at) (sym before) m.later;
      }
    where
      numbers : ends past ≡ ends (e ∷ past) → count past ≡ count (e ∷ past) → hull past ≡ hull (e ∷ past) → loud_change l past ≡ loud_change l (e ∷ past)
      numbers s c k = λ i. record { position = l.at; seq = s i; count = c i; hull = k i; effect = l.effect }

  -- what the turn's newest loud entry is, by the tests that find it
  abbrev found : Bool → Bool → Option Loud
  found same loud = cond same (cond loud (Some (record { at = suc (length past); effect = effect_in e.what })) (loud_in turn past)) None

  make : (same loud : Bool) → nat_eq e.turn turn ≡ same → is_loud e.what ≡ loud → IsCalm e past → HasRoom e.what (flat past) → (l : Loud) → found same loud ≡ Some l → ((l : Loud) → loud_in turn past ≡ Some l → Makes turn past l) → Makes turn (e ∷ past) l
  make false loud s h calm room l is ih = absurd (none_is l is)
  make true true s h calm room l is ih = loud_makes calm (eqb-true e.turn turn s) h room l (some_same _ l is)
  make true false s h calm room l is ih = quiet_makes h l (ih l is)

-- each Change of a history finds room where it stands
abbrev pub FindsAll : List Entry → Type 0
FindsAll past = (e : Entry) (before : List Entry) → Stands e before past → HasRoom e.what (flat before)

pub makes : (turn : ℕ) (past : List Entry) → Each IsCalm past → FindsAll past → (l : Loud) → loud_in turn past ≡ Some l → Makes turn past l
makes turn [] c room l is = absurd (none_is l is)
makes turn (e ∷ past) c room l is = make turn e past (nat_eq e.turn turn) (is_loud e.what) refl refl c.0 (room e past (inl (refl, refl))) l is (λ m k. makes turn past c.1 (λ d before s. room d before (inr s)) m k)

-- a turn with no loud entry adds none

abbrev pub AllBelow : ℕ → List Entry → Type 0
AllBelow turn past = Each (λ e before. e.turn < turn) past

pub below_counted : (turn : ℕ) (e : Entry) (past : List Entry) → Each IsCounted (e ∷ past) → e.turn < turn → AllBelow turn (e ∷ past)
below_counted turn e [] c h = (h, tt)
below_counted turn e (d ∷ past) c h = (h, below_counted turn d past c.1 (elim c.0 [ inl same ↦ omega arith | inr one ↦ omega arith ]))

other_number : (m n : ℕ) → m < n → eqb m n ≡ false
other_number m n h = grind (arith, nat_tests)

older_by : (turn : ℕ) (e : Entry) (past : List Entry) → e.turn < turn → views_until (Some turn) past ≡ views_of past → (loud : Bool) → is_loud e.what ≡ loud → views_until (Some turn) (e ∷ past) ≡ views_of (e ∷ past)
older_by turn e past lt ih true h = take_in (Some turn) e past (loud_view (Some turn) e h (other_number e.turn turn lt)) ∙ sym (take_in None e past (loud_view None e h refl))
older_by turn e past lt ih false h = skip (Some turn) e past (quiet_view (Some turn) e h) ∙ (ih ∙ sym (skip None e past (quiet_view None e h)))

pub older : (turn : ℕ) (past : List Entry) → AllBelow turn past → views_until (Some turn) past ≡ views_of past
older turn [] b = refl
older turn (e ∷ past) b = older_by turn e past b.0 (older turn past b.1) (is_loud e.what) refl

-- the turn's entries are passed over
pub until_onto : (turn : ℕ) (a : Actor) (ws : List What) (past : List Entry) → views_until (Some turn) (onto turn a ws past) ≡ views_until (Some turn) past
until_onto turn a [] past = refl
until_onto turn a (w ∷ ws) past = until_onto turn a ws (by turn a w ∷ past) ∙ skip (Some turn) (by turn a w) past (same_view (Some turn) (by turn a w) (own turn))
  where
    own : (t : ℕ) → eqb t t ≡ true
    own t = grind (arith, nat_tests)

-- where it has no loud entry, the views stay
none_by : (turn : ℕ) (e : Entry) (past : List Entry) → Each IsCounted (e ∷ past) → e.turn ≤ turn → (loud_in turn past ≡ None → views_until (Some turn) past ≡ views_of past) → (same loud : Bool) → nat_eq e.turn turn ≡ same → is_loud e.what ≡ loud → found turn e past same loud ≡ None → views_until (Some turn) (e ∷ past) ≡ views_of (e ∷ past)
none_by turn e past c le ih true true s h is = absurd (none_is _ (sym is))
none_by turn e past c le ih true false s h is = skip (Some turn) e past (quiet_view (Some turn) e h) ∙ (ih is ∙ sym (skip None e past (quiet_view None e h)))
none_by turn e past c le ih false loud s h is = older turn (e ∷ past) (below_counted turn e past c (not_same e.turn turn s le))
  where
    not_same : (m n : ℕ) → eqb m n ≡ false → m ≤ n → m < n
    not_same m n h k = grind (arith, nat_tests)

-- the newest entry is of no later turn
abbrev pub IsUpTo : ℕ → List Entry → Type 0
IsUpTo turn [] = Unit {0}
IsUpTo turn (e ∷ past) = e.turn ≤ turn

up_before : (turn : ℕ) (e : Entry) (past : List Entry) → Each IsCounted (e ∷ past) → e.turn ≤ turn → IsUpTo turn past
up_before turn e [] c h = tt
up_before turn e (d ∷ past) c h = elim c.0 [ inl same ↦ omega arith | inr one ↦ omega arith ]

pub makes_none : (turn : ℕ) (past : List Entry) → Each IsCounted past → IsUpTo turn past → loud_in turn past ≡ None → views_until (Some turn) past ≡ views_of past
makes_none turn [] c u is = refl
makes_none turn (e ∷ past) c u is = none_by turn e past c u (λ k. makes_none turn past c.1 (up_before turn e past c u) k) (nat_eq e.turn turn) (is_loud e.what) refl refl is
