-- What entries leave as it was, and the last view at a position.
use Rattle.std.proofs.Common.{◌≡◌, ℕ, ◌<◌, ◌≤◌, inl, inr, List, [], ◌∷◌, ◌++◌, Bool, true, false, not, ◌&&◌, fold, length, nat_eq, le-leb, Option, Some, None, arith, refl, ap, sym, ◌∙◌}
use Rattle.std.proofs.lemmas.Bool.{both_ways, cases_lt, lt-leb, or_parts}
use Rattle.gm_flat.specs.FlatState.{Flat}
use Rattle.gm_flat.specs.Invalidation.{count_step, hull_step}
use Rattle.gm_flat.specs.Replay.{flat, flat_at}
use Rattle.gm_flat.specs.declared.entry.Entry.{Entry}
use Rattle.gm_flat.specs.declared.entry.What.{What}
use Rattle.gm_flat.specs.declared.entry.What.TheVariants.{Begin, Change, End}
use Rattle.gm_base.specs.Extent.{Extent}
use Rattle.gm_laws.proofs.Grow.{is_change, same_state}
use Rattle.gm_laws.proofs.Kit.{flat_at_here, flat_at_keep}
use Rattle.gm_laws.specs.Counting.{ends, ends_at, ends_step}
use Rattle.gm_views.specs.Sights.{opening}
use Rattle.gm_views.specs.declared.sights.Sight.{Sight}
use Rattle.gm_turns.specs.Ahead.{is_loud}
use Rattle.gm_publish.specs.Kept.{firm_in, is_firm}
use Rattle.gm_publish.specs.Lookups.{later_view, sight_by}
use Rattle.gm_publish.specs.Views.{has_view, is_turn}

-- a quiet entry changes nothing that is shown

pub quiet_firm : (w : What) → is_loud w ≡ false → is_firm w ≡ false
quiet_firm (Begin spans) h = refl
quiet_firm (Change effect) h = absurd (both_ways true h refl)
quiet_firm End h = absurd (both_ways true h refl)
quiet_firm _ h = refl

pub quiet_count : (w : What) (n : ℕ) → is_loud w ≡ false → count_step w n ≡ n
quiet_count (Begin spans) n h = absurd (both_ways true h refl)
quiet_count End n h = absurd (both_ways true h refl)
quiet_count _ n h = refl

pub quiet_hull : (w : What) (n : ℕ) (kept : Option Extent) → is_loud w ≡ false → hull_step w n kept ≡ kept
quiet_hull (Begin spans) n kept h = absurd (both_ways true h refl)
quiet_hull End n kept h = absurd (both_ways true h refl)
quiet_hull _ n kept h = refl

-- one that isn't firm changes nothing that a fault sees

pub loose_ends : (w : What) (n : ℕ) → is_firm w ≡ false → ends_step w n ≡ n
loose_ends End n h = absurd (both_ways true h refl)
loose_ends _ n h = refl

loose_change : (w : What) → is_firm w ≡ false → is_change w ≡ false
loose_change (Change effect) h = h
loose_change _ h = refl

pub loose_flat : (e : Entry) (past : List Entry) → is_firm e.what ≡ false → ((flat (e ∷ past)).slots ≡ (flat past).slots) × ((flat (e ∷ past)).attrs ≡ (flat past).attrs)
loose_flat e past h = let s = same_state e.turn e.what e.actor past (loose_change e.what h) in (s.0, s.1)

-- positions

ends_keep : (at : ℕ) (e : Entry) (past : List Entry) → at ≤ length past → ends_at at (e ∷ past) ≡ ends_at at past
ends_keep at e past h = rw (le-leb at (length past) h) refl

ends_here : (at : ℕ) (e : Entry) (past : List Entry) → length past < at → ends_at at (e ∷ past) ≡ ends (e ∷ past)
ends_here at e past h = rw (lt-leb at (length past) h) refl

ends_late : (at : ℕ) (past : List Entry) → length past ≤ at → ends_at at past ≡ ends past
ends_late at [] h = refl
ends_late at (e ∷ past) h = ends_here at e past (omega arith)

flat_late : (at : ℕ) (past : List Entry) → length past ≤ at → flat_at at past ≡ flat past
flat_late at [] h = refl
flat_late at (e ∷ past) h = flat_at_here at e past (omega arith)

-- the view has what is true at a position
pub record Agrees (at : ℕ) (past : List Entry) (s : Sight) : Type 0 where
  pub seq : s.seq ≡ ends_at at past
  pub slots : s.slots ≡ (flat_at at past).slots
  pub calls : s.calls ≡ (flat_at at past).attrs

-- at a position before an entry
pub early : (at : ℕ) (e : Entry) (past : List Entry) (s : Sight) → at ≤ length past → Agrees at past s → Agrees at (e ∷ past) s
early at e past s h a =
    let f = sym (flat_at_keep at e past h) in
    record { seq = a.seq ∙ sym (ends_keep at e past h); slots = a.slots ∙ ap (λ (x : Flat). x.slots) f; calls = a.calls ∙ ap (λ (x : Flat). x.attrs) f }

-- at one after it, where it isn't firm
late_loose : (at : ℕ) (e : Entry) (past : List Entry) (s : Sight) → length past < at → is_firm e.what ≡ false → Agrees at past s → Agrees at (e ∷ past) s
late_loose at e past s h firm a =
    let old = flat_late at past (omega arith) in
    let new = sym (flat_at_here at e past h) in
    let same = loose_flat e past firm in
    record {
      seq = a.seq ∙ (ends_late at past (omega arith) ∙ (sym (loose_ends e.what (ends past) firm) ∙ sym (ends_here at e past h)));
      slots = a.slots ∙ (ap (λ (x : Flat). x.slots) old ∙ (sym same.0 ∙ ap (λ (x : Flat). x.slots) new));
      calls = a.calls ∙ (ap (λ (x : Flat). x.attrs) old ∙ (sym same.1 ∙ ap (λ (x : Flat). x.attrs) new));
    }

-- so an entry that isn't firm leaves what is true at each position
pub loose : (at : ℕ) (e : Entry) (past : List Entry) (s : Sight) → is_firm e.what ≡ false → Agrees at past s → Agrees at (e ∷ past) s
loose at e past s firm a =
    elim (cases_lt (length past) at) [
      | inl lt ↦ late_loose at e past s lt firm a
      | inr ge ↦ early at e past s ge a
    ]

-- at a position after all
pub at_end : (at : ℕ) (past : List Entry) (s : Sight) → length past ≤ at → s.seq ≡ ends past → s.slots ≡ (flat past).slots → s.calls ≡ (flat past).attrs → Agrees at past s
at_end at past s h seq slots calls =
    let f = sym (flat_late at past h) in
    record { seq = seq ∙ sym (ends_late at past h); slots = slots ∙ ap (λ (x : Flat). x.slots) f; calls = calls ∙ ap (λ (x : Flat). x.attrs) f }

-- no firm entry of that turn, if there is one
abbrev pub NoFirm : Option ℕ → List Entry → Type 0
NoFirm None past = Unit {0}
NoFirm (Some turn) past = firm_in turn past ≡ false

pub no_firm_before : (next : Option ℕ) (e : Entry) (past : List Entry) → NoFirm next (e ∷ past) → NoFirm next past
no_firm_before None e past h = tt
no_firm_before (Some turn) e past h = (or_parts (nat_eq e.turn turn && is_firm e.what) (firm_in turn past) h).1

second_false : (a b : Bool) → (a && b) ≡ false → a ≡ true → b ≡ false
second_false true b h e = h
second_false false b h e = absurd (both_ways false refl e)

of_turn : (next : Option ℕ) (e : Entry) (past : List Entry) → NoFirm next (e ∷ past) → is_turn e.turn next ≡ true → is_firm e.what ≡ false
of_turn None e past h is = absurd (both_ways false refl is)
of_turn (Some turn) e past h is = second_false (nat_eq e.turn turn) (is_firm e.what) (or_parts (nat_eq e.turn turn && is_firm e.what) (firm_in turn past) h).0 is

-- an entry with no view isn't firm
pub no_view : (next : Option ℕ) (e : Entry) (past : List Entry) → has_view e next ≡ false → NoFirm next (e ∷ past) → is_firm e.what ≡ false
no_view next e past h n = by_loudness (is_loud e.what) refl h
  where
    is_true : (b : Bool) → not b ≡ false → b ≡ true
    is_true true h = refl
    is_true false h = absurd (both_ways true h refl)

    by_loudness : (b : Bool) → is_loud e.what ≡ b → (b && not (is_turn e.turn next)) ≡ false → is_firm e.what ≡ false
    by_loudness true is h = of_turn next e past n (is_true (is_turn e.turn next) h)
    by_loudness false is h = quiet_firm e.what is

-- the last view at a position

fold_snoc : (f : Sight → Sight → Sight) (b : Sight) (xs : List Sight) (x : Sight) → fold f b (xs ++ x ∷ []) ≡ f (fold f b xs) x
fold_snoc f b [] x = refl
fold_snoc f b (y ∷ ys) x = fold_snoc f (f b y) ys x

later_come : (at : ℕ) (seen s : Sight) → s.position ≤ at → later_view at seen s ≡ s
later_come at seen s h = rw (le-leb s.position at h) refl

later_not_yet : (at : ℕ) (seen s : Sight) → at < s.position → later_view at seen s ≡ seen
later_not_yet at seen s h = rw (lt-leb s.position at h) refl

pub by_last : (at : ℕ) (views : List Sight) (s : Sight) → s.position ≤ at → sight_by at (views ++ s ∷ []) ≡ s
by_last at views s h = fold_snoc (later_view at) opening views s ∙ later_come at (sight_by at views) s h

pub by_others : (at : ℕ) (views : List Sight) (s : Sight) → at < s.position → sight_by at (views ++ s ∷ []) ≡ sight_by at views
by_others at views s h = fold_snoc (later_view at) opening views s ∙ later_not_yet at (sight_by at views) s h
