-- What lay over a page before a change of the slots, by what lies over it after the change.
use Rattle.std.proofs.Common.{◌≡◌, ℕ, ◌+◌, ◌<◌, get_or, length, take, List, [], ◌∷◌, ◌++◌, Bool, true, false, not, ◌&&◌, cond, eqb-true, nat_eq, nat_le, nat_lt, Option, Some, None, fold, arith, refl, ap, sym, ◌∙◌}
use Rattle.std.proofs.lemmas.Bool.{and_parts, not-true, or_parts}
use Rattle.std.proofs.lemmas.Bool.Decides.{nat_tests}
use Rattle.gm_base.specs.Extent.{meets}
use Rattle.gm_base.specs.declared.numbers.TheConstants.{SLOT_IDS}
use Rattle.gm_flat.specs.Calls.{meets_slot}
use Rattle.gm_flat.specs.Effects.{U64_LIMIT, dropped, marked, moved, shut_slot, shut_slots}
use Rattle.gm_flat.specs.Slots.{is_file, lies_over, slot_by_id, slot_over, slot_span}
use Rattle.gm_flat.specs.declared.effect.Effect.{Effect}
use Rattle.gm_flat.specs.declared.effect.Effect.TheVariants.{Slot, Mark, NoSlot, Move, Shut}
use Rattle.gm_flat.specs.declared.views.SlotView.{SlotView}
use Rattle.gm_laws.proofs.Kit.{none_is, some_same}
use Rattle.std.proofs.lemmas.List.{take_more}
use Rattle.gm_publish.proofs.Lookups.{fold_snoc}
use Rattle.gm_slots.proofs.Goods.{good_dropped, good_marked, good_moved, good_shut}
use Rattle.gm_slots.specs.Good.{Good}
use Rattle.gm_views.specs.Follows.{sight_slots, slot_added, slot_made, slot_moved, slots_after}
use Rattle.gm_views.specs.Shows.{changed}
use Rattle.gm_views.specs.Standing.{clears, fits_at, is_absent, is_new, may_move, may_stand}
use Rattle.gm_views.specs.declared.shown.Change.{Change}
use Rattle.gm_views.specs.declared.sights.Sight.{Sight}

-- two ranges that don't meet have no page in common
no_common : (low pages base count page : ℕ) → (nat_lt low (base + count) && nat_lt base (low + pages)) ≡ false → (nat_le base page && nat_lt page (base + count)) ≡ true → (nat_le low page && nat_lt page (low + pages)) ≡ false
no_common low pages base count page m h = grind (arith, nat_tests)

-- where a slot lies over the page after the change

module _ (page : ℕ) (t : SlotView) where
  abbrev pub At : List SlotView → Type 0
  At slots = slot_over slots page ≡ Some t

  -- behind a slot that stays
  behind : (s : SlotView) (slots new : List SlotView) → (At new → At slots) → At (s ∷ new) → At (s ∷ slots)
  behind s slots new rest h = by_page (lies_over s page) h
    where
      by_page : (b : Bool) → cond b (Some s) (slot_over new page) ≡ Some t → cond b (Some s) (slot_over slots page) ≡ Some t
      by_page true h = h
      by_page false h = rest h

  -- a slot that meets none of the others doesn't lie over the page of one of them
  apart : (s : SlotView) (slots : List SlotView) → meets_slot s.base s.pages slots ≡ false → At slots → lies_over s page ≡ false
  apart s [] m h = absurd (none_is t h)
  apart s (x ∷ slots) m h =
      let parts = or_parts (meets (slot_span s) (slot_span x)) (meets_slot s.base s.pages slots) m in
      by_page (lies_over x page) refl h (λ k. apart s slots parts.1 k)
    where
      by_page : (b : Bool) → lies_over x page ≡ b → cond b (Some x) (slot_over slots page) ≡ Some t → (At slots → lies_over s page ≡ false) → lies_over s page ≡ false
      by_page true is h rest = no_common s.base s.pages x.base x.pages page (or_parts (meets (slot_span s) (slot_span x)) (meets_slot s.base s.pages slots) m).0 is
      by_page false is h rest = rest h

  over_rest : (s : SlotView) (slots : List SlotView) → lies_over s page ≡ false → At slots → At (s ∷ slots)
  over_rest s slots not_here h = ap (λ (b : Bool). cond b (Some s) (slot_over slots page)) not_here ∙ h

  -- a slot of another id is new there, or has changed there
  other_here : (s : SlotView) (slots : List SlotView) → (t.id ≡ s.id → ⊥) → At (s ∷ slots) → At slots
  other_here s slots other h = by_page (lies_over s page) h
    where
      by_page : (b : Bool) → cond b (Some s) (slot_over slots page) ≡ Some t → At slots
      by_page true h = absurd (other (sym (ap (λ (x : SlotView). x.id) (some_same s t h))))
      by_page false h = h

  other_changed : (s new : SlotView) (slots : List SlotView) → Good (s ∷ slots) → (t.id ≡ new.id → ⊥) → At (new ∷ slots) → At (s ∷ slots)
  other_changed s new slots g other h =
      let rest = other_here new slots other h in
      over_rest s slots (apart s slots g.3 rest) rest

  pub before_mark : (id : ℕ) (slots : List SlotView) → Good slots → (t.id ≡ id → ⊥) → At (marked id slots) → At slots
  before_mark id [] g other h = h
  before_mark id (s ∷ slots) g other h = by_id (nat_eq s.id id) refl h (λ k. before_mark id slots g.4 other k)
    where
      by_id : (b : Bool) → nat_eq s.id id ≡ b → At (cond b (record s { invalid = true } ∷ slots) (s ∷ marked id slots)) → (At (marked id slots) → At slots) → At (s ∷ slots)
      by_id true is h rest = other_changed s (record s { invalid = true }) slots g (λ e. other (e ∙ eqb-true s.id id is)) h
      by_id false is h rest = behind s slots (marked id slots) rest h

  move_there : (id base : ℕ) (slots : List SlotView) → Good slots → (t.id ≡ id → ⊥) → At (moved id base slots) → At slots
  move_there id base [] g other h = h
  move_there id base (s ∷ slots) g other h = by_id (nat_eq s.id id) refl h (λ k. move_there id base slots g.4 other k)
    where
      by_id : (b : Bool) → nat_eq s.id id ≡ b → At (cond b (record s { base = base; invalid = false } ∷ slots) (s ∷ moved id base slots)) → (At (moved id base slots) → At slots) → At (s ∷ slots)
      by_id true is h rest = other_changed s (record s { base = base; invalid = false }) slots g (λ e. other (e ∙ eqb-true s.id id is)) h
      by_id false is h rest = behind s slots (moved id base slots) rest h

  pub before_move : (id base : ℕ) (slots : List SlotView) → Good slots → (t.id ≡ id → ⊥) → At (slot_moved id base slots) → At slots
  before_move id base slots g other h = by_test (may_move id base slots) h
    where
      by_test : (b : Bool) → At (cond b (moved id base slots) slots) → At slots
      by_test true h = move_there id base slots g other h
      by_test false h = h

  pub before_drop : (id : ℕ) (slots : List SlotView) → Good slots → At (dropped id slots) → At slots
  before_drop id [] g h = h
  before_drop id (s ∷ slots) g h = by_id (nat_eq s.id id) h (λ k. before_drop id slots g.4 k)
    where
      by_id : (b : Bool) → At (cond b slots (s ∷ dropped id slots)) → (At (dropped id slots) → At slots) → At (s ∷ slots)
      by_id true h rest = over_rest s slots (apart s slots g.3 h) h
      by_id false h rest = behind s slots (dropped id slots) rest h

  -- one that has a file still was not shut
  not_shut : (file : ℕ) (s : SlotView) → (t.file ≡ None → ⊥) → Some (shut_slot file s) ≡ Some t → Some s ≡ Some t
  not_shut file s has h = by_file (is_file s.file file) refl
    where
      by_file : (b : Bool) → is_file s.file file ≡ b → Some s ≡ Some t
      by_file true is =
          let lost : (shut_slot file s).file ≡ None = ap (λ (b : Bool). cond b None s.file) is in
          absurd (has (sym (ap (λ (x : SlotView). x.file) (some_same (shut_slot file s) t h)) ∙ lost))
      by_file false is = sym (ap (λ (b : Bool). Some (record s { file = cond b None s.file })) is) ∙ h

  pub before_shut : (file : ℕ) (slots : List SlotView) → (t.file ≡ None → ⊥) → At (shut_slots file slots) → At slots
  before_shut file [] has h = h
  before_shut file (s ∷ slots) has h = by_page (lies_over s page) h (λ k. before_shut file slots has k)
    where
      by_page : (b : Bool) → cond b (Some (shut_slot file s)) (slot_over (shut_slots file slots) page) ≡ Some t → (At (shut_slots file slots) → At slots) → cond b (Some s) (slot_over slots page) ≡ Some t
      by_page true h rest = not_shut file s has h
      by_page false h rest = rest h

  pub before_add : (s : SlotView) (slots : List SlotView) → (t.id ≡ s.id → ⊥) → At (slot_added s slots) → At slots
  before_add s slots other h = by_test (may_stand s slots) h
    where
      by_test : (b : Bool) → At (cond b (s ∷ slots) slots) → At slots
      by_test true h = other_here s slots other h
      by_test false h = h

-- where no slot does

module _ (page : ℕ) where
  abbrev pub Free : List SlotView → Type 0
  Free slots = slot_over slots page ≡ None

  rest_free : (s : SlotView) (slots : List SlotView) → Free (s ∷ slots) → Free slots
  rest_free s slots h = by_page (lies_over s page) h
    where
      by_page : (b : Bool) → cond b (Some s) (slot_over slots page) ≡ None → Free slots
      by_page true h = absurd (none_is s (sym h))
      by_page false h = h

  -- a slot that has changed in its place, before others
  free_changed : (s new : SlotView) (slots others : List SlotView) → lies_over new page ≡ lies_over s page → (Free others → Free slots) → Free (new ∷ others) → Free (s ∷ slots)
  free_changed s new slots others same rest h = by_page (lies_over s page) (sym (ap (λ (b : Bool). cond b (Some new) (slot_over others page)) same) ∙ h)
    where
      by_page : (b : Bool) → cond b (Some new) (slot_over others page) ≡ None → cond b (Some s) (slot_over slots page) ≡ None
      by_page true h = absurd (none_is new (sym h))
      by_page false h = rest h

  pub free_mark : (id : ℕ) (slots : List SlotView) → Free (marked id slots) → Free slots
  free_mark id [] h = h
  free_mark id (s ∷ slots) h = by_id (nat_eq s.id id) h (λ k. free_mark id slots k)
    where
      by_id : (b : Bool) → Free (cond b (record s { invalid = true } ∷ slots) (s ∷ marked id slots)) → (Free (marked id slots) → Free slots) → Free (s ∷ slots)
      by_id true h rest = free_changed s (record s { invalid = true }) slots slots refl (λ k. k) h
      by_id false h rest = free_changed s s slots (marked id slots) refl rest h

  pub free_shut : (file : ℕ) (slots : List SlotView) → Free (shut_slots file slots) → Free slots
  free_shut file [] h = h
  free_shut file (s ∷ slots) h = free_changed s (shut_slot file s) slots (shut_slots file slots) refl (λ k. free_shut file slots k) h

  pub free_add : (s : SlotView) (slots : List SlotView) → Free (slot_added s slots) → Free slots
  free_add s slots h = by_test (may_stand s slots) h
    where
      by_test : (b : Bool) → Free (cond b (s ∷ slots) slots) → Free slots
      by_test true h = rest_free s slots h
      by_test false h = h

-- the slots of a view have no two of one id or one page

absent : (o : Option SlotView) → is_absent o ≡ true → o ≡ None
absent None h = refl
absent (Some s) h = absurd cc

below : (a b : ℕ) → nat_lt a b ≡ true → a < b
below a b h = grind (arith, nat_tests)

good_stands : (s : SlotView) (slots : List SlotView) → Good slots → may_stand s slots ≡ true → Good (s ∷ slots)
good_stands s slots g h =
    let both = and_parts (is_new s.id slots && fits_at s.base s.pages) (not (meets_slot s.base s.pages slots)) h in
    let first = and_parts (is_new s.id slots) (fits_at s.base s.pages) both.0 in
    let id = and_parts (nat_lt s.id SLOT_IDS) (is_absent (slot_by_id slots s.id)) first.0 in
    let pages = and_parts (nat_lt 0 s.pages) (nat_le (s.base + s.pages) U64_LIMIT) first.1 in
    (absent (slot_by_id slots s.id) id.1, below s.id SLOT_IDS id.0, below 0 s.pages pages.0, not-true (meets_slot s.base s.pages slots) both.1, g)

good_added : (s : SlotView) (slots : List SlotView) → Good slots → Good (slot_added s slots)
good_added s slots g = by_test (may_stand s slots) refl
  where
    by_test : (b : Bool) → may_stand s slots ≡ b → Good (cond b (s ∷ slots) slots)
    by_test true is = good_stands s slots g is
    by_test false is = g

good_clear : (id base : ℕ) (slots : List SlotView) (o : Option SlotView) → Good slots → slot_by_id slots id ≡ o → clears id base slots o ≡ true → Good (moved id base slots)
good_clear id base slots None g is h = absurd cc
good_clear id base slots (Some s) g is h = good_moved s slots id base g is (not-true (meets_slot base s.pages (dropped id slots)) (and_parts (fits_at base s.pages) (not (meets_slot base s.pages (dropped id slots))) h).1)

good_slot_moved : (id base : ℕ) (slots : List SlotView) → Good slots → Good (slot_moved id base slots)
good_slot_moved id base slots g = by_test (may_move id base slots) refl
  where
    by_test : (b : Bool) → may_move id base slots ≡ b → Good (cond b (moved id base slots) slots)
    by_test true is = good_clear id base slots (slot_by_id slots id) g refl is
    by_test false is = g

good_after : (e : Effect) (slots : List SlotView) → Good slots → Good (slots_after e slots)
good_after (Slot slot base pages user flags file index) slots g = good_added (slot_made slot base pages user flags file index) slots g
good_after (Mark slot) slots g = good_marked slots slot g
good_after (NoSlot slot) slots g = good_dropped slots slot g
good_after (Move slot base) slots g = good_slot_moved slot base slots g
good_after (Shut file) slots g = good_shut slots file g
good_after _ slots g = g

good_sight : (effect : Option Effect) (slots : List SlotView) → Good slots → Good (sight_slots effect slots)
good_sight None slots g = g
good_sight (Some effect) slots g = good_after effect slots g

pub good_shown : (changes : List Change) (s : Sight) → Good s.slots → Good (fold changed s changes).slots
good_shown [] s g = g
good_shown (c ∷ changes) s g = good_shown changes (changed s c) (good_sight c.effect s.slots g)

-- what lies over each page after the first so many changes and one more lay there before them, where that one leaves it and
-- those do
pub before_more : (slot : Option SlotView) (changes : List Change) (count : ℕ) (c : Change) → count < length changes → c ≡ get_or changes count c → ((page : ℕ) (slots : List SlotView) → Good slots → slot_over (sight_slots c.effect slots) page ≡ slot → slot_over slots page ≡ slot) → ((page : ℕ) (s : Sight) → Good s.slots → slot_over (fold changed s (take count changes)).slots page ≡ slot → slot_over s.slots page ≡ slot) → (page : ℕ) (s : Sight) → Good s.slots → slot_over (fold changed s (take (count + 1) changes)).slots page ≡ slot → slot_over s.slots page ≡ slot
before_more slot changes count c lt is leaves before page s g h =
    let first : List Change = take count changes in
    let then : Sight = fold changed s first in
    let one_more = ap (fold changed s) (take_more changes count c lt ∙ ap (λ (x : Change). first ++ x ∷ []) (sym is)) ∙ fold_snoc changed s first c in
    before page s g (leaves page then.slots (good_shown first s g) (sym (ap (λ (x : Sight). slot_over x.slots page) one_more) ∙ h))
