-- How large a leaf may be.
use Rattle.std.proofs.Common.{◌≡◌, ℕ, ◌+◌, ◌-◌, ◌*◌, ◌/◌, ◌%◌, ◌<◌, ◌≤◌, ◌&&◌, leb, ltb, not, List, [], ◌∷◌, Bool, true, false, Option, Some, None, arith, refl, sym, subst, cond, ◌∙◌, ap, inl, inr, lit<}
use Rattle.std.specs.Prelude.{MatchBool, IfNone, IfSome, IsTrue, is_some, ◌⊎◌, ◌↔◌}
use Rattle.std.proofs.lemmas.Bool.Decides.{nat_tests}
use Rattle.gm_attr.specs.Kinds.{AllHave, IsMixed, IsUniform, SomeOther, is_tracked, kind_at, lies_in}
use Rattle.gm_base.specs.Extent.{Extent}
use Rattle.gm_base.specs.declared.numbers.TheConstants.{BLOCK_PAGES, PAGE_LIMIT}
use Rattle.gm_base.specs.declared.values.Folio.{Folio}
use Rattle.gm_base.specs.declared.values.Kind.{Kind}
use Rattle.gm_base.specs.declared.values.Kind.TheVariants.{Private, Shared}
use Rattle.gm_base.specs.declared.values.Level.TheVariants.{Small, Block}
use Rattle.gm_base.specs.declared.values.Setup.{Setup}
use Rattle.gm_fault.specs.Levels as fault
use Rattle.gm_flat.specs.Attribute.{attr_of}
use Rattle.gm_flat.specs.FlatState.{Flat, cached}
use Rattle.gm_flat.specs.Invalidation.{hull_meets}
use Rattle.gm_flat.specs.Mappings.{block_of}
use Rattle.gm_flat.specs.NamedPage.{Named, file_named, folio_named, named, named_by, unmarked}
use Rattle.gm_flat.specs.RightLevel.{IsConsecutive, IsFrame, IsUserPage, IsWholeBlock, SlotCovers}
use Rattle.gm_flat.specs.Slots.{lies_over, slot_over, slot_span}
use Rattle.gm_flat.specs.declared.effect.Backing.TheVariants.{User}
use Rattle.gm_flat.specs.declared.views.SlotView.{SlotView}
use Rattle.gm_laws.proofs.Kit.{some_same}
use Rattle.gm_laws.specs.SlotsStand.{AllOf, LiesApart, Pairwise, SlotsStand}
use Rattle.gm_store.specs.Asked.{HasFrame, IsBlockFrom}
use Rattle.gm_state.proofs.Tracked.{tracked_under}
use Rattle.gm_state.specs.Levels.{LiesUnder}
use Rattle.gm_state.specs.Stand.{IsBounded, Memory, StateIs}
use Rattle.gm_state.specs.Views.{StateView}

-- the slot over a page

-- what holds of all slots holds of the one over a page
of_over : (P : SlotView → Type 0) (page : ℕ) (s : SlotView) (slots : List SlotView) → AllOf P slots → slot_over slots page ≡ Some s → P s
of_over P page s [] a h = absurd (cc)
of_over P page s (r ∷ slots) a h = go (lies_over r page) a (of_over P page s slots a.1) h
  where
    go : (t : Bool) → AllOf P (r ∷ slots) → (slot_over slots page ≡ Some s → P s) → cond t (Some r) (slot_over slots page) ≡ Some s → P s
    go true a ih h = subst P (some_same r s h) a.0
    go false a ih h = ih h

-- and it lies over it
is_over : (page : ℕ) (s : SlotView) (slots : List SlotView) → slot_over slots page ≡ Some s → lies_over s page ≡ true
is_over page s [] h = absurd (cc)
is_over page s (r ∷ slots) h = go (lies_over r page) refl (is_over page s slots) h
  where
    go : (t : Bool) → lies_over r page ≡ t → (slot_over slots page ≡ Some s → lies_over s page ≡ true) → cond t (Some r) (slot_over slots page) ≡ Some s → lies_over s page ≡ true
    go true e ih h = subst (λ (x : SlotView). lies_over x page ≡ true) (some_same r s h) e
    go false e ih h = ih h

apart_over : (r s : SlotView) (page : ℕ) → LiesApart r s → lies_over s page ≡ true → lies_over r page ≡ false
apart_over r s page a h = clear r.base r.pages s.base s.pages page a h
  where
    clear : (a m b n h : ℕ) → (ltb a (b + n) && ltb b (a + m)) ≡ false → (leb b h && ltb h (b + n)) ≡ true → (leb a h && ltb h (a + m)) ≡ false
    clear a m b n h e f = grind (arith, nat_tests)

-- the slot over one of its pages is the slot over each
pub all_its_pages : (page h : ℕ) (s : SlotView) (slots : List SlotView) → Pairwise LiesApart slots → slot_over slots page ≡ Some s → lies_over s h ≡ true → slot_over slots h ≡ Some s
all_its_pages page h s [] p e l = absurd (cc)
all_its_pages page h s (r ∷ slots) p e l = go (lies_over r page) p e (all_its_pages page h s slots p.1)
  where
    go : (t : Bool) → Pairwise LiesApart (r ∷ slots) → cond t (Some r) (slot_over slots page) ≡ Some s → (slot_over slots page ≡ Some s → lies_over s h ≡ true → slot_over slots h ≡ Some s) → cond (lies_over r h) (Some r) (slot_over slots h) ≡ Some s
    go true p e ih = let same : r ≡ s = some_same r s e in let here : lies_over r h ≡ true = subst (λ (x : SlotView). lies_over x h ≡ true) (sym same) l in rw here (ap Some same)
    go false p e ih = let off : lies_over r h ≡ false = apart_over r s h (of_over (LiesApart r) page s slots p.0 e) l in rw off (ih e l)

-- what is named under one slot

named_is : (slot : SlotView) (kind : Kind) (first k : ℕ) (f : Flat) → LiesUnder slot kind first f → k < BLOCK_PAGES → named f (first + k) ≡ named_by (first + k) f.cache kind (Some slot)
named_is slot kind first k f u lt =
    ap (λ (o : Option SlotView). named_by (first + k) f.cache (attr_of (first + k) f.attrs) (unmarked o)) (u.over k lt)
    ∙ (ap (λ (b : Bool). named_by (first + k) f.cache (attr_of (first + k) f.attrs) (cond b None (Some slot))) u.unmarked
    ∙ ap (λ (a : Kind). named_by (first + k) f.cache a (Some slot)) (u.kinds k lt))

abbrev pub from_page : ℕ → Extent
from_page first = record { lo = first; hi = first + BLOCK_PAGES }

pub shared_block : (slot : SlotView) (first : ℕ) (f : Flat) → LiesUnder slot Shared first f → first % BLOCK_PAGES ≡ 0 → slot.base ≤ first → slot.user % BLOCK_PAGES ≡ slot.base % BLOCK_PAGES → IsConsecutive (from_page first) f
shared_block slot first f u al le e = ((slot.user + first) - slot.base, aligned slot.user first slot.base al le e, inl (λ k lt. subst (λ (o : Option Named). IsUserPage (((slot.user + first) - slot.base) + k) o) (sym (named_is slot Shared first k f u lt)) (ap User (next slot.user first slot.base k le))))
  where
    aligned : (u a b : ℕ) → a % 512 ≡ 0 → b ≤ a → u % 512 ≡ b % 512 → ((u + a) - b) % 512 ≡ 0
    aligned u a b e le g = grind (arith, nat_tests)

    next : (u a b k : ℕ) → b ≤ a → (u + (a + k)) - b ≡ ((u + a) - b) + k
    next u a b k le = omega arith

pub shared_back : (slot : SlotView) (first : ℕ) (f : Flat) → LiesUnder slot Shared first f → first % BLOCK_PAGES ≡ 0 → slot.base ≤ first → IsConsecutive (from_page first) f → slot.user % BLOCK_PAGES ≡ slot.base % BLOCK_PAGES
shared_back slot first f u al le c = go c.2
  where
    number : (x y : ℕ) → User x ≡ User y → x ≡ y
    number x y e = cc

    same : (u a b p : ℕ) → a % 512 ≡ 0 → b ≤ a → p % 512 ≡ 0 → (u + (a + 0)) - b ≡ p + 0 → u % 512 ≡ b % 512
    same u a b p e le g h = grind (arith, nat_tests)

    go : ((k : ℕ) → k < BLOCK_PAGES → IsUserPage (c.0 + k) (named f (first + k))) ⊎ ((k : ℕ) → k < BLOCK_PAGES → IsFrame (c.0 + k) (named f (first + k))) → slot.user % BLOCK_PAGES ≡ slot.base % BLOCK_PAGES
    go (inl h) = same slot.user first slot.base c.0 al le c.1 (number ((slot.user + (first + 0)) - slot.base) (c.0 + 0) (subst (IsUserPage (c.0 + 0)) (named_is slot Shared first 0 f u (lit< tt)) (h 0 (lit< tt))))
    go (inr h) = absurd (subst (IsFrame (c.0 + 0)) (named_is slot Shared first 0 f u (lit< tt)) (h 0 (lit< tt)))

frame_named : (frame : ℕ) (o : Option Folio) → HasFrame frame o → IsFrame frame (folio_named o)
frame_named frame None h = h
frame_named frame (Some folio) h = h

named_frame : (frame : ℕ) (o : Option Folio) → IsFrame frame (folio_named o) → HasFrame frame o
named_frame frame None h = h
named_frame frame (Some folio) h = h

never_user : (page : ℕ) (o : Option Folio) → IsUserPage page (folio_named o) → ⊥
never_user page None h = h
never_user page (Some folio) h = absurd (cc)

index_next : (i a b k : ℕ) → b ≤ a → i + (a - b) + k ≡ (i + (a + k)) - b
index_next i a b k le = omega arith

-- what is named is what the file caches
in_file : (slot : SlotView) (file first k : ℕ) (f : Flat) → LiesUnder slot Private first f → slot.file ≡ Some file → slot.base ≤ first → k < BLOCK_PAGES → named f (first + k) ≡ folio_named (cached file (slot.index + (first - slot.base) + k) f.cache)
in_file slot file first k f u e le lt =
    named_is slot Private first k f u lt
    ∙ (ap (λ (o : Option ℕ). file_named ((slot.index + (first + k)) - slot.base) f.cache o) e
    ∙ ap (λ (i : ℕ). folio_named (cached file i f.cache)) (sym (index_next slot.index first slot.base k le)))

pub private_block : (slot : SlotView) (file first frame : ℕ) (f : Flat) → LiesUnder slot Private first f → slot.file ≡ Some file → slot.base ≤ first → IsBlockFrom file (slot.index + (first - slot.base)) frame f → IsConsecutive (from_page first) f
private_block slot file first frame f u e le b = (frame, b.aligned, inr (λ k lt. subst (λ (o : Option Named). IsFrame (frame + k) o) (sym (in_file slot file first k f u e le lt)) (frame_named (frame + k) _ (b.follow k lt))))

pub private_back : (slot : SlotView) (file first : ℕ) (f : Flat) → LiesUnder slot Private first f → slot.file ≡ Some file → slot.base ≤ first → ((frame : ℕ) → IsBlockFrom file (slot.index + (first - slot.base)) frame f → ⊥) → IsConsecutive (from_page first) f → ⊥
private_back slot file first f u e le n c = go c.2
  where
    go : ((k : ℕ) → k < BLOCK_PAGES → IsUserPage (c.0 + k) (named f (first + k))) ⊎ ((k : ℕ) → k < BLOCK_PAGES → IsFrame (c.0 + k) (named f (first + k))) → ⊥
    go (inl h) = never_user (c.0 + 0) _ (subst (IsUserPage (c.0 + 0)) (in_file slot file first 0 f u e le (lit< tt)) (h 0 (lit< tt)))
    go (inr h) = n c.0 (record { aligned = c.1; follow = λ k lt. named_frame (c.0 + k) _ (subst (IsFrame (c.0 + k)) (in_file slot file first k f u e le lt) (h k lt)) })

-- nothing is named where the slot has no file
pub no_file : (slot : SlotView) (first : ℕ) (f : Flat) → LiesUnder slot Private first f → slot.file ≡ None → IsConsecutive (from_page first) f → ⊥
no_file slot first f u e c = go c.2
  where
    nothing : named f (first + 0) ≡ None
    nothing = named_is slot Private first 0 f u (lit< tt) ∙ ap (λ (o : Option ℕ). file_named ((slot.index + (first + 0)) - slot.base) f.cache o) e

    go : ((k : ℕ) → k < BLOCK_PAGES → IsUserPage (c.0 + k) (named f (first + k))) ⊎ ((k : ℕ) → k < BLOCK_PAGES → IsFrame (c.0 + k) (named f (first + k))) → ⊥
    go (inl h) = subst (IsUserPage (c.0 + 0)) nothing (h 0 (lit< tt))
    go (inr h) = subst (IsFrame (c.0 + 0)) nothing (h 0 (lit< tt))

-- the tests of the level, whose block isn't told to be mixed

tests_of : (c h : Bool) → cond (true && (c && (true && (true && not h)))) Block Small ≡ Block → (c ≡ true) × (h ≡ false)
tests_of true false e = (refl, refl)
tests_of true true e = absurd (cc)
tests_of false h e = absurd (cc)

of_tests : (c h : Bool) → c ≡ true → h ≡ false → cond (true && (c && (true && (true && not h)))) Block Small ≡ Small → ⊥
of_tests c h e i x = go c h e i x
  where
    go : (c h : Bool) → c ≡ true → h ≡ false → cond (true && (c && (true && (true && not h)))) Block Small ≡ Small → ⊥
    go true false e i x = absurd (cc)
    go true true e i x = absurd (cc)
    go false h e i x = absurd (cc)

and_swap : (x y : Bool) → (x && y) ≡ (y && x)
and_swap true true = refl
and_swap true false = refl
and_swap false true = refl
and_swap false false = refl

meets_either_way : (range : Option Extent) (block : Extent) → fault.hull_meets range block ≡ hull_meets block range
meets_either_way None block = refl
meets_either_way (Some r) block = and_swap (ltb r.lo block.hi) (ltb block.lo r.hi)

-- the slot covers the block
covers_it : (block : Extent) (slot : SlotView) (o : Option SlotView) → o ≡ Some slot → SlotCovers block o → fault.contains (slot_span slot) block ≡ true
covers_it block slot o e c = let d : SlotCovers block (Some slot) = subst (SlotCovers block) e c in tested slot.base block.lo block.hi (slot.base + slot.pages) d.0 d.1
  where
    tested : (a b c d : ℕ) → a ≤ b → c ≤ d → (leb a b && leb c d) ≡ true
    tested a b c d h g = grind (arith, nat_tests)

bounds_of : (a b c d : ℕ) → (leb a b && leb c d) ≡ true → (a ≤ b) × (c ≤ d)
bounds_of a b c d h = grind (arith, nat_tests)

-- whether the block has a page of another kind

abbrev pub IsToldMixed : Bool → (ℕ → Kind) → ℕ → Kind → Type 0
IsToldMixed mixed K page kind = MatchBool mixed (SomeOther K (block_of page) kind) (AllHave K (block_of page) kind)

never_both : Private ≡ Shared → ⊥
never_both e = cc

-- as its flag tells it
pub by_flag : (mixed : Bool) (K : ℕ → Kind) (page : ℕ) (kind : Kind) → kind ≡ K page → MatchBool mixed (IsMixed K (page / BLOCK_PAGES)) (IsUniform K (page / BLOCK_PAGES)) → IsToldMixed mixed K page kind
by_flag false K page kind e u = λ h inside. u h page inside (in_own page) ∙ sym e
  where
    in_own : (page : ℕ) → (leb (512 * (page / 512)) page && ltb page (512 * (page / 512) + 512)) ≡ true
    in_own page = grind (arith, nat_tests)
by_flag true K page Private e m = (m.1, m.3, λ p. never_both (sym p ∙ m.5))
by_flag true K page Shared e m = (m.0, m.2, λ p. never_both (sym m.4 ∙ p))

-- as its pages tell it
pub by_pages : (same : Bool) (K : ℕ → Kind) (page : ℕ) (kind : Kind) → MatchBool same (AllHave K (block_of page) kind) (SomeOther K (block_of page) kind) → IsToldMixed (not same) K page kind
by_pages true K page kind m = m
by_pages false K page kind m = m

pub told_mixed : (mixed : Bool) (K : ℕ → Kind) (page : ℕ) (kind : Kind) → mixed ≡ true → IsToldMixed mixed K page kind → SomeOther K (block_of page) kind
told_mixed true K page kind e m = m
told_mixed false K page kind e m = absurd (cc)

pub told_same : (mixed : Bool) (K : ℕ → Kind) (page : ℕ) (kind : Kind) → mixed ≡ false → IsToldMixed mixed K page kind → AllHave K (block_of page) kind
told_same true K page kind e m = absurd (cc)
told_same false K page kind e m = m

-- what the level is judged by: the state stands, no two slots meet, the slot over the page isn't marked
pub record LevelAsked (s : Setup) (st : StateView) (m : Memory) (slot : SlotView) (page : ℕ) : Type 0 where
  pub is : StateIs s st m
  pub over : slot_over st.slots.slots page ≡ Some slot
  pub unmarked : slot.invalid ≡ false

over_flat : (s : Setup) (st : StateView) (m : Memory) (slot : SlotView) (page : ℕ) → StateIs s st m → slot_over st.slots.slots page ≡ Some slot → slot_over m.stored.flat.slots page ≡ Some slot
over_flat s st m slot page i o = subst (λ (l : List SlotView). slot_over l page ≡ Some slot) i.slots_are o

pub not_a_block : (s : Setup) (st : StateView) (m : Memory) (slot : SlotView) (page : ℕ) (range : Option Extent) → LevelAsked s st m slot page → fault.level_of true slot page false true range ≡ Small → IsWholeBlock true page m.stored.flat range → ⊥
not_a_block s st m slot page range a e w =
    of_tests (fault.contains (slot_span slot) (block_of page)) (fault.hull_meets range (block_of page))
    (covers_it (block_of page) slot (slot_over m.stored.flat.slots page) (over_flat s st m slot page a.is a.over) w.one_slot)
    (meets_either_way range (block_of page) ∙ w.no_invalidation)
    e

-- the tests of a block passed
pub record Passed (slot : SlotView) (page : ℕ) (range : Option Extent) : Type 0 where
  pub covers : lies_in (slot_span slot) (page / BLOCK_PAGES) ≡ true
  pub from : slot.base ≤ (block_of page).lo
  pub to : (block_of page).hi ≤ slot.base + slot.pages
  pub unmet : hull_meets (block_of page) range ≡ false

pub passed : (slot : SlotView) (page : ℕ) (range : Option Extent) → fault.level_of true slot page false true range ≡ Block → Passed slot page range
passed slot page range e =
    let t = tests_of (fault.contains (slot_span slot) (block_of page)) (fault.hull_meets range (block_of page)) e in
    let b = bounds_of slot.base (block_of page).lo (block_of page).hi (slot.base + slot.pages) t.0 in
    record { covers = t.0; from = b.0; to = b.1; unmet = sym (meets_either_way range (block_of page)) ∙ t.1 }

-- so its flag is there, where blocks have flags
pub has_flag : (s : Setup) (st : StateView) (m : Memory) (slot : SlotView) (page : ℕ) (range : Option Extent) → StateIs s st m → slot_over st.slots.slots page ≡ Some slot → fault.level_of true slot page false true range ≡ Block → st.huge ≡ true → is_tracked st.attrs (page / BLOCK_PAGES) ≡ true
has_flag s st m slot page range i o e h = tracked_under s.huge st.huge st.attrs m.stored.flat.slots page (page / BLOCK_PAGES) slot i.blocks h (over_flat s st m slot page i o) (passed slot page range e).covers

-- a mixed block is none
pub mixed_no_block : (s : Setup) (st : StateView) (m : Memory) (page : ℕ) (kind : Kind) (range : Option Extent) → StateIs s st m → kind ≡ attr_of page m.stored.flat.attrs → SomeOther (kind_at st.attrs) (block_of page) kind → IsWholeBlock true page m.stored.flat range → ⊥
mixed_no_block s st m page kind range i k other w = other.2 (i.attrs_are other.0 ∙ (w.one_kind other.0 other.1 ∙ sym k))

pub lies_under : (s : Setup) (st : StateView) (m : Memory) (slot : SlotView) (page : ℕ) (kind : Kind) (range : Option Extent) → LevelAsked s st m slot page → AllHave (kind_at st.attrs) (block_of page) kind → SlotsStand m.stored.flat → Passed slot page range → LiesUnder slot kind (block_of page).lo m.stored.flat
lies_under s st m slot page kind range a kinds stand p = record {
  unmarked = a.unmarked;
  over = λ k lt. all_its_pages page ((block_of page).lo + k) slot m.stored.flat.slots stand.lie_apart (over_flat s st m slot page a.is a.over) (inside (block_of page).lo k slot.base (slot.base + slot.pages) p.from p.to lt);
  kinds = λ k lt. sym (a.is.attrs_are ((block_of page).lo + k)) ∙ kinds ((block_of page).lo + k) (held (block_of page).lo k lt);
}
  where
    inside : (a k b e : ℕ) → b ≤ a → a + 512 ≤ e → k < 512 → (leb b (a + k) && ltb (a + k) e) ≡ true
    inside a k b e h g lt = grind (arith, nat_tests)

    held : (a k : ℕ) → k < 512 → (leb a (a + k) && ltb (a + k) (a + 512)) ≡ true
    held a k lt = grind (arith, nat_tests)

pub block_or_page : (s : Setup) (st : StateView) (m : Memory) (slot : SlotView) (page : ℕ) (kind : Kind) (range : Option Extent) → LevelAsked s st m slot page → kind ≡ attr_of page m.stored.flat.attrs → AllHave (kind_at st.attrs) (block_of page) kind → SlotsStand m.stored.flat → Passed slot page range → IsConsecutive (from_page (block_of page).lo) m.stored.flat → IsWholeBlock true page m.stored.flat range
block_or_page s st m slot page kind range a k kinds stand p c = record {
  is_huge = refl;
  one_slot = subst (SlotCovers (block_of page)) (sym (over_flat s st m slot page a.is a.over)) (p.from, p.to);
  one_kind = λ h held. sym (a.is.attrs_are h) ∙ (kinds h held ∙ k);
  consecutive = c;
  no_invalidation = p.unmet;
}

-- the slot's pages have indexes below 2^52
pub indexes_below : (s : Setup) (st : StateView) (m : Memory) (slot : SlotView) (page : ℕ) → StateIs s st m → slot_over st.slots.slots page ≡ Some slot → slot.index + slot.pages ≤ PAGE_LIMIT
indexes_below s st m slot page i o = (of_over (IsBounded s.user) page slot m.stored.flat.slots i.bounded (over_flat s st m slot page i o)).indexes

-- what is told of the frames tells whether the block is whole
pub private_exact : (slot : SlotView) (file first : ℕ) (f : Flat) (o : Option ℕ) → LiesUnder slot Private first f → slot.file ≡ Some file → slot.base ≤ first → IfSome o (λ frame. IsBlockFrom file (slot.index + (first - slot.base)) frame f) → IfNone o ((frame : ℕ) → IsBlockFrom file (slot.index + (first - slot.base)) frame f → ⊥) → IsTrue (is_some o) ↔ IsConsecutive (from_page first) f
private_exact slot file first f None u e le h n = (λ y. absurd (cc), λ c. absurd (private_back slot file first f u e le n c))
private_exact slot file first f (Some frame) u e le h n = (λ y. private_block slot file first frame f u e le h, λ c. refl)

-- as it is asked
pub asked : (s : Setup) (st : StateView) (m : Memory) (slot : SlotView) (page : ℕ) → StateIs s st m → slot_over st.slots.slots page ≡ Some slot → slot.invalid ≡ false → LevelAsked s st m slot page
asked s st m slot page i o u = record { is = i; over = o; unmarked = u }

-- what the frames tell of the block tells its level
pub judged_whole : (s : Setup) (st : StateView) (m : Memory) (slot : SlotView) (page : ℕ) (kind : Kind) (range : Option Extent) (first : ℕ) (whole : Bool) → LevelAsked s st m slot page → kind ≡ attr_of page m.stored.flat.attrs → AllHave (kind_at st.attrs) (block_of page) kind → SlotsStand m.stored.flat → fault.level_of true slot page false true range ≡ Block → first ≡ (block_of page).lo → (LiesUnder slot kind first m.stored.flat → IsTrue whole ↔ IsConsecutive (from_page first) m.stored.flat) → IsTrue whole ↔ IsWholeBlock true page m.stored.flat range
judged_whole s st m slot page kind range first whole a k kinds stand e f h =
    let p = passed slot page range e in
    let g : IsTrue whole ↔ IsConsecutive (from_page (block_of page).lo) m.stored.flat = subst (λ (x : ℕ). LiesUnder slot kind x m.stored.flat → IsTrue whole ↔ IsConsecutive (from_page x) m.stored.flat) f h (lies_under s st m slot page kind range a kinds stand p) in
    (λ y. block_or_page s st m slot page kind range a k kinds stand p (g.0 y), λ w. g.1 w.consecutive)
