-- What every right history keeps true, entry by entry: the parts of the invariant by which touches and installs are right.
use Rattle.std.specs.Prelude.{◌≡◌, ℕ, ◌<◌, ◌≤◌, List, [], ◌∷◌, Bool, true, false, ◌⊎◌, length, Some, None}
use Rattle.std.specs.declared.option.Option.{Option}
use Rattle.gm_base.specs.Aim.{Aim}
use Rattle.gm_base.specs.Extent.{Extent}
use Rattle.gm_base.specs.declared.values.Actor.{Actor}
use Rattle.gm_base.specs.declared.values.Actor.TheVariants.{Caller}
use Rattle.gm_base.specs.declared.values.Folio.{Folio}
use Rattle.gm_base.specs.declared.values.Kind.{Kind}
use Rattle.gm_flat.specs.declared.effect.Backing.TheVariants.{Folio as InFolio}
use Rattle.gm_flat.specs.declared.entry.What.{What}
use Rattle.gm_flat.specs.declared.entry.What.TheVariants.{End}
use Rattle.gm_flat.specs.declared.entry.Entry.{Entry}
use Rattle.gm_flat.specs.declared.views.SlotView.{SlotView}
use Rattle.gm_flat.specs.Slots.{slot_over}
use Rattle.gm_flat.specs.Histories.{Seen, Gotten, Fault, Faulting, fault, Bracket, bracket}
use Rattle.gm_flat.specs.NamedPage.{Named, named, named_aside}
use Rattle.gm_flat.specs.Attribute.{attr_of}
use Rattle.gm_flat.specs.Replay.{flat, flat_at, looked_slot}
use Rattle.gm_flat.specs.Mappings.{Mapping, covers, any_holds, leaves, fills, inside, pending, flushed}
use Rattle.gm_flat.specs.Window.{changed}
use Rattle.gm_flat.specs.Invalidation.{stale, hull, in_hull}
use Rattle.gm_flat.specs.RightLives.{IsCached}
use Rattle.gm_flat.specs.RightTouch.{CanUse}
use Rattle.gm_laws.specs.Readings.{Among}

abbrev pub HasKind : Kind → Option Named → Type 0
HasKind kind None = ⊥
HasKind kind (Some m) = m.kind ≡ kind

-- *leaves name now*: a leaf gives each page that it covers what was named there at its Install, and that is named there now,
-- with the leaf's kind
pub record NamesNow (m : Mapping) (h : ℕ) (past : List Entry) : Type 0 where
  pub then_named : named (flat_at m.made past) h ≡ m.gives h
  pub now_named : named (flat past) h ≡ m.gives h
  pub has_kind : HasKind m.kind (m.gives h)

abbrev pub LeavesNameNow : List Entry → Type 0
LeavesNameNow past = (m : Mapping) (h : ℕ) → Among m (leaves past) → covers m h ≡ true → NamesNow m h past

-- *no leaf under a bracket*: no leaf covers a page of an open bracket's spans, and a fill that does is older than its Begin
pub record NoLeafUnderBracket (past : List Entry) : Type 0 where
  pub no_leaf : (c h : ℕ) (b : Bracket) (m : Mapping) → bracket c past ≡ Some b → Among m (leaves past) → covers m h ≡ true → any_holds b.spans h ≡ false
  pub old_fill : (c v h : ℕ) (b : Bracket) (m : Mapping) → bracket c past ≡ Some b → Among m (fills v past) → covers m h ≡ true → any_holds b.spans h ≡ true → m.made < b.begun

-- *fills name then*: a fill gives what was named at its position; that is named now with marks left aside, and no change on
-- the page is newer, or its vCPU is outside and flushes before it enters
pub record NamedThen (v h : ℕ) (m : Mapping) (past : List Entry) : Type 0 where
  pub since_flush : flushed v past ≤ m.made
  pub then_named : named (flat_at m.made past) h ≡ m.gives h
  pub has_kind : HasKind m.kind (m.gives h)
  pub now_or_out : ((named_aside (flat past) h ≡ m.gives h) × (changed h past ≤ m.made)) ⊎ ((inside v past ≡ false) × (pending v past ≡ true))

abbrev pub FillsNameThen : List Entry → Type 0
FillsNameThen past = (v h : ℕ) (m : Mapping) → Among m (fills v past) → covers m h ≡ true → NamedThen v h m past

-- *flushed inside*: a vCPU that is inside has flushed since the Begin of each open bracket that has its Acked; and each vCPU
-- has flushed since each open bracket's Begin, or has a flush pending
pub record FlushedInside (past : List Entry) : Type 0 where
  pub is_flushed : (c v : ℕ) (b : Bracket) → bracket c past ≡ Some b → b.acked ≡ true → inside v past ≡ true → b.begun < flushed v past
  pub is_asked : (c v : ℕ) (b : Bracket) → bracket c past ≡ Some b → (b.begun < flushed v past) ⊎ (pending v past ≡ true)
  pub in_hull_of : (c h : ℕ) (b : Bracket) → bracket c past ≡ Some b → any_holds b.spans h ≡ true → in_hull h (hull past) ≡ true

-- *no leaf under a bracket*, of brackets that have ended: their Begin, their End, their spans, and whether they had an Acked
pub record Closed : Type 0 where
  pub begun : ℕ
  pub ended : ℕ
  pub spans : List Extent
  pub acked : Bool

abbrev pub closed_by : ℕ → Option Bracket → List Closed → List Closed
closed_by n None xs = xs
closed_by n (Some b) xs = record { begun = b.begun; ended = n; spans = b.spans; acked = b.acked } ∷ xs

abbrev pub closed_step : What → Actor → List Entry → List Closed → List Closed
closed_step End (Caller c) past xs = closed_by (length past) (bracket c past) xs
closed_step _ a past xs = xs

abbrev pub closed : List Entry → List Closed
closed [] = []
closed (e ∷ past) = closed_step e.what e.actor past (closed past)

abbrev pub AmongClosed : Closed → List Closed → Type 0
AmongClosed x [] = ⊥
AmongClosed x (y ∷ ys) = (x ≡ y) ⊎ AmongClosed x ys

-- a fill that covers a page of an ended bracket's spans isn't between its Begin and its End; and *flushed inside*: a vCPU that
-- is inside has flushed since its Begin, where it had its Acked
pub record SinceBrackets (past : List Entry) : Type 0 where
  pub not_between : (v h : ℕ) (x : Closed) (m : Mapping) → AmongClosed x (closed past) → Among m (fills v past) → covers m h ≡ true → any_holds x.spans h ≡ true → (m.made < x.begun) ⊎ (x.ended < m.made)
  pub is_flushed : (v : ℕ) (x : Closed) → AmongClosed x (closed past) → x.acked ≡ true → inside v past ≡ true → x.begun < flushed v past

-- *faults are stale or true*: a fault after its Look is stale, or the slot that it found, its file and the attribute are those
-- of now, also after its Get; after its Get it is stale, or what it got is named now
abbrev pub IsTrueLook : Aim → ℕ → Seen → Option SlotView → List Entry → Type 0
IsTrueLook a sample seen None past = Unit {0}
IsTrueLook a sample seen (Some s) past = (stale (Some sample) a.page past ≡ true) ⊎ ((slot_over (flat past).slots a.page ≡ Some s) × (seen.file ≡ s.file) × (attr_of a.page (flat past).attrs ≡ seen.attr))

abbrev pub IsTrueGet : Aim → ℕ → Option Gotten → List Entry → Type 0
IsTrueGet a sample None past = Unit {0}
IsTrueGet a sample (Some gotten) past = (stale (Some sample) a.page past ≡ true) ⊎ CanUse a gotten.backing (named (flat past) a.page)

abbrev pub IsTrueFault : List Entry → Fault → Type 0
IsTrueFault past (Faulting a missed (Some sample) (Some seen) got) = IsTrueLook a sample seen (looked_slot seen past) past × IsTrueGet a sample got past
IsTrueFault past _ = Unit {0}

abbrev pub FaultsAreStaleOrTrue : List Entry → Type 0
FaultsAreStaleOrTrue past = (v : ℕ) → IsTrueFault past (fault v past)

-- *live folios are cached or held* stands with the right lives, at the end of each turn. Here: a folio that a leaf, or a fill of
-- a vCPU inside, gives to a page that it covers is cached
abbrev pub GivesFolio : Folio → Option Named → Type 0
GivesFolio folio None = ⊥
GivesFolio folio (Some m) = m.backing ≡ InFolio folio

pub record NamesCached (past : List Entry) : Type 0 where
  pub by_leaf : (m : Mapping) (h : ℕ) (folio : Folio) → Among m (leaves past) → covers m h ≡ true → GivesFolio folio (m.gives h) → IsCached folio.serial (flat past)
  pub by_fill : (v : ℕ) (m : Mapping) (h : ℕ) (folio : Folio) → inside v past ≡ true → Among m (fills v past) → covers m h ≡ true → GivesFolio folio (m.gives h) → IsCached folio.serial (flat past)

pub record Invariant (past : List Entry) : Type 0 where
  pub leaves_name_now : LeavesNameNow past
  pub no_leaf_under_bracket : NoLeafUnderBracket past
  pub fills_name_then : FillsNameThen past
  pub flushed_inside : FlushedInside past
  pub since_brackets : SinceBrackets past
  pub faults_are_stale_or_true : FaultsAreStaleOrTrue past
  pub names_cached : NamesCached past
