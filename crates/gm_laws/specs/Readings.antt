-- What the readings of a history say, in the words of their definitions.
use Rattle.std.specs.Prelude.{◌≡◌, ℕ, suc, ◌<◌, ◌≤◌, List, [], ◌∷◌, ◌++◌, Bool, true, false, ◌&&◌, ◌⊎◌, length, Some, None, nat_eq, nat_le, if◌then◌else◌}
use Rattle.std.specs.declared.option.Option.{Option}
use Rattle.gm_base.specs.Extent.{Extent, holds, meets}
use Rattle.gm_base.specs.declared.values.Kind.{Kind}
use Rattle.gm_base.specs.declared.values.Kind.TheVariants.{Shared}
use Rattle.gm_base.specs.declared.values.Actor.{Actor}
use Rattle.gm_flat.specs.declared.effect.Effect.{Effect}
use Rattle.gm_flat.specs.declared.effect.Effect.TheVariants.{Attr}
use Rattle.gm_flat.specs.declared.entry.Entry.{Entry}
use Rattle.gm_flat.specs.declared.entry.What.{What}
use Rattle.gm_flat.specs.declared.entry.What.TheVariants.{Enter, Flush, Miss, Install, Touch, Judge, Begin, Change, End, Answer, Gone}
use Rattle.gm_base.specs.Aim.{Aim}
use Rattle.gm_base.specs.declared.values.Level.{Level}
use Rattle.gm_flat.specs.FlatState.{Flat}
use Rattle.gm_flat.specs.NamedPage.{named}
use Rattle.gm_flat.specs.Histories.{is_vcpu, is_caller}
use Rattle.gm_flat.specs.Replay.{flat}
use Rattle.gm_flat.specs.Attribute.{attr_of}
use Rattle.gm_flat.specs.Mappings.{Mapping, flushed, any_meets, covered, new_leaf}
use Rattle.gm_flat.specs.Window.{is_on, settled}
use Rattle.gm_flat.specs.Invalidation.{count}
use Rattle.gm_laws.specs.Stands.{Stands, HasNone, NoneAfter, IsLast}

-- flushed: the position after the vCPU's last Flush, and 0 where there is none
abbrev pub is_flush : ℕ → What → Actor → Bool
is_flush v Flush a = is_vcpu v a
is_flush v _ a = false

abbrev pub flush_of : ℕ → Entry → Bool
flush_of v e = is_flush v e.what e.actor

abbrev pub FlushedIsLast : ℕ → List Entry → Type 0
FlushedIsLast v past = ((flushed v past ≡ 0) × HasNone (flush_of v) past) ⊎ ((e : Entry) × (before : List Entry) × IsLast (flush_of v) e before past × (flushed v past ≡ suc (length before)))

-- pending: a Begin stands at or after that position
abbrev pub is_begin : What → Bool
is_begin (Begin spans) = true
is_begin _ = false

abbrev pub HasBeginFrom : ℕ → List Entry → Type 0
HasBeginFrom n past = (e : Entry) × (before : List Entry) × Stands e before past × (is_begin e.what ≡ true) × (n ≤ length before)

-- inside: the last of the vCPU's Enter, Miss and Gone entries is an Enter
abbrev pub is_move : ℕ → What → Actor → Bool
is_move v Enter a = is_vcpu v a
is_move v (Miss access) a = is_vcpu v a
is_move v Gone a = is_vcpu v a
is_move v _ a = false

abbrev pub move_of : ℕ → Entry → Bool
move_of v e = is_move v e.what e.actor

abbrev pub is_enter : What → Bool
is_enter Enter = true
is_enter _ = false

abbrev pub LastIsEnter : ℕ → List Entry → Type 0
LastIsEnter v past = (e : Entry) × (before : List Entry) × IsLast (move_of v) e before past × (is_enter e.what ≡ true)

-- leaves: the Installs after which no Begin has a span that meets what they cover and no Install covers a page of it
abbrev pub Among : Mapping → List Mapping → Type 0
Among m [] = ⊥
Among m (x ∷ xs) = (m ≡ x) ⊎ Among m xs

abbrev pub made_by : What → Actor → List Entry → List Mapping
made_by (Install page level) a past = new_leaf page level a past
made_by _ a past = []

abbrev pub takes_away : Mapping → What → Bool
takes_away m (Install page level) = meets (covered level page) (covered m.level m.page)
takes_away m (Begin spans) = any_meets spans.list (covered m.level m.page)
takes_away m _ = false

abbrev pub away_with : Mapping → Entry → Bool
away_with m e = takes_away m e.what

abbrev pub IsStanding : Mapping → List Entry → Type 0
IsStanding m past = (e : Entry) × (before : List Entry) × Stands e before past × Among m (made_by e.what e.actor before) × NoneAfter (length before) (away_with m) past

-- fills: the last 256 of the vCPU's Touches since its last Flush whose fill is their own position
abbrev pub fill_at : ℕ → Aim → Level → Flat → Mapping
fill_at n access level f = record { made = n; page = access.page; level = level; kind = access.kind; gives = λ h. named f h }

abbrev pub filled_by : ℕ → What → Actor → List Entry → List Mapping
filled_by v (Touch access backing level value fill) a past = if is_vcpu v a && nat_eq fill (length past) then fill_at (length past) access level (flat past) ∷ [] else []
filled_by v _ a past = []

abbrev pub all_step : ℕ → What → Actor → List Mapping → List Mapping → List Mapping
all_step v Flush a new ms = if is_vcpu v a then [] else ms
all_step v _ a new ms = new ++ ms

-- all of them, the latest first
abbrev pub all_fills : ℕ → List Entry → List Mapping
all_fills v [] = []
all_fills v (e ∷ past) = all_step v e.what e.actor (filled_by v e.what e.actor past) (all_fills v past)

abbrev pub IsFillSince : ℕ → Mapping → List Entry → Type 0
IsFillSince v m past = (e : Entry) × (before : List Entry) × Stands e before past × (flushed v past ≤ length before) × Among m (filled_by v e.what e.actor before)

-- count: the number of Begins less the number of Ends
abbrev pub is_end : What → Bool
is_end End = true
is_end _ = false

abbrev pub how_many : (What → Bool) → List Entry → ℕ
how_many test [] = 0
how_many test (e ∷ past) = if test e.what then suc (how_many test past) else how_many test past

-- hull: the least span that covers all spans of the Begins since the count last rose from 0, and none where there are none
abbrev pub kept_step : What → ℕ → List Extent → List Extent
kept_step (Begin spans) n kept = (if nat_eq n 0 then [] else kept) ++ spans.list
kept_step End n kept = if nat_le n 1 then [] else kept
kept_step _ n kept = kept

-- those spans, in their order; none where the count is 0
abbrev pub kept_spans : List Entry → List Extent
kept_spans [] = []
kept_spans (e ∷ past) = kept_step e.what (count past) (kept_spans past)

abbrev pub IsWithin : Extent → Extent → Type 0
IsWithin s t = (t.lo ≤ s.lo) × (s.hi ≤ t.hi)

abbrev pub AllWithin : List Extent → Extent → Type 0
AllWithin [] t = Unit {0}
AllWithin (s ∷ spans) t = IsWithin s t × AllWithin spans t

abbrev pub HullWithin : Option Extent → Extent → Type 0
HullWithin None t = Unit {0}
HullWithin (Some h) t = IsWithin h t

abbrev pub AllWithinHull : List Extent → Option Extent → Type 0
AllWithinHull spans None = spans ≡ []
AllWithinHull spans (Some h) = AllWithin spans h

pub record IsLeastHull (spans : List Extent) (kept : Option Extent) : Type 0 where
  pub covers : AllWithinHull spans kept
  pub least : (t : Extent) → AllWithin spans t → HullWithin kept t
  pub none : spans ≡ [] → kept ≡ None

-- stale: an End stands at or after the sample's `at`, or the page lies in the hull
abbrev pub HasEndFrom : ℕ → List Entry → Type 0
HasEndFrom n past = (e : Entry) × (before : List Entry) × Stands e before past × (is_end e.what ≡ true) × (n ≤ length before)

-- attribute: the kind of the last attribute call whose span holds the page, and shared where none does
abbrev pub sets_by : ℕ → Effect → Bool
sets_by page (Attr span kind) = holds span page
sets_by page _ = false

abbrev pub sets : ℕ → What → Bool
sets page (Change effect) = sets_by page effect
sets page _ = false

abbrev pub sets_page : ℕ → Entry → Bool
sets_page page e = sets page e.what

abbrev pub IsKindBy : Kind → Effect → Type 0
IsKindBy kind (Attr span k) = kind ≡ k
IsKindBy kind _ = ⊥

abbrev pub IsKindOf : Kind → What → Type 0
IsKindOf kind (Change effect) = IsKindBy kind effect
IsKindOf kind _ = ⊥

abbrev pub AttributeIsLast : ℕ → List Entry → Type 0
AttributeIsLast page past = ((attr_of page (flat past).attrs ≡ Shared) × HasNone (sets_page page) past) ⊎ ((e : Entry) × (before : List Entry) × IsLast (sets_page page) e before past × IsKindOf (attr_of page (flat past).attrs) e.what)

-- settled: the greatest of the positions after the Changes on the page whose calls have their Answer
abbrev pub is_answer : What → Bool
is_answer (Answer reply) = true
is_answer _ = false

-- the entries that begin and end a caller's call
abbrev pub bounds_call : What → Bool
bounds_call (Judge ioctl) = true
bounds_call (Answer reply) = true
bounds_call _ = false

abbrev pub call_bound : ℕ → Entry → Bool
call_bound c e = is_caller c e.actor && bounds_call e.what

abbrev pub changes : ℕ → What → List Entry → Bool
changes page (Change effect) past = is_on effect (flat past) page
changes page _ past = false

-- a Change of the caller on the page whose call ends with an Answer, at `answered`: the first bound of the call after it
pub record IsSettled (page c : ℕ) (e : Entry) (before : List Entry) (a : Entry) (answered history : List Entry) : Type 0 where
  pub stands : Stands a answered history
  pub is_answer_of : (is_caller c a.actor ≡ true) × (is_answer a.what ≡ true)
  pub change : Stands e before answered
  pub is_change_of : (is_caller c e.actor ≡ true) × (changes page e.what before ≡ true)
  pub its_call : NoneAfter (length before) (call_bound c) answered

abbrev pub SettledIsLeast : ℕ → List Entry → Type 0
SettledIsLeast page past = (c : ℕ) (e : Entry) (before : List Entry) (a : Entry) (answered : List Entry) → IsSettled page c e before a answered past → length before < settled page past

abbrev pub SettledIsOne : ℕ → List Entry → Type 0
SettledIsOne page past = (settled page past ≡ 0) ⊎ ((c : ℕ) × (e : Entry) × (before : List Entry) × (a : Entry) × (answered : List Entry) × IsSettled page c e before a answered past × (settled page past ≡ suc (length before)))
