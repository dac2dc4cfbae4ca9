-- What is seen of the invalidations in progress, and the range that they keep.
use Rattle.std.specs.Prelude.{ℕ, ◌+◌, ◌≤◌, List, [], ◌∷◌, Bool, false, None, Some, nat_eq, if◌then◌else◌}
use Rattle.std.specs.declared.option.Option.{Option}
use Rattle.gm_base.specs.Extent.{Extent, cover, holds, meets}

-- a sequence, a count of brackets in progress and the range kept since the count was last 0
pub record Progress : Type 0 where
  pub seq : ℕ
  pub count : ℕ
  pub kept : Option Extent

-- a range widened by one span
abbrev pub widen : Option Extent → Extent → Option Extent
widen None s = Some s
widen (Some range) s = Some (cover range s)

-- a range widened by each span in turn
abbrev pub widen_all : Option Extent → List Extent → Option Extent
widen_all range [] = range
widen_all range (s ∷ spans) = widen_all (widen range s) spans

-- the range that a bracket begins to widen: none where no other is in progress
abbrev pub open_range : Progress → Option Extent
open_range i = if nat_eq i.count 0 then None else i.kept

-- after a bracket over the spans has begun
abbrev pub begun : Progress → List Extent → Progress
begun i spans = record { seq = i.seq; count = i.count + 1; kept = widen_all (open_range i) spans }

-- whether a range holds a page; none holds none
abbrev pub range_holds : Option Extent → ℕ → Bool
range_holds None page = false
range_holds (Some range) page = holds range page

-- whether a range meets a span; none meets none
abbrev pub range_meets : Option Extent → Extent → Bool
range_meets None s = false
range_meets (Some range) s = meets range s

-- the range covers the span
abbrev pub Covers : Option Extent → Extent → Type 0
Covers None s = ⊥
Covers (Some range) s = (range.lo ≤ s.lo) × (s.hi ≤ range.hi)

-- the range covers the other one; no range is covered by each
abbrev pub CoversRange : Option Extent → Option Extent → Type 0
CoversRange range None = Unit {0}
CoversRange range (Some s) = Covers range s

-- the range covers each span
abbrev pub CoversAll : Option Extent → List Extent → Type 0
CoversAll range [] = Unit {0}
CoversAll range (s ∷ spans) = Covers range s × CoversAll range spans

-- the range is the least that covers the first one and all the spans
pub record IsLeastOver (first : Option Extent) (spans : List Extent) (range : Option Extent) : Type 0 where
  pub covers_first : CoversRange range first
  pub covers_spans : CoversAll range spans
  pub least : (other : Option Extent) → CoversRange other first → CoversAll other spans → CoversRange other range
