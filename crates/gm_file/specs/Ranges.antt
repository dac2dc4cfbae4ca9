-- Ranges of a file's indexes that are bound for slots.
use Rattle.std.specs.Prelude.{ℕ, zero, suc, ◌<◌, ◌≤◌, List, [], ◌∷◌, Bool, ◌&&◌, nat_eq, nat_lt, None, Some, if◌then◌else◌}
use Rattle.std.specs.declared.option.Option.{Option}
use Rattle.gm_base.specs.declared.numbers.TheConstants.{PAGE_LIMIT}
use Rattle.gm_file.specs.declared.ranges.BoundRange.{BoundRange}

-- whether an index from lo on and below hi is one of the range's
abbrev pub meets_range : ℕ → ℕ → BoundRange → Bool
meets_range lo hi r = nat_lt lo hi && (nat_lt r.lo hi && nat_lt lo r.hi)

-- the ranges that meet, in order
abbrev pub met : ℕ → ℕ → List BoundRange → List BoundRange
met lo hi [] = []
met lo hi (r ∷ ranges) = if meets_range lo hi r then r ∷ met lo hi ranges else met lo hi ranges

-- with one more in its place, by rising first index
abbrev pub with_range : BoundRange → List BoundRange → List BoundRange
with_range r [] = r ∷ []
with_range r (other ∷ ranges) = if nat_lt r.lo other.lo then r ∷ other ∷ ranges else other ∷ with_range r ranges

-- without those of a slot
abbrev pub without_slot : ℕ → List BoundRange → List BoundRange
without_slot slot [] = []
without_slot slot (r ∷ ranges) = if nat_eq r.slot slot then without_slot slot ranges else r ∷ without_slot slot ranges

-- number k of the ranges, from 0 on
abbrev pub range_at : ℕ → List BoundRange → Option BoundRange
range_at k [] = None
range_at zero (r ∷ ranges) = Some r
range_at (suc k) (r ∷ ranges) = range_at k ranges

-- the slot of a range, if there is one
abbrev pub slot_of : Option BoundRange → Option ℕ
slot_of None = None
slot_of (Some r) = Some r.slot

-- a range as its first index, the one after its last, and its slot
abbrev pub parts_of : Option BoundRange → Option (ℕ × ℕ × ℕ)
parts_of None = None
parts_of (Some r) = Some (r.lo, r.hi, r.slot)

-- each has an index, all are below 2^52, and each begins at the end of the one before it or after that, the first at lo
-- or after that
abbrev pub LieApart : ℕ → List BoundRange → Type 0
LieApart lo [] = Unit {0}
LieApart lo (r ∷ ranges) = (lo ≤ r.lo) × (r.lo < r.hi) × (r.hi ≤ PAGE_LIMIT) × LieApart r.hi ranges
