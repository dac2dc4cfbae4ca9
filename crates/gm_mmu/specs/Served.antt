-- What is seen of the memory unit: who is served by what, and what is in progress.
use Rattle.std.specs.Prelude.{ℕ, List, [], ◌∷◌, Bool, false, ◌||◌, None, Some, slice_index_or, if◌then◌else◌}
use Rattle.std.specs.declared.option.Option.{Option}
use Rattle.gm_base.specs.Aim.{Aim}
use Rattle.gm_base.specs.Extent.{Extent}
use Rattle.gm_base.specs.Leaf.{meets_leaf, serves}
use Rattle.gm_base.specs.declared.leaf.Leaf.{Leaf}
use Rattle.gm_inval.specs.Range.{Progress}
use Rattle.gm_table.specs.Leaves.{leaf_over}
use Rattle.gm_tlb.specs.Fills.{latest}
use Rattle.gm_tlb.specs.Requests.{Requests}
use Rattle.gm_tlb.specs.declared.tlb.Fill.{Fill}

-- the leaves and for how many installs there is room; each vCPU's fills, of which the latest stands first; the requests
-- to flush, with who is inside; and the brackets in progress
pub record Serving : Type 0 where
  pub leaves : List Leaf
  pub spare : ℕ
  pub fills : List (List Fill)
  pub requests : Requests
  pub progress : Progress

-- the fills of a vCPU
abbrev pub fills_of : Serving → ℕ → List Fill
fills_of m v = slice_index_or m.fills v []

-- whether the leaf meets one of the spans
abbrev pub meets_one : List Extent → Leaf → Bool
meets_one [] leaf = false
meets_one (s ∷ spans) leaf = meets_leaf leaf s || meets_one spans leaf

-- the leaves that meet none of the spans
abbrev pub apart_from_all : List Extent → List Leaf → List Leaf
apart_from_all spans [] = []
apart_from_all spans (leaf ∷ leaves) = if meets_one spans leaf then apart_from_all spans leaves else leaf ∷ apart_from_all spans leaves

-- a leaf, unless it meets one of the spans
abbrev pub unless_one_met : List Extent → Option Leaf → Option Leaf
unless_one_met spans None = None
unless_one_met spans (Some leaf) = if meets_one spans leaf then None else Some leaf

-- the fill of a leaf at a position, where it serves the access
abbrev pub walked : Option Leaf → Aim → ℕ → Option Fill
walked None a at = None
walked (Some leaf) a at = if serves leaf a then Some (record { leaf = leaf; at = at }) else None

-- the first fill of two that is there
abbrev pub first_of : Option Fill → Option Fill → Option Fill
first_of None other = other
first_of (Some fill) other = Some fill

-- what serves an access of a vCPU: the latest of its fills that does, else the leaf that does, at this position
abbrev pub served : Serving → ℕ → Aim → ℕ → Option Fill
served m v a at = first_of (latest (fills_of m v) a) (walked (leaf_over m.leaves a.page) a at)
