use Rattle.std.specs.Prelude.{ℕ, ◌+◌, Bool, ◌&&◌, nat_lt, nat_le}
use Rattle.gm_base.specs.declared.leaf.Leaf.{Leaf}
use Rattle.gm_base.specs.Aim.{Aim}
use Rattle.gm_base.specs.Extent.{Extent}
use Rattle.gm_base.specs.Values.{pages_of, same_kind, permits}

-- whether a page is one of the leaf's
abbrev pub covers : Leaf → ℕ → Bool
covers leaf page = nat_le leaf.first page && nat_lt page (leaf.first + pages_of leaf.level)

-- whether a page of the span is one of the leaf's
abbrev pub meets_leaf : Leaf → Extent → Bool
meets_leaf leaf s = nat_lt leaf.first s.hi && nat_lt s.lo (leaf.first + pages_of leaf.level)

-- whether the access may go by the leaf
abbrev pub serves : Leaf → Aim → Bool
serves leaf a = covers leaf a.page && (same_kind leaf.kind a.kind && permits leaf.writable a.op)
