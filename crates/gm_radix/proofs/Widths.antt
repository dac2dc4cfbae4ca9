-- The measure of a recursion down a tree.
use Rattle.std.specs.Prelude.{ℕ, ◌-◌, List, None, Some}
use Rattle.std.specs.declared.option.Option.{Option}
use Rattle.gm_radix.specs.declared.node.Node.{Node}
use Rattle.gm_radix.specs.Nodes.{node_at, first_of, end_of}

module _ {V : Type 0} where
  -- how many indexes the node under a key is for
  abbrev pub width_in : Option (Node V) → ℕ
  width_in None = 0
  width_in (Some node) = end_of node - first_of node

  abbrev pub width_at : List (Option (Node V)) → ℕ → ℕ
  width_at slots key = width_in (node_at slots key)
