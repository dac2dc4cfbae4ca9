-- What the nodes of a slab hold.
use Rattle.std.specs.Prelude.{◌≡◌, ℕ, zero, suc, ◌+◌, ◌-◌, ◌*◌, ◌<◌, ◌≤◌, ◌⊎◌, List, [], ◌∷◌, ◌++◌, length, None, Some, slice_index_or}
use Rattle.std.specs.declared.option.Option.{Option}
use Rattle.gm_base.specs.declared.numbers.TheConstants.{PAGE_LIMIT}
use Rattle.gm_radix.specs.declared.node.Node.{Node}
use Rattle.gm_radix.specs.declared.node.Node.TheVariants.{Leaf, Fork}
use Rattle.gm_radix.specs.declared.node.Parts.{Parts}
use Rattle.gm_radix.specs.declared.block.Block.{Block}
use Rattle.gm_radix.specs.declared.inserting.Half.{Half}

module _ {V : Type 0} where
  -- the node under a key
  abbrev pub node_at : List (Option (Node V)) → ℕ → Option (Node V)
  node_at slots key = slice_index_or slots key None

  -- where a node's indexes begin
  abbrev pub first_of : Node V → ℕ
  first_of (Leaf index value) = index
  first_of (Fork parts) = parts.block.first

  -- where they end
  abbrev pub end_of : Node V → ℕ
  end_of (Leaf index value) = index + 1
  end_of (Fork parts) = parts.block.end

  -- the node under the key holds these entries, each node of its tree has its indexes from lo on and below hi, and each
  -- fork tells how many entries it has
  pub data Holds (slots : List (Option (Node V))) : ℕ → ℕ → ℕ → List (ℕ × V) → Type 0 where
    leaf : {key lo hi index : ℕ} {value : V} → node_at slots key ≡ Some (Leaf index value) → lo ≤ index → index < hi → Holds slots key lo hi ((index, value) ∷ [])
    fork : {key lo hi : ℕ} {parts : Parts} {left right entries : List (ℕ × V)} → node_at slots key ≡ Some (Fork parts) → lo ≤ parts.block.first → parts.block.end ≤ hi → parts.count ≡ length entries → Holds slots parts.left parts.block.first parts.block.pivot left → Holds slots parts.right parts.block.pivot parts.block.end right → entries ≡ left ++ right → Holds slots key lo hi entries

  -- the entries of a node, of which each part's key has these
  abbrev pub entries_in : Option (Node V) → (ℕ → List (ℕ × V)) → List (ℕ × V)
  entries_in None part = []
  entries_in (Some (Leaf index value)) part = (index, value) ∷ []
  entries_in (Some (Fork parts)) part = part parts.left ++ part parts.right

  -- the entries under a key, down to a depth
  unfoldable pub read : ℕ → List (Option (Node V)) → ℕ → List (ℕ × V)
  read zero slots key = []
  read (suc depth) slots key = entries_in (node_at slots key) (read depth slots)

  -- the entries under a key
  unfoldable pub under : List (Option (Node V)) → ℕ → List (ℕ × V)
  under slots key = read PAGE_LIMIT slots key

  -- a tree stands under the key, within these bounds
  abbrev pub IsPart : List (Option (Node V)) → ℕ → ℕ → ℕ → Type 0
  IsPart slots key lo hi = Holds slots key lo hi (under slots key)

  -- a tree stands under the key
  abbrev pub IsTree : List (Option (Node V)) → ℕ → Type 0
  IsTree slots key = IsPart slots key 0 PAGE_LIMIT

  -- each node stays whose indexes aren't all from lo on and below hi
  pub record Keeps (old new : List (Option (Node V))) (lo hi : ℕ) : Type 0 where
    pub outside : (key : ℕ) (node : Node V) → node_at old key ≡ Some node → (first_of node < lo) ⊎ (hi < end_of node) → node_at new key ≡ Some node

  -- the block has the index in one half, and the tree under the key in the other
  abbrev pub StandsBeside : List (Option (Node V)) → ℕ → Block → ℕ → Type 0
  StandsBeside slots key block index =
      ((block.first ≤ index) × (index < block.pivot) × IsPart slots key block.pivot block.end) ⊎ (IsPart slots key block.first block.pivot × (block.pivot ≤ index) × (index < block.end))

  -- how many nodes a tree of these entries has
  abbrev pub nodes_of : List (ℕ × V) → ℕ
  nodes_of entries = 2 * length entries - 1

  -- the entries of what is left of a tree
  abbrev pub entries_of : List (Option (Node V)) → Option ℕ → List (ℕ × V)
  entries_of slots None = []
  entries_of slots (Some key) = under slots key

  -- what is left of a tree holds these entries
  abbrev pub HoldsRest : List (Option (Node V)) → Option ℕ → ℕ → ℕ → List (ℕ × V) → Type 0
  HoldsRest slots None lo hi entries = entries ≡ []
  HoldsRest slots (Some key) lo hi entries = Holds slots key lo hi entries

  -- what is left of a tree, within these bounds
  abbrev pub IsRest : List (Option (Node V)) → Option ℕ → ℕ → ℕ → Type 0
  IsRest slots rest lo hi = HoldsRest slots rest lo hi (entries_of slots rest)

  -- the nodes hold the entries below the limit and no others, with room for two more nodes at each of so many inserts
  pub record IsKept (slots : List (Option (Node V))) (root : Option ℕ) (len capacity spare : ℕ) : Type 0 where
    pub rest : IsRest slots root 0 PAGE_LIMIT
    pub nodes : len ≡ nodes_of (entries_of slots root)
    pub room : len + 2 * spare ≤ capacity

-- the half of a fork's block that has the index
abbrev pub HasHalf : Parts → ℕ → Half → Type 0
HasHalf parts index half =
    ((index < parts.block.pivot) × (half ≡ record { key = parts.left; from = parts.block.first; to = parts.block.pivot }))
    ⊎ ((parts.block.pivot ≤ index) × (half ≡ record { key = parts.right; from = parts.block.pivot; to = parts.block.end }))
