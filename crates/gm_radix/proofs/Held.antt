-- What the nodes of a slab hold: its order, how it is read, and what of it a change elsewhere leaves.
use Rattle.std.proofs.Common.{◌≡◌, ℕ, zero, suc, ◌+◌, ◌-◌, ◌<◌, ◌≤◌, List, [], ◌∷◌, ◌++◌, length, ap, sym, ◌∙◌, subst, refl, arith, length-append}
use Rattle.std.specs.Prelude.{Some, IsSome}
use Rattle.std.specs.declared.option.Option.{Option}
use Rattle.gm_base.specs.declared.numbers.TheConstants.{PAGE_LIMIT}
use Rattle.gm_radix.specs.declared.node.Node.{Node}
use Rattle.gm_radix.specs.declared.node.Node.TheVariants.{Leaf, Fork}
use Rattle.gm_radix.specs.declared.node.Parts.{Parts}
use Rattle.gm_radix.specs.Entries.{Rises}
use Rattle.gm_radix.specs.Nodes.{node_at, Holds, leaf, fork, entries_in, read, under, IsPart, IsTree}
use Rattle.gm_radix.proofs.Widths.{width_at, width_in}
use Rattle.gm_radix.proofs.Lists.{Rises-append, Rises-wider}

module _ {V : Type 0} where
  -- a tree has indexes
  pub Holds-order : {slots : List (Option (Node V))} {key lo hi : ℕ} {entries : List (ℕ × V)} → Holds slots key lo hi entries → lo < hi
  Holds-order (leaf found low high) = omega arith
  Holds-order (fork found low high count l r is) = let a = Holds-order l in let b = Holds-order r in omega arith

  -- a node stands under its key
  pub Holds-found : {slots : List (Option (Node V))} {key lo hi : ℕ} {entries : List (ℕ × V)} → Holds slots key lo hi entries → IsSome (node_at slots key)
  Holds-found (leaf found low high) = subst (λ (n : Option (Node V)). IsSome n) (sym found) refl
  Holds-found (fork found low high count l r is) = subst (λ (n : Option (Node V)). IsSome n) (sym found) refl

  -- and it has entries
  pub Holds-some : {slots : List (Option (Node V))} {key lo hi : ℕ} {entries : List (ℕ × V)} → Holds slots key lo hi entries → 0 < length entries
  Holds-some (leaf found low high) = omega arith
  Holds-some (fork {left = ls} {right = rs} found low high count l r is) = rw is (omega (arith, length-append ls rs, Holds-some l))

  pub Holds-wider : {slots : List (Option (Node V))} {key lo hi : ℕ} {entries : List (ℕ × V)} (low high : ℕ) → low ≤ lo → hi ≤ high → Holds slots key lo hi entries → Holds slots key low high entries
  Holds-wider a b p q (leaf found low high) = leaf found (omega arith) (omega arith)
  Holds-wider a b p q (fork found low high count l r is) = fork found (omega arith) (omega arith) count l r is

  pub Holds-rises : {slots : List (Option (Node V))} {key lo hi : ℕ} {entries : List (ℕ × V)} → Holds slots key lo hi entries → Rises lo hi entries
  Holds-rises (leaf found low high) = ((low, high), tt)
  Holds-rises (fork {lo = lo} {hi = hi} {parts = p} {left = ls} {right = rs} found low high count l r is) =
      let a = Holds-order l in
      let b = Holds-order r in
      rw is (Rises-wider p.block.first p.block.end lo hi (ls ++ rs) low high (Rises-append p.block.first p.block.pivot p.block.end ls rs (omega arith) (omega arith) (Holds-rises l) (Holds-rises r)))

  -- a tree is read as the entries that it holds
  read-Holds : {slots : List (Option (Node V))} (depth : ℕ) {key lo hi : ℕ} {entries : List (ℕ × V)} → hi ≤ lo + depth → Holds slots key lo hi entries → read depth slots key ≡ entries
  unfolding read
  read-Holds zero p h = let o = Holds-order h in absurd (omega arith)
  read-Holds {slots} (suc depth) p (leaf found low high) = ap (λ (n : Option (Node V)). entries_in n (read depth slots)) found
  read-Holds {slots} (suc depth) p (fork {parts = q} {left = ls} {right = rs} found low high count l r is) =
      let a = Holds-order l in
      let b = Holds-order r in
      ap (λ (n : Option (Node V)). entries_in n (read depth slots)) found ∙ (rw (read-Holds depth (omega arith) l, read-Holds depth (omega arith) r) (sym is))

  pub under-Holds : {slots : List (Option (Node V))} {key lo hi : ℕ} {entries : List (ℕ × V)} → hi ≤ PAGE_LIMIT → Holds slots key lo hi entries → under slots key ≡ entries
  unfolding under
  under-Holds p h = read-Holds PAGE_LIMIT (omega arith) h

-- a tree by the node under its key
module _ {V : Type 0} where
  -- a tree is as wide as its bounds at most
  pub width-Holds : {slots : List (Option (Node V))} {key lo hi : ℕ} {entries : List (ℕ × V)} → Holds slots key lo hi entries → width_at slots key ≤ hi - lo
  width-Holds {lo = lo} {hi = hi} (leaf found low high) = subst (λ (n : Option (Node V)). width_in n ≤ hi - lo) (sym found) (omega arith)
  width-Holds {lo = lo} {hi = hi} (fork found low high count l r is) = subst (λ (n : Option (Node V)). width_in n ≤ hi - lo) (sym found) (omega arith)

  -- what is known of a tree with a leaf under its key
  pub record AtLeaf (lo hi : ℕ) (entries : List (ℕ × V)) (index : ℕ) (value : V) : Type 0 where
    pub low : lo ≤ index
    pub high : index < hi
    pub is : entries ≡ (index, value) ∷ []

  pub at_leaf : {slots : List (Option (Node V))} {key lo hi : ℕ} {entries : List (ℕ × V)} (index : ℕ) (value : V) → node_at slots key ≡ Some (Leaf index value) → Holds slots key lo hi entries → AtLeaf lo hi entries index value
  at_leaf index value found (leaf {index = i} {value = v} other low high) =
      let same : i ≡ index = cc in
      let also : v ≡ value = cc in
      record { low = omega arith; high = omega arith; is = cc }
  at_leaf index value found (fork other low high count l r is) = absurd (cc)

  -- a fork's tree has its indexes from its block's first one on
  pub Holds-from : {slots : List (Option (Node V))} {key lo hi : ℕ} {entries : List (ℕ × V)} (parts : Parts) (low : ℕ) → node_at slots key ≡ Some (Fork parts) → low ≤ parts.block.first → Holds slots key lo hi entries → Holds slots key low hi entries
  Holds-from parts low found below (leaf other p q) = absurd (cc)
  Holds-from {slots} {key} {lo} {hi} {entries} parts low found below (fork {parts = q} other p h count l r is) =
      let same : q ≡ parts = cc in
      fork other (subst (λ (x : Parts). low ≤ x.block.first) (sym same) below) h count l r is

  -- what is known of one of a fork's parts
  pub record AtPart (slots : List (Option (Node V))) (key part lo hi : ℕ) : Type 0 where
    pub holds : IsPart slots part lo hi
    pub tree : IsTree slots part
    pub less : width_at slots part < width_at slots key
    pub rises : Rises lo hi (under slots part)
    pub some : 0 < length (under slots part)

  -- what is known of a tree with a fork under its key
  pub record AtFork (slots : List (Option (Node V))) (key lo hi : ℕ) (entries : List (ℕ × V)) (parts : Parts) : Type 0 where
    pub low : lo ≤ parts.block.first
    pub high : parts.block.end ≤ hi
    pub left : AtPart slots key parts.left parts.block.first parts.block.pivot
    pub right : AtPart slots key parts.right parts.block.pivot parts.block.end
    pub width : width_at slots key ≡ parts.block.end - parts.block.first
    pub is : entries ≡ under slots parts.left ++ under slots parts.right
    pub count : parts.count ≡ length entries
    pub rises : Rises parts.block.first parts.block.end entries

  pub at_part : {slots : List (Option (Node V))} {key part lo hi : ℕ} {entries : List (ℕ × V)} → hi ≤ PAGE_LIMIT → hi - lo < width_at slots key → Holds slots part lo hi entries → AtPart slots key part lo hi
  at_part {slots} {part = part} {lo = lo} {hi = hi} limit less h =
      let same = under-Holds limit h in
      let holds : IsPart slots part lo hi = subst (λ (es : List (ℕ × V)). Holds slots part lo hi es) (sym same) h in
      record {
        holds = holds;
        tree = Holds-wider 0 PAGE_LIMIT (omega arith) limit holds;
        less = omega (arith, width-Holds h);
        rises = Holds-rises holds;
        some = Holds-some holds;
      }

  pub at_fork : {slots : List (Option (Node V))} {key lo hi : ℕ} {entries : List (ℕ × V)} (parts : Parts) → hi ≤ PAGE_LIMIT → node_at slots key ≡ Some (Fork parts) → Holds slots key lo hi entries → AtFork slots key lo hi entries parts
  at_fork parts p found (leaf other low high) = absurd (cc)
  at_fork {slots} {key} {lo} {hi} {entries} parts p found (fork {parts = q} {left = ls} {right = rs} other low high count l r is) =
      let same : q ≡ parts = cc in
      let a = Holds-order l in
      let b = Holds-order r in
      let width : width_at slots key ≡ q.block.end - q.block.first = ap width_in other in
      subst (λ (parts : Parts). AtFork slots key lo hi entries parts) same (record {
        low = low;
        high = high;
        left = at_part (omega arith) (omega arith) l;
        right = at_part (omega arith) (omega arith) r;
        width = width;
        is = rw (under-Holds (omega arith) l, under-Holds (omega arith) r) is;
        count = count;
        rises = rw is (Rises-append q.block.first q.block.pivot q.block.end ls rs (omega arith) (omega arith) (Holds-rises l) (Holds-rises r));
      })
