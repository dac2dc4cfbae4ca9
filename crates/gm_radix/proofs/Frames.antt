-- What a change of some nodes leaves of the trees beside them.
use Rattle.std.proofs.Common.{◌≡◌, ◌≢◌, ℕ, ◌+◌, ◌<◌, ◌≤◌, ◌⊎◌, inl, inr, List, [], ◌∷◌, ◌++◌, length, refl, ap, sym, ◌∙◌, subst, arith, length-append}
use Rattle.std.specs.Prelude.{None, Some}
use Rattle.std.specs.declared.option.Option.{Option}
use Rattle.slab.specs.Slab.{Slab, get, Updates}
use Rattle.gm_base.specs.declared.numbers.TheConstants.{PAGE_LIMIT}
use Rattle.gm_radix.specs.declared.block.Block.{Block}
use Rattle.gm_radix.specs.declared.node.Node.{Node}
use Rattle.gm_radix.specs.declared.node.Node.TheVariants.{Leaf, Fork}
use Rattle.gm_radix.specs.declared.node.Parts.{Parts}
use Rattle.gm_radix.specs.Entries.{put}
use Rattle.gm_radix.specs.Nodes.{node_at, first_of, end_of, Holds, leaf, fork, under, IsPart, Keeps, entries_of, HoldsRest, IsRest, StandsBeside, nodes_of}
use Rattle.gm_radix.proofs.Held.{Holds-order, Holds-some, Holds-wider, Holds-rises, under-Holds, AtFork}
use Rattle.gm_radix.proofs.Lists.{put_before, put_after, length-Rises}

module _ {V : Type 0} where
  -- the node under a tree's key is within its bounds
  pub Holds-inside : {slots : List (Option (Node V))} {key lo hi : ℕ} {entries : List (ℕ × V)} (node : Node V) → node_at slots key ≡ Some node → Holds slots key lo hi entries → (lo ≤ first_of node) × (end_of node ≤ hi)
  Holds-inside node is (leaf {lo = lo} {hi = hi} {index = i} {value = v} found low high) =
      let same : Leaf i v ≡ node = cc in
      subst (λ (n : Node V). (lo ≤ first_of n) × (end_of n ≤ hi)) same (low, omega arith)
  Holds-inside node is (fork {lo = lo} {hi = hi} {parts = p} found low high count l r e) =
      let same : Fork p ≡ node = cc in
      subst (λ (n : Node V). (lo ≤ first_of n) × (end_of n ≤ hi)) same (low, high)

  -- which are its bounds, too
  pub Holds-tight : {slots : List (Option (Node V))} {key lo hi : ℕ} {entries : List (ℕ × V)} (node : Node V) → node_at slots key ≡ Some node → Holds slots key lo hi entries → Holds slots key (first_of node) (end_of node) entries
  Holds-tight {slots} {key} node is (leaf {index = i} {value = v} found low high) =
      let same : Leaf i v ≡ node = cc in
      subst (λ (n : Node V). Holds slots key (first_of n) (end_of n) ((i, v) ∷ [])) same (leaf found (omega arith) (omega arith))
  Holds-tight {slots} {key} {entries = es} node is (fork {parts = p} found low high count l r e) =
      let same : Fork p ≡ node = cc in
      subst (λ (n : Node V). Holds slots key (first_of n) (end_of n) es) same (fork found (omega arith) (omega arith) count l r e)

  -- a tree stays where each node within its bounds does
  pub Holds-stays : {old new : List (Option (Node V))} {key lo hi : ℕ} {entries : List (ℕ × V)} → ((k : ℕ) (n : Node V) → node_at old k ≡ Some n → lo ≤ first_of n → first_of n < end_of n → end_of n ≤ hi → node_at new k ≡ Some n) → Holds old key lo hi entries → Holds new key lo hi entries
  Holds-stays s (leaf found low high) = leaf (s _ _ found low (omega arith) (omega arith)) low high
  Holds-stays s (fork found low high count l r is) =
      let a = Holds-order l in
      let b = Holds-order r in
      fork (s _ _ found low (omega arith) high) low high count
      (Holds-stays (λ k n f x y z. s k n f (omega arith) y (omega arith)) l)
      (Holds-stays (λ k n f x y z. s k n f (omega arith) y (omega arith)) r)
      is

  -- and where only nodes within other bounds change
  pub Holds-apart : {old new : List (Option (Node V))} {key lo hi a b : ℕ} {entries : List (ℕ × V)} → Keeps old new a b → (hi ≤ a) ⊎ (b ≤ lo) → Holds old key lo hi entries → Holds new key lo hi entries
  Holds-apart k o h = Holds-stays (λ key node found x y z. k.outside key node found (elim o [ inl p ↦ inl (omega arith) | inr q ↦ inr (omega arith) ])) h

  -- and where one node changes that isn't within them
  pub Holds-updates : {old new : Slab (Node V)} {at : ℕ} {slot : Option (Node V)} {key lo hi : ℕ} {entries : List (ℕ × V)} (node : Node V) → Updates old new at slot → node_at old.slots at ≡ Some node → (first_of node < lo) ⊎ (hi < end_of node) → Holds old.slots key lo hi entries → Holds new.slots key lo hi entries
  Holds-updates {old = old} {at = at} {lo = lo} {hi = hi} node u is out h = Holds-stays (λ k n found x y z. u.others k (λ (e : k ≡ at). other k n found e x z) ∙ found) h
    where
      other : (k : ℕ) (n : Node V) → node_at old.slots k ≡ Some n → k ≡ at → lo ≤ first_of n → end_of n ≤ hi → ⊥
      other k n found e x z =
          let same : n ≡ node = cc in
          let f = ap first_of same in
          let l = ap end_of same in
          elim out [ inl p ↦ omega arith | inr q ↦ omega arith ]

  pub Keeps-updates : {old new : Slab (Node V)} {at : ℕ} {slot : Option (Node V)} {lo hi : ℕ} (node : Node V) → Updates old new at slot → node_at old.slots at ≡ Some node → lo ≤ first_of node → end_of node ≤ hi → Keeps old.slots new.slots lo hi
  Keeps-updates {old} {at = at} {lo = lo} {hi = hi} node u is low high = record { outside = λ k n found o. u.others k (λ (e : k ≡ at). other k n found e o) ∙ found }
    where
      other : (k : ℕ) (n : Node V) → node_at old.slots k ≡ Some n → k ≡ at → (first_of n < lo) ⊎ (hi < end_of n) → ⊥
      other k n found e o =
          let same : n ≡ node = cc in
          let f = ap first_of same in
          let l = ap end_of same in
          elim o [ inl p ↦ omega arith | inr q ↦ omega arith ]

  pub Keeps-wider : {old new : List (Option (Node V))} {a b : ℕ} (lo hi : ℕ) → lo ≤ a → b ≤ hi → Keeps old new a b → Keeps old new lo hi
  Keeps-wider lo hi p q k = record { outside = λ key node found o. k.outside key node found (elim o [ inl x ↦ inl (omega arith) | inr y ↦ inr (omega arith) ]) }

  pub Keeps-then : {first second third : List (Option (Node V))} {lo hi : ℕ} → Keeps first second lo hi → Keeps second third lo hi → Keeps first third lo hi
  Keeps-then k m = record { outside = λ key node found o. m.outside key node (k.outside key node found o) o }

-- a fork of which one part changes, and then its count
module _ {V : Type 0} where
  pub fork_left : {old : List (Option (Node V))} {mid new : Slab (Node V)} {key lo hi : ℕ} {entries left : List (ℕ × V)} {parts : Parts} (count : ℕ) → AtFork old key lo hi entries parts → node_at mid.slots key ≡ Some (Fork parts) → Keeps old mid.slots parts.block.first parts.block.pivot → Holds mid.slots parts.left parts.block.first parts.block.pivot left → Updates mid new key (Some (Fork (record parts { count = count }))) → count ≡ length (left ++ under old parts.right) → Holds new.slots key lo hi (left ++ under old parts.right)
  fork_left {parts = p} count f found k l u is =
      let a = Holds-order l in
      let b = Holds-order f.right.holds in
      let r = Holds-apart k (inr (omega arith)) f.right.holds in
      fork u.changed f.low f.high is (Holds-updates (Fork p) u found (inr b) l) (Holds-updates (Fork p) u found (inl a) r) refl

  pub fork_right : {old : List (Option (Node V))} {mid new : Slab (Node V)} {key lo hi : ℕ} {entries right : List (ℕ × V)} {parts : Parts} (count : ℕ) → AtFork old key lo hi entries parts → node_at mid.slots key ≡ Some (Fork parts) → Keeps old mid.slots parts.block.pivot parts.block.end → Holds mid.slots parts.right parts.block.pivot parts.block.end right → Updates mid new key (Some (Fork (record parts { count = count }))) → count ≡ length (under old parts.left ++ right) → Holds new.slots key lo hi (under old parts.left ++ right)
  fork_right {parts = p} count f found k r u is =
      let a = Holds-order f.left.holds in
      let b = Holds-order r in
      let l = Holds-apart k (inl (omega arith)) f.left.holds in
      fork u.changed f.low f.high is (Holds-updates (Fork p) u found (inr b) l) (Holds-updates (Fork p) u found (inl a) r) refl

-- what is left of a tree
module _ {V : Type 0} where
  pub HoldsRest-wider : (slots : List (Option (Node V))) (a b : ℕ) (entries : List (ℕ × V)) (rest : Option ℕ) (lo hi : ℕ) → lo ≤ a → b ≤ hi → HoldsRest slots rest a b entries → HoldsRest slots rest lo hi entries
  HoldsRest-wider slots a b entries None lo hi p q h = h
  HoldsRest-wider slots a b entries (Some key) lo hi p q h = Holds-wider lo hi p q h

  pub HoldsRest-apart : {old new : List (Option (Node V))} {a b : ℕ} (lo hi : ℕ) (entries : List (ℕ × V)) (rest : Option ℕ) → Keeps old new a b → (hi ≤ a) ⊎ (b ≤ lo) → HoldsRest old rest lo hi entries → HoldsRest new rest lo hi entries
  HoldsRest-apart lo hi entries None k o h = h
  HoldsRest-apart lo hi entries (Some key) k o h = Holds-apart k o h

  pub HoldsRest-updates : {old new : Slab (Node V)} {at : ℕ} {slot : Option (Node V)} (lo hi : ℕ) (entries : List (ℕ × V)) (rest : Option ℕ) (node : Node V) → Updates old new at slot → node_at old.slots at ≡ Some node → (first_of node < lo) ⊎ (hi < end_of node) → HoldsRest old.slots rest lo hi entries → HoldsRest new.slots rest lo hi entries
  HoldsRest-updates lo hi entries None node u is out h = h
  HoldsRest-updates lo hi entries (Some key) node u is out h = Holds-updates node u is out h

  pub entries_of-HoldsRest : (slots : List (Option (Node V))) (lo hi : ℕ) (entries : List (ℕ × V)) (rest : Option ℕ) → hi ≤ PAGE_LIMIT → HoldsRest slots rest lo hi entries → entries_of slots rest ≡ entries
  entries_of-HoldsRest slots lo hi entries None p h = sym h
  entries_of-HoldsRest slots lo hi entries (Some key) p h = under-Holds p h

  pub IsRest-HoldsRest : (slots : List (Option (Node V))) (lo hi : ℕ) (entries : List (ℕ × V)) (rest : Option ℕ) → hi ≤ PAGE_LIMIT → HoldsRest slots rest lo hi entries → IsRest slots rest lo hi
  IsRest-HoldsRest slots lo hi entries rest p h =
      subst (λ (es : List (ℕ × V)). HoldsRest slots rest lo hi es) (sym (entries_of-HoldsRest slots lo hi entries rest p h)) h

-- a tree whose node moves to another key
module _ {V : Type 0} where
  pub Holds-moved : {old new : List (Option (Node V))} {key lo hi : ℕ} {entries : List (ℕ × V)} (moved : ℕ) → node_at new moved ≡ node_at old key → ((k : ℕ) (n : Node V) → node_at old k ≡ Some n → k ≢ key → node_at new k ≡ Some n) → Holds old key lo hi entries → Holds new moved lo hi entries
  Holds-moved moved same stays (leaf found low high) = leaf (same ∙ found) low high
  Holds-moved {old} moved same stays (fork {key = key} {parts = p} found low high count l r is) =
      let a = Holds-order l in
      let b = Holds-order r in
      fork (same ∙ found) low high count
      (Holds-stays (λ k n f x y z. stays k n f (λ (e : k ≡ key). other k n f e (inl (omega arith)))) l)
      (Holds-stays (λ k n f x y z. stays k n f (λ (e : k ≡ key). other k n f e (inr (omega arith)))) r)
      is
    where
      other : (k : ℕ) (n : Node V) → node_at old k ≡ Some n → k ≡ key → (end_of n < p.block.end) ⊎ (p.block.first < first_of n) → ⊥
      other k n f e o =
          let same : n ≡ Fork p = cc in
          let f = ap first_of same in
          let l = ap end_of same in
          elim o [ inl p ↦ omega arith | inr q ↦ omega arith ]

-- a fork over two trees
module _ {V : Type 0} where
  pub fork_over : {slots : List (Option (Node V))} {key : ℕ} {parts : Parts} {left right : List (ℕ × V)} → node_at slots key ≡ Some (Fork parts) → Holds slots parts.left parts.block.first parts.block.pivot left → Holds slots parts.right parts.block.pivot parts.block.end right → parts.count ≡ length (left ++ right) → Holds slots key parts.block.first parts.block.end (left ++ right)
  fork_over found l r count = fork found (omega arith) (omega arith) count l r refl

  -- a node is copied to a vacant key, one is put under a second vacant key, and one over the first
  pub record Moves (s0 s1 s2 s3 : Slab (Node V)) (key moved beside : ℕ) (node one two : Node V) : Type 0 where
    pub found : node_at s0.slots key ≡ Some node
    pub free : get s0 moved ≡ None
    pub copies : Updates s0 s1 moved (Some node)
    pub also_free : get s1 beside ≡ None
    pub adds : Updates s1 s2 beside (Some one)
    pub writes : Updates s2 s3 key (Some two)

  moves_others : {s0 s1 s2 s3 : Slab (Node V)} {key moved beside : ℕ} {node one two : Node V} → Moves s0 s1 s2 s3 key moved beside node one two → (k : ℕ) (n : Node V) → node_at s0.slots k ≡ Some n → k ≢ key → node_at s3.slots k ≡ Some n
  moves_others {s0} {s1} {moved = moved} {beside = beside} m k n found differs =
      let first : node_at s1.slots k ≡ Some n = m.copies.others k (λ (e : k ≡ moved). let f = m.free in cc) ∙ found in
      m.writes.others k differs ∙ (m.adds.others k (λ (e : k ≡ beside). let f = m.also_free in cc) ∙ first)

  moves_moved : {s0 s1 s2 s3 : Slab (Node V)} {key moved beside : ℕ} {node one two : Node V} → Moves s0 s1 s2 s3 key moved beside node one two → node_at s3.slots moved ≡ Some node
  moves_moved {key = key} {moved = moved} {beside = beside} m =
      let found = m.found in
      let free = m.free in
      let also_free = m.also_free in
      let changed = m.copies.changed in
      m.writes.others moved (λ (e : moved ≡ key). cc) ∙ (m.adds.others moved (λ (e : moved ≡ beside). cc) ∙ changed)

  moves_beside : {s0 s1 s2 s3 : Slab (Node V)} {key moved beside : ℕ} {node one two : Node V} → Moves s0 s1 s2 s3 key moved beside node one two → node_at s3.slots beside ≡ Some one
  moves_beside {s1 = s1} {key = key} {moved = moved} {beside = beside} {node = node} m =
      let found = m.found in
      let free = m.free in
      let also_free = m.also_free in
      let stays : node_at s1.slots key ≡ Some node = m.copies.others key (λ (e : key ≡ moved). cc) ∙ found in
      m.writes.others beside (λ (e : beside ≡ key). cc) ∙ m.adds.changed

  pub part_before : {s0 s1 s2 s3 : Slab (Node V)} {key moved beside : ℕ} {node : Node V} (block : Block) (count index : ℕ) (value : V) → Moves s0 s1 s2 s3 key moved beside node (Leaf index value) (Fork (record { block = block; left = beside; right = moved; count = count + 1 })) → count ≡ length (under s0.slots key) → block.first ≤ index → index < block.pivot → IsPart s0.slots key block.pivot block.end → Holds s3.slots key block.first block.end (put index value (under s0.slots key))
  part_before {s0} {s3 = s3} {key = key} {moved = moved} block count index value m c p q h =
      subst (λ (es : List (ℕ × V)). Holds s3.slots key block.first block.end es)
      (put_before index value block.pivot block.end (under s0.slots key) q (Holds-rises h))
      (fork_over m.writes.changed (leaf (moves_beside m) p q) (Holds-moved moved (moves_moved m ∙ sym m.found) (moves_others m) h) (omega arith))

  pub part_after : {s0 s1 s2 s3 : Slab (Node V)} {key moved beside : ℕ} {node : Node V} (block : Block) (count index : ℕ) (value : V) → Moves s0 s1 s2 s3 key moved beside node (Leaf index value) (Fork (record { block = block; left = moved; right = beside; count = count + 1 })) → count ≡ length (under s0.slots key) → IsPart s0.slots key block.first block.pivot → block.pivot ≤ index → index < block.end → Holds s3.slots key block.first block.end (put index value (under s0.slots key))
  part_after {s0} {s3 = s3} {key = key} {moved = moved} block count index value m c h p q =
      subst (λ (es : List (ℕ × V)). Holds s3.slots key block.first block.end es)
      (put_after index value block.first block.pivot (under s0.slots key) p (Holds-rises h))
      (fork_over m.writes.changed (Holds-moved moved (moves_moved m ∙ sym m.found) (moves_others m) h) (leaf (moves_beside m) p q) (omega (arith, length-append (under s0.slots key) ((index, value) ∷ []))))

  -- an entry beside a tree is a new one
  pub length-put_beside : (slots : List (Option (Node V))) (key : ℕ) (block : Block) (index : ℕ) (value : V) → StandsBeside slots key block index → length (put index value (under slots key)) ≡ length (under slots key) + 1
  length-put_beside slots key block index value b =
      let es = under slots key in
      elim b [
        | inl h ↦
            let e = ap (λ (x : List (ℕ × V)). length x) (put_before index value block.pivot block.end es h.1 (Holds-rises h.2)) in
            omega (arith, e)
        | inr h ↦
            let e = ap (λ (x : List (ℕ × V)). length x) (put_after index value block.first block.pivot es h.1 (Holds-rises h.0)) in
            omega (arith, e, length-append es ((index, value) ∷ []))
      ]

  -- there are fewer entries in one half of a block than indexes in both
  pub length-beside : (slots : List (Option (Node V))) (key : ℕ) (block : Block) (index : ℕ) → StandsBeside slots key block index → length (under slots key) < block.end
  length-beside slots key block index b =
      let es = under slots key in
      elim b [
        | inl h ↦ let o = Holds-order h.2 in omega (arith, length-Rises block.pivot block.end es (Holds-rises h.2))
        | inr h ↦ let o = Holds-order h.0 in omega (arith, length-Rises block.first block.pivot es (Holds-rises h.0))
      ]

  pub nodes_of-put_beside : (slots : List (Option (Node V))) (key : ℕ) (block : Block) (index : ℕ) (value : V) → StandsBeside slots key block index → nodes_of (put index value (under slots key)) ≡ nodes_of (under slots key) + 2
  nodes_of-put_beside slots key block index value b =
      let more = length-put_beside slots key block index value b in
      elim b [ inl h ↦ omega (arith, Holds-some h.2) | inr h ↦ omega (arith, Holds-some h.0) ]

  pub StandsBeside-block : {slots : List (Option (Node V))} {key lo hi : ℕ} (node : Node V) (block : Block) (index : ℕ) → node_at slots key ≡ Some node → IsPart slots key lo hi → ((block.first ≤ index) × (index < block.pivot) × (block.pivot ≤ first_of node) × (end_of node ≤ block.end)) ⊎ ((block.first ≤ first_of node) × (end_of node ≤ block.pivot) × (block.pivot ≤ index) × (index < block.end)) → StandsBeside slots key block index
  StandsBeside-block node block index found h o =
      let t = Holds-tight node found h in
      elim o [
        | inl p ↦ inl (p.0, p.1, Holds-wider block.pivot block.end p.2 p.3 t)
        | inr p ↦ inr (Holds-wider block.first block.pivot p.0 p.1 t, p.2, p.3)
      ]
