-- A fork of which both parts lose entries, one after the other.
use Rattle.std.proofs.Common.{◌≡◌, ℕ, ◌<◌, ◌≤◌, inl, inr, List, ◌++◌, ap, sym, ◌∙◌, subst, arith}
use Rattle.std.specs.Prelude.{Some}
use Rattle.std.specs.declared.option.Option.{Option}
use Rattle.gm_base.specs.declared.numbers.TheConstants.{PAGE_LIMIT}
use Rattle.gm_radix.specs.declared.node.Node.{Node}
use Rattle.gm_radix.specs.declared.node.Node.TheVariants.{Fork}
use Rattle.gm_radix.specs.declared.node.Parts.{Parts}
use Rattle.gm_radix.specs.Entries.{without}
use Rattle.gm_radix.specs.Nodes.{node_at, under, Holds, IsPart, Keeps, entries_of, HoldsRest, IsRest}
use Rattle.gm_radix.proofs.Widths.{width_at}
use Rattle.gm_radix.proofs.Frames.{Holds-apart, HoldsRest-apart, entries_of-HoldsRest, IsRest-HoldsRest}
use Rattle.gm_radix.proofs.Held.{Holds-order, under-Holds, width-Holds, AtFork}
use Rattle.gm_radix.proofs.Lists.{without-append}

module _ {V : Type 0} where
  -- what is known of the second part once the first was visited
  pub record AtSecond (s0 s1 : List (Option (Node V))) (key : ℕ) (parts : Parts) : Type 0 where
    pub holds : IsPart s1 parts.right parts.block.pivot parts.block.end
    pub less : width_at s1 parts.right < width_at s0 key
    pub same : under s1 parts.right ≡ under s0 parts.right

  pub at_second : {s0 s1 : List (Option (Node V))} {key lo hi : ℕ} {entries : List (ℕ × V)} {parts : Parts} → hi ≤ PAGE_LIMIT → AtFork s0 key lo hi entries parts → Keeps s0 s1 parts.block.first parts.block.pivot → AtSecond s0 s1 key parts
  at_second {s1 = s1} {parts = p} limit f k =
      let a = Holds-order f.left.holds in
      let b = Holds-order f.right.holds in
      let high = f.high in
      let width = f.width in
      let h = Holds-apart k (inr (omega arith)) f.right.holds in
      let same = under-Holds (omega arith) h in
      let holds : IsPart s1 p.right p.block.pivot p.block.end = subst (λ (es : List (ℕ × V)). Holds s1 p.right p.block.pivot p.block.end es) (sym same) h in
      record {
        holds = holds;
        less = omega (arith, width-Holds h);
        same = same;
      }

  -- what is known once both were
  pub record AtBoth (s0 s2 : List (Option (Node V))) (key : ℕ) (parts : Parts) (lo hi : ℕ) (left right : Option ℕ) : Type 0 where
    pub found : node_at s2 key ≡ Some (Fork parts)
    pub left_rest : IsRest s2 left parts.block.first parts.block.pivot
    pub right_rest : IsRest s2 right parts.block.pivot parts.block.end
    pub left_is : entries_of s2 left ≡ without lo hi (under s0 parts.left)
    pub right_is : entries_of s2 right ≡ without lo hi (under s0 parts.right)

  pub at_both : {s0 s1 s2 : List (Option (Node V))} {key a b : ℕ} {entries : List (ℕ × V)} {parts : Parts} (lo hi : ℕ) (left right : Option ℕ) → b ≤ PAGE_LIMIT → AtFork s0 key a b entries parts → node_at s0 key ≡ Some (Fork parts) → Keeps s0 s1 parts.block.first parts.block.pivot → Keeps s1 s2 parts.block.pivot parts.block.end → HoldsRest s1 left parts.block.first parts.block.pivot (without lo hi (under s0 parts.left)) → HoldsRest s2 right parts.block.pivot parts.block.end (without lo hi (under s1 parts.right)) → AtBoth s0 s2 key parts lo hi left right
  at_both {s0} {s1} {s2} {key = key} {parts = p} lo hi left right limit f found k m l r =
      let x = Holds-order f.left.holds in
      let y = Holds-order f.right.holds in
      let high = f.high in
      let ls = without lo hi (under s0 p.left) in
      let rs = without lo hi (under s1 p.right) in
      let second = at_second limit f k in
      let l2 = HoldsRest-apart p.block.first p.block.pivot ls left m (inl (omega arith)) l in
      record {
        found = m.outside key (Fork p) (k.outside key (Fork p) found (inr y)) (inl x);
        left_rest = IsRest-HoldsRest s2 p.block.first p.block.pivot ls left (omega arith) l2;
        right_rest = IsRest-HoldsRest s2 p.block.pivot p.block.end rs right (omega arith) r;
        left_is = entries_of-HoldsRest s2 p.block.first p.block.pivot ls left (omega arith) l2;
        right_is = entries_of-HoldsRest s2 p.block.pivot p.block.end rs right (omega arith) r ∙ ap (without lo hi) second.same;
      }

  pub without-AtBoth : {s0 s2 : List (Option (Node V))} {key a b lo hi : ℕ} {left right : Option ℕ} {entries : List (ℕ × V)} {parts : Parts} → AtFork s0 key a b entries parts → AtBoth s0 s2 key parts lo hi left right → without lo hi entries ≡ entries_of s2 left ++ entries_of s2 right
  without-AtBoth {s0} {lo = lo} {hi = hi} {parts = p} f g =
      ap (without lo hi) f.is ∙ (without-append lo hi (under s0 p.left) (under s0 p.right) ∙ rw (g.left_is, g.right_is))
