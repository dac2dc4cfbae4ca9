-- What the map keeps of its nodes.
use Rattle.std.proofs.Common.{◌≡◌, ℕ, ◌+◌, ◌*◌, ◌≤◌, inr, List, ap, sym, ◌∙◌, arith}
use Rattle.std.specs.Prelude.{None, Some}
use Rattle.std.specs.declared.option.Option.{Option}
use Rattle.gm_base.specs.declared.numbers.TheConstants.{PAGE_LIMIT}
use Rattle.gm_radix.specs.declared.node.Node.{Node}
use Rattle.gm_radix.specs.Entries.{Indexed, lookup, Rises}
use Rattle.gm_radix.specs.Nodes.{entries_of, HoldsRest, IsKept, IsRest, nodes_of}
use Rattle.gm_radix.proofs.Frames.{entries_of-HoldsRest, IsRest-HoldsRest}
use Rattle.gm_radix.proofs.Held.{Holds-rises}
use Rattle.gm_radix.proofs.Lists.{lookup-outside}

module _ {V : Type 0} where
  pub entries_of-rises : (slots : List (Option (Node V))) (root : Option ℕ) → IsRest slots root 0 PAGE_LIMIT → Rises 0 PAGE_LIMIT (entries_of slots root)
  entries_of-rises slots None h = tt
  entries_of-rises slots (Some key) h = Holds-rises h

  pub IsKept-HoldsRest : (slots : List (Option (Node V))) (root : Option ℕ) (entries : List (ℕ × V)) (len capacity spare : ℕ) → HoldsRest slots root 0 PAGE_LIMIT entries → len ≡ nodes_of entries → len + 2 * spare ≤ capacity → IsKept slots root len capacity spare
  IsKept-HoldsRest slots root entries len capacity spare h n r =
      record {
        rest = IsRest-HoldsRest slots 0 PAGE_LIMIT entries root (omega arith) h;
        nodes = rw (entries_of-HoldsRest slots 0 PAGE_LIMIT entries root (omega arith) h) n;
        room = r;
      }

  -- a map has no value at an index past the limit
  pub lookup-past : (slots : List (Option (Node V))) (root : Option ℕ) (map : Indexed V) (index : ℕ) → entries_of slots root ≡ map.entries → IsRest slots root 0 PAGE_LIMIT → PAGE_LIMIT ≤ index → lookup index map.entries ≡ None
  lookup-past slots root map index is h p =
      ap (λ (es : List (ℕ × V)). lookup index es) (sym is) ∙ lookup-outside index 0 PAGE_LIMIT (entries_of slots root) (entries_of-rises slots root h) (inr p)
