use Rattle.std.proofs.Common.{List, ap, reverse, subst, sym}
use Rattle.gm_flat.specs.FlatState.{Flat}
use Rattle.gm_flat.specs.Replayed.{AllFit}
use Rattle.gm_flat.specs.declared.views.SlotView.{SlotView}
use Rattle.gm_flat.proofs.Fitting.{flat_fit}
use Rattle.gm_flat.proofs.flat.Flat.named.Goals as goal

pub named-requires : goal.named-requires
named-requires c =
    subst (λ (l : List SlotView). AllFit l) (sym (ap (λ (f : Flat). f.slots) c.self.invariant)) (flat_fit (reverse c.self.inside.entries.items))
