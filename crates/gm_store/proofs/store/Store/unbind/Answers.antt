-- What is left bound is what the other slots have.
use Rattle.std.proofs.Common.{subst, sym}
use Rattle.gm_store.proofs.SlotEffects.{unbound_stands}
use Rattle.gm_store.specs.Stored.{StoreStands}
use Rattle.gm_store.specs.Views.{StoreView}
use Rattle.gm_store.specs.contracts.store.Store.{the_view}
use Rattle.gm_store.proofs.store.Store.unbind.Goals as goal

pub returns-clause-stands : goal.returns-clause-stands
returns-clause-stands c = λ frames k s st found its alone.
    unbound_stands frames (the_view c.self.inside) c.drop_bound.new.files.items c.args.file c.args.slot s k c.drop_bound.ensures.items found its alone
    (subst (λ (v : StoreView). StoreStands frames v k) (sym c.self.view_is) st)
