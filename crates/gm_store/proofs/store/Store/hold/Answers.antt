-- A hold more is one in the use of the folio's frame.
use Rattle.std.proofs.Common.{subst, sym, ◌<◌}
use Rattle.gm_pool.specs.Pools.{IsLive}
use Rattle.gm_store.proofs.Holds.{held_stands}
use Rattle.gm_store.specs.Stored.{StoreStands}
use Rattle.gm_store.specs.Views.{StoreView}
use Rattle.gm_store.specs.contracts.store.Store.{the_view}
use Rattle.gm_store.proofs.store.Store.hold.Goals as goal

pub returns-clause-stands : goal.returns-clause-stands
returns-clause-stands c = λ frames k st.
    held_stands (λ usage. usage.holds < 4294967295) frames (the_view c.self.inside) c.hold.new.self c.args.folio k
    (subst (λ (v : StoreView). IsLive v.pool c.args.folio (λ usage. usage.holds < 4294967295)) (sym c.self.view_is) c.requires)
    c.hold.ensures
    (subst (λ (v : StoreView). StoreStands frames v k) (sym c.self.view_is) st)
