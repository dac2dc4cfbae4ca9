-- A file more stands under the next number.
use Rattle.std.proofs.Common.{subst, sym, ◌-◌}
use Rattle.gm_store.proofs.Filing.{created}
use Rattle.gm_store.specs.Stored.{StoreStands}
use Rattle.gm_store.specs.Views.{StoreView}
use Rattle.gm_store.specs.contracts.store.Store.{the_view}
use Rattle.gm_store.proofs.store.Store.create.Goals as goal

pub returns-clause-stands : goal.returns-clause-stands
returns-clause-stands c = λ frames k st.
    created frames (the_view c.self.inside) c.in-Ok.file c.push.new.self.items (c.self.inside.spare - 1) c.args.pages c.args.block k c.requires.limit c.in-Ok.ensures.made c.in-Ok-push.ensures.items
    (subst (λ (v : StoreView). StoreStands frames v k) (sym c.self.view_is) st)
