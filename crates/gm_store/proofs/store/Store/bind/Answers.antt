-- The range is that of the slot that is made.
use Rattle.std.proofs.Common.{subst, sym, [], ◌≡◌}
use Rattle.std.specs.Prelude.{IsSome}
use Rattle.gm_file.specs.Ranges.{met}
use Rattle.gm_store.proofs.SlotEffects.{bound_stands}
use Rattle.gm_store.specs.Stored.{StoreStands}
use Rattle.gm_store.specs.Views.{StoreView, bound_in, file_in}
use Rattle.gm_store.specs.contracts.store.Store.{the_view}
use Rattle.gm_store.proofs.store.Store.bind.Goals as goal

pub returns-clause-stands : goal.returns-clause-stands
returns-clause-stands c = λ frames k s st is.
    bound_stands frames (the_view c.self.inside) c.put_bound.new.files.items c.args.file c.args.lo c.args.hi c.args.slot s k
    (subst (λ (v : StoreView). IsSome (file_in v.files c.args.file)) (sym c.self.view_is) c.requires.used)
    c.requires.order
    (subst (λ (v : StoreView). met c.args.lo c.args.hi (bound_in (file_in v.files c.args.file)) ≡ []) (sym c.self.view_is) c.requires.free)
    c.put_bound.ensures.items is
    (subst (λ (v : StoreView). StoreStands frames v k) (sym c.self.view_is) st)
