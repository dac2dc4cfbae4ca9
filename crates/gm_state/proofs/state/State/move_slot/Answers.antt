use Rattle.std.proofs.Common.{◌∙◌, refl, subst, sym, ap}
use Rattle.gm_state.proofs.Effecting.{move_applied, old_bounded, old_pages, tracks, untracks}
use Rattle.gm_state.specs.Stand.{StateIs}
use Rattle.gm_state.specs.Tracking.{region_span}
use Rattle.gm_state.specs.Views.{StateView}
use Rattle.gm_state.proofs.state.State.move_slot.Goals as goal

pub untrack-requires : goal.untrack-requires
untrack-requires c =
    let k = c.requires.can.2 in
    let t = subst (λ (x : StateView). StateIs c.requires.can.0 x c.requires.can.1) (sym c.self.view_is) k.is in
    old_pages c.requires.can.0.user c.args.region.now.slot _ c.by_id-before.result (sym c.by_id-before.ensures) (old_bounded c.requires.can.0 _ c.requires.can.1 t)

pub returns-clause-applied : goal.returns-clause-applied
returns-clause-applied c = λ s m k.
    let t = subst (λ (x : StateView). StateIs s x m) (sym c.self.view_is) k.is in
    move_applied s _ _ m c.args.region.now c.untrack.new.attrs t k.makes k.apart.lie_apart refl (ap (λ (x : StateView). x.freed.list) c.self.view_is ∙ c.requires.cleared) c.apply.ensures.slots
    (untracks c.self.inside.huge c.by_id-before.result _ c.self.inside.attrs c.untrack.new.attrs c.by_id-before.ensures c.untrack.ensures.edges c.untrack.ensures.tracked)
    (tracks c.self.inside.huge c.pages_of-moved.result (region_span c.args.region.now) c.untrack.new.attrs c.track.new.attrs c.pages_of-moved.ensures c.track.ensures.edges c.track.ensures.tracked)
