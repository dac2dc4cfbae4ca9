use Rattle.std.proofs.Common.{◌∙◌, refl, subst, sym, ap}
use Rattle.gm_flat.specs.RightLook.{file_of}
use Rattle.gm_state.proofs.Effecting.{drop_bound, drop_plain, old_bounded, old_pages, untracks}
use Rattle.gm_state.specs.Stand.{StateIs}
use Rattle.gm_state.specs.Views.{StateView}
use Rattle.gm_state.proofs.state.State.drop_slot.Goals as goal

pub untrack-requires : goal.untrack-requires
untrack-requires c =
    let k = c.requires.can.2 in
    let t = subst (λ (x : StateView). StateIs c.requires.can.0 x c.requires.can.1) (sym c.self.view_is) k.is in
    old_pages c.requires.can.0.user c.args.region.now.slot _ c.by_id-slot.result (sym c.by_id-slot.ensures) (old_bounded c.requires.can.0 _ c.requires.can.1 t)

pub returns-in-Some-clause-applied : goal.returns-in-Some-clause-applied
returns-in-Some-clause-applied c = λ s m k.
    let t = subst (λ (x : StateView). StateIs s x m) (sym c.self.view_is) k.is in
    drop_bound s _ _ m c.args.region.now.slot c.in-Some.file t k.apart refl (ap (λ (x : StateView). x.freed.list) c.self.view_is ∙ c.requires.cleared) c.apply.ensures.slots
    (untracks c.self.inside.huge c.by_id-slot.result _ c.self.inside.attrs c.untrack.new.attrs c.by_id-slot.ensures c.untrack.ensures.edges c.untrack.ensures.tracked)
    (sym (c.file_of-file.ensures ∙ ap file_of c.by_id-slot.ensures) ∙ c.in-Some.is) c.unbind.ensures.stands

pub returns-in_default-clause-applied : goal.returns-in_default-clause-applied
returns-in_default-clause-applied c = λ s m k.
    let t = subst (λ (x : StateView). StateIs s x m) (sym c.self.view_is) k.is in
    drop_plain s _ _ m c.args.region.now.slot t k.apart refl (ap (λ (x : StateView). x.freed.list) c.self.view_is ∙ c.requires.cleared) c.apply.ensures.slots
    (untracks c.self.inside.huge c.by_id-slot.result _ c.self.inside.attrs c.untrack.new.attrs c.by_id-slot.ensures c.untrack.ensures.edges c.untrack.ensures.tracked)
    (sym (c.file_of-file.ensures ∙ ap file_of c.by_id-slot.ensures) ∙ c.in_default.is)
