use Rattle.std.proofs.Common.{◌∙◌, refl, subst, sym, ap}
use Rattle.gm_flat.specs.Calls.{wants_file}
use Rattle.gm_state.proofs.Effecting.{bind_free, make_bound, make_plain, slot_promised, tracks}
use Rattle.gm_state.specs.Stand.{StateIs}
use Rattle.gm_state.specs.Tracking.{region_span}
use Rattle.gm_state.specs.Views.{StateView}
use Rattle.gm_state.proofs.state.State.make_slot.Goals as goal

pub bind-requires-clause-free : goal.bind-requires-clause-free
bind-requires-clause-free c =
    let k = c.requires.can.2 in
    bind_free c.requires.can.0 _ c.requires.can.1 c.args.region.now (subst (λ (x : StateView). StateIs c.requires.can.0 x c.requires.can.1) (sym c.self.view_is) k.is) (sym c.is_file_backed.ensures ∙ c.if-is_file_backed.true) (slot_promised c.requires.can.0 c.args.region.now c.requires.can.1.stored.flat (wants_file c.args.region.now) k.makes)

pub returns-then-is_file_backed-clause-applied : goal.returns-then-is_file_backed-clause-applied
returns-then-is_file_backed-clause-applied c = λ s m k.
    let t = subst (λ (x : StateView). StateIs s x m) (sym c.self.view_is) k.is in
    make_bound s _ _ m c.args.region.now t k.small (sym c.is_file_backed.ensures ∙ c.if-is_file_backed.true) (slot_promised s c.args.region.now m.stored.flat (wants_file c.args.region.now) k.makes) refl (ap (λ (x : StateView). x.freed.list) c.self.view_is ∙ c.requires.cleared) c.apply.ensures.slots
    (tracks c.self.inside.huge c.pages_of-made.result (region_span c.args.region.now) c.self.inside.attrs c.track.new.attrs c.pages_of-made.ensures c.track.ensures.edges c.track.ensures.tracked) c.bind.ensures.stands

pub returns-else-is_file_backed-clause-applied : goal.returns-else-is_file_backed-clause-applied
returns-else-is_file_backed-clause-applied c = λ s m k.
    let t = subst (λ (x : StateView). StateIs s x m) (sym c.self.view_is) k.is in
    make_plain s _ _ m c.args.region.now t k.small (sym c.is_file_backed.ensures ∙ c.if-is_file_backed.false) (slot_promised s c.args.region.now m.stored.flat (wants_file c.args.region.now) k.makes) refl (ap (λ (x : StateView). x.freed.list) c.self.view_is ∙ c.requires.cleared) c.apply.ensures.slots
    (tracks c.self.inside.huge c.pages_of-made.result (region_span c.args.region.now) c.self.inside.attrs c.track.new.attrs c.pages_of-made.ensures c.track.ensures.edges c.track.ensures.tracked)
