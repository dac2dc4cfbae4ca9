use Rattle.std.proofs.Common.{subst, sym}
use Rattle.gm_base.specs.declared.calls.Ioctl.TheVariants.{Region2}
use Rattle.gm_flat.specs.declared.effect.Effect.{Effect}
use Rattle.gm_state.proofs.Effecting.{drops_it, made_effect, moves_it}
use Rattle.gm_state.specs.Applying.{CanApply}
use Rattle.gm_state.specs.Stand.{Applied}
use Rattle.gm_state.proofs.state.State.set_region.Goals as goal

pub returns-in-Slot-clause-applied : goal.returns-in-Slot-clause-applied
returns-in-Slot-clause-applied c = λ s m k.
    let e = made_effect s c.args.region.now m.stored.flat c.args.effect.now _ _ _ _ _ _ _ c.in-Slot.is k.makes in
    subst (λ (x : Effect). Applied s m x c.make_slot.new.self) (sym e) (c.make_slot.ensures.applied s m (subst (λ (x : Effect). CanApply s c.args.self.now m (Region2 c.args.region.now) x) e k))

pub returns-in-NoSlot-clause-applied : goal.returns-in-NoSlot-clause-applied
returns-in-NoSlot-clause-applied c = λ s m k.
    let e = drops_it s c.args.region.now m.stored.flat c.args.effect.now c.in-NoSlot.slot c.in-NoSlot.is k.makes in
    subst (λ (x : Effect). Applied s m x c.drop_slot.new.self) (sym e) (c.drop_slot.ensures.applied s m (subst (λ (x : Effect). CanApply s c.args.self.now m (Region2 c.args.region.now) x) e k))

pub returns-in-Move-clause-applied : goal.returns-in-Move-clause-applied
returns-in-Move-clause-applied c = λ s m k.
    let e = moves_it s c.args.region.now m.stored.flat c.args.effect.now c.in-Move.slot c.in-Move.base c.in-Move.is k.makes in
    subst (λ (x : Effect). Applied s m x c.move_slot.new.self) (sym e) (c.move_slot.ensures.applied s m (subst (λ (x : Effect). CanApply s c.args.self.now m (Region2 c.args.region.now) x) e k))
