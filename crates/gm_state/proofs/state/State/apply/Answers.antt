use Rattle.std.proofs.Common.{ap, refl, subst, sym}
use Rattle.gm_base.specs.declared.calls.Ioctl.{Ioctl}
use Rattle.gm_file.specs.Views.{FolioList}
use Rattle.gm_state.proofs.Effecting.{cleared, cut_by, shut_by, word_by}
use Rattle.gm_state.specs.Promised.{Makes}
use Rattle.gm_state.specs.Stand.{StateIs}
use Rattle.gm_state.specs.Views.{StateView}
use Rattle.gm_state.proofs.state.State.apply.Goals as goal

pub returns-in-Cut-clause-applied : goal.returns-in-Cut-clause-applied
returns-in-Cut-clause-applied c = λ s m k.
    let t = subst (λ (x : StateView). StateIs s x m) (sym c.self.view_is) k.is in
    cut_by s _ _ m c.args.effect.now c.in-Cut.file c.in-Cut.lo c.in-Cut.hi c.in-Cut.is t refl (c.cut.ensures.due s.frames m.stored t.store)

pub returns-in-Shut-clause-applied : goal.returns-in-Shut-clause-applied
returns-in-Shut-clause-applied c = λ s m k.
    let t = subst (λ (x : StateView). StateIs s x m) (sym c.self.view_is) k.is in
    shut_by s _ _ m c.args.effect.now c.args.ioctl.now c.in-Shut.file c.in-Shut.is k.makes t refl c.shut.ensures.slots (c.shut-in-Shut.ensures.due s.frames m.stored t.store)

pub returns-in-Word-clause-applied : goal.returns-in-Word-clause-applied
returns-in-Word-clause-applied c = λ s m k.
    let t = subst (λ (x : StateView). StateIs s x m) (sym c.self.view_is) k.is in
    word_by s _ _ m c.args.effect.now c.args.ioctl.now c.in-Word.page c.in-Word.word c.in-Word.value c.in-Word.is k.makes t refl c.write.ensures.page (ap (λ (f : FolioList). f.list) c.clear.ensures)

pub returns-in-Region2-clause-applied : goal.returns-in-Region2-clause-applied
returns-in-Region2-clause-applied c = λ s m k.
    c.set_region.ensures.applied s m (record { is = cleared s _ _ m (subst (λ (x : StateView). StateIs s x m) (sym c.self.view_is) k.is) refl; makes = subst (λ (i : Ioctl). Makes s i m.stored.flat c.args.effect.now) c.in-Region2.is k.makes; apart = k.apart; small = k.small })
