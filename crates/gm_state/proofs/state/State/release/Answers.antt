use Rattle.std.proofs.Common.{subst, sym}
use Rattle.gm_state.proofs.Storing.{dropped_state}
use Rattle.gm_state.proofs.state.State.release.Goals as goal
use Rattle.gm_state.specs.Stand.{Memory, StateIs}
use Rattle.gm_state.specs.Views.{StateView}

pub returns-after-drop_hold-clause-is : goal.returns-after-drop_hold-clause-is
returns-after-drop_hold-clause-is c = λ s m i.
    let inside = subst (λ (x : StateView). StateIs s x m) (sym c.self.view_is) i in
    rw c.in-Folio.is
    (dropped_state s _ c.drop_hold.new.self m c.in-Folio.folio.serial c.drop_hold.result _ (c.drop_hold.ensures.freed s.frames m.stored inside.store) (c.drop_hold.ensures.stands s.frames m.stored inside.store) inside)
