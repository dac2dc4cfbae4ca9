use Rattle.std.proofs.Common.{ℕ, subst, sym}
use Rattle.gm_flat.specs.RightLook.{IsFull}
use Rattle.gm_state.proofs.PagesAdded.{first_added, when_none, when_some}
use Rattle.gm_state.proofs.state.State.add_first.Goals as goal
use Rattle.gm_state.specs.Stand.{StateIs}
use Rattle.gm_state.specs.Views.{StateView}
use Rattle.gm_store.specs.Added.{FirstUsed}
use Rattle.gm_store.specs.Stored.{StoreStands, Stored}

pub returns-clause-some : goal.returns-clause-some
returns-clause-some c =
    when_some (λ used. (frames : ℕ) (k : Stored) → StoreStands frames c.self.inside.store k → FirstUsed frames c.args.file c.args.index used c.first_use.new.self k) _ c.first_use.result
    (λ used f s m i.
    let inside = subst (λ (x : StateView). StateIs s x m) (sym c.self.view_is) i in
    first_added s c.args.file c.args.index used _ c.first_use.new.self m (f s.frames m.stored inside.store) inside)
    c.first_use.ensures.some

pub returns-clause-none : goal.returns-clause-none
returns-clause-none c =
    when_none ((frames : ℕ) (k : Stored) → StoreStands frames c.self.inside.store k → IsFull frames k.flat.folios) _ c.first_use.result
    (λ f s m i. f s.frames m.stored (subst (λ (x : StateView). StateIs s x m) (sym c.self.view_is) i).store)
    c.first_use.ensures.none
