use Rattle.std.proofs.Common.{◌<◌, ℕ, length, subst, sym}
use Rattle.gm_flat.specs.RightLook.{IsFull}
use Rattle.gm_state.proofs.PagesAdded.{copy_added, when_none, when_some}
use Rattle.gm_state.proofs.state.State.add_copy.Goals as goal
use Rattle.gm_state.specs.Stand.{StateIs}
use Rattle.gm_state.specs.Views.{StateView}
use Rattle.gm_store.specs.Added.{AddedOne}
use Rattle.gm_store.specs.Stored.{StoreStands, Stored}
use Rattle.gm_words.specs.Banks.{word_in}

pub returns-clause-some : goal.returns-clause-some
returns-clause-some c =
    when_some (λ folio. (frames : ℕ) (k : Stored) → StoreStands frames c.self.inside.store k → AddedOne frames c.args.file c.args.index folio (λ word. word_in c.self.inside.user c.args.page word) c.add_copy.new.self k) _ c.add_copy.result
    (λ folio f s m i.
    let inside = subst (λ (x : StateView). StateIs s x m) (sym c.self.view_is) i in
    let there : c.args.page < length c.self.inside.user = subst (λ (x : StateView). c.args.page < length x.user) (sym c.self.view_is) c.requires.user in
    copy_added s c.args.file c.args.index c.args.page folio _ c.add_copy.new.self m (subst (λ (n : ℕ). c.args.page < n) inside.user.count_is there) (f s.frames m.stored inside.store) inside)
    c.add_copy.ensures.some

pub returns-clause-none : goal.returns-clause-none
returns-clause-none c =
    when_none ((frames : ℕ) (k : Stored) → StoreStands frames c.self.inside.store k → IsFull frames k.flat.folios) _ c.add_copy.result
    (λ f s m i. f s.frames m.stored (subst (λ (x : StateView). StateIs s x m) (sym c.self.view_is) i).store)
    c.add_copy.ensures.none
