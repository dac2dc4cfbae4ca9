use Rattle.gm_store.specs.Stored.{StoreStands, with_word}
use Rattle.std.proofs.Common.{ℕ, ◌∙◌, refl, subst, sym}
use Rattle.gm_state.proofs.Accessed.{folio_write_is, frame_there}
use Rattle.gm_state.specs.Stand.{StateIs}
use Rattle.gm_state.specs.Views.{StateView}
use Rattle.gm_state.proofs.state.State.access_folio.Goals as goal

pub read-requires-clause-frame : goal.read-requires-clause-frame
read-requires-clause-frame c = let k = c.requires.2 in frame_there c.requires.0 _ c.requires.1 c.args.folio (subst (λ (x : StateView). StateIs c.requires.0 x c.requires.1) (sym c.self.view_is) k.is) k.there

pub write-requires-clause-frame : goal.write-requires-clause-frame
write-requires-clause-frame c = let k = c.requires.2 in frame_there c.requires.0 _ c.requires.1 c.args.folio (subst (λ (x : StateView). StateIs c.requires.0 x c.requires.1) (sym c.self.view_is) k.is) k.there

pub returns-in-Write-clause-is : goal.returns-in-Write-clause-is
returns-in-Write-clause-is c = λ s m k.
    let t = subst (λ (x : StateView). StateIs s x m) (sym c.self.view_is) k.is in
    folio_write_is s _ _ m c.args.access c.args.folio c.in-Write.value t (sym c.op.ensures ∙ c.in-Write.is) refl (subst (λ (w : ℕ). StoreStands s.frames c.write.new.self (with_word c.args.folio.serial w c.in-Write.value m.stored)) c.word-word.ensures.word (c.write.ensures.stands s.frames m.stored c.args.folio.serial t.store k.there))
