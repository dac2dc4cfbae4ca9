use Rattle.std.proofs.Common.{subst, sym, ap, ℕ, ◌%◌, Bool, ◌∙◌}
use Rattle.std.specs.Prelude.{IsTrue, is_some, ◌↔◌}
use Rattle.std.proofs.lemmas.Bool.{eqb-true, eq-eqb}
use Rattle.gm_base.specs.declared.values.Kind.{Kind}
use Rattle.gm_flat.specs.RightLevel.{IsConsecutive}
use Rattle.gm_state.proofs.LeafLevels.{from_page, private_exact, shared_back, shared_block}
use Rattle.gm_state.specs.Levels.{LiesUnder}
use Rattle.gm_state.specs.Views.{StateView}
use Rattle.gm_state.proofs.state.State.is_whole.Goals as goal
use Rattle.gm_store.specs.Stored.{StoreStands}
use Rattle.gm_store.specs.Views.{StoreView}

pub returns-in-Shared-default : goal.returns-in-Shared-default
returns-in-Shared-default c = λ s m st u.
    let slot = c.args.slot in
    let v = subst (λ (k : Kind). LiesUnder slot k c.args.first m.stored.flat) c.in-Shared-default.is-0 u in (
      λ yes. shared_block slot c.args.first m.stored.flat v c.requires.aligned c.requires.from (eqb-true (slot.user % 512) (slot.base % 512) yes),
      λ w. eq-eqb (slot.user % 512) (slot.base % 512) (shared_back slot c.args.first m.stored.flat v c.requires.aligned c.requires.from w),
    )

pub returns-in-Private-Some : goal.returns-in-Private-Some
returns-in-Private-Some c = λ s m st u.
    let slot = c.args.slot in
    let v = subst (λ (k : Kind). LiesUnder slot k c.args.first m.stored.flat) c.in-Private-Some.is-0 u in
    let stands = subst (λ (x : StoreView). StoreStands s.frames x m.stored) (sym (ap (λ (x : StateView). x.store) c.self.view_is)) st.store in
    subst (λ (b : Bool). IsTrue b ↔ IsConsecutive (from_page c.args.first) m.stored.flat) (sym c.is_some.ensures)
    (private_exact slot c.in-Private-Some.file c.args.first m.stored.flat c.block_frame.result v c.in-Private-Some.is-1 c.requires.from (c.block_frame.ensures.some s.frames m.stored stands) (c.block_frame.ensures.none s.frames m.stored stands))
