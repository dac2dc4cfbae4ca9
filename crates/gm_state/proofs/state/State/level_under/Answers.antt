use Rattle.std.proofs.Common.{sym, ap, ◌∙◌}
use Rattle.std.proofs.lemmas.Bool.{both_ways}
use Rattle.gm_attr.specs.Kinds.{kind_at}
use Rattle.gm_base.specs.Extent.{Extent}
use Rattle.gm_state.proofs.LeafLevels.{asked, has_flag, indexes_below, judged_whole, mixed_no_block, told_mixed, told_same}
use Rattle.gm_state.proofs.state.State.level_under.Goals as goal

pub is_mixed-requires-clause-tracked : goal.is_mixed-requires-clause-tracked
is_mixed-requires-clause-tracked c = has_flag c.requires.is.0 c.args.self.now c.requires.is.1 c.args.slot c.args.page c.args.range c.requires.is.2 c.requires.over (sym c.level.ensures ∙ c.in-Block.is)

pub is_mixed-requires-clause-kind : goal.is_mixed-requires-clause-kind
is_mixed-requires-clause-kind c = c.kind-kind.ensures c.requires.is.0 c.requires.is.1 c.requires.is.2 ∙ sym (c.requires.is.2.attrs_are c.args.page)

pub returns-then-is_mixed : goal.returns-then-is_mixed
returns-then-is_mixed c = λ s m st stand.
    mixed_no_block s c.args.self.now m c.args.page c.kind-kind.result c.args.range st (c.kind-kind.ensures s m st) (told_mixed c.is_mixed.result (kind_at c.args.self.now.attrs) c.args.page c.kind-kind.result c.if-is_mixed.true c.is_mixed.ensures)

pub is_whole-requires-clause-indexes : goal.is_whole-requires-clause-indexes
is_whole-requires-clause-indexes c = indexes_below c.requires.is.0 c.args.self.now c.requires.is.1 c.args.slot c.args.page c.requires.is.2 c.requires.over

pub returns-then-is_whole : goal.returns-then-is_whole
returns-then-is_whole c = λ s m st stand.
    (judged_whole s c.args.self.now m c.args.slot c.args.page c.kind-kind.result c.args.range c.lo.result c.is_whole.result
    (asked s c.args.self.now m c.args.slot c.args.page st c.requires.over c.requires.unmarked) (c.kind-kind.ensures s m st)
    (told_same c.is_mixed.result (kind_at c.args.self.now.attrs) c.args.page c.kind-kind.result c.if-is_mixed.false c.is_mixed.ensures)
    stand (sym c.level.ensures ∙ c.in-Block.is) (c.lo.ensures.lo ∙ ap (λ (e : Extent). e.lo) c.block_of-block.ensures) (c.is_whole.ensures s m st)).0 c.if-is_whole.true

pub returns-else-is_whole : goal.returns-else-is_whole
returns-else-is_whole c = λ s m st stand w.
    both_ways c.is_whole.result c.if-is_whole.false ((judged_whole s c.args.self.now m c.args.slot c.args.page c.kind-kind.result c.args.range c.lo.result c.is_whole.result
    (asked s c.args.self.now m c.args.slot c.args.page st c.requires.over c.requires.unmarked) (c.kind-kind.ensures s m st)
    (told_same c.is_mixed.result (kind_at c.args.self.now.attrs) c.args.page c.kind-kind.result c.if-is_mixed.false c.is_mixed.ensures)
    stand (sym c.level.ensures ∙ c.in-Block.is) (c.lo.ensures.lo ∙ ap (λ (e : Extent). e.lo) c.block_of-block.ensures) (c.is_whole.ensures s m st)).1 w)
