use Rattle.std.proofs.Common.{◌≡◌, Bool, not, ◌&&◌, ◌∙◌, sym, ap, arith}
use Rattle.std.specs.Prelude.{is_some}
use Rattle.gm_radix.specs.Entries.{lookup, without}
use Rattle.gm_attr.specs.Kinds.{AttrsView, first_whole, end_whole, is_tracked, lies_in}
use Rattle.gm_attr.proofs.Lookups.{Blocks, is_some-without}
use Rattle.gm_attr.proofs.Renewing.{drop_flags, lies_in_is}
use Rattle.gm_attr.proofs.attrs.Attrs.untrack.Goals as goal

pub invariant_of-self : goal.invariant_of-self
invariant_of-self c = (
  rw (c.discard.ensures.entries, c.discard-2.ensures.entries) (drop_flags c.self.inside.runs.edges _ _ c.first_whole_block-first.result c.end_whole_block-end.result c.self.invariant.0),
  c.self.invariant.1,
  omega (arith, c.discard.ensures.spare),
  omega (arith, c.discard-2.ensures.spare),
)

pub returns-clause-tracked : goal.returns-clause-tracked
returns-clause-tracked c = λ block.
    let left : c.discard.new.self.entries ≡ without (first_whole c.args.span) (end_whole c.args.span) c.self.inside.tracked.entries = rw (← c.first_whole_block-first.ensures, ← c.end_whole_block-end.ensures.number) c.discard.ensures.entries in
    ap (λ (es : Blocks). is_some (lookup block es)) left
    ∙ (is_some-without block (first_whole c.args.span) (end_whole c.args.span) c.self.inside.tracked.entries
    ∙ (ap (λ (b : Bool). not b && is_some (lookup block c.self.inside.tracked.entries)) (sym (lies_in_is c.args.span block))
    ∙ ap (λ (v : AttrsView). not (lies_in c.args.span block) && is_tracked v block) c.self.view_is))
