use Rattle.std.proofs.Common.{◌∙◌, not, rules}
use Rattle.std.specs.Prelude.{nat_eq}
use Rattle.std.proofs.lemmas.Fn.{filter_same}
use Rattle.gm_file.specs.declared.ranges.BoundRange.{BoundRange}
use Rattle.gm_file.proofs.Meeting.{filter_is, without_slot_apart}
use Rattle.gm_file.proofs.ranges.drop_slot.Goals as goal

pub returns-clause-items : goal.returns-clause-items
returns-clause-items c =
    filter_same _ (λ (r : BoundRange). not (nat_eq r.slot c.args.slot)) _ (λ x b f h. search rules) _ _ c.retain.ensures.filtered ∙ filter_is c.args.slot _

pub returns-clause-apart : goal.returns-clause-apart
returns-clause-apart c = rw (returns-clause-items c) (without_slot_apart 0 c.args.slot _ c.requires)
