use Rattle.std.proofs.Common.{◌∙◌, sym}
use Rattle.gm_calls.proofs.SlotRows.{known_lent, known_over, over_is_over}
use Rattle.gm_calls.proofs.paged.judge_populate.Goals as goal

pub judge_slot-requires-clause-over : goal.judge_slot-requires-clause-over
judge_slot-requires-clause-over c = rw c.number.ensures.number (over_is_over c.args.parts.now.slots.now.slots c.in-Some.page c.in-Some-find.slot (sym c.find.ensures ∙ c.in-Some-find.is))

pub judge_slot-requires-clause-limit : goal.judge_slot-requires-clause-limit
judge_slot-requires-clause-limit c = (known_over c.args.parts.now.slots.now.slots c.args.parts.now.slots.now.slots c.in-Some.page c.in-Some-find.slot (known_lent c.args.parts.now c.requires.state.0 c.requires.state.1) (sym c.find.ensures ∙ c.in-Some-find.is)).limit

pub judge_slot-requires-clause-indexes : goal.judge_slot-requires-clause-indexes
judge_slot-requires-clause-indexes c = (known_over c.args.parts.now.slots.now.slots c.args.parts.now.slots.now.slots c.in-Some.page c.in-Some-find.slot (known_lent c.args.parts.now c.requires.state.0 c.requires.state.1) (sym c.find.ensures ∙ c.in-Some-find.is)).indexes
