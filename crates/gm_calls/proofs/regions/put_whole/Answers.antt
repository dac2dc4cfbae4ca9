use Rattle.std.proofs.Common.{sym, ◌∙◌}
use Rattle.gm_calls.proofs.SlotRows.{known_by_id}
use Rattle.gm_calls.proofs.regions.put_whole.Goals as goal

pub whole-requires-clause-some : goal.whole-requires-clause-some
whole-requires-clause-some c = (known_by_id c.args.slots.now.slots c.args.slots.now.slots c.args.id c.in-Some.slot c.requires.known (sym c.by_id.ensures ∙ c.in-Some.is)).some

pub whole-requires-clause-limit : goal.whole-requires-clause-limit
whole-requires-clause-limit c = (known_by_id c.args.slots.now.slots c.args.slots.now.slots c.args.id c.in-Some.slot c.requires.known (sym c.by_id.ensures ∙ c.in-Some.is)).limit
