use Rattle.std.proofs.Common.{ap, rules}
use Rattle.gm_attr.specs.Kinds.{AttrsView}
use Rattle.gm_slots.specs.Changes.{SlotList}
use Rattle.gm_state.proofs.Tracked.{blocks_none}
use Rattle.gm_state.proofs.state.State.new.Goals as goal

pub returns-clause-is : goal.returns-clause-is
returns-clause-is c = record {
  slots_are = ap (λ (x : SlotList). x.slots) c.in_ok-new.ensures;
  attrs_are = c.in_ok-new-2.ensures.calls;
  user = search rules;
  store = c.in_ok-new-3.ensures.stands;
  bounded = tt;
  blocks = blocks_none c.args.setup.huge c.in_ok-new-2.field-0 (ap (λ (x : AttrsView). x.tracked) c.in_ok-new-2.ensures.made);
}
