use Rattle.gm_history.specs.Whats.{attr_of}
use Rattle.gm_history.proofs.effects.read_attr.Goals as goal

pub returns : goal.returns
unfolding attr_of
returns c = rw (c.in_ok-span.ensures.value, c.in_ok-kind.ensures, ← c.span_of.ensures) c.ended.ensures
