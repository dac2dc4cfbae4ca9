use Rattle.gm_history.specs.Whats.{attrs_of}
use Rattle.gm_history.proofs.calls.read_attrs.Goals as goal

pub returns : goal.returns
unfolding attrs_of
returns c = rw (c.in_ok-address.ensures, c.in_ok-size.ensures, c.in_ok-attributes.ensures, c.in_ok-flags.ensures) c.ended.ensures
