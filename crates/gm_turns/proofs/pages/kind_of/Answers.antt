use Rattle.gm_turns.proofs.pages.kind_of.Goals as goal
use Rattle.gm_turns.specs.Standing.{memory_of}
use Rattle.std.proofs.Common.{ℕ, ◌∙◌, ap}
use Rattle.gm_flat.specs.Attribute.{attr_of}
use Rattle.gm_flat.specs.Replay.{flat}

pub returns : goal.returns
returns c =
    let k = c.args.core.now in
    c.kind.ensures k.setup (memory_of k.setup k.log.past) c.requires.settled.stands.state.is ∙ ap (λ (n : ℕ). attr_of n (flat k.log.past).attrs) c.in-Some.ensures.0
