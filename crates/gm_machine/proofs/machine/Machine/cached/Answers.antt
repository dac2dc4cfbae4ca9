use Rattle.std.proofs.Common.{◌≡◌, ◌∙◌, ap, subst, true}
use Rattle.std.specs.Prelude.{IfSome}
use Rattle.gm_flat.specs.FlatState.{cached, in_use}
use Rattle.gm_flat.specs.Replay.{flat}
use Rattle.gm_machine.proofs.Told.{cached_in_use}
use Rattle.gm_machine.specs.Steps.{Seen}
use Rattle.gm_turns.proofs.Blocking.{slots_apart}
use Rattle.gm_turns.specs.Standing.{memory_of}
use Rattle.gm_machine.proofs.machine.Machine.cached.Goals as goal

pub returns-clause-cached : goal.returns-clause-cached
returns-clause-cached c =
    let k = c.self.inside.core in
    c.cached.ensures k.setup (memory_of k.setup k.log.past) c.self.invariant.0.stands.state.is ∙ ap (λ (m : Seen). cached c.args.file c.args.index (flat m.past).cache) c.self.view_is

pub returns-clause-used : goal.returns-clause-used
returns-clause-used c =
    let k = c.self.inside.core in
    let t = c.self.invariant.0 in
    subst (λ (m : Seen). IfSome c.cached.result (λ x. in_use c.args.file (flat m.past).files ≡ true)) c.self.view_is
    (cached_in_use (flat k.log.past) c.args.file c.args.index c.cached.result (slots_apart k t) (c.cached.ensures k.setup (memory_of k.setup k.log.past) t.stands.state.is))
