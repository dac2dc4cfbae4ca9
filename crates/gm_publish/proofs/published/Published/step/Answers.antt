use Rattle.std.proofs.Common.{subst, IfOk}
use Rattle.gm_machine.specs.Flags.{with_flag}
use Rattle.gm_publish.proofs.Turning.{steps_as}
use Rattle.gm_publish.specs.Publisheds.{PublishedSeen, StepsAs}
use Rattle.gm_publish.proofs.published.Published.step.Goals as goal

pub returns-clause-step : goal.returns-clause-step
returns-clause-step g c =
    let m = c.self.inside.machine in
    let n = c.take_turn.new.machine in
    let old : PublishedSeen = record { orders = m.orders; past = m.past; turns = m.turns; published = c.self.inside.publisher.published } in
    let new : PublishedSeen = record { orders = n.orders; past = n.past; turns = n.turns; published = c.take_turn.new.publisher.published } in
    subst (λ (p : PublishedSeen). IfOk c.take_turn.result (λ outcome. StepsAs p new c.args.actor c.args.how outcome)) c.self.view_is
    (steps_as old new (with_flag m.room c.args.actor) n.room c.args.actor c.args.how c.take_turn.result c.take_turn.ensures.step)
