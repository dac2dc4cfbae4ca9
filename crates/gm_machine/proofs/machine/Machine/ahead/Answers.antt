use Rattle.std.proofs.Common.{◌≡◌, ◌+◌, None, subst}
use Rattle.gm_machine.proofs.Seeing.{kick_seen, next_seen}
use Rattle.gm_machine.proofs.Stepping.{seen_of}
use Rattle.gm_machine.specs.Steps.{Seen, StepsTo}
use Rattle.gm_turns.specs.Ahead.{ahead_in}
use Rattle.gm_turns.specs.declared.outcome.How.TheVariants.{Kick, Next}
use Rattle.gm_turns.specs.declared.outcome.Outcome.{Outcome}
use Rattle.gm_machine.proofs.machine.Machine.ahead.Goals as goal

pub returns-in-Next : goal.returns-in-Next
returns-in-Next c =
    let k = c.self.inside.core in
    rw c.in-Next.is
    (subst (λ (m : Seen). (new : Seen) (outcome : Outcome) → StepsTo m new c.args.actor Next outcome → c.ahead.result ≡ ahead_in (m.turns + 1) new.past) c.self.view_is
    (λ new outcome s. next_seen (seen_of k c.self.inside.room) new c.args.actor c.ahead.result outcome c.self.invariant.0.new_turn c.ahead.ensures s))

pub returns-in-Kick : goal.returns-in-Kick
returns-in-Kick c =
    let k = c.self.inside.core in
    rw c.in-Kick.is
    (subst (λ (m : Seen). (new : Seen) (outcome : Outcome) → StepsTo m new c.args.actor Kick outcome → None ≡ ahead_in (m.turns + 1) new.past) c.self.view_is
    (λ new outcome s. kick_seen (seen_of k c.self.inside.room) new c.args.actor outcome c.self.invariant.0.new_turn s))
