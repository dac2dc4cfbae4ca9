use Rattle.std.proofs.Common.{◌≡◌, subst}
use Rattle.std.specs.Prelude.{IfSome}
use Rattle.gm_base.specs.Scripts.{IsOf}
use Rattle.gm_laws.proofs.RuledIsRight.{right}
use Rattle.gm_machine.proofs.GoingOn.{no_bracket, told_goes_on, turn_tells}
use Rattle.gm_machine.proofs.Stepping.{seen_of}
use Rattle.gm_machine.specs.Blockers.{BlockerGoesOn, blocker_in}
use Rattle.gm_machine.specs.Steps.{Seen, StepsTo}
use Rattle.gm_turns.specs.Room.{orders_of}
use Rattle.gm_turns.specs.declared.outcome.How.TheVariants.{Next}
use Rattle.gm_turns.specs.declared.outcome.Outcome.{Outcome}
use Rattle.gm_machine.proofs.machine.Machine.waits.Goals as goal

pub returns-clause-turn : goal.returns-clause-turn
returns-clause-turn c =
    let k = c.self.inside.core in
    let a = c.args.actor in
    let r = c.blocker.result in
    let of : IsOf k.setup a = rw (← c.self.view_is) at c.requires in
    subst (λ (m : Seen). (new : Seen) (outcome : Outcome) → StepsTo m new a Next outcome → r ≡ blocker_in outcome) c.self.view_is
    (λ new outcome s. turn_tells (seen_of k c.self.inside.room) new a r outcome (no_bracket k.setup k.callers a k.log.past c.self.invariant.0.stands.callers of) c.blocker.ensures s)

pub returns-clause-goes_on : goal.returns-clause-goes_on
returns-clause-goes_on c =
    let k = c.self.inside.core in
    subst (λ (m : Seen). IfSome c.blocker.result (BlockerGoesOn m)) c.self.view_is
    (told_goes_on (seen_of k c.self.inside.room) c.args.actor c.blocker.result (right (orders_of k) k.log.past c.self.invariant.0.ruled) c.blocker.ensures)
