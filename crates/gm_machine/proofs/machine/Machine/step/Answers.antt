use Rattle.gm_machine.proofs.Stepping.{kicked, room_cleared, stepped, turn_settled}
use Rattle.gm_machine.proofs.machine.Machine.step.Goals as goal
use Rattle.gm_base.specs.declared.values.Actor.TheVariants.{Vcpu}
use Rattle.std.proofs.Common.{true, false}
use Rattle.gm_turns.specs.Turning.{Kicked, Taken}

pub invariant_of-self-then-kick : goal.invariant_of-self-then-kick
invariant_of-self-then-kick c =
    let old = c.self.inside.core in
    let new = c.kick.new.core in
    let came : Kicked old new c.in-Vcpu.v = rw c.if-kick.true at c.kick.ensures in
    (turn_settled old new (Vcpu c.in-Vcpu.v) true c.self.invariant.0 came.turned, rw c.clear-then-kick.ensures (room_cleared old new c.self.inside.room c.self.invariant.1 came.turned.orders))

pub returns-then-kick : goal.returns-then-kick
returns-then-kick c =
    let old = c.self.inside.core in
    let new = c.kick.new.core in
    let came : Kicked old new c.in-Vcpu.v = rw c.if-kick.true at c.kick.ensures in
    rw (c.in-Kick.is, c.in-Vcpu.is, c.clear-then-kick.ensures, ← c.self.view_is) (kicked old new c.in-Vcpu.v c.self.inside.room came)

pub invariant_of-self : goal.invariant_of-self
invariant_of-self c =
    let old = c.self.inside.core in
    let new = c.take_turn.new.core in
    let came : Taken old new c.args.actor = c.in-Moved.ensures in
    (turn_settled old new c.args.actor false c.self.invariant.0 came.turned, rw c.clear.ensures (room_cleared old new c.self.inside.room c.self.invariant.1 came.turned.orders))

pub returns-in-Moved : goal.returns-in-Moved
returns-in-Moved c =
    let old = c.self.inside.core in
    let new = c.take_turn.new.core in
    let came : Taken old new c.args.actor = c.in-Moved.ensures in
    rw (c.in-Next.is, c.clear.ensures, ← c.self.view_is) (stepped old new c.self.inside.room c.args.actor came)
