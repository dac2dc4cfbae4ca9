use Rattle.std.proofs.Common.{◌<◌, ◌∙◌, Option, ap}
use Rattle.std.specs.Prelude.{is_some}
use Rattle.gm_callers.specs.Callers.{caller_at}
use Rattle.gm_callers.specs.declared.caller.InProgress.{InProgress}
use Rattle.gm_flat.specs.Histories.{bracket, call}
use Rattle.gm_machine.proofs.Told.{open_some}
use Rattle.gm_machine.specs.Steps.{Seen}
use Rattle.gm_machine.proofs.machine.Machine.in_progress.Goals as goal

pub returns : goal.returns
returns c =
    let k = c.self.inside.core in
    let x = c.args.caller in
    let lt : x < k.setup.callers = rw (← c.self.view_is) at c.requires in
    let as_past = open_some k.setup (caller_at k.callers x).call (call x k.log.past) (bracket x k.log.past) k.log.past (c.self.invariant.0.stands.callers.each x lt).open_is in
    c.is_some.ensures ∙ (ap (λ (o : Option InProgress). is_some o) c.call.ensures ∙ (as_past ∙ ap (λ (m : Seen). is_some (call x m.past)) c.self.view_is))
