use Rattle.std.proofs.Common.{ap, sym, ◌∙◌}
use Rattle.gm_ioctl.proofs.Refusals.{passed_plan, refused_plan}
use Rattle.gm_calls.specs.AtOnce.{effect_at_once}
use Rattle.gm_calls.proofs.at_once.change_at_once.Goals as goal

pub returns-in-Err : goal.returns-in-Err
returns-in-Err c = λ f st. sym (ap effect_at_once (refused_plan c.args.parts.now.setup c.args.ioctl.now f _ c.in-Err.ensures.bad))

pub returns-in-Ok : goal.returns-in-Ok
returns-in-Ok c = λ f st. c.change_by_state.ensures f st ∙ sym (ap effect_at_once (passed_plan c.args.parts.now.setup c.args.ioctl.now f c.in-Ok.ensures.ok))
