use Rattle.gm_flat.specs.Calls.{plan}
use Rattle.gm_ioctl.proofs.Ranges.{passed_in_range}
use Rattle.gm_ioctl.proofs.Refusals.{passed_plan, refused_plan}
use Rattle.gm_ioctl.specs.Remaining.{state_plan}
use Rattle.gm_calls.proofs.Filling.{same_plan}
use Rattle.gm_calls.proofs.judging.judge.Goals as goal

pub returns-in-Err : goal.returns-in-Err
returns-in-Err c = λ f st. (refused_plan c.args.parts.now.setup c.args.ioctl.now f c.in-Err.errno c.in-Err.ensures.bad, c.requires.empty)

pub judge_by_state-requires-clause-range : goal.judge_by_state-requires-clause-range
judge_by_state-requires-clause-range c = passed_in_range c.args.parts.now.setup.user c.args.ioctl.now c.in-Ok.ensures.ok

pub returns-in-Ok : goal.returns-in-Ok
returns-in-Ok c = λ f st. same_plan c.args.parts.now.user.now (plan c.args.parts.now.setup c.args.ioctl.now f) (state_plan c.args.parts.now.setup c.args.ioctl.now f) c.judge_by_state.result c.judge_by_state.new.spans.list (passed_plan c.args.parts.now.setup c.args.ioctl.now f c.in-Ok.ensures.ok) (c.judge_by_state.ensures f st)
