use Rattle.gm_history.proofs.Starts.{last_of}
use Rattle.gm_history.proofs.frames.last_start.Goals as goal

pub returns-in-Some : goal.returns-in-Some
returns-in-Some c = last_of c.args.starts.now c.args.serial c.range.result c.next_back.new.self c.in-Some.start.now c.in-Some.frame.now (c.range.ensures.in_range tt) c.in-Some.ensures.steps
