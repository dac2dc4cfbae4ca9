use Rattle.std.proofs.Common.{◌<◌, arith}
use Rattle.gm_history.specs.Frames.{starts_of}
use Rattle.gm_history.proofs.Gave.{gave_run}
use Rattle.gm_history.proofs.frames.Frames.give.Goals as goal

pub returns : goal.returns
returns c = λ runs tells.
    let some : 0 < c.args.run.pages = omega arith in
    gave_run c.put.result (starts_of c.args.self.now.starts) (starts_of c.clear_run.new.self.starts) (starts_of c.put.new.starts) runs c.args.run tells some c.requires.serials c.requires.frames (c.in_ok-clear_run.ensures runs tells) c.put.ensures
