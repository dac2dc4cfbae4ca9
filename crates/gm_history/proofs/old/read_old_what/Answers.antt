use Rattle.std.proofs.Common.{List}
use Rattle.gm_history.specs.Frames.{TellsFrames, starts_of}
use Rattle.gm_history.specs.declared.given.Run.{Run}
use Rattle.gm_history.proofs.OldReads.{old_known}
use Rattle.gm_history.proofs.old.read_old_what.Goals as goal

pub returns-in-None-clause-known : goal.returns-in-None-clause-known
returns-in-None-clause-known c = λ runs tells. old_known runs c.args.line.now c.read_old_touch.result (λ (runs : List Run). TellsFrames (starts_of c.args.frames.now.starts) runs) (c.read_old_touch.ensures runs tells) tells
