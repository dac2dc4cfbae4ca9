use Rattle.std.proofs.Common.{◌∙◌, ap}
use Rattle.gm_gen.specs.Workload.{Step}
use Rattle.gm_gen.proofs.Commands.{command_is}
use Rattle.gm_gen.proofs.draws.Draws.command.Goals as goal

pub returns-clause-line : goal.returns-clause-line
returns-clause-line c = c.command_by.ensures.line ∙ ap (λ (s : Step). s.line) (command_is c.draw-what.result c.args.self.now.x c.draw-what.new.self.x c.draw-what.ensures.next c.draw-what.ensures.picked)

pub returns-clause-x : goal.returns-clause-x
returns-clause-x c = c.command_by.ensures.x ∙ ap (λ (s : Step). s.x) (command_is c.draw-what.result c.args.self.now.x c.draw-what.new.self.x c.draw-what.ensures.next c.draw-what.ensures.picked)
