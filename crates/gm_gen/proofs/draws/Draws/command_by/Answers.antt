use Rattle.std.proofs.Common.{◌∙◌, ap, sym}
use Rattle.gm_gen.specs.Workload.{Step}
use Rattle.gm_gen.proofs.Commands.{is_last}
use Rattle.gm_gen.proofs.draws.Draws.command_by.Goals as goal

pub returns-else-what-eq6-clause-x : goal.returns-else-what-eq6-clause-x
returns-else-what-eq6-clause-x c = c.population.ensures.x ∙ ap (λ (s : Step). s.x) (sym (is_last c.args.what c.args.self.now.x c.if-what-lt5.false c.if-what-eq5.false c.if-what-eq6.false))
