use Rattle.std.proofs.Common.{◌++◌, ◌∙◌, ap, arith}
use Rattle.gm_gen.specs.Lines.{line_text}
use Rattle.gm_gen.specs.Workload.{command_drawn}
use Rattle.gm_gen.specs.declared.line.Line.{Line}
use Rattle.gm_gen.proofs.Texts.{drawn_begin, drawn_done, drawn_step, lines_begin, lines_done, lines_step}
use Rattle.gm_gen.proofs.script.add_commands.Goals as goal

pub loop-init : goal.loop-init
loop-init c = record { within = omega arith; text = lines_begin command_drawn _ c.args.count _; x = drawn_begin command_drawn c.args.count _ }

pub loop-preserved : goal.loop-preserved
loop-preserved c = record {
  within = omega (arith, c.loop-test.true);
  text = lines_step command_drawn c.loop.text.items _ c.add.new.text.items c.args.count c.loop.counter c.loop.draws.x c.command.new.self.x c.loop-test.true c.command.ensures.x c.loop.invariant.text
      (c.in_ok-add.ensures {u = tt} ∙ ap (λ (l : Line). c.loop.text.items ++ line_text l) c.command.ensures.line);
  x = drawn_step command_drawn c.args.count c.loop.counter c.loop.draws.x c.command.new.self.x _ c.loop-test.true c.command.ensures.x c.loop.invariant.x;
}

pub returns-clause-text : goal.returns-clause-text
returns-clause-text c = lines_done command_drawn c.loop.text.items _ c.args.count c.loop.counter c.loop.draws.x c.loop-test.false c.loop.invariant.text

pub returns-clause-x : goal.returns-clause-x
returns-clause-x c = drawn_done command_drawn c.args.count c.loop.counter c.loop.draws.x _ c.loop-test.false c.loop.invariant.x
