use Rattle.std.proofs.Common.{◌++◌, ◌∙◌, ap, arith}
use Rattle.gm_gen.specs.Lines.{line_text}
use Rattle.gm_gen.specs.Workload.{turn_drawn}
use Rattle.gm_gen.specs.declared.line.Line.{Line}
use Rattle.gm_gen.proofs.Texts.{drawn_begin, drawn_step, lines_begin, lines_done, lines_step}
use Rattle.gm_gen.proofs.script.add_turns.Goals as goal

pub loop-init : goal.loop-init
loop-init c = record { within = omega arith; text = lines_begin turn_drawn _ c.args.count _; x = drawn_begin turn_drawn c.args.count _ }

pub loop-preserved : goal.loop-preserved
loop-preserved c = record {
  within = omega (arith, c.loop-test.true);
  text = lines_step turn_drawn c.loop.text.items _ c.add.new.text.items c.args.count c.loop.counter c.loop.draws.x c.turn.new.self.x c.loop-test.true c.turn.ensures.x c.loop.invariant.text
      (c.in_ok-add.ensures {u = tt} ∙ ap (λ (l : Line). c.loop.text.items ++ line_text l) c.turn.ensures.line);
  x = drawn_step turn_drawn c.args.count c.loop.counter c.loop.draws.x c.turn.new.self.x _ c.loop-test.true c.turn.ensures.x c.loop.invariant.x;
}

pub returns : goal.returns
returns c = record { text = lines_done turn_drawn c.loop.text.items _ c.args.count c.loop.counter c.loop.draws.x c.loop-test.false c.loop.invariant.text }
