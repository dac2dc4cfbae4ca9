-- What the line of a history tells, and that the script of a number is one.
use Rattle.std.proofs.Common.{◌≡◌, ◌∙◌, length, refl, reverse, subst, ℕ}
use Rattle.gm_determined.proofs.History.{histories_same}
use Rattle.gm_flat.specs.Plays.{Plays}
use Rattle.gm_flat.specs.RightHistory.{Right}
use Rattle.gm_io.specs.Held.{Gains, GainsFront}
use Rattle.gm_machine.proofs.Playing.{plays_turns}
use Rattle.gm_summary.specs.Summary.{summary_text}
use Rattle.gmemrun.proofs.Numbered.{not_bad}
use Rattle.gmemrun.specs.declared.status.Status.TheVariants.{Ok}
use Rattle.gmemrun.proofs.bulk.sum_up.Goals as goal

pub returns-in-Ok-write_summary-clause-put : goal.returns-in-Ok-write_summary-clause-put
returns-in-Ok-write_summary-clause-put g c =
    let orders = c.in-Ok-play.ensures.orders in
    let turns : c.turns.result ≡ length c.in-Ok.script.turns = c.turns.ensures ∙ c.in-Ok-play.ensures.turns in
    let right : Right c.in-Ok.script.orders (reverse c.history.result.now) = rw (← orders, ← c.history.ensures.history) c.history.ensures.right in
    let plays : Plays c.in-Ok.script.orders c.in-Ok.script.turns (reverse c.history.result.now) = rw c.history.ensures.history at (plays_turns c.in-Ok.script.orders c.in-Ok.script.turns _ c.in-Ok-play.ensures.plays) in
    record {
      text = summary_text c.args.number (length c.in-Ok.script.turns) c.history.result.now;
      due = record {
        script = c.in-Ok.script;
        history = c.history.result.now;
        is_script = c.in-Ok.ensures.ok;
        right = right;
        turns = plays;
        only = λ other is_right plays_too. histories_same c.in-Ok.script.orders c.in-Ok.script.turns other (reverse c.history.result.now) is_right right plays_too plays;
        is_text = refl;
      };
      written = subst (λ (n : ℕ). Gains (g.K.Sink.held c.args.sink.now) (g.K.Sink.held c.write_summary.new.sink) (summary_text c.args.number n c.history.result.now)) turns c.in-Ok-write_summary.ensures.wrote;
    }

pub returns-in-Ok-play-clause-put : goal.returns-in-Ok-play-clause-put
returns-in-Ok-play-clause-put g c =
    let orders = c.in-Ok-play.ensures.orders in
    let turns : c.turns.result ≡ length c.in-Ok.script.turns = c.turns.ensures ∙ c.in-Ok-play.ensures.turns in
    let right : Right c.in-Ok.script.orders (reverse c.history.result.now) = rw (← orders, ← c.history.ensures.history) c.history.ensures.right in
    let plays : Plays c.in-Ok.script.orders c.in-Ok.script.turns (reverse c.history.result.now) = rw c.history.ensures.history at (plays_turns c.in-Ok.script.orders c.in-Ok.script.turns _ c.in-Ok-play.ensures.plays) in
    record {
      status = Ok;
      text = summary_text c.args.number (length c.in-Ok.script.turns) c.history.result.now;
      due = record {
        script = c.in-Ok.script;
        history = c.history.result.now;
        is_script = c.in-Ok.ensures.ok;
        right = right;
        turns = plays;
        only = λ other is_right plays_too. histories_same c.in-Ok.script.orders c.in-Ok.script.turns other (reverse c.history.result.now) is_right right plays_too plays;
        is_text = refl;
      };
      written = subst (λ (n : ℕ). GainsFront (g.K.Sink.held c.args.sink.now) (g.K.Sink.held c.write_summary.new.sink) (summary_text c.args.number n c.history.result.now)) turns (c.in-Err-write_summary.ensures {u = tt}).wrote;
    }

pub unreachable-requires : goal.unreachable-requires
unreachable-requires g c = not_bad c.args.number c.args.bytes.now c.in-Err-BadLine.field-0-0 c.in-Err-BadLine.field-0-1 c.requires (rw c.in-Err-BadLine.field-0-is at c.in-Err-BadLine.ensures.bad)
