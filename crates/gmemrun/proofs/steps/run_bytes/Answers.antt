use Rattle.std.proofs.Common.{◌≡◌, ◌∙◌, ap, length, refl, reverse, subst, ℕ}
use Rattle.gm_base.specs.Scripts.{Orders}
use Rattle.gm_base.specs.declared.values.Setup.{Setup}
use Rattle.gm_determined.proofs.History.{histories_same}
use Rattle.gm_flat.specs.Plays.{Plays}
use Rattle.gm_flat.specs.RightHistory.{Right}
use Rattle.gm_io.specs.Held.{Gains, GainsFront}
use Rattle.gm_machine.proofs.Playing.{plays_turns}
use Rattle.gm_script.specs.Grammar.{script_of, Bad}
use Rattle.gm_text.specs.Text.{history_text}
use Rattle.gmemrun.proofs.Exactly.{not_refused, not_whole, one_refusal, steps_text}
use Rattle.gmemrun.specs.Running.{StepsDue}
use Rattle.gmemrun.specs.Refusal.{refusal_text}
use Rattle.gmemrun.specs.declared.status.Status.TheVariants.{BadScript, Ok}
use Rattle.gmemrun.proofs.steps.run_bytes.Goals as goal

pub returns-in-Ok-write_history-clause-put : goal.returns-in-Ok-write_history-clause-put
returns-in-Ok-write_history-clause-put g c =
    let orders = c.in-Ok-play.ensures.orders in
    let setup : c.setup.result ≡ c.in-Ok.script.orders.setup = c.setup.ensures ∙ ap (λ (o : Orders). o.setup) orders in
    let turns : c.turns.result ≡ length c.in-Ok.script.turns = c.turns.ensures ∙ c.in-Ok-play.ensures.turns in
    let right : Right c.in-Ok.script.orders (reverse c.history.result.now) = rw (← orders, ← c.history.ensures.history) c.history.ensures.right in
    let plays : Plays c.in-Ok.script.orders c.in-Ok.script.turns (reverse c.history.result.now) = rw c.history.ensures.history at (plays_turns c.in-Ok.script.orders c.in-Ok.script.turns _ c.in-Ok-play.ensures.plays) in
    record {
      text = history_text c.in-Ok.script.orders.setup c.history.result.now (length c.in-Ok.script.turns);
      due = record {
        script = c.in-Ok.script;
        history = c.history.result.now;
        is_script = c.in-Ok.ensures.ok;
        right = right;
        turns = plays;
        only = λ other is_right plays_too. histories_same c.in-Ok.script.orders c.in-Ok.script.turns other (reverse c.history.result.now) is_right right plays_too plays;
        in_types = c.history.ensures.in_types;
        is_text = refl;
      };
      written = subst (λ (n : ℕ). Gains (g.K.Sink.held c.args.sink.now) (g.K.Sink.held c.write_history.new.sink) (history_text c.in-Ok.script.orders.setup c.history.result.now n)) turns
          (subst (λ (s : Setup). Gains (g.K.Sink.held c.args.sink.now) (g.K.Sink.held c.write_history.new.sink) (history_text s c.history.result.now c.turns.result)) setup c.in-Ok-write_history.ensures.wrote);
    }

pub returns-in-Ok-play-clause-put : goal.returns-in-Ok-play-clause-put
returns-in-Ok-play-clause-put g c =
    let orders = c.in-Ok-play.ensures.orders in
    let setup : c.setup.result ≡ c.in-Ok.script.orders.setup = c.setup.ensures ∙ ap (λ (o : Orders). o.setup) orders in
    let turns : c.turns.result ≡ length c.in-Ok.script.turns = c.turns.ensures ∙ c.in-Ok-play.ensures.turns in
    let right : Right c.in-Ok.script.orders (reverse c.history.result.now) = rw (← orders, ← c.history.ensures.history) c.history.ensures.right in
    let plays : Plays c.in-Ok.script.orders c.in-Ok.script.turns (reverse c.history.result.now) = rw c.history.ensures.history at (plays_turns c.in-Ok.script.orders c.in-Ok.script.turns _ c.in-Ok-play.ensures.plays) in
    record {
      status = Ok;
      text = history_text c.in-Ok.script.orders.setup c.history.result.now (length c.in-Ok.script.turns);
      due = record {
        script = c.in-Ok.script;
        history = c.history.result.now;
        is_script = c.in-Ok.ensures.ok;
        right = right;
        turns = plays;
        only = λ other is_right plays_too. histories_same c.in-Ok.script.orders c.in-Ok.script.turns other (reverse c.history.result.now) is_right right plays_too plays;
        in_types = c.history.ensures.in_types;
        is_text = refl;
      };
      written = subst (λ (n : ℕ). GainsFront (g.K.Sink.held c.args.sink.now) (g.K.Sink.held c.write_history.new.sink) (history_text c.in-Ok.script.orders.setup c.history.result.now n)) turns
          (subst (λ (s : Setup). GainsFront (g.K.Sink.held c.args.sink.now) (g.K.Sink.held c.write_history.new.sink) (history_text s c.history.result.now c.turns.result)) setup (c.in-Err-write_history.ensures {u = tt}).wrote);
    }

pub returns-in-Err-BadLine-clause-put : goal.returns-in-Err-BadLine-clause-put
returns-in-Err-BadLine-clause-put g c =
    let bad : script_of c.args.bytes.now ≡ Bad c.in-Err-BadLine.line c.in-Err-BadLine.cause = rw c.in-Err-BadLine.field-0-is at c.in-Err-BadLine.ensures.bad in
    record {
      status = BadScript;
      text = refusal_text c.in-Err-BadLine.line c.in-Err-BadLine.cause;
      due = record { line = c.in-Err-BadLine.line; cause = c.in-Err-BadLine.cause; no_script = bad; is_text = refl };
      written = rw (c.in-Err-BadLine.line-is, c.in-Err-BadLine.cause-is) at (c.in-Err-write_refusal.ensures {u = tt}).wrote;
    }

pub returns-in-Err-BadLine-clause-bad_only : goal.returns-in-Err-BadLine-clause-bad_only
returns-in-Err-BadLine-clause-bad_only g c =
    let bad : script_of c.args.bytes.now ≡ Bad c.in-Err-BadLine.line c.in-Err-BadLine.cause = rw c.in-Err-BadLine.field-0-is at c.in-Err-BadLine.ensures.bad in
    not_whole _ StepsDue BadScript c.args.bytes.now (refusal_text c.in-Err-BadLine.line c.in-Err-BadLine.cause) (g.K.Sink.held c.args.sink.now) (g.K.Sink.held c.write_refusal.new.sink) (one_refusal c.args.bytes.now c.in-Err-BadLine.line c.in-Err-BadLine.cause bad)
    (rw (c.in-Err-BadLine.line-is, c.in-Err-BadLine.cause-is) at (c.in-Err-write_refusal.ensures {u = tt}).wrote)

pub returns-clause-bad_only : goal.returns-clause-bad_only
returns-clause-bad_only g c = not_refused _ StepsDue BadScript c.args.bytes.now (g.K.Sink.held c.args.sink.now) steps_text
