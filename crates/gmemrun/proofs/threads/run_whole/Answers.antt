use Rattle.std.proofs.Common.{◌≡◌, ◌∙◌, ap, refl, subst}
use Rattle.gm_base.specs.Scripts.{Orders}
use Rattle.gm_base.specs.declared.values.Setup.{Setup}
use Rattle.gm_flat.specs.Plays.{Full}
use Rattle.gm_flat.specs.RightHistory.{Right}
use Rattle.gm_io.specs.Held.{Gains, GainsFront}
use Rattle.gm_publish.specs.Counts.{CountedTo}
use Rattle.gm_script.specs.Grammar.{script_of, Bad}
use Rattle.gm_text.specs.Text.{history_text}
use Rattle.gmemrun.proofs.Exactly.{not_refused, not_whole, one_refusal, steps_text}
use Rattle.gmemrun.specs.Refusal.{refusal_text}
use Rattle.gmemrun.specs.Threading.{ThreadsDue}
use Rattle.gmemrun.specs.declared.status.Status.TheVariants.{BadScript, Ok}
use Rattle.gmemrun.proofs.threads.run_whole.Goals as goal

pub returns-in-Ok-write_history-clause-put : goal.returns-in-Ok-write_history-clause-put
returns-in-Ok-write_history-clause-put g c =
    let script = c.in-Ok.script in
    let entries = c.history.result.now in
    let setup : c.setup.result ≡ script.orders.setup = c.setup.ensures ∙ ap (λ (o : Orders). o.setup) c.in-Ok-run_actors.ensures.orders in
    let past = c.history.ensures.history in
    record {
      text = history_text script.orders.setup entries c.turns.result;
      due = record {
        script = script;
        history = entries;
        is_script = c.in-Ok.ensures.ok;
        right = subst (Right script.orders) past c.in-Ok-run_actors.ensures.right;
        full = subst (Full script.orders) past c.in-Ok-run_actors.ensures.full;
        turns = c.turns.result;
        counted = rw c.turns.ensures (subst (CountedTo c.in-Ok-run_actors.machine.turns) past c.in-Ok-run_actors.ensures.counted);
        in_types = c.history.ensures.in_types;
        is_text = refl;
      };
      written = subst (λ (s : Setup). Gains (g.K.Sink.held c.args.sink.now) (g.K.Sink.held c.write_history.new.sink) (history_text s entries c.turns.result)) setup c.in-Ok-write_history.ensures.wrote;
    }

pub returns-in-Ok-run_actors-clause-put : goal.returns-in-Ok-run_actors-clause-put
returns-in-Ok-run_actors-clause-put g c =
    let script = c.in-Ok.script in
    let entries = c.history.result.now in
    let setup : c.setup.result ≡ script.orders.setup = c.setup.ensures ∙ ap (λ (o : Orders). o.setup) c.in-Ok-run_actors.ensures.orders in
    let past = c.history.ensures.history in
    record {
      status = Ok;
      text = history_text script.orders.setup entries c.turns.result;
      due = record {
        script = script;
        history = entries;
        is_script = c.in-Ok.ensures.ok;
        right = subst (Right script.orders) past c.in-Ok-run_actors.ensures.right;
        full = subst (Full script.orders) past c.in-Ok-run_actors.ensures.full;
        turns = c.turns.result;
        counted = rw c.turns.ensures (subst (CountedTo c.in-Ok-run_actors.machine.turns) past c.in-Ok-run_actors.ensures.counted);
        in_types = c.history.ensures.in_types;
        is_text = refl;
      };
      written = subst (λ (s : Setup). GainsFront (g.K.Sink.held c.args.sink.now) (g.K.Sink.held c.write_history.new.sink) (history_text s entries c.turns.result)) setup (c.in-Err-write_history.ensures {u = tt}).wrote;
    }

pub returns-in-Err-BadLine-clause-put : goal.returns-in-Err-BadLine-clause-put
returns-in-Err-BadLine-clause-put g c =
    let bad : script_of c.args.bytes.now ≡ Bad c.in-Err-BadLine.line c.in-Err-BadLine.cause = rw c.in-Err-BadLine.field-0-is at c.in-Err-BadLine.ensures.bad in
    record {
      status = BadScript;
      text = refusal_text c.in-Err-BadLine.line c.in-Err-BadLine.cause;
      due = record { line = c.in-Err-BadLine.line; cause = c.in-Err-BadLine.cause; no_script = bad; is_text = refl };
      written = rw (c.in-Err-BadLine.line-is, c.in-Err-BadLine.cause-is) at (c.in-Err-write_refusal.ensures {u = tt}).wrote;
    }

pub returns-in-Err-BadLine-clause-bad_only : goal.returns-in-Err-BadLine-clause-bad_only
returns-in-Err-BadLine-clause-bad_only g c =
    let bad : script_of c.args.bytes.now ≡ Bad c.in-Err-BadLine.line c.in-Err-BadLine.cause = rw c.in-Err-BadLine.field-0-is at c.in-Err-BadLine.ensures.bad in
    not_whole _ ThreadsDue BadScript c.args.bytes.now (refusal_text c.in-Err-BadLine.line c.in-Err-BadLine.cause) (g.K.Sink.held c.args.sink.now) (g.K.Sink.held c.write_refusal.new.sink) (one_refusal c.args.bytes.now c.in-Err-BadLine.line c.in-Err-BadLine.cause bad)
    (rw (c.in-Err-BadLine.line-is, c.in-Err-BadLine.cause-is) at (c.in-Err-write_refusal.ensures {u = tt}).wrote)

pub returns-clause-bad_only : goal.returns-clause-bad_only
returns-clause-bad_only g c = not_refused _ ThreadsDue BadScript c.args.bytes.now (g.K.Sink.held c.args.sink.now) steps_text
