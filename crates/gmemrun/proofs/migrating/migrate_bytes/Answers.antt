-- What migrating put, or why it stopped.
use Rattle.std.proofs.Common.{◌≡◌, List, Option, subst, sym, refl, ℕ, IfSome}
use Rattle.gm_history.specs.Migrating.{PutsFront}
use Rattle.gm_history.specs.Refusals.{IsRefused}
use Rattle.gm_history.specs.declared.version.Version.TheVariants.{One}
use Rattle.gm_io.specs.Causes.{Rose}
use Rattle.gm_io.specs.Held.{GainsFront}
use Rattle.gmemrun.proofs.Exactly.{not_refused, not_whole}
use Rattle.gmemrun.proofs.Upward.{migrate_text, one_bad_line}
use Rattle.gmemrun.specs.Coming.{PutAll}
use Rattle.gmemrun.specs.Migrating.{MigrateDue}
use Rattle.gmemrun.specs.Refusal.{bad_history_text}
use Rattle.gmemrun.specs.declared.status.Status.TheVariants.{BadHistory, NoMemory, Ok}
use Rattle.gmemrun.proofs.migrating.migrate_bytes.Goals as goal

pub returns-in-Err-clause-put : goal.returns-in-Err-clause-put
returns-in-Err-clause-put g c =
    let stopped : IsRefused One c.args.bytes.now c.in-Err-BadText.line × (g.K.Sink.held c.migrate.new.sink ≡ g.K.Sink.held c.args.sink.now) = rw c.in-Err-BadText.field-0-is at c.in-Err-BadText.ensures.err in
    record {
      status = BadHistory;
      text = bad_history_text c.in-Err-BadText.line;
      due = record { line = c.in-Err-BadText.line; refused = stopped.0; is_text = refl };
      written = subst (λ (o : Option (List ℕ)). GainsFront o (g.K.Sink.held c.write_bad_history.new.sink) (bad_history_text c.in-Err-BadText.line)) stopped.1 (rw c.in-Err-BadText.line-is at (c.in-Err.ensures {u = tt}).wrote);
    }

pub returns-in-Err-clause-bad_only : goal.returns-in-Err-clause-bad_only
returns-in-Err-clause-bad_only g c =
    let stopped : IsRefused One c.args.bytes.now c.in-Err-BadText.line × (g.K.Sink.held c.migrate.new.sink ≡ g.K.Sink.held c.args.sink.now) = rw c.in-Err-BadText.field-0-is at c.in-Err-BadText.ensures.err in
    not_whole _ MigrateDue BadHistory c.args.bytes.now (bad_history_text c.in-Err-BadText.line) (g.K.Sink.held c.args.sink.now) (g.K.Sink.held c.write_bad_history.new.sink) (one_bad_line c.args.bytes.now c.in-Err-BadText.line stopped.0)
    (subst (λ (o : Option (List ℕ)). GainsFront o (g.K.Sink.held c.write_bad_history.new.sink) (bad_history_text c.in-Err-BadText.line)) stopped.1 (rw c.in-Err-BadText.line-is at (c.in-Err.ensures {u = tt}).wrote))

pub returns-in-Err-Failed-clause-put : goal.returns-in-Err-Failed-clause-put
returns-in-Err-Failed-clause-put g c =
    let stopped : PutsFront c.args.bytes.now (g.K.Sink.held c.args.sink.now) (g.K.Sink.held c.migrate.new.sink) × Rose (g.K.Sink.faults c.args.sink.now) (g.K.Sink.faults c.migrate.new.sink) = rw c.in-Err-Failed.field-0-is at c.in-Err-Failed.ensures.err in
    record { status = Ok; text = stopped.0.text; due = stopped.0.up; written = stopped.0.put }

pub returns-in-Err-NoMemory-clause-bad_only : goal.returns-in-Err-NoMemory-clause-bad_only
returns-in-Err-NoMemory-clause-bad_only g c =
    let same : g.K.Sink.held c.migrate.new.sink ≡ g.K.Sink.held c.args.sink.now = rw c.in-Err-NoMemory.field-0-is at c.in-Err-NoMemory.ensures.err in
    subst (λ (n : Option (List ℕ)). IfSome n (λ _. PutAll MigrateDue c.args.bytes.now BadHistory (g.K.Sink.held c.args.sink.now) n → NoMemory ≡ BadHistory)) (sym same)
    (not_refused _ MigrateDue BadHistory c.args.bytes.now (g.K.Sink.held c.args.sink.now) migrate_text)
