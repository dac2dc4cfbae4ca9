-- The number of the words is the one that was read, and no words are of two kinds.
use Rattle.std.proofs.Common.{ℕ, refl, subst}
use Rattle.gm_gen.specs.Workload.{workload_text}
use Rattle.gmemrun.proofs.Numbered.{never_read, never_usage, one_number}
use Rattle.gmemrun.specs.Bulk.{BulkDue}
use Rattle.gmemrun.specs.Coming.{Put}
use Rattle.gmemrun.specs.declared.bulk.TheConstants.{BULK_TURNS}
use Rattle.gmemrun.proofs.top.run.Goals as goal

-- where the words have a number

pub returns-in-Some-clause-usage : goal.returns-in-Some-clause-usage
returns-in-Some-clause-usage g c = (λ e. absurd (never_usage c.run_bulk.result c.run_bulk.ensures.only e), λ n. absurd (n.3 c.in-Some.number c.in-Some.ensures.some))

pub returns-in-Some-clause-unwritten : goal.returns-in-Some-clause-unwritten
returns-in-Some-clause-unwritten g c = λ e. absurd (never_usage c.run_bulk.result c.run_bulk.ensures.only e)

pub returns-in-Some-clause-read_fault : goal.returns-in-Some-clause-read_fault
returns-in-Some-clause-read_fault g c = λ e. absurd (never_read c.run_bulk.result c.run_bulk.ensures.only e)

pub returns-in-Some-clause-came_to : goal.returns-in-Some-clause-came_to
returns-in-Some-clause-came_to g c = λ is. absurd (c.in-Some.ensures.alone.0 is)

pub returns-in-Some-clause-long_only : goal.returns-in-Some-clause-long_only
returns-in-Some-clause-long_only g c = λ is. absurd (c.in-Some.ensures.alone.0 is)

pub returns-in-Some-clause-bad_only : goal.returns-in-Some-clause-bad_only
returns-in-Some-clause-bad_only g c = λ is. absurd (c.in-Some.ensures.alone.0 is)

pub returns-in-Some-clause-complete : goal.returns-in-Some-clause-complete
returns-in-Some-clause-complete g c = λ is. absurd (c.in-Some.ensures.alone.0 is)

pub returns-in-Some-clause-threads_came_to : goal.returns-in-Some-clause-threads_came_to
returns-in-Some-clause-threads_came_to g c = λ is. absurd (c.in-Some.ensures.alone.2 is)

pub returns-in-Some-clause-threads_long_only : goal.returns-in-Some-clause-threads_long_only
returns-in-Some-clause-threads_long_only g c = λ is. absurd (c.in-Some.ensures.alone.2 is)

pub returns-in-Some-clause-threads_bad_only : goal.returns-in-Some-clause-threads_bad_only
returns-in-Some-clause-threads_bad_only g c = λ is. absurd (c.in-Some.ensures.alone.2 is)

pub returns-in-Some-clause-threads_complete : goal.returns-in-Some-clause-threads_complete
returns-in-Some-clause-threads_complete g c = λ is. absurd (c.in-Some.ensures.alone.2 is)

pub returns-in-Some-clause-migrate_came_to : goal.returns-in-Some-clause-migrate_came_to
returns-in-Some-clause-migrate_came_to g c = λ is. absurd (c.in-Some.ensures.alone.1 is)

pub returns-in-Some-clause-migrate_long_only : goal.returns-in-Some-clause-migrate_long_only
returns-in-Some-clause-migrate_long_only g c = λ is. absurd (c.in-Some.ensures.alone.1 is)

pub returns-in-Some-clause-migrate_bad_only : goal.returns-in-Some-clause-migrate_bad_only
returns-in-Some-clause-migrate_bad_only g c = λ is. absurd (c.in-Some.ensures.alone.1 is)

pub returns-in-Some-clause-migrate_complete : goal.returns-in-Some-clause-migrate_complete
returns-in-Some-clause-migrate_complete g c = λ is. absurd (c.in-Some.ensures.alone.1 is)

pub returns-in-Some-clause-bulk_put : goal.returns-in-Some-clause-bulk_put
returns-in-Some-clause-bulk_put g c = λ n is.
    subst (λ (m : ℕ). Put (BulkDue m) (workload_text m BULK_TURNS) c.run_bulk.result (g.K.Sink.held c.args.sink.now) (g.K.Sink.held c.run_bulk.new.sink))
    (one_number c.args.words.now c.in-Some.number n c.in-Some.ensures.some is) c.run_bulk.ensures.put

-- where they have none

pub returns-in-None-clause-usage : goal.returns-in-None-clause-usage
returns-in-None-clause-usage g c =
    let u = c.run_one_word.ensures.usage in
    (λ e. ((u.0 e).0, (u.0 e).1, (u.0 e).2, c.in-None.ensures.none refl), λ n. u.1 (n.0, n.1, n.2))

pub returns-in-None-clause-bulk_unread : goal.returns-in-None-clause-bulk_unread
returns-in-None-clause-bulk_unread g c = λ n is. absurd (c.in-None.ensures.none refl n is)

pub returns-in-None-clause-bulk_put : goal.returns-in-None-clause-bulk_put
returns-in-None-clause-bulk_put g c = λ n is. absurd (c.in-None.ensures.none refl n is)

pub returns-in-None-clause-bulk_only : goal.returns-in-None-clause-bulk_only
returns-in-None-clause-bulk_only g c = λ n is. absurd (c.in-None.ensures.none refl n is)

pub returns-in-None-clause-bulk_complete : goal.returns-in-None-clause-bulk_complete
returns-in-None-clause-bulk_complete g c = λ n is. absurd (c.in-None.ensures.none refl n is)
