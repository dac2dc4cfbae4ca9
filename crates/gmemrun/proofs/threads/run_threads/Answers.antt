use Rattle.std.proofs.Common.{◌≡◌, Err, IfSome, List, ap, refl, ℕ}
use Rattle.std.proofs.KnownBytes.{Consumes-whole}
use Rattle.gm_base.specs.declared.numbers.TheConstants.{MOST_SCRIPT_BYTES}
use Rattle.gmemrun.proofs.Coming.{came}
use Rattle.gmemrun.proofs.Complete.{by_bytes}
use Rattle.gmemrun.proofs.Exactly.{not_long, silent, steps_text}
use Rattle.gmemrun.specs.Coming.{PutAll}
use Rattle.gmemrun.specs.Running.{EndsBy}
use Rattle.gmemrun.specs.Threading.{ThreadsDue}
use Rattle.gmemrun.specs.declared.status.Status.TheVariants.{BadScript}
use Rattle.gmemrun.proofs.threads.run_threads.Goals as goal

pub returns-in-Ok-clause-came_to : goal.returns-in-Ok-clause-came_to
returns-in-Ok-clause-came_to g c =
    came MOST_SCRIPT_BYTES ThreadsDue c.run_whole.result (g.S.Source.left c.args.source.now) (g.S.Source.left c.read_all.new.source) (g.K.Sink.held c.args.sink.now) (g.K.Sink.held c.run_whole.new.sink) c.in-Ok.bytes.items
    c.in-Ok.ensures.bytes (rw c.deref.ensures.value at c.run_whole.ensures.put)
    c.run_whole.ensures.usage c.run_whole.ensures.no_read c.run_whole.ensures.not_long

pub returns-in-Err-Failed-clause-came_to : goal.returns-in-Err-Failed-clause-came_to
returns-in-Err-Failed-clause-came_to g c =
    let t = c.in-Err-Failed.ensures.few (ap Err c.in-Err-Failed.field-0-is) in
    record { bytes = t.0; took = t.1; put = refl }

pub returns-in-Err-TooLong-clause-came_to : goal.returns-in-Err-TooLong-clause-came_to
returns-in-Err-TooLong-clause-came_to g c =
    let t = c.in-Err-TooLong.ensures.long (ap Err c.in-Err-TooLong.field-0-is) in
    record { bytes = t.0; took = t.1; put = refl }

pub returns-in-Ok-clause-complete : goal.returns-in-Ok-clause-complete
returns-in-Ok-clause-complete g c = λ read write.
    Consumes-whole (g.S.Source.left c.args.source.now) (g.S.Source.left c.read_all.new.source) c.in-Ok.bytes.items
    (λ (bytes : List ℕ). EndsBy bytes c.run_whole.result)
    c.in-Ok.ensures.bytes.taken c.in-Ok.ensures.bytes.end
    (by_bytes c.in-Ok.bytes.items c.run_whole.result c.in-Ok.ensures.bytes.within (rw c.deref.ensures.value at (c.run_whole.ensures.complete write)))

pub returns-in-Ok-clause-long_only : goal.returns-in-Ok-clause-long_only
returns-in-Ok-clause-long_only g c = not_long _ MOST_SCRIPT_BYTES (g.S.Source.left c.args.source.now) (g.S.Source.left c.read_all.new.source) c.in-Ok.bytes.items c.in-Ok.ensures.bytes.taken c.in-Ok.ensures.bytes.within

pub returns-in-Ok-clause-bad_only : goal.returns-in-Ok-clause-bad_only
returns-in-Ok-clause-bad_only g c =
    Consumes-whole (g.S.Source.left c.args.source.now) (g.S.Source.left c.read_all.new.source) c.in-Ok.bytes.items
    (λ (bytes : List ℕ). IfSome (g.K.Sink.held c.run_whole.new.sink) (λ _. PutAll ThreadsDue bytes BadScript (g.K.Sink.held c.args.sink.now) (g.K.Sink.held c.run_whole.new.sink) → c.run_whole.result ≡ BadScript))
    c.in-Ok.ensures.bytes.taken c.in-Ok.ensures.bytes.end
    (rw c.deref.ensures.value at c.run_whole.ensures.bad_only)

pub returns-in-Err-Failed-clause-long_only : goal.returns-in-Err-Failed-clause-long_only
returns-in-Err-Failed-clause-long_only g c =
    let t = c.in-Err-Failed.ensures.few (ap Err c.in-Err-Failed.field-0-is) in
    not_long _ MOST_SCRIPT_BYTES (g.S.Source.left c.args.source.now) (g.S.Source.left c.read_all.new.source) t.0 t.1.taken t.1.within

pub returns-in-Err-Failed-clause-bad_only : goal.returns-in-Err-Failed-clause-bad_only
returns-in-Err-Failed-clause-bad_only g c = silent _ ThreadsDue BadScript (g.S.Source.left c.args.source.now) (g.K.Sink.held c.args.sink.now) steps_text

pub returns-in-Err-TooLong-clause-bad_only : goal.returns-in-Err-TooLong-clause-bad_only
returns-in-Err-TooLong-clause-bad_only g c = silent _ ThreadsDue BadScript (g.S.Source.left c.args.source.now) (g.K.Sink.held c.args.sink.now) steps_text

pub returns-in-Err-NoMemory-clause-bad_only : goal.returns-in-Err-NoMemory-clause-bad_only
returns-in-Err-NoMemory-clause-bad_only g c = silent _ ThreadsDue BadScript (g.S.Source.left c.args.source.now) (g.K.Sink.held c.args.sink.now) steps_text
