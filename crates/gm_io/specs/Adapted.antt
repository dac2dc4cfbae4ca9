-- What the ends over std's readers and writers count.
use Rattle.std.specs.Prelude.{ℕ}
use Rattle.gm_io.specs.declared.adapters.ReaderSource.{ReaderSource}
use Rattle.gm_io.specs.declared.adapters.WriterSink.{WriterSink}

-- the errors of the reader so far
abbrev pub source_faults : {R : Type 0} → ReaderSource R → ℕ
source_faults s = s.faults

-- the errors of the writer so far, and its writes that took nothing
abbrev pub sink_faults : {W : Type 0} → WriterSink W → ℕ
sink_faults s = s.faults
