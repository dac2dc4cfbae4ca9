-- How a run ends, by the bytes that were read.
use Rattle.std.proofs.Common.{◌<◌, ◌≤◌, List, arith, length, ℕ}
use Rattle.gm_base.specs.declared.numbers.TheConstants.{MOST_SCRIPT_BYTES}
use Rattle.gm_script.specs.Grammar.{script_of}
use Rattle.gmemrun.specs.Running.{EndsAs, EndsBy}
use Rattle.gmemrun.specs.declared.status.Status.{Status}

above : (n limit : ℕ) → n ≤ limit → limit < n → ⊥
above n limit h k = omega arith

pub by_bytes : (bytes : List ℕ) (status : Status) → length bytes ≤ MOST_SCRIPT_BYTES → EndsAs (script_of bytes) status → EndsBy bytes status
by_bytes bytes status le h = record { within = λ _. h; beyond = λ gt. absurd (above (length bytes) MOST_SCRIPT_BYTES le gt) }
