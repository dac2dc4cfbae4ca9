-- What is reported of bytes.
use Rattle.std.proofs.Common.{◌≡◌, ℕ, ◌^◌, ◌<◌, List, length, Result, Ok, Err, ◌∙◌}
use Rattle.std.specs.Prelude.{IfOk, IfErr}
use Rattle.gm_history.specs.Cuts.{split_at}
use Rattle.gm_history.specs.declared.error.HistoryError.{HistoryError}
use Rattle.gm_history.specs.declared.error.HistoryError.TheVariants.{BadText, NoMemory}
use Rattle.gm_history.specs.declared.version.Version.{Version}
use Rattle.gm_history.specs.Reading.{Verdict, Good, lines_on}
use Rattle.gm_history.specs.Refusals.{RefusedIn, JudgedBad}
use Rattle.gm_history.specs.TextForm.{Told, TellsIn}
use Rattle.gm_history.proofs.BadLines.{refused_line}
use Rattle.gm_history.proofs.Judging.{good_sound}

pub ok_on : (version : Version) (r : Result Told HistoryError) (bytes : List ℕ) (v : Verdict) → lines_on version (split_at 10 bytes) ≡ v → IfOk r (λ h. v ≡ Good h) → IfOk r (TellsIn version bytes)
ok_on version (Ok h) bytes v e k = good_sound version bytes h (e ∙ k)
ok_on version (Err error) bytes v e k = tt

pub err_on : (version : Version) (r : Result Told HistoryError) (bytes : List ℕ) (v : Verdict) → length bytes < 2 ^ 63 → lines_on version (split_at 10 bytes) ≡ v → IfErr r (JudgedBad v) → IfErr r (RefusedIn version bytes)
err_on version (Ok h) bytes v s e k = tt
err_on version (Err (BadText line)) bytes v s e k = refused_line version bytes line s (e ∙ k)
err_on version (Err NoMemory) bytes v s e k = tt
