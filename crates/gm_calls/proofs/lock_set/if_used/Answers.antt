use Rattle.std.proofs.Common.{◌∙◌, ap, option_copied, sym, ℕ}
use Rattle.gm_flat.specs.FlatState.{in_use}
use Rattle.gm_calls.proofs.FileRows.{file_stands, in_use_here}
use Rattle.gm_calls.proofs.Locking.{is_used}
use Rattle.gm_calls.proofs.lock_set.if_used.Goals as goal

pub returns-in-Some-file : goal.returns-in-Some-file
returns-in-Some-file c = λ f st file.
    let here = file_stands c.args.parts.now f c.in-Some.fd c.in-Some-file.field-0.now st (sym c.file.ensures ∙ ap option_copied c.in-Some-file.is) in
    rw c.in-Some.is (is_used c.in-Some.fd file (λ (n : ℕ). in_use n f.files) (in_use_here c.in-Some-file.field-0.now c.in-Some.fd f here))
