use Rattle.std.proofs.Common.{◌≡◌, drop}
use Rattle.gm_flat.specs.FlatState.{was_made}
use Rattle.gm_flat.proofs.flat_lists.has_file.Given as goal

abbrev pub invariant-loop-file : goal.invariant-loop-file
invariant-loop-file l = was_made l.number l.files ≡ was_made l.number (drop l.file-index l.files)
