-- Frees, run by run.
use Rattle.std.proofs.Common.{ℕ, Option, Some, None}
use Rattle.gm_turns.specs.declared.frees.Run.{Run}

abbrev pub waiting : Option Run → ℕ
waiting None = 0
waiting (Some r) = 1

abbrev pub pages_in : Option Run → ℕ
pages_in None = 0
pages_in (Some r) = r.pages
