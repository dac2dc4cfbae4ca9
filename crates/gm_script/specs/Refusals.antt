-- How bytes that form no script are refused.
use Rattle.std.specs.Prelude.{◌≡◌, ℕ, List}
use Rattle.gm_script.specs.declared.error.ScriptError.{ScriptError}
use Rattle.gm_script.specs.declared.error.ScriptError.TheVariants.{BadLine, NoMemory}
use Rattle.gm_script.specs.Grammar.{Verdict, script_of, Bad}

-- what was judged is this bad line with this cause
abbrev pub JudgedBad : Verdict → ScriptError → Type 0
JudgedBad verdict (BadLine line cause) = verdict ≡ Bad line cause
JudgedBad verdict NoMemory = Unit {0}

-- the first bad line and its first cause; memory may be wanted at any bytes
abbrev pub RefusedAs : List ℕ → ScriptError → Type 0
RefusedAs bytes (BadLine line cause) = script_of bytes ≡ Bad line cause
RefusedAs bytes NoMemory = Unit {0}
