-- The line that says why a script or a history was refused.
use Rattle.std.specs.Prelude.{ℕ, List, [], ◌∷◌, codes}
use Rattle.std.specs.Fmt.{decimal}
use Rattle.gm_script.specs.declared.error.Cause.{Cause}
use Rattle.gm_script.specs.declared.error.Cause.TheVariants.{Bytes, Cut, Machine, Word, Number, Actor, Align, Limit}
use Rattle.gm_text.specs.Text.{joined}

abbrev pub cause_text : Cause → List ℕ
cause_text Bytes = codes "bytes"
cause_text Cut = codes "cut"
cause_text Machine = codes "machine"
cause_text Word = codes "word"
cause_text Number = codes "number"
cause_text Actor = codes "actor"
cause_text Align = codes "align"
cause_text Limit = codes "limit"

-- by the word for the cause
abbrev pub refusal_by : ℕ → List ℕ → List ℕ
refusal_by line word = joined (codes "bad line=" ∷ decimal line ∷ codes " cause=" ∷ word ∷ codes "\n" ∷ [])

abbrev pub refusal_text : ℕ → Cause → List ℕ
refusal_text line cause = refusal_by line (cause_text cause)

abbrev pub bad_history_text : ℕ → List ℕ
bad_history_text line = refusal_by line (codes "history")
