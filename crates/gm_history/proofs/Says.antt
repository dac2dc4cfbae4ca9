-- What the end of a line says.
use Rattle.std.proofs.Common.{◌≡◌, ℕ, List, ◌∙◌}
use Rattle.gm_flat.specs.Plain.{IsPlainWhat}
use Rattle.gm_flat.specs.declared.entry.What.{What}
use Rattle.gm_text.specs.Text.{what_text}
use Rattle.gm_history.specs.Ranges.{IsWhatRanged}

-- the line is the text of what an entry says, which is plain and in its ranges
pub record Said (line : List ℕ) (w : What) : Type 0 where
  pub text : what_text w ≡ line
  pub plain : IsPlainWhat w
  pub ranged : IsWhatRanged w

pub said_on : (w : What) (line more : List ℕ) → line ≡ more → Said line w → Said more w
said_on w line more e s = record { text = s.text ∙ e; plain = s.plain; ranged = s.ranged }
