-- *right history*: each definition holds at each position, and the last turn is whole and at rest. (This project's own.)
use Rattle.std.specs.Prelude.{List, [], ◌∷◌}
use Rattle.gm_base.specs.Scripts.{Orders}
use Rattle.gm_flat.specs.declared.entry.Entry.{Entry}
use Rattle.gm_flat.specs.RightTouch.{RightTouch}
use Rattle.gm_flat.specs.RightLook.{RightLook}
use Rattle.gm_flat.specs.RightInstall.{RightInstall}
use Rattle.gm_flat.specs.RightLevel.{RightLevel}
use Rattle.gm_flat.specs.RightLives.{RightLives, LivesAtRest}
use Rattle.gm_flat.specs.RightCalls.{RightCalls}
use Rattle.gm_flat.specs.RightOrder.{RightOrder, IsWhole}

-- a fact of each entry over what stands before it
abbrev pub Each : (Entry → List Entry → Type 0) → List Entry → Type 0
Each P [] = Unit {0}
Each P (e ∷ past) = P e past × Each P past

pub record Right (o : Orders) (past : List Entry) : Type 0 where
  pub touches : Each (λ e p. RightTouch e.what e.actor p) past
  pub looks : Each (λ e p. RightLook o.setup e.what e.actor p) past
  pub installs : Each (λ e p. RightInstall e.what e.actor p) past
  pub levels : Each (λ e p. RightLevel o.setup e.what e.actor p) past
  pub lives : Each (λ e p. RightLives o.setup e p) past
  pub at_rest : LivesAtRest past
  pub calls : Each (λ e p. RightCalls o.setup e.what e.actor p) past
  pub order : Each (λ e p. RightOrder o e p) past
  pub whole : IsWhole o.setup past
