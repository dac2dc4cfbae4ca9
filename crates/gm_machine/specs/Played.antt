-- A history of turns that were taken one after another.
use Rattle.std.specs.Prelude.{◌≡◌, ℕ, ◌+◌, true, false, List, [], ◌∷◌, length, ◌⊎◌}
use Rattle.gm_base.specs.Scripts.{Orders}
use Rattle.gm_base.specs.declared.values.Actor.{Actor}
use Rattle.gm_base.specs.declared.values.Actor.TheVariants.{Vcpu}
use Rattle.gm_base.specs.declared.script.Turn.{Turn}
use Rattle.gm_base.specs.declared.script.Turn.TheVariants.{Next, Kick}
use Rattle.gm_flat.specs.Histories.{gone}
use Rattle.gm_flat.specs.Mappings.{pending}
use Rattle.gm_flat.specs.RightOrder.{IsBlocked}
use Rattle.gm_flat.specs.declared.entry.Entry.{Entry}
use Rattle.gm_turns.specs.Ready.{TookTurn}

-- the actor's turn came, since it hadn't written `gone` and waited for nobody
pub record Comes (o : Orders) (actor : Actor) (turn : ℕ) (before past : List Entry) : Type 0 where
  pub took : TookTurn o turn actor false before past
  pub present : gone actor before ≡ false
  pub unblocked : IsBlocked o actor before → ⊥

-- nothing came, since the actor has written `gone` or waits
pub record Stays (o : Orders) (actor : Actor) (before past : List Entry) : Type 0 where
  pub same : past ≡ before
  pub cause : (gone actor before ≡ true) ⊎ IsBlocked o actor before

-- a kick came, since a flush was pending
pub record Flushes (o : Orders) (v turn : ℕ) (before past : List Entry) : Type 0 where
  pub took : TookTurn o turn (Vcpu v) true before past
  pub was_pending : pending v before ≡ true

-- nothing came, since none was
pub record Spared (v : ℕ) (before past : List Entry) : Type 0 where
  pub same : past ≡ before
  pub none_pending : pending v before ≡ false

-- what a turn of this number makes of a history, newest entry first
abbrev pub PlaysTurn : Orders → Turn → ℕ → List Entry → List Entry → Type 0
PlaysTurn o (Next actor) turn before past = Comes o actor turn before past ⊎ Stays o actor before past
PlaysTurn o (Kick v) turn before past = Flushes o v turn before past ⊎ Spared v before past

-- the turns, the last one first, give the history, the newest entry first
abbrev pub PlaysTurns : Orders → List Turn → List Entry → Type 0
PlaysTurns o [] past = past ≡ []
PlaysTurns o (turn ∷ turns) past = (before : List Entry) × PlaysTurns o turns before × PlaysTurn o turn (length turns + 1) before past
