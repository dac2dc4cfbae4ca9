-- What a machine tells of its memory and its actors.
use Rattle.std.proofs.Common.{◌≡◌, ℕ, true, List, Option, Some, None, refl, sym}
use Rattle.std.specs.Prelude.{IfSome, is_some}
use Rattle.gm_base.specs.declared.values.Folio.{Folio}
use Rattle.gm_base.specs.declared.values.Setup.{Setup}
use Rattle.gm_callers.specs.Stand.{OpenIs}
use Rattle.gm_callers.specs.declared.caller.InProgress.{InProgress}
use Rattle.gm_flat.specs.FlatState.{Flat, cached, in_use}
use Rattle.gm_flat.specs.Histories.{Bracket, Call as Past}
use Rattle.gm_flat.specs.declared.entry.Entry.{Entry}
use Rattle.gm_laws.specs.SlotsStand.{SlotsStand}

-- what is cached is cached in a file in use
pub cached_in_use : (f : Flat) (file index : ℕ) (folio : Option Folio) → SlotsStand f → folio ≡ cached file index f.cache → IfSome folio (λ x. in_use file f.files ≡ true)
cached_in_use f file index None st e = tt
cached_in_use f file index (Some x) st e = st.cached_in_use file index x (sym e)

-- a caller has a call in progress exactly where the history has one
pub open_some : (s : Setup) (x : Option InProgress) (y : Option Past) (b : Option Bracket) (past : List Entry) → OpenIs s x y b past → is_some x ≡ is_some y
open_some s None None b past h = refl
open_some s (Some x) (Some y) b past h = refl
open_some s None (Some y) b past h = absurd h
open_some s (Some x) None b past h = absurd h
