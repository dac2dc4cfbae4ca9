-- A touch names its folio with the frame that the folio was added with, so the serial alone tells it.
use Rattle.std.specs.Prelude.{◌≡◌, List, Some}
use Rattle.gm_base.specs.declared.values.Actor.{Actor}
use Rattle.gm_flat.specs.declared.effect.Backing.{Backing}
use Rattle.gm_flat.specs.declared.effect.Backing.TheVariants.{User, Folio as InFolio}
use Rattle.gm_flat.specs.declared.entry.Entry.{Entry}
use Rattle.gm_flat.specs.declared.entry.What.{What}
use Rattle.gm_flat.specs.declared.entry.What.TheVariants.{Touch}
use Rattle.gm_flat.specs.FlatState.{Flat}
use Rattle.gm_flat.specs.Replay.{flat}
use Rattle.gm_flat.specs.RightLives.{frame_of}

abbrev pub HasItsFrame : Backing → Flat → Type 0
HasItsFrame (User page) f = Unit {0}
HasItsFrame (InFolio folio) f = frame_of folio.serial f.folios ≡ Some folio.frame

abbrev pub TouchFrames : What → Actor → List Entry → Type 0
TouchFrames (Touch a backing level value fill) actor past = HasItsFrame backing (flat past)
TouchFrames _ actor past = Unit {0}
