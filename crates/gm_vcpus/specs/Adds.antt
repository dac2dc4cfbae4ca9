-- What a Get adds where nothing is cached at its index.
use Rattle.std.specs.Prelude.{◌≡◌, ℕ, ◌+◌, ◌-◌, ◌≤◌, true, None}
use Rattle.gm_base.specs.declared.values.Folio.{Folio}
use Rattle.gm_flat.specs.Effects.{Addition, U32_LIMIT, U64_LIMIT}
use Rattle.gm_flat.specs.FlatState.{Flat, cached, in_use}
use Rattle.gm_flat.specs.RightLives.{IsNext, UsesFirst}

-- an addition by a first use of an index of a file in use, and the folio of that index in it
pub record AddsByFault (frames file index : ℕ) (folio : Folio) (d : Addition) (f : Flat) : Type 0 where
  pub used : in_use file f.files ≡ true
  pub not_cached : cached file index f.cache ≡ None
  pub file_is : d.file ≡ file
  pub copy_is : d.copy ≡ None
  pub serial_is : folio.serial ≡ d.serial + (index - d.index)
  pub frame_is : folio.frame ≡ d.frame + (index - d.index)
  pub next : IsNext d f
  pub uses : UsesFirst frames index d f
  pub serials_fit : d.serial + d.pages ≤ U64_LIMIT
  pub frames_fit : frames ≤ U32_LIMIT
