-- Folios that faults hold.
use Rattle.std.specs.Prelude.{◌≡◌, ℕ, ◌+◌, ◌-◌, ◌<◌, Option, Some, None, if◌then◌else◌}
use Rattle.gm_flat.specs.declared.effect.Backing.{Backing}
use Rattle.gm_flat.specs.declared.effect.Backing.TheVariants.{User, Folio as InFolio}
use Rattle.gm_base.specs.declared.values.Folio.{Folio}
use Rattle.gm_base.specs.declared.values.Setup.{Setup}
use Rattle.gm_flat.specs.FlatState.{added}
use Rattle.gm_flat.specs.RightLives.{UsesFirst}
use Rattle.gm_pool.specs.Pools.{Frames, IsLive}
use Rattle.gm_store.specs.Frees.{hold_dropped, is_last_hold}
use Rattle.gm_store.specs.Stored.{Stored, held_more, with_addition}
use Rattle.gm_store.specs.Added.{addition_of}
use Rattle.gm_store.specs.declared.first_use.Used.{Used}
use Rattle.gm_state.specs.Views.{StateView}
use Rattle.gm_state.specs.Stand.{Memory, StateIs}

-- the backing is a user page, or a live folio that is held
abbrev pub IsReleasable : Frames → Backing → Type 0
IsReleasable pool (User page) = Unit {0}
IsReleasable pool (InFolio folio) = IsLive pool folio (λ usage. 0 < usage.holds)

-- the folio that is freed where a hold of the backing ends: one that isn't cached, by its last hold
abbrev pub freed_by : Backing → Stored → Option Folio
freed_by (User page) k = None
freed_by (InFolio folio) k = if is_last_hold folio.serial k then Some folio else None

-- after the hold ends, with the folio freed where it is
abbrev pub released : Backing → Memory → Memory
released (User page) m = m
released (InFolio folio) m = record m { stored = hold_dropped (is_last_hold folio.serial m.stored) folio.serial m.stored }

-- after one hold more
abbrev pub held : ℕ → Memory → Memory
held serial m = record m { stored = held_more serial m.stored }

-- after a first use of an index, of which the folio is held
abbrev pub first_held : ℕ → Used → Memory → Memory
first_held file u m = record m { stored = held_more u.own.serial (with_addition (addition_of file u) (λ word. 0) m.stored) }

-- what is added is what the rule of lives says, with words that are zero, and `own` is the folio of the index
pub record FirstHeld (s : Setup) (file index : ℕ) (u : Used) (st : StateView) (m : Memory) : Type 0 where
  pub adds : UsesFirst s.frames index (addition_of file u) m.stored.flat
  pub serial_is : u.first.serial ≡ added m.stored.flat
  pub own_serial : u.own.serial ≡ u.first.serial + (index - u.index)
  pub own_frame : u.own.frame ≡ u.first.frame + (index - u.index)
  pub is : StateIs s st (first_held file u m)
