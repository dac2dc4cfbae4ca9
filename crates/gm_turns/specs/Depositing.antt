-- A fault that has only missed takes a sighting that was made earlier, and writes its sample and its look in one turn.
use Rattle.std.specs.Prelude.{◌≡◌, ℕ, ◌+◌, ◌≤◌, List, [], ◌∷◌, length, None}
use Rattle.gm_base.specs.Aim.{Aim}
use Rattle.gm_base.specs.declared.values.Actor.TheVariants.{Vcpu}
use Rattle.gm_flat.specs.Attribute.{attr_of}
use Rattle.gm_flat.specs.Histories.{Fault, Faulting, fault}
use Rattle.gm_flat.specs.Replay.{flat_at}
use Rattle.gm_flat.specs.Slots.{slot_over}
use Rattle.gm_flat.specs.declared.entry.Entry.{Entry}
use Rattle.gm_flat.specs.declared.entry.What.{What}
use Rattle.gm_flat.specs.declared.entry.What.TheVariants.{Sample}
use Rattle.gm_flat.specs.declared.views.Sighting.{Sighting}
use Rattle.gm_laws.specs.Counting.{ends_at}
use Rattle.gm_laws.specs.Ruled.{Ruled}
use Rattle.gm_laws.specs.Turns.{IsNewTurn, IsTurn, onto}
use Rattle.gm_turns.specs.Ready.{CoreStands}
use Rattle.gm_turns.specs.Room.{orders_of}
use Rattle.gm_turns.specs.declared.parts.Core.{Core}
use Rattle.gm_vcpus.specs.Sights.{look_entry}

-- a sighting is true of a fault of this access whose Miss is right before the position `missed`
pub record IsTrueOf (s : Sighting) (a : Aim) (missed : ℕ) (past : List Entry) : Type 0 where
  pub after_miss : missed ≤ s.sampled.at
  pub in_order : s.sampled.at ≤ s.looked.at
  pub so_far : s.looked.at ≤ length past
  pub seq : s.sampled.seq ≡ ends_at s.sampled.at past
  pub slot : s.looked.slot ≡ slot_over (flat_at s.looked.at past).slots a.page
  pub attr : s.looked.attr ≡ attr_of a.page (flat_at s.looked.at past).attrs

-- the vCPU's last entry, flushes aside, is its Miss, and the sighting is true of it
abbrev pub IsTrueBy : Sighting → Fault → List Entry → Type 0
IsTrueBy s (Faulting a missed None None None) past = IsTrueOf s a missed past
IsTrueBy s _ past = ⊥

abbrev pub IsTrueSight : ℕ → Sighting → List Entry → Type 0
IsTrueSight v s past = IsTrueBy s (fault v past) past

-- its entries
abbrev pub sighting_entries : Sighting → List What
sighting_entries s = Sample s.sampled.at ∷ look_entry s.looked ∷ []

-- a turn of the vCPU was taken: these two entries by the tables, and no other
pub record Deposited (old new : Core) (v : ℕ) (s : Sighting) : Type 0 where
  pub stands : CoreStands new
  pub ruled : Ruled (orders_of new) new.log.past
  pub orders : orders_of new ≡ orders_of old
  pub turns : new.turns ≡ old.turns
  pub next : IsNewTurn (old.turns + 2) new.log.past
  pub past_is : new.log.past ≡ onto (old.turns + 1) (Vcpu v) (sighting_entries s) old.log.past
  pub by_tables : IsTurn (orders_of old) (old.turns + 1) (Vcpu v) (sighting_entries s) old.log.past
