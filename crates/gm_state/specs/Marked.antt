-- The state with a slot marked.
use Rattle.std.specs.Prelude.{ℕ, ◌+◌, Some, None}
use Rattle.std.specs.declared.option.Option.{Option}
use Rattle.gm_flat.specs.Effects.{marked}
use Rattle.gm_flat.specs.declared.effect.Effect.{Effect}
use Rattle.gm_flat.specs.declared.effect.Effect.TheVariants.{Move, NoSlot}
use Rattle.gm_state.specs.Views.{StateView}

-- the slot that a deletion or a move marks where its bracket begins
abbrev pub mark_slot : Effect → Option ℕ
mark_slot (NoSlot slot) = Some slot
mark_slot (Move slot base) = Some slot
mark_slot _ = None

abbrev pub with_mark : ℕ → StateView → StateView
with_mark slot st = record st { slots = record { slots = marked slot st.slots.slots; generation = st.slots.generation + 1 } }
