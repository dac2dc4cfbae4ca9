-- Where slots begin, by rising base.
use Rattle.std.specs.Prelude.{◌≡◌, ◌≢◌, ℕ, ◌<◌, ◌≤◌, List, length, slice_index_or}
use Rattle.std.specs.List.{insert, remove}
use Rattle.gm_slots.specs.declared.order.Begin.{Begin}

-- each begins after the one before it
abbrev pub Rises : List Begin → Type 0
Rises order = (i j : ℕ) (d : Begin) → i < j → j < length order → (slice_index_or order i d).base < (slice_index_or order j d).base

-- the last one with another id, of the first so many
pub record IsLastOther (order : List Begin) (count id : ℕ) (b : Begin) : Type 0 where
  pub at : ℕ
  pub bound : at < count
  pub is : (d : Begin) → slice_index_or order at d ≡ b
  pub differs : b.id ≢ id
  pub later : (k : ℕ) (d : Begin) → at < k → k < count → (slice_index_or order k d).id ≡ id

-- the second list has one more, behind those that begin at its base or before it
pub record IsPut (order new : List Begin) (b : Begin) : Type 0 where
  pub at : ℕ
  pub bound : at ≤ length order
  pub is : new ≡ insert order at b
  pub low : (k : ℕ) (d : Begin) → k < at → (slice_index_or order k d).base ≤ b.base
  pub high : (k : ℕ) (d : Begin) → at ≤ k → k < length order → b.base < (slice_index_or order k d).base

-- the second list has one less, which begins at the base
pub record IsTaken (order new : List Begin) (base : ℕ) : Type 0 where
  pub at : ℕ
  pub bound : at < length order
  pub is : new ≡ remove order at
  pub begins : (d : Begin) → (slice_index_or order at d).base ≡ base
