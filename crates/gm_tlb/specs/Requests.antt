-- Requests to flush, and the vCPUs that they ask.
use Rattle.std.specs.Prelude.{◌≡◌, ℕ, ◌<◌, List, length, true, Bool, ◌&&◌, nat_lt, slice_index_or, slice_set, false}
use Rattle.gm_tlb.specs.declared.ring.Seat.{Seat}

-- how many requests were made, and each vCPU by its number
pub record Requests : Type 0 where
  pub asked : ℕ
  pub seats : List Seat

-- a vCPU outside that has done no request
abbrev pub outside : Seat
outside = record { inside = false; done = 0 }

-- the vCPU of this number
abbrev pub seat_of : Requests → ℕ → Seat
seat_of r v = slice_index_or r.seats v outside

-- with the vCPU of this number changed
abbrev pub with_seat : Requests → ℕ → Seat → Requests
with_seat r v seat = record { asked = r.asked; seats = slice_set r.seats v seat }

-- whether the vCPU has a request to do
abbrev pub has_pending : Requests → ℕ → Bool
has_pending r v = nat_lt (seat_of r v).done r.asked

-- whether the vCPU is inside and hasn't done request number n
abbrev pub waits_for : Requests → ℕ → ℕ → Bool
waits_for r n v = (seat_of r v).inside && nat_lt (seat_of r v).done n

-- each vCPU inside has done request number n
abbrev pub IsDoneByAll : Requests → ℕ → Type 0
IsDoneByAll r n = (v : ℕ) → v < length r.seats → waits_for r n v ≡ false

-- v is the least vCPU that is inside and hasn't done request number n
pub record IsLeastWaiting (r : Requests) (n v : ℕ) : Type 0 where
  pub is_one : v < length r.seats
  pub waits : waits_for r n v ≡ true
  pub none_before : (u : ℕ) → u < v → waits_for r n u ≡ false
