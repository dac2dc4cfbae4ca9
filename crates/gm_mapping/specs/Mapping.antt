-- How what is mapped stands for a history.
use Rattle.std.specs.Prelude.{◌≡◌, ℕ, ◌<◌, ◌≤◌, List, [], ◌∷◌, Bool, true, false, length, slice_index_or}
use Rattle.gm_base.specs.declared.values.Actor.{Actor}
use Rattle.gm_base.specs.declared.values.Actor.TheVariants.{Vcpu}
use Rattle.gm_base.specs.declared.values.Setup.{Setup}
use Rattle.gm_flat.specs.Invalidation.{count, hull}
use Rattle.gm_flat.specs.Mappings.{Mapping, fills, flushed, inside, leaves}
use Rattle.gm_flat.specs.declared.entry.Entry.{Entry}
use Rattle.gm_flat.specs.declared.entry.What.{What}
use Rattle.gm_flat.specs.declared.entry.What.TheVariants.{Enter, Flush, Miss, Install, Touch, Begin, End, Gone}
use Rattle.gm_inval.specs.Range.{open_range}
use Rattle.gm_mapping.specs.Alike.{FillsAre, LeafIs, over}
use Rattle.gm_mmu.specs.Served.{Serving}
use Rattle.gm_table.specs.Leaves.{leaf_over}
use Rattle.gm_tlb.specs.declared.ring.Seat.{Seat}
use Rattle.gm_tlb.specs.declared.tlb.Fill.{Fill}
use Rattle.gm_laws.specs.Counting.{asked, asked_at, ends}

abbrev pub moves_mapping : What → Actor → Bool
moves_mapping Enter a = true
moves_mapping Flush a = true
moves_mapping (Miss access) a = true
moves_mapping (Install page level) a = true
moves_mapping (Touch access backing level value fill) a = true
moves_mapping (Begin spans) a = true
moves_mapping End a = true
moves_mapping Gone (Vcpu v) = true
moves_mapping w a = false

-- a vCPU has done the requests of the Begins before its last Flush
pub record SeatIs (seat : Seat) (v : ℕ) (past : List Entry) : Type 0 where
  pub is_inside : seat.inside ≡ inside v past
  pub done_is : seat.done ≡ asked_at (flushed v past) past

-- each vCPU has its seat and its buffer, each leaf is one of the history, and so are the brackets in progress
pub record MappingStands (s : Setup) (m : Serving) (past : List Entry) : Type 0 where
  pub seat_count : length m.requests.seats ≡ s.vcpus
  pub buffer_count : length m.fills ≡ s.vcpus
  pub asked_is : m.requests.asked ≡ asked past
  pub seats_are : (v : ℕ) (d : Seat) → v < s.vcpus → SeatIs (slice_index_or m.requests.seats v d) v past
  pub none_beyond : (v : ℕ) → s.vcpus ≤ v → inside v past ≡ false
  pub buffers_are : (v : ℕ) (d : List Fill) → v < s.vcpus → FillsAre s.user (slice_index_or m.fills v d) (fills v past)
  pub leaves_are : (page : ℕ) → LeafIs s.user (leaf_over m.leaves page) (over page (leaves past))
  pub count_is : m.progress.count ≡ count past
  pub range_is : open_range m.progress ≡ hull past
  pub seq_is : m.progress.seq ≡ ends past
