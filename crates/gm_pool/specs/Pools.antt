-- Frames, the folios that use them, and what their pool keeps.
use Rattle.std.specs.Prelude.{◌≡◌, ℕ, ◌+◌, ◌-◌, ◌*◌, ◌/◌, ◌<◌, ◌≤◌, ◌^◌, List, Bool, true, false, not, ◌&&◌, nat_eq, nat_le, nat_lt, length, slice_index_or, slice_set, None, Some, is_none, IsSomeAnd, if◌then◌else◌}
use Rattle.std.specs.Bool.{MatchBool}
use Rattle.std.specs.declared.option.Option.{Option}
use Rattle.gm_base.specs.declared.values.Folio.{Folio}
use Rattle.gm_base.specs.declared.numbers.TheConstants.{BLOCK_PAGES}
use Rattle.gm_pool.specs.declared.uses.Use.{Use}
use Rattle.gm_pool.specs.declared.uses.Freed.{Freed}
use Rattle.gm_pool.specs.declared.uses.Freed.TheVariants.{Now, Later}
use Rattle.gm_pool.specs.Bits.{bit_in}

-- what each frame is used for, None where it is free, and the serial of the next folio
pub record Frames : Type 0 where
  pub uses : List (Option Use)
  pub next : ℕ

-- the use of a frame; a frame that there isn't has none
abbrev pub use_in : List (Option Use) → ℕ → Option Use
use_in uses frame = slice_index_or uses frame None

abbrev pub use_of : Frames → ℕ → Option Use
use_of p frame = use_in p.uses frame

-- whether there is such a frame and it is free
abbrev pub free_in : List (Option Use) → ℕ → Bool
free_in uses frame = nat_lt frame (length uses) && is_none (use_in uses frame)

abbrev pub is_free : Frames → ℕ → Bool
is_free p frame = free_in p.uses frame

-- 512 frames from one on that are all free
abbrev pub FreeBlock : List (Option Use) → ℕ → Type 0
FreeBlock uses first = (k : ℕ) → k < BLOCK_PAGES → free_in uses (first + k) ≡ true

-- a new folio of this serial: cached, and held by nobody
abbrev pub fresh : ℕ → Use
fresh serial = record { serial = serial; holds = 0; cached = true }

-- the frames with another use of one of them
abbrev pub with_use : Frames → ℕ → Option Use → Frames
with_use p frame usage = record { uses = slice_set p.uses frame usage; next = p.next }

-- a frame's use after folios of rising serials took so many frames from the first on
abbrev pub use_after : List (Option Use) → ℕ → ℕ → ℕ → ℕ → Option Use
use_after uses first count serial frame = if nat_le first frame && nat_lt frame (first + count) then Some (fresh ((serial + frame) - first)) else use_in uses frame

-- the folio is live, and its use is such
abbrev pub IsLive : Frames → Folio → (Use → Type 0) → Type 0
IsLive p folio Such = IsSomeAnd (use_of p folio.frame) (λ usage. (usage.serial ≡ folio.serial) × Such usage)

abbrev pub one_more : Use → Use
one_more usage = record { serial = usage.serial; holds = usage.holds + 1; cached = usage.cached }

abbrev pub one_less : Use → Use
one_less usage = record { serial = usage.serial; holds = usage.holds - 1; cached = usage.cached }

abbrev pub uncached : Use → Use
uncached usage = record { serial = usage.serial; holds = usage.holds; cached = false }

-- neither cached nor held
abbrev pub is_idle : Use → Bool
is_idle usage = nat_eq usage.holds 0 && not usage.cached

-- a frame's use becomes this one, but the frame is free where the use is neither cached nor held
abbrev pub Settles : Frames → Frames → ℕ → Use → Freed → Type 0
Settles old new frame usage freed = MatchBool (is_idle usage) ((freed ≡ Now) × (new ≡ with_use old frame None)) ((freed ≡ Later) × (new ≡ with_use old frame (Some usage)))

-- the sets of free frames and of free blocks are those of the uses
pub record Stands (uses : List (Option Use)) (free blocks : List ℕ) : Type 0 where
  pub frames : (frame : ℕ) → bit_in free frame ≡ free_in uses frame
  pub whole : (block : ℕ) → bit_in blocks block ≡ true → FreeBlock uses (BLOCK_PAGES * block)
  pub block : (block : ℕ) → FreeBlock uses (BLOCK_PAGES * block) → bit_in blocks block ≡ true
  pub room : length uses ≤ 64 * length free
  pub blocks_room : length uses / BLOCK_PAGES ≤ 64 * length blocks
  pub small : length uses < 2 ^ 32
