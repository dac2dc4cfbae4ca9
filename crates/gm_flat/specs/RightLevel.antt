-- *right level*: which installs are of 2 MiB. (mmu.c, kvm_mmu_max_mapping_level; that none is made where an invalidation
-- in progress meets the block is this project's own.)
use Rattle.std.specs.Prelude.{◌≡◌, ℕ, ◌+◌, ◌%◌, ◌<◌, ◌≤◌, List, Bool, true, false, ◌⊎◌, Some, None}
use Rattle.std.specs.declared.option.Option.{Option}
use Rattle.gm_base.specs.Extent.{Extent, holds}
use Rattle.gm_base.specs.declared.numbers.TheConstants.{BLOCK_PAGES}
use Rattle.gm_base.specs.declared.values.Setup.{Setup}
use Rattle.gm_base.specs.declared.values.Level.{Level}
use Rattle.gm_base.specs.declared.values.Level.TheVariants.{Small, Block}
use Rattle.gm_base.specs.declared.values.Actor.{Actor}
use Rattle.gm_flat.specs.declared.effect.Backing.{Backing}
use Rattle.gm_flat.specs.declared.effect.Backing.TheVariants.{User, Folio as InFolio}
use Rattle.gm_flat.specs.declared.entry.Entry.{Entry}
use Rattle.gm_flat.specs.declared.entry.What.{What}
use Rattle.gm_flat.specs.declared.entry.What.TheVariants.{Install}
use Rattle.gm_flat.specs.declared.views.SlotView.{SlotView}
use Rattle.gm_flat.specs.Slots.{slot_over}
use Rattle.gm_flat.specs.FlatState.{Flat}
use Rattle.gm_flat.specs.Attribute.{attr_of}
use Rattle.gm_flat.specs.NamedPage.{Named, named}
use Rattle.gm_flat.specs.Replay.{flat}
use Rattle.gm_flat.specs.Mappings.{block_of}
use Rattle.gm_flat.specs.Invalidation.{hull, hull_meets}

abbrev pub IsUserPage : ℕ → Option Named → Type 0
IsUserPage user None = ⊥
IsUserPage user (Some m) = m.backing ≡ User user

abbrev pub HasFrame : ℕ → Backing → Type 0
HasFrame frame (User user) = ⊥
HasFrame frame (InFolio folio) = folio.frame ≡ frame

abbrev pub IsFrame : ℕ → Option Named → Type 0
IsFrame frame None = ⊥
IsFrame frame (Some m) = HasFrame frame m.backing

-- the slot over the page covers the block
abbrev pub SlotCovers : Extent → Option SlotView → Type 0
SlotCovers block None = ⊥
SlotCovers block (Some s) = (s.base ≤ block.lo) × (block.hi ≤ s.base + s.pages)

-- the pages of the block are consecutive user pages, or consecutive frames, from a multiple of 512 on
abbrev pub IsConsecutive : Extent → Flat → Type 0
IsConsecutive block f = (first : ℕ) × (first % BLOCK_PAGES ≡ 0) × (((k : ℕ) → k < BLOCK_PAGES → IsUserPage (first + k) (named f (block.lo + k))) ⊎ ((k : ℕ) → k < BLOCK_PAGES → IsFrame (first + k) (named f (block.lo + k))))

pub record IsWholeBlock (huge : Bool) (page : ℕ) (f : Flat) (kept : Option Extent) : Type 0 where
  pub is_huge : huge ≡ true
  pub one_slot : SlotCovers (block_of page) (slot_over f.slots page)
  pub one_kind : (h : ℕ) → holds (block_of page) h ≡ true → attr_of h f.attrs ≡ attr_of page f.attrs
  pub consecutive : IsConsecutive (block_of page) f
  pub no_invalidation : hull_meets (block_of page) kept ≡ false

abbrev pub LevelIs : Level → Bool → ℕ → List Entry → Type 0
LevelIs Block huge page past = IsWholeBlock huge page (flat past) (hull past)
LevelIs Small huge page past = IsWholeBlock huge page (flat past) (hull past) → ⊥

abbrev pub RightLevel : Setup → What → Actor → List Entry → Type 0
RightLevel s (Install page level) actor past = LevelIs level s.huge page past
RightLevel s _ actor past = Unit {0}
