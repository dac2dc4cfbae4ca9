-- Entries and setups whose numbers are within the ranges of their types, and of the machine's limits.
use Rattle.std.specs.Prelude.{ℕ, ◌<◌, ◌≤◌, List, [], ◌∷◌, Some, None}
use Rattle.std.specs.declared.option.Option.{Option}
use Rattle.gm_base.specs.Aim.{Aim}
use Rattle.gm_base.specs.declared.calls.Ioctl.{Ioctl}
use Rattle.gm_base.specs.declared.calls.Ioctl.TheVariants.{Create, Region2, Attrs, Punch, Allocate, Close, Populate, Poke, Peek}
use Rattle.gm_base.specs.declared.numbers.TheConstants.{PAGE_LIMIT, PAGE_WORDS, MOST_FRAMES, MOST_USER_PAGES, MOST_VCPUS, MOST_CALLERS}
use Rattle.gm_base.specs.declared.values.Actor.{Actor}
use Rattle.gm_base.specs.declared.values.Actor.TheVariants.{Vcpu, Caller}
use Rattle.gm_base.specs.declared.values.Folio.{Folio}
use Rattle.gm_base.specs.declared.values.Op.{Op}
use Rattle.gm_base.specs.declared.values.Op.TheVariants.{Read, Write}
use Rattle.gm_base.specs.declared.values.Setup.{Setup}
use Rattle.gm_flat.specs.declared.effect.Backing.{Backing}
use Rattle.gm_flat.specs.declared.effect.Backing.TheVariants.{User, Folio as InFolio}
use Rattle.gm_flat.specs.declared.effect.Effect.{Effect}
use Rattle.gm_flat.specs.declared.effect.Effect.TheVariants.{File, Slot, Mark, NoSlot, Move, Attr, Cut, Shut, Word}
use Rattle.gm_flat.specs.declared.effect.Exit.{Exit}
use Rattle.gm_flat.specs.declared.effect.Exit.TheVariants.{Fault, Mmio, NoFrame}
use Rattle.gm_flat.specs.declared.effect.Reply.{Reply}
use Rattle.gm_flat.specs.declared.effect.Reply.TheVariants.{Good, Bad}
use Rattle.gm_flat.specs.declared.entry.Entry.{Entry}
use Rattle.gm_flat.specs.declared.entry.What.{What}
use Rattle.gm_flat.specs.declared.entry.What.TheVariants.{Miss, Sample, Look, Get, Install, Touch, Left, Judge, Begin, Change, Page, Answer, Free}
use Rattle.gm_flat.specs.Roomy.{IsOfPages, AreOfPages}

abbrev pub IsU16 : ℕ → Type 0
IsU16 n = n < 65536

abbrev pub IsU32 : ℕ → Type 0
IsU32 n = n < 4294967296

abbrev pub IsU64 : ℕ → Type 0
IsU64 n = n < 18446744073709551616

-- the number of a guest page
abbrev pub IsPage : ℕ → Type 0
IsPage n = n < PAGE_LIMIT

abbrev pub IsMaybeRanged : Option ℕ → Type 0
IsMaybeRanged None = Unit {0}
IsMaybeRanged (Some n) = IsU32 n

abbrev pub IsActorRanged : Actor → Type 0
IsActorRanged (Vcpu v) = IsU32 v
IsActorRanged (Caller c) = IsU32 c

abbrev pub IsOpRanged : Op → Type 0
IsOpRanged Read = Unit {0}
IsOpRanged (Write value) = IsU64 value

abbrev pub IsAimRanged : Aim → Type 0
IsAimRanged a = IsPage a.page × (a.word < PAGE_WORDS) × IsOpRanged a.op

abbrev pub IsFolioRanged : Folio → Type 0
IsFolioRanged folio = IsU64 folio.serial × IsU32 folio.frame

abbrev pub IsBackingRanged : Backing → Type 0
IsBackingRanged (User page) = IsU64 page
IsBackingRanged (InFolio folio) = IsFolioRanged folio

abbrev pub IsExitRanged : Exit → Type 0
IsExitRanged (Fault flags gpa size) = IsU64 flags × IsU64 gpa × IsU64 size
IsExitRanged (Mmio gpa) = IsU64 gpa
IsExitRanged NoFrame = Unit {0}

abbrev pub IsReplyRanged : Reply → Type 0
IsReplyRanged (Good n) = IsU64 n
IsReplyRanged (Bad errno) = Unit {0}

abbrev pub IsCallRanged : Ioctl → Type 0
IsCallRanged (Create size flags) = IsU64 size × IsU64 flags
IsCallRanged (Region2 r) = IsU32 r.slot × IsU32 r.flags × IsU64 r.gpa × IsU64 r.size × IsU64 r.user × IsU32 r.fd × IsU64 r.offset
IsCallRanged (Attrs address size attributes flags) = IsU64 address × IsU64 size × IsU64 attributes × IsU64 flags
IsCallRanged (Punch fd offset length) = IsU32 fd × IsU64 offset × IsU64 length
IsCallRanged (Allocate fd offset length) = IsU32 fd × IsU64 offset × IsU64 length
IsCallRanged (Close fd) = IsU32 fd
IsCallRanged (Populate gpa pages user) = IsU64 gpa × IsU64 pages × IsU64 user
IsCallRanged (Poke address value) = IsU64 address × IsU64 value
IsCallRanged (Peek address) = IsU64 address

abbrev pub IsEffectRanged : Effect → Type 0
IsEffectRanged (File file pages block) = IsU32 file × IsU64 pages
IsEffectRanged (Slot slot base pages user flags file index) = IsU32 slot × IsU64 base × IsU64 pages × IsU64 user × IsU32 flags × IsMaybeRanged file × IsU64 index
IsEffectRanged (Mark slot) = IsU32 slot
IsEffectRanged (NoSlot slot) = IsU32 slot
IsEffectRanged (Move slot base) = IsU32 slot × IsU64 base
IsEffectRanged (Attr span kind) = IsOfPages span
IsEffectRanged (Cut file lo hi) = IsU32 file × IsU64 lo × IsU64 hi
IsEffectRanged (Shut file) = IsU32 file
IsEffectRanged (Word page word value) = IsU64 page × IsU16 word × IsU64 value

-- what an entry says; its numbers are of any size that their types have
abbrev pub IsWhatRanged : What → Type 0
IsWhatRanged (Miss access) = IsAimRanged access
IsWhatRanged (Sample at) = IsU64 at
IsWhatRanged (Look at slot attr file) = IsU64 at × IsMaybeRanged slot × IsMaybeRanged file
IsWhatRanged (Get backing fresh) = IsBackingRanged backing × IsU16 fresh
IsWhatRanged (Install page level) = IsPage page
IsWhatRanged (Touch access backing level value fill) = IsAimRanged access × IsBackingRanged backing × IsU64 value × IsU64 fill
IsWhatRanged (Left why) = IsExitRanged why
IsWhatRanged (Judge call) = IsCallRanged call
IsWhatRanged (Begin spans) = AreOfPages spans.list
IsWhatRanged (Change effect) = IsEffectRanged effect
IsWhatRanged (Page index folio pages) = IsU64 index × IsFolioRanged folio × IsU16 pages
IsWhatRanged (Answer reply) = IsReplyRanged reply
IsWhatRanged (Free folio pages) = IsFolioRanged folio × IsU32 pages
IsWhatRanged _ = Unit {0}

abbrev pub IsEntryRanged : Entry → Type 0
IsEntryRanged e = IsU64 e.turn × IsActorRanged e.actor × IsWhatRanged e.what

-- each entry of a list
abbrev pub AreRanged : List Entry → Type 0
AreRanged [] = Unit {0}
AreRanged (e ∷ es) = IsEntryRanged e × AreRanged es

-- a setup within the limits of a machine
pub record IsWithin (s : Setup) : Type 0 where
  pub frames : s.frames ≤ MOST_FRAMES
  pub user : s.user ≤ MOST_USER_PAGES
  pub some_vcpu : 1 ≤ s.vcpus
  pub vcpus : s.vcpus ≤ MOST_VCPUS
  pub callers : s.callers ≤ MOST_CALLERS
