-- Entries whose numbers are those of a program's entries, and what equality of entries leaves aside.
use Rattle.std.specs.Prelude.{ℕ, ◌^◌, ◌<◌, List, [], ◌∷◌, None, Some}
use Rattle.std.specs.declared.option.Option.{Option}
use Rattle.gm_base.specs.Aim.{Aim}
use Rattle.gm_base.specs.Extent.{Extent}
use Rattle.gm_base.specs.declared.calls.Ioctl.{Ioctl}
use Rattle.gm_base.specs.declared.calls.Ioctl.TheVariants.{Create, Region2, Attrs, Punch, Allocate, Close, Populate, Poke, Peek}
use Rattle.gm_base.specs.declared.numbers.TheConstants.{PAGE_LIMIT, PAGE_WORDS}
use Rattle.gm_base.specs.declared.values.Actor.{Actor}
use Rattle.gm_base.specs.declared.values.Actor.TheVariants.{Vcpu, Caller}
use Rattle.gm_base.specs.declared.values.Folio.{Folio}
use Rattle.gm_base.specs.declared.values.Op.{Op}
use Rattle.gm_base.specs.declared.values.Op.TheVariants.{Read, Write}
use Rattle.gm_flat.specs.declared.effect.Backing.{Backing}
use Rattle.gm_flat.specs.declared.effect.Backing.TheVariants.{User, Folio as InFolio}
use Rattle.gm_flat.specs.declared.effect.Effect.{Effect}
use Rattle.gm_flat.specs.declared.effect.Effect.TheVariants.{File, Slot, Mark, NoSlot, Move, Attr, Cut, Shut, Word}
use Rattle.gm_flat.specs.declared.effect.Exit.{Exit}
use Rattle.gm_flat.specs.declared.effect.Exit.TheVariants.{Fault, Mmio, NoFrame}
use Rattle.gm_flat.specs.declared.effect.Reply.{Reply}
use Rattle.gm_flat.specs.declared.effect.Reply.TheVariants.{Good, Bad}
use Rattle.gm_flat.specs.declared.entry.Entry.{Entry}
use Rattle.gm_flat.specs.declared.entry.What.{What}
use Rattle.gm_flat.specs.declared.entry.What.TheVariants.{Miss, Sample, Look, Get, Install, Touch, Left, Judge, Begin, Change, Page, Answer, Free}

-- the definitions speak of numbers of any size; those of a program's entries are below 2^64, pages are below 2^52, and
-- words of a page below 512
abbrev pub IsU64 : ℕ → Type 0
IsU64 n = n < 2 ^ 64

abbrev pub IsMaybeU64 : Option ℕ → Type 0
IsMaybeU64 None = Unit {0}
IsMaybeU64 (Some n) = IsU64 n

abbrev pub IsOpInTypes : Op → Type 0
IsOpInTypes Read = Unit {0}
IsOpInTypes (Write value) = IsU64 value

abbrev pub IsAimInTypes : Aim → Type 0
IsAimInTypes a = (a.page < PAGE_LIMIT) × (a.word < PAGE_WORDS) × IsOpInTypes a.op

abbrev pub IsFolioInTypes : Folio → Type 0
IsFolioInTypes folio = IsU64 folio.serial × IsU64 folio.frame

abbrev pub IsBackingInTypes : Backing → Type 0
IsBackingInTypes (User page) = IsU64 page
IsBackingInTypes (InFolio folio) = IsFolioInTypes folio

abbrev pub IsExitInTypes : Exit → Type 0
IsExitInTypes (Fault flags gpa size) = IsU64 flags × IsU64 gpa × IsU64 size
IsExitInTypes (Mmio gpa) = IsU64 gpa
IsExitInTypes NoFrame = Unit {0}

abbrev pub IsReplyInTypes : Reply → Type 0
IsReplyInTypes (Good n) = IsU64 n
IsReplyInTypes (Bad errno) = Unit {0}

abbrev pub IsCallInTypes : Ioctl → Type 0
IsCallInTypes (Create size flags) = IsU64 size × IsU64 flags
IsCallInTypes (Region2 r) = IsU64 r.slot × IsU64 r.flags × IsU64 r.gpa × IsU64 r.size × IsU64 r.user × IsU64 r.fd × IsU64 r.offset
IsCallInTypes (Attrs address size attributes flags) = IsU64 address × IsU64 size × IsU64 attributes × IsU64 flags
IsCallInTypes (Punch fd offset length) = IsU64 fd × IsU64 offset × IsU64 length
IsCallInTypes (Allocate fd offset length) = IsU64 fd × IsU64 offset × IsU64 length
IsCallInTypes (Close fd) = IsU64 fd
IsCallInTypes (Populate gpa pages user) = IsU64 gpa × IsU64 pages × IsU64 user
IsCallInTypes (Poke address value) = IsU64 address × IsU64 value
IsCallInTypes (Peek address) = IsU64 address

abbrev pub IsSpanInTypes : Extent → Type 0
IsSpanInTypes s = IsU64 s.lo × IsU64 s.hi

abbrev pub AreSpansInTypes : List Extent → Type 0
AreSpansInTypes [] = Unit {0}
AreSpansInTypes (s ∷ spans) = IsSpanInTypes s × AreSpansInTypes spans

abbrev pub IsEffectInTypes : Effect → Type 0
IsEffectInTypes (File file pages block) = IsU64 file × IsU64 pages
IsEffectInTypes (Slot slot base pages user flags file index) = IsU64 slot × IsU64 base × IsU64 pages × IsU64 user × IsU64 flags × IsMaybeU64 file × IsU64 index
IsEffectInTypes (Mark slot) = IsU64 slot
IsEffectInTypes (NoSlot slot) = IsU64 slot
IsEffectInTypes (Move slot base) = IsU64 slot × IsU64 base
IsEffectInTypes (Attr span kind) = IsSpanInTypes span
IsEffectInTypes (Cut file lo hi) = IsU64 file × IsU64 lo × IsU64 hi
IsEffectInTypes (Shut file) = IsU64 file
IsEffectInTypes (Word page word value) = IsU64 page × IsU64 word × IsU64 value

abbrev pub IsWhatInTypes : What → Type 0
IsWhatInTypes (Miss access) = IsAimInTypes access
IsWhatInTypes (Sample at) = IsU64 at
IsWhatInTypes (Look at slot attr file) = IsU64 at × IsMaybeU64 slot × IsMaybeU64 file
IsWhatInTypes (Get backing fresh) = IsBackingInTypes backing × IsU64 fresh
IsWhatInTypes (Install page level) = IsU64 page
IsWhatInTypes (Touch access backing level value fill) = IsAimInTypes access × IsBackingInTypes backing × IsU64 value × IsU64 fill
IsWhatInTypes (Left why) = IsExitInTypes why
IsWhatInTypes (Judge call) = IsCallInTypes call
IsWhatInTypes (Begin spans) = AreSpansInTypes spans.list
IsWhatInTypes (Change effect) = IsEffectInTypes effect
IsWhatInTypes (Page index folio pages) = IsU64 index × IsFolioInTypes folio × IsU64 pages
IsWhatInTypes (Answer reply) = IsReplyInTypes reply
IsWhatInTypes (Free folio pages) = IsFolioInTypes folio × IsU64 pages
IsWhatInTypes _ = Unit {0}

abbrev pub IsActorInTypes : Actor → Type 0
IsActorInTypes (Vcpu v) = IsU64 v
IsActorInTypes (Caller c) = IsU64 c

-- an entry, and each of a list
abbrev pub IsEntryInTypes : Entry → Type 0
IsEntryInTypes e = IsU64 e.turn × IsActorInTypes e.actor × IsWhatInTypes e.what

abbrev pub AreInTypes : List Entry → Type 0
AreInTypes [] = Unit {0}
AreInTypes (e ∷ es) = IsEntryInTypes e × AreInTypes es

-- an entry without the spare room of its spans
abbrev pub roomless : What → What
roomless (Begin spans) = Begin (record { list = spans.list; spare = 0 })
roomless w = w

abbrev pub roomless_entries : List Entry → List Entry
roomless_entries [] = []
roomless_entries (e ∷ es) = record { turn = e.turn; actor = e.actor; what = roomless e.what } ∷ roomless_entries es
