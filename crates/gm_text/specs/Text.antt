-- The text of a history, version 2, as bytes. (This project's own.)
use Rattle.std.specs.Prelude.{ℕ, List, [], ◌∷◌, ◌++◌, Some, None, codes, length, true, false, Bool}
use Rattle.std.specs.Fmt.{decimal}
use Rattle.std.specs.declared.option.Option.{Option}
use Rattle.gm_base.specs.Aim.{Aim, address_of}
use Rattle.gm_base.specs.Values.{number_of}
use Rattle.gm_base.specs.Extent.{Extent}
use Rattle.gm_base.specs.declared.values.Actor.{Actor}
use Rattle.gm_base.specs.declared.values.Actor.TheVariants.{Vcpu, Caller}
use Rattle.gm_base.specs.declared.values.Kind.{Kind}
use Rattle.gm_base.specs.declared.values.Kind.TheVariants.{Private, Shared}
use Rattle.gm_base.specs.declared.values.Level.{Level}
use Rattle.gm_base.specs.declared.values.Level.TheVariants.{Small, Block}
use Rattle.gm_base.specs.declared.values.Op.{Op}
use Rattle.gm_base.specs.declared.values.Op.TheVariants.{Read, Write}
use Rattle.gm_base.specs.declared.values.Setup.{Setup}
use Rattle.gm_base.specs.declared.calls.Ioctl.{Ioctl}
use Rattle.gm_base.specs.declared.calls.Ioctl.TheVariants.{Create, Region2, Attrs, Punch, Allocate, Close, Populate, Poke, Peek}
use Rattle.gm_flat.specs.declared.entry.Entry.{Entry}
use Rattle.gm_flat.specs.declared.entry.What.{What}
use Rattle.gm_flat.specs.declared.entry.What.TheVariants.{Enter, Flush, Miss, Sample, Look, Get, Install, Retry, Touch, Left, Judge, Begin, Acked, Change, Page, End, Answer, Free, Gone}
use Rattle.gm_flat.specs.declared.effect.Backing.{Backing}
use Rattle.gm_flat.specs.declared.effect.Backing.TheVariants.{User, Folio}
use Rattle.gm_flat.specs.declared.effect.Exit.{Exit}
use Rattle.gm_flat.specs.declared.effect.Exit.TheVariants.{Fault, Mmio, NoFrame}
use Rattle.gm_flat.specs.declared.effect.Reply.{Reply}
use Rattle.gm_flat.specs.declared.effect.Reply.TheVariants.{Good, Bad}
use Rattle.gm_flat.specs.declared.effect.Effect.{Effect}
use Rattle.gm_flat.specs.declared.effect.Effect.TheVariants.{File, Slot, Mark, NoSlot, Move, Attr, Cut, Shut, Word}

-- texts one after another
abbrev pub joined : List (List ℕ) → List ℕ
joined [] = []
joined (text ∷ texts) = text ++ joined texts

-- an actor, by a letter for its kind and its number
abbrev pub actor_letter : Actor → List ℕ
actor_letter (Vcpu v) = codes "v"
actor_letter (Caller c) = codes "c"

abbrev pub actor_number : Actor → ℕ
actor_number (Vcpu v) = v
actor_number (Caller c) = c

abbrev pub kind_text : Kind → List ℕ
kind_text Private = codes "private"
kind_text Shared = codes "shared"

abbrev pub level_text : Level → List ℕ
level_text Small = codes "4k"
level_text Block = codes "2m"

-- a number, or a hyphen
abbrev pub maybe_text : Option ℕ → List ℕ
maybe_text (Some n) = decimal n
maybe_text None = codes "-"

abbrev pub bit_text : Bool → List ℕ
bit_text true = codes "1"
bit_text false = codes "0"

-- an access, by its address in bytes
abbrev pub access_text_by : Op → Kind → ℕ → List ℕ
access_text_by Read kind gpa = joined (codes "read " ∷ kind_text kind ∷ codes " " ∷ decimal gpa ∷ [])
access_text_by (Write value) kind gpa = joined (codes "write " ∷ kind_text kind ∷ codes " " ∷ decimal gpa ∷ codes " " ∷ decimal value ∷ [])

abbrev pub access_text : Aim → List ℕ
access_text a = access_text_by a.op a.kind (address_of a)

-- of a touch
abbrev pub backing_text : Backing → List ℕ
backing_text (User page) = joined (codes "user=" ∷ decimal page ∷ [])
backing_text (Folio folio) = joined (codes "serial=" ∷ decimal folio.serial ∷ codes " frame=" ∷ decimal folio.frame ∷ [])

-- a touch, by the text of its backing
abbrev pub touch_text : Aim → List ℕ → Level → ℕ → ℕ → List ℕ
touch_text access backing level value fill = codes "touch " ++ (access_text access ++ (codes " " ++ (backing ++ joined (codes " level=" ∷ level_text level ∷ codes " value=" ∷ decimal value ∷ codes " fill=" ∷ decimal fill ∷ []))))

-- of a get
abbrev pub get_text : Backing → ℕ → List ℕ
get_text (User page) fresh = joined (codes "get user=" ∷ decimal page ∷ [])
get_text (Folio folio) fresh = joined (codes "get serial=" ∷ decimal folio.serial ∷ codes " frame=" ∷ decimal folio.frame ∷ codes " fresh=" ∷ decimal fresh ∷ [])

abbrev pub exit_text : Exit → List ℕ
exit_text (Fault flags gpa size) = joined (codes "exit reason=39 errno=14 flags=" ∷ decimal flags ∷ codes " gpa=" ∷ decimal gpa ∷ codes " size=" ∷ decimal size ∷ [])
exit_text (Mmio gpa) = joined (codes "exit reason=6 gpa=" ∷ decimal gpa ∷ [])
exit_text NoFrame = codes "exit errno=12"

abbrev pub reply_text : Reply → List ℕ
reply_text (Good n) = joined (codes "answer ok=" ∷ decimal n ∷ [])
reply_text (Bad errno) = joined (codes "answer errno=" ∷ decimal (number_of errno) ∷ [])

abbrev pub call_text : Ioctl → List ℕ
call_text (Create size flags) = joined (codes "judge create " ∷ decimal size ∷ codes " " ∷ decimal flags ∷ [])
call_text (Region2 r) = joined (codes "judge region " ∷ decimal r.slot ∷ codes " " ∷ decimal r.flags ∷ codes " " ∷ decimal r.gpa ∷ codes " " ∷ decimal r.size ∷ codes " " ∷ decimal r.user ∷ codes " " ∷ decimal r.fd ∷ codes " " ∷ decimal r.offset ∷ [])
call_text (Attrs address size attributes flags) = joined (codes "judge attrs " ∷ decimal address ∷ codes " " ∷ decimal size ∷ codes " " ∷ decimal attributes ∷ codes " " ∷ decimal flags ∷ [])
call_text (Punch fd offset len) = joined (codes "judge punch " ∷ decimal fd ∷ codes " " ∷ decimal offset ∷ codes " " ∷ decimal len ∷ [])
call_text (Allocate fd offset len) = joined (codes "judge allocate " ∷ decimal fd ∷ codes " " ∷ decimal offset ∷ codes " " ∷ decimal len ∷ [])
call_text (Close fd) = joined (codes "judge close " ∷ decimal fd ∷ [])
call_text (Populate gpa pages user) = joined (codes "judge populate " ∷ decimal gpa ∷ codes " " ∷ decimal pages ∷ codes " " ∷ decimal user ∷ [])
call_text (Poke address value) = joined (codes "judge poke " ∷ decimal address ∷ codes " " ∷ decimal value ∷ [])
call_text (Peek address) = joined (codes "judge peek " ∷ decimal address ∷ [])

abbrev pub effect_text : Effect → List ℕ
effect_text (File file pages block) = joined (codes "change file " ∷ decimal file ∷ codes " pages=" ∷ decimal pages ∷ codes " block=" ∷ bit_text block ∷ [])
effect_text (Slot slot base pages user flags file index) = joined (codes "change slot " ∷ decimal slot ∷ codes " base=" ∷ decimal base ∷ codes " pages=" ∷ decimal pages ∷ codes " user=" ∷ decimal user ∷ codes " flags=" ∷ decimal flags ∷ codes " file=" ∷ maybe_text file ∷ codes " index=" ∷ decimal index ∷ [])
effect_text (Mark slot) = joined (codes "change mark " ∷ decimal slot ∷ [])
effect_text (NoSlot slot) = joined (codes "change noslot " ∷ decimal slot ∷ [])
effect_text (Move slot base) = joined (codes "change move " ∷ decimal slot ∷ codes " base=" ∷ decimal base ∷ [])
effect_text (Attr span kind) = joined (codes "change attr " ∷ decimal span.lo ∷ codes "-" ∷ decimal span.hi ∷ codes " " ∷ kind_text kind ∷ [])
effect_text (Cut file lo hi) = joined (codes "change cut " ∷ decimal file ∷ codes " " ∷ decimal lo ∷ codes "-" ∷ decimal hi ∷ [])
effect_text (Shut file) = joined (codes "change shut " ∷ decimal file ∷ [])
effect_text (Word page word value) = joined (codes "change word page=" ∷ decimal page ∷ codes " word=" ∷ decimal word ∷ codes " value=" ∷ decimal value ∷ [])

abbrev pub span_text : Extent → List ℕ
span_text span = joined (codes " " ∷ decimal span.lo ∷ codes "-" ∷ decimal span.hi ∷ [])

abbrev pub spans_text : List Extent → List ℕ
spans_text [] = []
spans_text (span ∷ spans) = span_text span ++ spans_text spans

abbrev pub what_text : What → List ℕ
what_text Enter = codes "enter"
what_text Flush = codes "flush"
what_text (Miss access) = codes "miss " ++ access_text access
what_text (Sample at) = joined (codes "sample at=" ∷ decimal at ∷ [])
what_text (Look at slot attr file) = joined (codes "look at=" ∷ decimal at ∷ codes " slot=" ∷ maybe_text slot ∷ codes " attr=" ∷ kind_text attr ∷ codes " file=" ∷ maybe_text file ∷ [])
what_text (Get backing fresh) = get_text backing fresh
what_text (Install page level) = joined (codes "install page=" ∷ decimal page ∷ codes " level=" ∷ level_text level ∷ [])
what_text Retry = codes "retry"
what_text (Touch access backing level value fill) = touch_text access (backing_text backing) level value fill
what_text (Left why) = exit_text why
what_text (Judge call) = call_text call
what_text (Begin spans) = codes "begin" ++ spans_text spans.list
what_text Acked = codes "acked"
what_text (Change effect) = effect_text effect
what_text (Page index folio pages) = joined (codes "page index=" ∷ decimal index ∷ codes " serial=" ∷ decimal folio.serial ∷ codes " frame=" ∷ decimal folio.frame ∷ codes " pages=" ∷ decimal pages ∷ [])
what_text End = codes "end"
what_text (Answer reply) = reply_text reply
what_text (Free folio pages) = joined (codes "free serial=" ∷ decimal folio.serial ∷ codes " frame=" ∷ decimal folio.frame ∷ codes " pages=" ∷ decimal pages ∷ [])
what_text Gone = codes "gone"

-- an entry's line, by the text of what it says
abbrev pub line_text : Entry → List ℕ → List ℕ
line_text e what = joined (decimal e.turn ∷ codes " " ∷ actor_letter e.actor ∷ decimal (actor_number e.actor) ∷ codes " " ∷ []) ++ (what ++ codes "\n")

abbrev pub entry_text : Entry → List ℕ
entry_text e = line_text e (what_text e.what)

abbrev pub entries_text : List Entry → List ℕ
entries_text [] = []
entries_text (e ∷ es) = entry_text e ++ entries_text es

abbrev pub huge_text : Bool → List ℕ
huge_text true = codes "on"
huge_text false = codes "off"

abbrev pub machine_text : Setup → List ℕ
machine_text s = joined (codes "machine frames=" ∷ decimal s.frames ∷ codes " user=" ∷ decimal s.user ∷ codes " vcpus=" ∷ decimal s.vcpus ∷ codes " callers=" ∷ decimal s.callers ∷ codes " huge=" ∷ huge_text s.huge ∷ codes "\n" ∷ [])

-- a history's last line, by the counts of turns and of entries
abbrev pub end_text : ℕ → ℕ → List ℕ
end_text turns entries = joined (codes "end turns=" ∷ decimal turns ∷ codes " entries=" ∷ decimal entries ∷ codes "\n" ∷ [])

-- the text of a history
abbrev pub history_text : Setup → List Entry → ℕ → List ℕ
history_text s h turns = codes "gmem-history 2\n" ++ (machine_text s ++ (entries_text h ++ end_text turns (length h)))
