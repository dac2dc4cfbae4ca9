-- What entries say, read from the end of their lines.
use Rattle.std.specs.Prelude.{ℕ, List, [], ◌∷◌, Some, None, codes}
use Rattle.std.specs.declared.option.Option.{Option}
use Rattle.gm_base.specs.Aim.{Aim}
use Rattle.gm_base.specs.Extent.{Extent}
use Rattle.gm_base.specs.declared.calls.Ioctl.TheVariants.{Create, Region2, Attrs, Punch, Allocate, Close, Populate, Poke, Peek}
use Rattle.gm_base.specs.declared.values.Folio.{Folio}
use Rattle.gm_base.specs.declared.values.Kind.{Kind}
use Rattle.gm_base.specs.declared.values.Op.{Op}
use Rattle.gm_base.specs.declared.values.Op.TheVariants.{Read, Write}
use Rattle.gm_flat.specs.declared.effect.Backing.{Backing}
use Rattle.gm_flat.specs.declared.effect.Backing.TheVariants.{User, Folio as InFolio}
use Rattle.gm_flat.specs.declared.effect.Effect.TheVariants.{File, Slot, Mark, NoSlot, Move, Attr, Cut, Shut, Word}
use Rattle.gm_flat.specs.declared.effect.Exit.TheVariants.{Fault, Mmio, NoFrame}
use Rattle.gm_flat.specs.declared.effect.Reply.TheVariants.{Good, Bad}
use Rattle.gm_flat.specs.declared.entry.What.{What}
use Rattle.gm_flat.specs.declared.entry.What.TheVariants.{Enter, Flush, Miss, Sample, Look, Get, Install, Retry, Touch, Left, Judge, Begin, Acked, Change, Page, End, Answer, Free, Gone}
use Rattle.gm_history.specs.declared.faults.Aimed.{Aimed}
use Rattle.gm_history.specs.declared.fields.Place.{Place}
use Rattle.gm_history.specs.Cuts.{strip, split_at}
use Rattle.gm_history.specs.Numerals.{Got, got, with_got, with_rest}
use Rattle.gm_history.specs.Fields.{U64, U32, U16, PageNumber, Maybe, OfKind, OfLevel, Bit, OfErrno, Address, OfSpan, Nothing, span_at}
use Rattle.gm_history.specs.Patterns.{Piece, Say, parse, ended, whole}

abbrev pub folio : ℕ → ℕ → Folio
folio serial frame = record { serial = serial; frame = frame }

-- lines of one word
unfoldable pub bare_of : List ℕ → What → List ℕ → Option What
bare_of word what line = whole (Say word Nothing ∷ []) (λ h. what) line

-- accesses, for misses and touches
abbrev pub read_pieces : List Piece
read_pieces = Say (codes "read ") OfKind ∷ Say (codes " ") Address ∷ []

abbrev pub write_pieces : List Piece
write_pieces = Say (codes "write ") OfKind ∷ Say (codes " ") Address ∷ Say (codes " ") U64 ∷ []

abbrev pub aim : Place → Op → Kind → Aim
aim place op kind = record { page = place.page; word = place.word; op = op; kind = kind }

abbrev pub aim_of : Aimed → Aim
aim_of a = aim a.place a.op a.kind

unfoldable pub read_at : List ℕ → Option (Got Aim)
read_at bytes = parse read_pieces bytes (λ h rest. Some (got (aim h.1.0 Read h.0) rest))

unfoldable pub write_at : List ℕ → Option (Got Aim)
write_at bytes = parse write_pieces bytes (λ h rest. Some (got (aim h.1.0 (Write h.1.1.0) h.0) rest))

abbrev pub or_got : {A : Type 0} → Option (Got A) → Option (Got A) → Option (Got A)
or_got (Some g) other = Some g
or_got None other = other

unfoldable pub access_at : List ℕ → Option (Got Aim)
access_at bytes = or_got (read_at bytes) (write_at bytes)

-- what backs the page of a touch
unfoldable pub user_at : List ℕ → Option (Got Backing)
user_at bytes = parse (Say (codes "user=") U64 ∷ []) bytes (λ h rest. Some (got (User h.0) rest))

unfoldable pub folio_at : List ℕ → Option (Got Backing)
folio_at bytes = parse (Say (codes "serial=") U64 ∷ Say (codes " frame=") U32 ∷ []) bytes (λ h rest. Some (got (InFolio (folio h.0 h.1.0)) rest))

unfoldable pub backing_at : List ℕ → Option (Got Backing)
backing_at bytes = or_got (user_at bytes) (folio_at bytes)

-- lines of a vCPU's fault
unfoldable pub miss_of : List ℕ → Option What
miss_of line = with_rest (strip (codes "miss ") line) (λ rest. with_got (access_at rest) (λ access more. ended (Miss access) more))

unfoldable pub sample_of : List ℕ → Option What
sample_of line = whole (Say (codes "sample at=") U64 ∷ []) (λ h. Sample h.0) line

unfoldable pub look_of : List ℕ → Option What
look_of line = whole (Say (codes "look at=") U64 ∷ Say (codes " slot=") Maybe ∷ Say (codes " attr=") OfKind ∷ Say (codes " file=") Maybe ∷ []) (λ h. Look h.0 h.1.0 h.1.1.0 h.1.1.1.0) line

unfoldable pub get_user_of : List ℕ → Option What
get_user_of line = whole (Say (codes "get user=") U64 ∷ []) (λ h. Get (User h.0) 0) line

unfoldable pub get_folio_of : List ℕ → Option What
get_folio_of line = whole (Say (codes "get serial=") U64 ∷ Say (codes " frame=") U32 ∷ Say (codes " fresh=") U16 ∷ []) (λ h. Get (InFolio (folio h.0 h.1.0)) h.1.1.0) line

unfoldable pub install_of : List ℕ → Option What
install_of line = whole (Say (codes "install page=") PageNumber ∷ Say (codes " level=") OfLevel ∷ []) (λ h. Install h.0 h.1.0) line

-- the end of a touch
abbrev pub touch_pieces : List Piece
touch_pieces = Say (codes " level=") OfLevel ∷ Say (codes " value=") U64 ∷ Say (codes " fill=") U64 ∷ []

abbrev pub touch_on : Aim → Backing → List ℕ → Option What
touch_on access backing rest = whole touch_pieces (λ h. Touch access backing h.0 h.1.0 h.1.1.0) rest

unfoldable pub touch_of : List ℕ → Option What
touch_of line = with_rest (strip (codes "touch ") line) (λ a. with_got (access_at a) (λ access b. with_rest (strip (codes " ") b) (λ c. with_got (backing_at c) (λ backing d. touch_on access backing d))))

unfoldable pub fault_of : List ℕ → Option What
fault_of line = whole (Say (codes "exit reason=39 errno=14 flags=") U64 ∷ Say (codes " gpa=") U64 ∷ Say (codes " size=4096") Nothing ∷ []) (λ h. Left (Fault h.0 h.1.0 4096)) line

unfoldable pub mmio_of : List ℕ → Option What
mmio_of line = whole (Say (codes "exit reason=6 gpa=") U64 ∷ []) (λ h. Left (Mmio h.0)) line

-- lines of a caller's calls
unfoldable pub create_of : List ℕ → Option What
create_of line = whole (Say (codes "judge create ") U64 ∷ Say (codes " ") U64 ∷ []) (λ h. Judge (Create h.0 h.1.0)) line

abbrev pub region_pieces : List Piece
region_pieces = Say (codes "judge region ") U32 ∷ Say (codes " ") U32 ∷ Say (codes " ") U64 ∷ Say (codes " ") U64 ∷ Say (codes " ") U64 ∷ Say (codes " ") U32 ∷ Say (codes " ") U64 ∷ []

unfoldable pub region_of : List ℕ → Option What
region_of line = whole region_pieces (λ h. Judge (Region2 (record { slot = h.0; flags = h.1.0; gpa = h.1.1.0; size = h.1.1.1.0; user = h.1.1.1.1.0; fd = h.1.1.1.1.1.0; offset = h.1.1.1.1.1.1.0 }))) line

unfoldable pub attrs_of : List ℕ → Option What
attrs_of line = whole (Say (codes "judge attrs ") U64 ∷ Say (codes " ") U64 ∷ Say (codes " ") U64 ∷ Say (codes " ") U64 ∷ []) (λ h. Judge (Attrs h.0 h.1.0 h.1.1.0 h.1.1.1.0)) line

unfoldable pub punch_of : List ℕ → Option What
punch_of line = whole (Say (codes "judge punch ") U32 ∷ Say (codes " ") U64 ∷ Say (codes " ") U64 ∷ []) (λ h. Judge (Punch h.0 h.1.0 h.1.1.0)) line

unfoldable pub allocate_of : List ℕ → Option What
allocate_of line = whole (Say (codes "judge allocate ") U32 ∷ Say (codes " ") U64 ∷ Say (codes " ") U64 ∷ []) (λ h. Judge (Allocate h.0 h.1.0 h.1.1.0)) line

unfoldable pub close_of : List ℕ → Option What
close_of line = whole (Say (codes "judge close ") U32 ∷ []) (λ h. Judge (Close h.0)) line

unfoldable pub populate_of : List ℕ → Option What
populate_of line = whole (Say (codes "judge populate ") U64 ∷ Say (codes " ") U64 ∷ Say (codes " ") U64 ∷ []) (λ h. Judge (Populate h.0 h.1.0 h.1.1.0)) line

unfoldable pub poke_of : List ℕ → Option What
poke_of line = whole (Say (codes "judge poke ") U64 ∷ Say (codes " ") U64 ∷ []) (λ h. Judge (Poke h.0 h.1.0)) line

unfoldable pub peek_of : List ℕ → Option What
peek_of line = whole (Say (codes "judge peek ") U64 ∷ []) (λ h. Judge (Peek h.0)) line

-- lines of what a call changes
unfoldable pub file_of : List ℕ → Option What
file_of line = whole (Say (codes "change file ") U32 ∷ Say (codes " pages=") U64 ∷ Say (codes " block=") Bit ∷ []) (λ h. Change (File h.0 h.1.0 h.1.1.0)) line

abbrev pub slot_pieces : List Piece → List Piece
slot_pieces more = Say (codes "change slot ") U32 ∷ Say (codes " base=") U64 ∷ Say (codes " pages=") U64 ∷ Say (codes " user=") U64 ∷ Say (codes " flags=") U32 ∷ more

unfoldable pub filed_slot_of : List ℕ → Option What
filed_slot_of line = whole (slot_pieces (Say (codes " file=") U32 ∷ Say (codes " index=") U64 ∷ [])) (λ h. Change (Slot h.0 h.1.0 h.1.1.0 h.1.1.1.0 h.1.1.1.1.0 (Some h.1.1.1.1.1.0) h.1.1.1.1.1.1.0)) line

unfoldable pub plain_slot_of : List ℕ → Option What
plain_slot_of line = whole (slot_pieces (Say (codes " file=- index=0") Nothing ∷ [])) (λ h. Change (Slot h.0 h.1.0 h.1.1.0 h.1.1.1.0 h.1.1.1.1.0 None 0)) line

unfoldable pub mark_of : List ℕ → Option What
mark_of line = whole (Say (codes "change mark ") U32 ∷ []) (λ h. Change (Mark h.0)) line

unfoldable pub noslot_of : List ℕ → Option What
noslot_of line = whole (Say (codes "change noslot ") U32 ∷ []) (λ h. Change (NoSlot h.0)) line

unfoldable pub move_of : List ℕ → Option What
move_of line = whole (Say (codes "change move ") U32 ∷ Say (codes " base=") U64 ∷ []) (λ h. Change (Move h.0 h.1.0)) line

unfoldable pub attr_of : List ℕ → Option What
attr_of line = whole (Say (codes "change attr ") OfSpan ∷ Say (codes " ") OfKind ∷ []) (λ h. Change (Attr h.0 h.1.0)) line

unfoldable pub cut_line_of : List ℕ → Option What
cut_line_of line = whole (Say (codes "change cut ") U32 ∷ Say (codes " ") U64 ∷ Say (codes "-") U64 ∷ []) (λ h. Change (Cut h.0 h.1.0 h.1.1.0)) line

unfoldable pub shut_of : List ℕ → Option What
shut_of line = whole (Say (codes "change shut ") U32 ∷ []) (λ h. Change (Shut h.0)) line

unfoldable pub word_of : List ℕ → Option What
word_of line = whole (Say (codes "change word page=") U64 ∷ Say (codes " word=") U16 ∷ Say (codes " value=") U64 ∷ []) (λ h. Change (Word h.0 h.1.0 h.1.1.0)) line

-- other lines of callers
unfoldable pub added_of : List ℕ → Option What
added_of line = whole (Say (codes "page index=") U64 ∷ Say (codes " serial=") U64 ∷ Say (codes " frame=") U32 ∷ Say (codes " pages=") U16 ∷ []) (λ h. Page h.0 (folio h.1.0 h.1.1.0) h.1.1.1.0) line

unfoldable pub good_of : List ℕ → Option What
good_of line = whole (Say (codes "answer ok=") U64 ∷ []) (λ h. Answer (Good h.0)) line

unfoldable pub refused_of : List ℕ → Option What
refused_of line = whole (Say (codes "answer errno=") OfErrno ∷ []) (λ h. Answer (Bad h.0)) line

unfoldable pub free_of : List ℕ → Option What
free_of line = whole (Say (codes "free serial=") U64 ∷ Say (codes " frame=") U32 ∷ Say (codes " pages=") U32 ∷ []) (λ h. Free (folio h.0 h.1.0) h.1.1.0) line

-- the spans of a bracket, a word each
abbrev pub span_on : Option Extent → Option (List Extent) → Option (List Extent)
span_on None spans = None
span_on (Some s) None = None
span_on (Some s) (Some spans) = Some (s ∷ spans)

unfoldable pub word_span_of : List ℕ → Option Extent
word_span_of word = with_got (span_at word) (λ s rest. ended s rest)

abbrev pub spans_of : List (List ℕ) → Option (List Extent)
spans_of [] = Some []
spans_of (word ∷ words) = span_on (word_span_of word) (spans_of words)

abbrev pub begun : Option (List Extent) → Option What
begun None = None
begun (Some spans) = Some (Begin (record { list = spans; spare = 0 }))

-- nothing stands after the word `begin`
abbrev pub begin_on : Option (List ℕ) → List (List ℕ) → Option What
begin_on None words = None
begin_on (Some []) words = begun (spans_of words)
begin_on (Some (b ∷ rest)) words = None

abbrev pub begin_words : List (List ℕ) → Option What
begin_words [] = None
begin_words (word ∷ words) = begin_on (strip (codes "begin") word) words

unfoldable pub begin_of : List ℕ → Option What
begin_of line = begin_words (split_at 32 line)

-- the first of two that says something
abbrev pub or_else : {A : Type 0} → Option A → Option A → Option A
or_else (Some a) other = Some a
or_else None other = other

unfoldable pub bare_line_of : List ℕ → Option What
bare_line_of line = or_else (bare_of (codes "enter") Enter line) (or_else (bare_of (codes "flush") Flush line) (or_else (bare_of (codes "retry") Retry line) (or_else (bare_of (codes "acked") Acked line) (or_else (bare_of (codes "end") End line) (or_else (bare_of (codes "gone") Gone line) (bare_of (codes "exit errno=12") (Left NoFrame) line))))))

unfoldable pub fault_line_of : List ℕ → Option What
fault_line_of line = or_else (touch_of line) (or_else (miss_of line) (or_else (sample_of line) (or_else (look_of line) (or_else (get_user_of line) (or_else (get_folio_of line) (or_else (install_of line) (or_else (fault_of line) (mmio_of line))))))))

unfoldable pub call_of : List ℕ → Option What
call_of line = or_else (create_of line) (or_else (region_of line) (or_else (attrs_of line) (or_else (punch_of line) (or_else (allocate_of line) (or_else (close_of line) (or_else (populate_of line) (or_else (poke_of line) (peek_of line))))))))

unfoldable pub effect_of : List ℕ → Option What
effect_of line = or_else (file_of line) (or_else (filed_slot_of line) (or_else (plain_slot_of line) (or_else (mark_of line) (or_else (noslot_of line) (or_else (move_of line) (or_else (attr_of line) (or_else (cut_line_of line) (or_else (shut_of line) (word_of line)))))))))

unfoldable pub reply_line_of : List ℕ → Option What
reply_line_of line = or_else (added_of line) (or_else (good_of line) (or_else (refused_of line) (free_of line)))

-- what the end of a line says
unfoldable pub what_of : List ℕ → Option What
what_of line = or_else (fault_line_of line) (or_else (bare_line_of line) (or_else (call_of line) (or_else (effect_of line) (or_else (reply_line_of line) (begin_of line)))))
