-- The fields of lines: how each is written, and what stands at the front of bytes.
use Rattle.std.specs.Prelude.{ℕ, ◌+◌, ◌*◌, ◌/◌, ◌%◌, ◌<◌, Bool, true, false, ◌&&◌, nat_eq, nat_lt, nat_le, List, [], ◌++◌, Some, None, codes, if◌then◌else◌}
use Rattle.std.specs.declared.option.Option.{Option}
use Rattle.std.specs.Fmt.{decimal}
use Rattle.gm_base.specs.Extent.{Extent}
use Rattle.gm_base.specs.Values.{number_of}
use Rattle.gm_base.specs.declared.numbers.TheConstants.{PAGE_LIMIT, PAGE_WORDS, PAGE_BYTES, WORD_BYTES}
use Rattle.gm_base.specs.declared.values.Actor.{Actor}
use Rattle.gm_base.specs.declared.values.Actor.TheVariants.{Vcpu, Caller}
use Rattle.gm_base.specs.declared.values.Errno.{Errno}
use Rattle.gm_base.specs.declared.values.Errno.TheVariants.{NoEnt, BadF, NoMem, Fault, Exist, Inval}
use Rattle.gm_base.specs.declared.values.Kind.{Kind}
use Rattle.gm_base.specs.declared.values.Kind.TheVariants.{Private, Shared}
use Rattle.gm_base.specs.declared.values.Level.{Level}
use Rattle.gm_base.specs.declared.values.Level.TheVariants.{Small, Block}
use Rattle.gm_flat.specs.Roomy.{IsOfPages}
use Rattle.gm_text.specs.Text.{actor_letter, actor_number, bit_text, huge_text, kind_text, level_text, maybe_text}
use Rattle.gm_history.specs.declared.fields.Place.{Place}
use Rattle.gm_history.specs.Cuts.{strip}
use Rattle.gm_history.specs.Numerals.{Got, got, with_got, with_rest, number_at, below}
use Rattle.gm_history.specs.Ranges.{IsU16, IsU32, IsU64, IsPage, IsActorRanged, IsMaybeRanged}

-- the kinds of field: numbers by their ranges, a page's number, a number or a hyphen, a kind, a level, a bit, on or off,
-- an error's number, an actor, a word's address in bytes, a span, and nothing
pub data Part : Type 0 where
  U64 : Part
  U32 : Part
  U16 : Part
  PageNumber : Part
  Maybe : Part
  OfKind : Part
  OfLevel : Part
  Bit : Part
  Huge : Part
  OfErrno : Part
  OfActor : Part
  Address : Part
  OfSpan : Part
  Nothing : Part

abbrev pub Value : Part → Type 0
Value U64 = ℕ
Value U32 = ℕ
Value U16 = ℕ
Value PageNumber = ℕ
Value Maybe = Option ℕ
Value OfKind = Kind
Value OfLevel = Level
Value Bit = Bool
Value Huge = Bool
Value OfErrno = Errno
Value OfActor = Actor
Value Address = Place
Value OfSpan = Extent
Value Nothing = Unit {0}

-- the values within the ranges of their types
abbrev pub IsRanged : (p : Part) → Value p → Type 0
IsRanged U64 n = IsU64 n
IsRanged U32 n = IsU32 n
IsRanged U16 n = IsU16 n
IsRanged PageNumber n = IsPage n
IsRanged Maybe n = IsMaybeRanged n
IsRanged OfKind k = Unit {0}
IsRanged OfLevel l = Unit {0}
IsRanged Bit b = Unit {0}
IsRanged Huge b = Unit {0}
IsRanged OfErrno e = Unit {0}
IsRanged OfActor a = IsActorRanged a
IsRanged Address a = IsPage a.page × (a.word < PAGE_WORDS)
IsRanged OfSpan s = IsOfPages s
IsRanged Nothing n = Unit {0}

-- how a field is written
abbrev pub part_text : (p : Part) → Value p → List ℕ
part_text U64 n = decimal n
part_text U32 n = decimal n
part_text U16 n = decimal n
part_text PageNumber n = decimal n
part_text Maybe n = maybe_text n
part_text OfKind k = kind_text k
part_text OfLevel l = level_text l
part_text Bit b = bit_text b
part_text Huge b = huge_text b
part_text OfErrno e = decimal (number_of e)
part_text OfActor a = actor_letter a ++ decimal (actor_number a)
part_text Address a = decimal (PAGE_BYTES * a.page + WORD_BYTES * a.word)
part_text OfSpan s = decimal s.lo ++ (codes "-" ++ decimal s.hi)
part_text Nothing n = []

-- a value for a word, where the bytes begin with it
abbrev pub word_on : {A : Type 0} → Option (List ℕ) → A → Option (Got A) → Option (Got A)
word_on None value other = other
word_on (Some rest) value other = Some (got value rest)

abbrev pub word_or : {A : Type 0} → List ℕ → A → List ℕ → Option (Got A) → Option (Got A)
word_or word value bytes other = word_on (strip word bytes) value other

abbrev pub some_got : Option (Got ℕ) → Option (Got (Option ℕ))
some_got None = None
some_got (Some g) = Some (got (Some g.value) g.rest)

abbrev pub maybe_on : Option (List ℕ) → Option (Got ℕ) → Option (Got (Option ℕ))
maybe_on (Some rest) number = Some (got None rest)
maybe_on None number = some_got number

-- the error of a number
abbrev pub errno_by : ℕ → Option Errno
errno_by n =
    if nat_eq n 2 then Some NoEnt
    else if nat_eq n 9 then Some BadF
    else if nat_eq n 12 then Some NoMem
    else if nat_eq n 14 then Some Fault
    else if nat_eq n 17 then Some Exist
    else if nat_eq n 22 then Some Inval
    else None

abbrev pub errno_got : Option Errno → List ℕ → Option (Got Errno)
errno_got None rest = None
errno_got (Some e) rest = Some (got e rest)

abbrev pub actor_got : (ℕ → Actor) → Option (Got ℕ) → Option (Got Actor)
actor_got make None = None
actor_got make (Some g) = Some (got (make g.value) g.rest)

abbrev pub actor_on : Option (List ℕ) → (ℕ → Actor) → Option (Got Actor) → Option (Got Actor)
actor_on None make other = other
actor_on (Some rest) make other = actor_got make (below 4294967296 (number_at rest))

-- the word of an address, which is a multiple of 8
abbrev pub place_got : ℕ → List ℕ → Option (Got Place)
place_got n rest =
    if nat_eq (n % WORD_BYTES) 0 then Some (got (record { page = n / PAGE_BYTES; word = n % PAGE_BYTES / WORD_BYTES }) rest) else None

-- a span has a page, and ends at 2^52 or below
abbrev pub span_got : ℕ → ℕ → List ℕ → Option (Got Extent)
span_got lo hi rest = if nat_lt lo hi && nat_le hi PAGE_LIMIT then Some (got (record { lo = lo; hi = hi }) rest) else None

-- the fields at the front of bytes
unfoldable pub small_at : List ℕ → Option (Got ℕ)
small_at bytes = below 4294967296 (number_at bytes)

unfoldable pub tiny_at : List ℕ → Option (Got ℕ)
tiny_at bytes = below 65536 (number_at bytes)

unfoldable pub page_at : List ℕ → Option (Got ℕ)
page_at bytes = below PAGE_LIMIT (number_at bytes)

unfoldable pub maybe_at : List ℕ → Option (Got (Option ℕ))
maybe_at bytes = maybe_on (strip (codes "-") bytes) (small_at bytes)

unfoldable pub kind_at : List ℕ → Option (Got Kind)
kind_at bytes = word_or (codes "private") Private bytes (word_or (codes "shared") Shared bytes None)

unfoldable pub level_at : List ℕ → Option (Got Level)
level_at bytes = word_or (codes "4k") Small bytes (word_or (codes "2m") Block bytes None)

unfoldable pub bit_at : List ℕ → Option (Got Bool)
bit_at bytes = word_or (codes "1") true bytes (word_or (codes "0") false bytes None)

unfoldable pub huge_at : List ℕ → Option (Got Bool)
huge_at bytes = word_or (codes "on") true bytes (word_or (codes "off") false bytes None)

unfoldable pub errno_at : List ℕ → Option (Got Errno)
errno_at bytes = with_got (number_at bytes) (λ n rest. errno_got (errno_by n) rest)

unfoldable pub actor_at : List ℕ → Option (Got Actor)
actor_at bytes = actor_on (strip (codes "v") bytes) (λ n. Vcpu n) (actor_on (strip (codes "c") bytes) (λ n. Caller n) None)

unfoldable pub address_at : List ℕ → Option (Got Place)
address_at bytes = with_got (number_at bytes) (λ n rest. place_got n rest)

unfoldable pub span_at : List ℕ → Option (Got Extent)
span_at bytes = with_got (number_at bytes) (λ lo more. with_rest (strip (codes "-") more) (λ last. with_got (number_at last) (λ hi rest. span_got lo hi rest)))

abbrev pub field_at : (p : Part) → List ℕ → Option (Got (Value p))
field_at U64 bytes = number_at bytes
field_at U32 bytes = small_at bytes
field_at U16 bytes = tiny_at bytes
field_at PageNumber bytes = page_at bytes
field_at Maybe bytes = maybe_at bytes
field_at OfKind bytes = kind_at bytes
field_at OfLevel bytes = level_at bytes
field_at Bit bytes = bit_at bytes
field_at Huge bytes = huge_at bytes
field_at OfErrno bytes = errno_at bytes
field_at OfActor bytes = actor_at bytes
field_at Address bytes = address_at bytes
field_at OfSpan bytes = span_at bytes
field_at Nothing bytes = Some (got tt bytes)

-- a field after a word
unfoldable pub after : List ℕ → (p : Part) → List ℕ → Option (Got (Value p))
after word p bytes = with_rest (strip word bytes) (λ rest. field_at p rest)
