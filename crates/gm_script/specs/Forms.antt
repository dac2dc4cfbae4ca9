-- The forms of a line, by its words: what the first word may be, how many words each form has, and which of them are one of
-- a list. A line of no form has the cause `word`. The `machine` line stands apart, in Setups.
use Rattle.std.specs.Prelude.{ℕ, ◌&&◌, nat_eq, List, length, Some, None, codes, if◌then◌else◌}
use Rattle.std.specs.declared.option.Option.{Option}
use Rattle.gm_base.specs.declared.values.Kind.{Kind}
use Rattle.gm_base.specs.declared.values.Kind.TheVariants.{Private, Shared}
use Rattle.gm_script.specs.declared.actors.Named.{Named}
use Rattle.gm_script.specs.declared.actors.Named.TheVariants.{Vcpu as NamedVcpu, Caller as NamedCaller}
use Rattle.gm_script.specs.declared.forms.CallName.{CallName}
use Rattle.gm_script.specs.declared.forms.CallName.TheVariants.{Create, Region, Attrs, Punch, Allocate, Close, Populate, Poke, Peek}
use Rattle.gm_script.specs.declared.forms.Form.{Form}
use Rattle.gm_script.specs.declared.forms.Form.TheVariants.{Read, Write, Call, Turn, Turns, Kick, Round}
use Rattle.gm_script.specs.Split.{same_bytes}
use Rattle.gm_script.specs.Lines.{word_at}
use Rattle.gm_script.specs.Actors.{named_of}

-- private or shared
unfoldable pub kind_of : List ℕ → Option Kind
kind_of word =
    if same_bytes word (codes "private") then Some Private
    else if same_bytes word (codes "shared") then Some Shared
    else None

-- the calls' words
unfoldable pub call_name_of : List ℕ → Option CallName
call_name_of word =
    if same_bytes word (codes "create") then Some Create
    else if same_bytes word (codes "region") then Some Region
    else if same_bytes word (codes "attrs") then Some Attrs
    else if same_bytes word (codes "punch") then Some Punch
    else if same_bytes word (codes "allocate") then Some Allocate
    else if same_bytes word (codes "close") then Some Close
    else if same_bytes word (codes "populate") then Some Populate
    else if same_bytes word (codes "poke") then Some Poke
    else if same_bytes word (codes "peek") then Some Peek
    else None

-- how many words a line of a call has: the caller, the call's word and its arguments
abbrev pub call_words : CallName → ℕ
call_words Create = 4
call_words Region = 9
call_words Attrs = 6
call_words Punch = 5
call_words Allocate = 5
call_words Close = 3
call_words Populate = 5
call_words Poke = 4
call_words Peek = 3

-- cN CALL ..
abbrev pub call_form : ℕ → ℕ → Option CallName → Option Form
call_form caller count None = None
call_form caller count (Some name) = if nat_eq count (call_words name) then Some (Call caller name) else None

abbrev pub read_form : ℕ → Option Kind → Option Form
read_form vcpu None = None
read_form vcpu (Some kind) = Some (Read vcpu kind)

abbrev pub write_form : ℕ → Option Kind → Option Form
write_form vcpu None = None
write_form vcpu (Some kind) = Some (Write vcpu kind)

-- vN read KIND GPA, or vN write KIND GPA VALUE
unfoldable pub access_form : ℕ → ℕ → List ℕ → List ℕ → Option Form
access_form vcpu count verb kind =
    if nat_eq count 4 && same_bytes verb (codes "read") then read_form vcpu (kind_of kind)
    else if nat_eq count 5 && same_bytes verb (codes "write") then write_form vcpu (kind_of kind)
    else None

-- turn ACTOR, or turn ACTOR K
abbrev pub turn_form : ℕ → Option Named → Option Form
turn_form count None = None
turn_form count (Some actor) =
    if nat_eq count 2 then Some (Turn actor)
    else if nat_eq count 3 then Some (Turns actor)
    else None

-- kick vN
abbrev pub kick_form : ℕ → Option Named → Option Form
kick_form count None = None
kick_form count (Some (NamedVcpu vcpu)) = if nat_eq count 2 then Some (Kick vcpu) else None
kick_form count (Some (NamedCaller caller)) = None

-- round K
abbrev pub round_form : ℕ → Option Form
round_form count = if nat_eq count 2 then Some Round else None

abbrev pub actor_form : List (List ℕ) → Option Named → Option Form
actor_form words None = None
actor_form words (Some (NamedVcpu vcpu)) = access_form vcpu (length words) (word_at words 1) (word_at words 2)
actor_form words (Some (NamedCaller caller)) = call_form caller (length words) (call_name_of (word_at words 1))

-- the form of a line's words
unfoldable pub form_of : List (List ℕ) → Option Form
form_of words =
    if same_bytes (word_at words 0) (codes "turn") then turn_form (length words) (named_of (word_at words 1))
    else if same_bytes (word_at words 0) (codes "kick") then kick_form (length words) (named_of (word_at words 1))
    else if same_bytes (word_at words 0) (codes "round") then round_form (length words)
    else actor_form words (named_of (word_at words 0))
