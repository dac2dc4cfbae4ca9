-- Which bytes form a script, and which script; or the first bad line, with the first cause in the table's order: bytes, cut,
-- machine, word, number, actor, align, limit. (This project's own.)
use Rattle.std.specs.Prelude.{ℕ, ◌+◌, ◌*◌, ◌/◌, ◌%◌, Bool, true, not, ◌&&◌, nat_eq, nat_lt, nat_le, List, [], ◌∷◌, ◌++◌, length, Some, None, Result, Ok, Err, if◌then◌else◌, codes, slice_index_or, slice_set}
use Rattle.std.proofs.Common.{replicate}
use Rattle.std.specs.declared.option.Option.{Option}
use Rattle.gm_base.specs.Aim.{Aim}
use Rattle.gm_base.specs.Scripts.{Schedule}
use Rattle.gm_base.specs.declared.calls.Ioctl.{Ioctl}
use Rattle.gm_base.specs.declared.values.Kind.{Kind}
use Rattle.gm_base.specs.declared.values.Op.{Op}
use Rattle.gm_base.specs.declared.values.Setup.{Setup}
use Rattle.gm_base.specs.declared.script.Command.{Command}
use Rattle.gm_base.specs.declared.script.Command.TheVariants as command
use Rattle.gm_base.specs.declared.script.Turn.{Turn}
use Rattle.gm_base.specs.declared.script.Turn.TheVariants as turn
use Rattle.gm_base.specs.declared.numbers.TheConstants.{MOST_COMMANDS, MOST_TURNS, PAGE_BYTES, WORD_BYTES}
use Rattle.gm_script.specs.declared.error.Cause.{Cause}
use Rattle.gm_script.specs.declared.error.Cause.TheVariants.{Bytes, Cut, Machine, Word, Number, Actor, Align, Limit}
use Rattle.gm_script.specs.declared.forms.Form.{Form}
use Rattle.gm_script.specs.declared.orders.Order.{Order}
use Rattle.gm_script.specs.declared.orders.Order.TheVariants.{Touch, Call, Turns, Kick, Round}
use Rattle.gm_script.specs.Split.{same_bytes}
use Rattle.gm_script.specs.Lines.{Line, lines_of, has_bad_byte, words_of, word_at, is_skipped}
use Rattle.gm_script.specs.Actors.{is_known, actor_of}
use Rattle.gm_script.specs.Forms.{form_of}
use Rattle.gm_script.specs.Orders.{order_of}
use Rattle.gm_script.specs.Setups.{setup_of}
use Rattle.gm_script.specs.Rounds.{rounds_of}

-- a script as far as it was read: `commands` counts those of all actors
pub record Draft : Type 0 where
  pub setup : Setup
  pub vcpus : List (List Command)
  pub callers : List (List Command)
  pub turns : List Turn
  pub commands : ℕ

-- at the `machine` line
abbrev pub empty_draft : Setup → Draft
empty_draft s = record { setup = s; vcpus = replicate s.vcpus []; callers = replicate s.callers []; turns = []; commands = 0 }

-- the causes of a line of a form, each for the order that it gives

-- `actor`: an actor's number isn't below the setup's count
unfoldable pub has_actor : Setup → Order → Bool
has_actor s (Touch vcpu kind gpa op) = nat_lt vcpu s.vcpus
has_actor s (Call caller call) = nat_lt caller s.callers
has_actor s (Turns actor count) = is_known s actor
has_actor s (Kick vcpu) = nat_lt vcpu s.vcpus
has_actor s (Round count) = true

-- `align`: the GPA of an access isn't a multiple of 8
unfoldable pub is_aligned : Order → Bool
is_aligned (Touch vcpu kind gpa op) = nat_eq (gpa % WORD_BYTES) 0
is_aligned (Call caller call) = true
is_aligned (Turns actor count) = true
is_aligned (Kick vcpu) = true
is_aligned (Round count) = true

-- the commands of a line
abbrev pub commands_in : Order → ℕ
commands_in (Touch vcpu kind gpa op) = 1
commands_in (Call caller call) = 1
commands_in (Turns actor count) = 0
commands_in (Kick vcpu) = 0
commands_in (Round count) = 0

-- the turns of a line
abbrev pub turns_in : Setup → Order → ℕ
turns_in s (Touch vcpu kind gpa op) = 0
turns_in s (Call caller call) = 0
turns_in s (Turns actor count) = count
turns_in s (Kick vcpu) = 1
turns_in s (Round count) = count * (2 * s.vcpus + s.callers)

-- `limit`: the line makes the commands or turns too many
unfoldable pub has_room : Draft → Order → Bool
has_room d order =
    nat_le (d.commands + commands_in order) MOST_COMMANDS && nat_le (length d.turns + turns_in d.setup order) MOST_TURNS

-- one more command of an actor
abbrev pub with_command : List (List Command) → ℕ → Command → List (List Command)
with_command lists n command = slice_set lists n (slice_index_or lists n [] ++ command ∷ [])

-- the access of a guest address
unfoldable pub aim_of : Kind → ℕ → Op → Aim
aim_of kind gpa op = record { page = gpa / PAGE_BYTES; word = gpa % PAGE_BYTES / WORD_BYTES; op = op; kind = kind }

-- a script with one more access, one more call, or more turns
abbrev pub with_access : Draft → ℕ → Aim → Draft
with_access d vcpu aim = record d { vcpus = with_command d.vcpus vcpu (command.Touch aim); commands = d.commands + 1 }

abbrev pub with_call : Draft → ℕ → Ioctl → Draft
with_call d caller call = record d { callers = with_command d.callers caller (command.Call call); commands = d.commands + 1 }

abbrev pub with_turns : Draft → List Turn → Draft
with_turns d turns = record d { turns = d.turns ++ turns }

-- what a right line makes of a script
unfoldable pub after_order : Draft → Order → Draft
after_order d (Touch vcpu kind gpa op) = with_access d vcpu (aim_of kind gpa op)
after_order d (Call caller call) = with_call d caller call
after_order d (Turns actor count) = with_turns d (replicate count (turn.Next (actor_of actor)))
after_order d (Kick vcpu) = with_turns d (turn.Kick vcpu ∷ [])
after_order d (Round count) = with_turns d (rounds_of d.setup count)

-- what an order makes of a script, or its first cause
unfoldable pub ordered : Draft → Order → Result Draft Cause
ordered d order =
    if not (has_actor d.setup order) then Err Actor
    else if not (is_aligned order) then Err Align
    else if not (has_room d order) then Err Limit
    else Ok (after_order d order)

abbrev pub numbered : Draft → Option Order → Result Draft Cause
numbered d None = Err Number
numbered d (Some order) = ordered d order

abbrev pub formed : Draft → List (List ℕ) → Option Form → Result Draft Cause
formed d words None = Err Word
formed d words (Some form) = numbered d (order_of form words)

-- a line after the `machine` line
unfoldable pub later_line : Draft → List (List ℕ) → Result Draft Cause
later_line d words = if same_bytes (word_at words 0) (codes "machine") then Err Machine else formed d words (form_of words)

-- the script at its `machine` line
abbrev pub started : Result Setup Cause → Result Draft Cause
started (Err cause) = Err cause
started (Ok s) = Ok (empty_draft s)

-- a line that isn't skipped; before the `machine` line there is no script yet
abbrev pub said : Option Draft → List (List ℕ) → Result Draft Cause
said None words = started (setup_of words)
said (Some d) words = later_line d words

abbrev pub going : Result Draft Cause → Result (Option Draft) Cause
going (Err cause) = Err cause
going (Ok d) = Ok (Some d)

-- what a line makes of a script, or its first cause
unfoldable pub after_line : Option Draft → Line → Result (Option Draft) Cause
after_line so_far line =
    if has_bad_byte line.bytes then Err Bytes
    else if not line.is_ended then Err Cut
    else if is_skipped (words_of line.bytes) then Ok so_far
    else going (said so_far (words_of line.bytes))

-- the script of bytes, or the first bad line, by its number from 1, with its cause
pub data Verdict : Type 0 where
  Good : (script : Schedule) → Verdict
  Bad : (line : ℕ) → (cause : Cause) → Verdict

-- the script of a draft
abbrev pub finished_draft : Draft → Schedule
finished_draft d = record { orders = record { setup = d.setup; vcpus = d.vcpus; callers = d.callers }; turns = d.turns }

-- after the last line; without a `machine` line that is where the script is bad
abbrev pub at_end : ℕ → Option Draft → Verdict
at_end number None = Bad number Machine
at_end number (Some d) = Good (finished_draft d)

abbrev pub judged_on : ℕ → Result (Option Draft) Cause → (Option Draft → Verdict) → Verdict
judged_on number (Err cause) rest = Bad number cause
judged_on number (Ok so_far) rest = rest so_far

-- the lines from this number on
abbrev pub judged : List Line → ℕ → Option Draft → Verdict
judged [] number so_far = at_end number so_far
judged (line ∷ lines) number so_far = judged_on number (after_line so_far line) (judged lines (number + 1))

-- what the bytes are
unfoldable pub script_of : List ℕ → Verdict
script_of bytes = judged (lines_of bytes) 1 None
