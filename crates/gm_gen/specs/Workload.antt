-- *workload*: a large script that a number stands for. (This project's own.)
use Rattle.std.specs.Prelude.{ℕ, zero, suc, ◌+◌, ◌-◌, ◌*◌, ◌/◌, List, [], ◌++◌, Bool, codes, nat_eq, nat_lt, if◌then◌else◌}
use Rattle.gm_base.specs.declared.values.Kind.{Kind}
use Rattle.gm_base.specs.declared.values.Kind.TheVariants.{Private, Shared}
use Rattle.gm_base.specs.declared.numbers.TheConstants.{PAGE_BYTES, WORD_BYTES}
use Rattle.gm_gen.specs.declared.line.Line.{Line}
use Rattle.gm_gen.specs.declared.line.Line.TheVariants.{Read, Write, Call, Turn, CallerTurn, Kick}
use Rattle.gm_gen.specs.declared.line.Call.TheVariants.{Attrs, Punch, Populate}
use Rattle.gm_gen.specs.Draws.{after, drawn, next}
use Rattle.gm_gen.specs.Lines.{line_text}

-- a line, and x after its draws
pub record Step : Type 0 where
  pub line : Line
  pub x : ℕ

abbrev pub kind_drawn : ℕ → Kind
kind_drawn k = if nat_eq k 0 then Private else Shared

-- the address of a word that was drawn by its page and its word
abbrev pub address_of : ℕ → ℕ → ℕ
address_of page word = PAGE_BYTES * page + WORD_BYTES * word

-- an access: draw 1 is its vCPU, 2 whether it writes, 3 its kind, 4 its page, 5 its word, and 6 what is written
abbrev pub access_drawn : ℕ → Step
access_drawn x =
    if nat_eq (drawn 2 2 x) 0
    then record { line = Read (drawn 1 4 x) (kind_drawn (drawn 3 2 x)) (address_of (drawn 4 6144 x) (drawn 5 512 x)); x = after 5 x }
    else record { line = Write (drawn 1 4 x) (kind_drawn (drawn 3 2 x)) (address_of (drawn 4 6144 x) (drawn 5 512 x)) (drawn 6 1000000 x); x = after 6 x }

-- a conversion: draw 1 is its caller, 2 its first page, 3 its pages less one, and 4 whether they become private
abbrev pub conversion_drawn : ℕ → Step
conversion_drawn x = record { line = Call (drawn 1 2 x) (Attrs (PAGE_BYTES * drawn 2 6000 x) (PAGE_BYTES * (1 + drawn 3 64 x)) (8 * drawn 4 2 x)); x = after 4 x }

-- a hole: draw 1 is its caller, 2 its file, 3 its first index, and 4 its pages less one
abbrev pub hole_drawn : ℕ → Step
hole_drawn x = record { line = Call (drawn 1 2 x) (Punch (drawn 2 2 x) (PAGE_BYTES * drawn 3 2000 x) (PAGE_BYTES * (1 + drawn 4 16 x))); x = after 4 x }

-- a population: draw 1 is its caller, 2 its first page, and 3 its pages less one
abbrev pub population_drawn : ℕ → Step
population_drawn x = record { line = Call (drawn 1 2 x) (Populate (PAGE_BYTES * drawn 2 6000 x) (1 + drawn 3 4 x)); x = after 3 x }

abbrev pub command_by : ℕ → ℕ → Step
command_by what x =
    if nat_lt what 5 then access_drawn x
    else if nat_eq what 5 then conversion_drawn x
    else if nat_eq what 6 then hole_drawn x
    else population_drawn x

-- a command: one draw says what it is, and those after it tell it
abbrev pub command_drawn : ℕ → Step
command_drawn x = command_by (drawn 1 8 x) (next x)

abbrev pub turn_by : ℕ → ℕ → Step
turn_by whose x =
    if nat_lt whose 4 then record { line = Turn whose; x = x }
    else if nat_eq whose 4 then record { line = CallerTurn 0; x = x }
    else if nat_eq whose 5 then record { line = CallerTurn 1; x = x }
    else if nat_eq whose 6 then record { line = Kick (drawn 1 4 x); x = next x }
    else record { line = Turn (drawn 1 4 x); x = next x }

-- a turn: one draw says whose it is, and in the last two cases one after it the vCPU
abbrev pub turn_drawn : ℕ → Step
turn_drawn x = turn_by (drawn 1 8 x) (next x)

-- lines that are drawn one after another in one way, and x after them
abbrev pub lines_drawn : (ℕ → Step) → ℕ → ℕ → List ℕ
lines_drawn way zero x = []
lines_drawn way (suc n) x = line_text (way x).line ++ lines_drawn way n (way x).x

abbrev pub drawn_out : (ℕ → Step) → ℕ → ℕ → ℕ
drawn_out way zero x = x
drawn_out way (suc n) x = drawn_out way n (way x).x

-- the lines that are always the same: the machine, two files, and a slot over each
unfoldable pub head_text : List ℕ
head_text = codes "machine frames=4096 user=8192 vcpus=4 callers=2 huge=on\nc0 create 16777216 1\nc0 create 8388608 0\nc0 region 0 4 0 16777216 0 0 0\nc0 region 1 4 16777216 8388608 16777216 1 0\nturn c0 4\n"

-- how many commands there are beside those of the head, and how many turns
abbrev pub command_lines : ℕ → ℕ
command_lines turns = turns / 16

abbrev pub turn_lines : ℕ → ℕ
turn_lines turns = turns - 4

-- the script of a number, of so many turns
unfoldable pub workload_text : ℕ → ℕ → List ℕ
workload_text number turns = head_text ++ (lines_drawn command_drawn (command_lines turns) number ++ lines_drawn turn_drawn (turn_lines turns) (drawn_out command_drawn (command_lines turns) number))
