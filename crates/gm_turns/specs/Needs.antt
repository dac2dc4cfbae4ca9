-- What room a caller's turn needs beside that of every turn.
use Rattle.std.specs.Prelude.{ℕ, Some, None}
use Rattle.std.specs.declared.option.Option.{Option}
use Rattle.gm_base.specs.declared.calls.Ioctl.TheVariants.{Region2}
use Rattle.gm_base.specs.declared.script.Command.{Command}
use Rattle.gm_base.specs.declared.script.Command.TheVariants.{Call as CallCommand}
use Rattle.gm_callers.specs.Callers.{caller_at}
use Rattle.gm_callers.specs.Rooming.{IsRoomy}
use Rattle.gm_callers.specs.declared.caller.InProgress.{InProgress}
use Rattle.gm_calls.specs.declared.judged.Judged.{Judged}
use Rattle.gm_calls.specs.declared.judged.Judged.TheVariants as judged
use Rattle.gm_flat.specs.declared.effect.Effect.{Effect}
use Rattle.gm_flat.specs.declared.effect.Effect.TheVariants.{Cut, Shut}
use Rattle.gm_turns.specs.Room.{CanBind, HasFreeRoom, HasPageRoom}
use Rattle.gm_turns.specs.declared.needs.Need.{Need}
use Rattle.gm_turns.specs.declared.needs.Need.TheVariants as need
use Rattle.gm_turns.specs.declared.parts.Core.{Core}

abbrev pub need_of_change : Effect → Need
need_of_change (Cut file lo hi) = need.FreesOf file
need_of_change (Shut file) = need.FreesOf file
need_of_change effect = need.Nothing

abbrev pub need_of_step : Judged → Need
need_of_step (judged.Bracket effect) = need_of_change effect
need_of_step (judged.Pages pages) = need.PagesIn pages.file
need_of_step judged = need.Nothing

-- by the call in progress
abbrev pub need_of : Option InProgress → Need
need_of None = need.Command
need_of (Some p) = need_of_step p.call.judged

-- there is the room that a caller needs
abbrev pub HasNeeded : Core → ℕ → Need → Type 0
HasNeeded k c need.Command = IsRoomy (caller_at k.callers c).spans × CanBind k c
HasNeeded k c (need.PagesIn file) = HasPageRoom k.state (Some file)
HasNeeded k c (need.FreesOf file) = HasFreeRoom k file
HasNeeded k c need.Nothing = Unit {0}

-- the file that a command's region names
abbrev pub region_file : Option Command → Option ℕ
region_file (Some (CallCommand (Region2 r))) = Some r.fd
region_file command = None
