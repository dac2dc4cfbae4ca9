-- A script as far as it was read.
use Rattle.std.specs.Prelude.{◌≡◌, ◌+◌, Result, Err}
use Rattle.gm_script.specs.declared.draft.Draft as draft
use Rattle.gm_script.specs.declared.draft.Refused.{Refused}
use Rattle.gm_script.specs.declared.draft.Refused.TheVariants.{Bad, NoMemory}
use Rattle.gm_script.specs.declared.error.Cause.{Cause}
use Rattle.gm_script.specs.Schedules.{IsScript, command_count}
use Rattle.gm_script.specs.Grammar.{Draft, finished_draft}

-- what is kept of it
abbrev pub draft_of : draft.Draft → Draft
draft_of s = record { setup = s.setup; vcpus = s.vcpus.items; callers = s.callers.items; turns = s.turns.items; commands = s.commands }

-- it is a script, and its commands are counted
pub record IsScriptDraft (d : Draft) : Type 0 where
  pub even : IsScript (finished_draft d)
  pub counted : command_count d.vcpus + command_count d.callers ≡ d.commands

-- the cause is what was found; memory may be wanted at any line
abbrev pub RefusedFor : {A : Type 0} → Result A Cause → Refused → Type 0
RefusedFor found (Bad cause) = found ≡ Err cause
RefusedFor found NoMemory = Unit {0}
