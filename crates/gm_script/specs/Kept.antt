-- What contracts see of a script.
use Rattle.gm_base.specs.Scripts.{Schedule}
use Rattle.gm_script.specs.declared.script.Script.TheInside.{Inside}

abbrev pub schedule_kept : Inside → Schedule
schedule_kept s = record { orders = record { setup = s.setup; vcpus = s.vcpus.items; callers = s.callers.items }; turns = s.turns.items }
