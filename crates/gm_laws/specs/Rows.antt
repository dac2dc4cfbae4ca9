-- An entry of a worked row.
use Rattle.std.specs.Prelude.{ℕ}
use Rattle.gm_base.specs.declared.values.Actor.{Actor}
use Rattle.gm_flat.specs.declared.entry.Entry.{Entry}
use Rattle.gm_flat.specs.declared.entry.What.{What}

abbrev pub entry : ℕ → Actor → What → Entry
entry turn actor what = record { turn = turn; actor = actor; what = what }
