use Rattle.std.proofs.Common.{sym, ◌∙◌}
use Rattle.gm_file.proofs.Meeting.{first_none}
use Rattle.gm_file.proofs.file.File.bind.Goals as goal

pub returns-clause-free : goal.returns-clause-free
returns-clause-free c = rw (← c.self.view_is, ← c.deref.ensures.value) (first_none _ (sym c.find_met.ensures ∙ c.in_default.is))
