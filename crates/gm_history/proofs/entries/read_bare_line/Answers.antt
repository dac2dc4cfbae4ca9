use Rattle.std.proofs.Common.{sym, ◌∙◌}
use Rattle.gm_history.specs.Whats.{bare_line_of}
use Rattle.gm_history.proofs.entries.read_bare_line.Goals as goal

pub returns : goal.returns
unfolding bare_line_of
returns c =
    rw (sym c.read_bare.ensures ∙ c.in_default.is, sym c.read_bare-2.ensures ∙ c.in_default-read_bare.is, sym c.read_bare-3.ensures ∙ c.in_default-read_bare-2.is, sym c.read_bare-4.ensures ∙ c.in_default-read_bare-3.is, sym c.read_bare-5.ensures ∙ c.in_default-read_bare-4.is, sym c.read_bare-6.ensures ∙ c.in_default-read_bare-5.is) c.read_bare-7.ensures
