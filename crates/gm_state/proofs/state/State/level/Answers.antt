use Rattle.std.proofs.Common.{subst, sym, Bool}
use Rattle.gm_state.specs.Levels.{IsLevel}
use Rattle.gm_state.proofs.state.State.level.Goals as goal

pub returns-else-slot : goal.returns-else-slot
returns-else-slot c = λ s m st stand. subst (λ (b : Bool). IsLevel c.level_under.result b c.args.page m.stored.flat c.args.range) (sym c.if-not-huge.false) (c.level_under.ensures s m st stand)
