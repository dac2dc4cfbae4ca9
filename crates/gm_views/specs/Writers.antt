-- What contracts see of a writer of `left_right`, for which it has no words of its own.
use Rattle.std.specs.Prelude.{List, drop}
use Rattle.left_right.specs.declared.Absorb.{Ghosts}
use Rattle.left_right.specs.declared.writer.Writer.{Writer}

module _ {T O V P A S : Type 0} {g : Ghosts T O S} where
  -- the changes that readers don't see yet, the oldest first
  abbrev pub pending : Writer T O V P A S g → List O
  pending w = drop w.behind w.log.items
