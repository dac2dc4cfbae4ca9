-- A vCPU's fills, of which the latest stands first.
use Rattle.std.specs.Prelude.{List, [], ◌∷◌, None, Some, if◌then◌else◌}
use Rattle.std.specs.declared.option.Option.{Option}
use Rattle.gm_base.specs.Aim.{Aim}
use Rattle.gm_base.specs.Leaf.{serves}
use Rattle.gm_tlb.specs.declared.tlb.Fill.{Fill}

-- the latest fill that serves an access
abbrev pub latest : List Fill → Aim → Option Fill
latest [] a = None
latest (fill ∷ fills) a = if serves fill.leaf a then Some fill else latest fills a
