-- What contracts see of the ends in memory, and of those that pass on short pieces.
use Rattle.std.specs.Prelude.{ℕ, List, Bool, true, false, None, Some}
use Rattle.std.specs.declared.option.Option.{Option}

-- bytes to be taken, the numbers of the calls that fail, the calls so far and the faults so far
pub record Listed : Type 0 where
  pub left : List ℕ
  pub fails : List ℕ
  pub calls : ℕ
  pub faults : ℕ

-- bytes that were put, the most that are kept, the numbers of the calls that fail, the calls and the faults so far
pub record Limited : Type 0 where
  pub held : List ℕ
  pub capacity : ℕ
  pub fails : List ℕ
  pub calls : ℕ
  pub faults : ℕ

-- bytes that were kept, the most that are, and whether one was dropped
pub record Kept : Type 0 where
  pub bytes : List ℕ
  pub capacity : ℕ
  pub lost : Bool

-- what it tells: nothing once a byte was dropped
abbrev pub told_by : Bool → List ℕ → Option (List ℕ)
told_by true bytes = None
told_by false bytes = Some bytes

abbrev pub told : Kept → Option (List ℕ)
told k = told_by k.lost k.bytes

-- an end, and the most bytes that it is handed at a time
pub record Short (End : Type 0) : Type 0 where
  pub inner : End
  pub most : ℕ
