-- In which order the indexes come.
use Rattle.std.specs.Prelude.{ℕ, ◌*◌, ◌%◌}
use Rattle.gm_speed.specs.declared.order.Order.{Order}
use Rattle.gm_speed.specs.declared.order.Order.TheVariants.{Rising, Random}

-- the index of a step: the step itself, or its product with an odd number, by 65,536
abbrev pub place_of : Order → ℕ → ℕ
place_of Rising step = step
place_of Random step = step * 40503 % 65536
