-- *draw*: numbers drawn one after another from a start. (This project's own.)
use Rattle.std.specs.Prelude.{ℕ, zero, suc, ◌+◌, ◌*◌, ◌/◌, ◌%◌, ◌^◌}
use Rattle.gm_gen.specs.declared.draws.TheConstants.{MULTIPLIER, INCREMENT}

-- x after a draw
abbrev pub next : ℕ → ℕ
next x = (x * MULTIPLIER + INCREMENT) % 2 ^ 64

-- the number below n that a draw answers, by x after it
abbrev pub picked : ℕ → ℕ → ℕ
picked n x = x / 2 ^ 33 % n

-- x after so many draws
abbrev pub after : ℕ → ℕ → ℕ
after zero x = x
after (suc k) x = after k (next x)

-- the number below n that the draw with that number answers, the first draw having number 1
abbrev pub drawn : ℕ → ℕ → ℕ → ℕ
drawn k n x = picked n (after k x)
