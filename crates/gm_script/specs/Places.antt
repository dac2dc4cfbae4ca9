-- Where the words of a line stand.
use Rattle.std.specs.Prelude.{◌≡◌, ℕ, ◌-◌, ◌<◌, ◌≤◌, List, length, drop, take, slice_index_or}
use Rattle.gm_script.specs.Lines.{words_of, word_at}

-- the word of a number stands from one place on and ends before another; a word past the last is empty
pub record IsWordAt (line : List ℕ) (n lo hi : ℕ) : Type 0 where
  pub in_order : lo ≤ hi
  pub within : hi ≤ length line
  pub word_is : take (hi - lo) (drop lo line) ≡ word_at (words_of line) n

-- so many words stand in the line, and the first nine of them at these places
pub record AreFound (line : List ℕ) (count : ℕ) (starts ends : List ℕ) : Type 0 where
  pub counted : count ≡ length (words_of line)
  pub places : (n : ℕ) → n < 9 → IsWordAt line n (slice_index_or starts n 0) (slice_index_or ends n 0)
