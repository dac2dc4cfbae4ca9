-- The lines of bytes, and the words of a line.
use Rattle.std.specs.Prelude.{ℕ, Bool, true, false, not, ◌&&◌, ◌||◌, nat_eq, nat_le, List, [], ◌∷◌, length, codes, slice_index_or, if◌then◌else◌}
use Rattle.gm_script.specs.Split.{split_at, begins_with}

-- a line without its newline, and whether one ends it
pub record Line : Type 0 where
  pub bytes : List ℕ
  pub is_ended : Bool

-- one more byte at the front of the first line
abbrev pub onto_line : ℕ → List Line → List Line
onto_line x [] = record { bytes = x ∷ []; is_ended = false } ∷ []
onto_line x (line ∷ lines) = record { bytes = x ∷ line.bytes; is_ended = line.is_ended } ∷ lines

-- the lines: each ends with byte 10, but for a last one without it
abbrev pub lines_of : List ℕ → List Line
lines_of [] = []
lines_of (x ∷ xs) = if nat_eq x 10 then record { bytes = []; is_ended = true } ∷ lines_of xs else onto_line x (lines_of xs)

-- bytes of a line are 32 to 126
abbrev pub is_text : ℕ → Bool
is_text x = nat_le 32 x && nat_le x 126

abbrev pub has_bad_byte : List ℕ → Bool
has_bad_byte [] = false
has_bad_byte (x ∷ xs) = not (is_text x) || has_bad_byte xs

-- the pieces that aren't empty
abbrev pub full_pieces : List (List ℕ) → List (List ℕ)
full_pieces [] = []
full_pieces ([] ∷ pieces) = full_pieces pieces
full_pieces ((x ∷ xs) ∷ pieces) = (x ∷ xs) ∷ full_pieces pieces

-- the words of a line: what stands between its spaces
unfoldable pub words_of : List ℕ → List (List ℕ)
words_of line = full_pieces (split_at 32 line)

-- a word by its number from 0; empty past the last
abbrev pub word_at : List (List ℕ) → ℕ → List ℕ
word_at words n = slice_index_or words n []

-- a line without a word, or whose first word begins with #, is skipped
unfoldable pub is_skipped : List (List ℕ) → Bool
is_skipped words = nat_eq (length words) 0 || begins_with (codes "#") (word_at words 0)
