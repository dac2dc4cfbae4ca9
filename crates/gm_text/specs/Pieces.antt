-- Texts made of words and numbers.
use Rattle.std.specs.Prelude.{ℕ, List, [], ◌∷◌, ◌++◌, Some, None}
use Rattle.std.specs.Fmt.{decimal}
use Rattle.gm_text.specs.declared.pieces.Piece.{Piece}
use Rattle.gm_text.specs.declared.pieces.Piece.TheVariants.{Word, Number, Maybe}

-- the bytes of a piece
abbrev pub piece_text : Piece → List ℕ
piece_text (Word word) = word.now
piece_text (Number n) = decimal n
piece_text (Maybe (Some n)) = decimal n
piece_text (Maybe None) = 45 ∷ []

-- the bytes of pieces one after another
abbrev pub text_of : List Piece → List ℕ
text_of [] = []
text_of (piece ∷ pieces) = piece_text piece ++ text_of pieces
