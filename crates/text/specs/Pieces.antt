-- A line as the code puts it together: a row of pieces, one behind the other.
use Rattle.std.specs.Prelude.{ℕ, ◌+◌, List, [], ◌∷◌, length}
use Rattle.std.specs.List.{flat_map}
use Rattle.text.specs.Types.{Piece, Word, Number, Field}
use Rattle.text.specs.Decimal.{decimal_of}
use Rattle.text.specs.Lines.{field}

abbrev pub text_of_piece : Piece → List ℕ
text_of_piece (Word word) = word.now
text_of_piece (Number n) = decimal_of n
text_of_piece (Field n end) = field n end

abbrev pub text_of_pieces : List Piece → List ℕ
text_of_pieces pieces = flat_map text_of_piece pieces

-- bytes that are enough for it, whatever its numbers are: no number has more than twenty digits
abbrev pub most_of_pieces : List Piece → ℕ
most_of_pieces [] = 0
most_of_pieces (Word word ∷ pieces) = length word.now + most_of_pieces pieces
most_of_pieces (Number n ∷ pieces) = 20 + most_of_pieces pieces
most_of_pieces (Field n end ∷ pieces) = 21 + most_of_pieces pieces
