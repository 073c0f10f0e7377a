-- Bytes that are enough for a line, whatever its numbers are.
-- Assumes nothing.
use Prim.Native.Nat.{ℕ, ◌≤◌}
use mathlib.Core.List.{List, [], ◌∷◌}
use native.Mathlib.Omega.{arith}
use lib.ListN.{length, length-append}
use Rattle.text.specs.Types.{Note, Piece, Word, Number, Field}
use Rattle.text.specs.Lines.{line_of}
use Rattle.text.specs.Pieces.{text_of_pieces, most_of_pieces}
use Rattle.text.proofs.Digits.{decimal_length}

pub pieces_fit : (pieces : List Piece) → length (text_of_pieces pieces) ≤ most_of_pieces pieces
pieces_fit [] = omega arith
pieces_fit (Word word ∷ pieces) = simp length-append (omega (arith, pieces_fit pieces))
pieces_fit (Number n ∷ pieces) = simp length-append (omega (arith, decimal_length n, pieces_fit pieces))
pieces_fit (Field n end ∷ pieces) = simp length-append (omega (arith, decimal_length n, pieces_fit pieces))

pub line_fits : (place : ℕ) (note : Note) → length (line_of place note) ≤ 128
unfolding line_of
line_fits place note = simp length-append (omega (arith, decimal_length))
