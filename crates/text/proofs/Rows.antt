-- Each line as a row of words and numbers.
-- Assumes nothing.
use Prim.Native.Nat.{ℕ}
use mathlib.Core.Path.{◌≡◌}
use mathlib.Core.List.{[], ◌++◌, append_assoc, append-nil}
use borrow.Author.Tests.{eq-eqb, ne_eqb}
use Rattle.text.specs.Types.{Note}
use Rattle.text.specs.Decimal.{decimal_of}
use Rattle.text.specs.Lines.{bytes_in, space, newline, field, head_line, line_of, refused_line, refused_text_line}

pub head_row : (entries changes n : ℕ)
    → head_line entries changes n
    ≡ bytes_in "entries " ++ (decimal_of entries ++ (bytes_in " changes " ++ (decimal_of changes ++ (bytes_in " processes " ++ (decimal_of n ++ bytes_in "\n")))))
unfolding head_line
head_row entries changes n = simp append_assoc

pub line_row : (place : ℕ) (note : Note)
    → line_of place note
    ≡ field place space
    ++ (field note.process space
    ++ (field note.outcome space ++ (field note.steps space ++ (field note.mark space ++ (field note.value newline ++ [])))))
unfolding line_of
line_row place note = simp append-nil

pub refused_row : (number block place : ℕ) → place ≡ 0
    → refused_line number block place ≡ bytes_in "refused " ++ (decimal_of number ++ (bytes_in " block " ++ (decimal_of block ++ bytes_in "\n")))
unfolding refused_line
refused_row number block place e = rw (eq-eqb place 0 e) (simp append_assoc)

pub refused_placed_row : (number block place : ℕ) → (place ≡ 0 → ⊥)
    → refused_line number block place
    ≡ bytes_in "refused " ++ (decimal_of number ++ (bytes_in " block " ++ (decimal_of block ++ (bytes_in " place " ++ (decimal_of place ++ bytes_in "\n")))))
unfolding refused_line
refused_placed_row number block place n = rw (ne_eqb place 0 n) (simp append_assoc)

pub refused_text_row : (number line : ℕ) → number ≡ 25
    → refused_text_line number line ≡ bytes_in "refused " ++ (decimal_of number ++ (bytes_in " line " ++ (decimal_of line ++ bytes_in "\n")))
unfolding refused_text_line
refused_text_row number line e = rw (eq-eqb number 25 e) (simp append_assoc)

pub refused_lineless_row : (number line : ℕ) → (number ≡ 25 → ⊥)
    → refused_text_line number line ≡ bytes_in "refused " ++ (decimal_of number ++ bytes_in "\n")
unfolding refused_text_line
refused_lineless_row number line n = rw (ne_eqb number 25 n)
