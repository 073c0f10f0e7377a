-- What the inner functions promise: lines by their letter.
use Rattle.std.specs.Prelude.{ℕ, List, ◌∷◌, ◌++◌}
use Rattle.text.specs.Lines.{bytes_in, field, space, newline}

-- `L p`, `V p` or `T p`
abbrev pub plain_line : ℕ → ℕ → List ℕ
plain_line letter p = letter ∷ space ∷ field p newline

-- `S p value`
abbrev pub store_line : ℕ → ℕ → List ℕ
store_line p v = bytes_in "S " ++ (field p space ++ field v newline)
