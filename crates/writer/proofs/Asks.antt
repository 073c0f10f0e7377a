-- What a line asks for, by its letter.
-- Assumes nothing.
use Prim.Native.Nat.{ℕ, ◌<◌}
use mathlib.Core.Path.{◌≡◌}
use mathlib.Core.Bool.{and-false}
use mathlib.Core.List.{List, ◌∷◌}
use native.Mathlib.Omega.{arith}
use borrow.Author.Tests.{ne_eqb}
use lib.Dec.{eqb}
use lib.ListN.{length, get_or, get_or-eq_default}
use Rattle.std.specs.Prelude.{None}
use Rattle.writer.specs.Form.{head_fine, line_fine}
use Rattle.writer.specs.Parts.{line_of, opening_of}

-- a line whose second byte is no space, as that of a short one
pub no_gap : (line : List ℕ) → length line < 2 → get_or line 1 0 ≡ 32 → ⊥
no_gap line h e = omega (arith, e, get_or-eq_default line 0 {n = 1} (omega (arith, h)))

module _ (line : List ℕ) (h : get_or line 1 0 ≡ 32 → ⊥) where
  pub gap_none : line_of line ≡ None
  unfolding line_of line_fine
  gap_none = rw (ne_eqb (get_or line 1 0) 32 h, and-false (eqb (get_or line 0 0) 76), and-false (eqb (get_or line 0 0) 86), and-false (eqb (get_or line 0 0) 84), and-false (eqb (get_or line 0 0) 83))

  pub gap_no_head : opening_of line ≡ None
  unfolding opening_of head_fine
  gap_no_head = rw (ne_eqb (get_or line 1 0) 32 h, and-false (eqb (get_or line 0 0) 72))

-- any other letter
module _ (letter : ℕ) (rest : List ℕ) where
  pub letter_none : (letter ≡ 76 → ⊥) → (letter ≡ 83 → ⊥) → (letter ≡ 86 → ⊥) → (letter ≡ 84 → ⊥) → line_of (letter ∷ 32 ∷ rest) ≡ None
  unfolding line_of line_fine
  letter_none l s v t = rw (ne_eqb letter 83 s, ne_eqb letter 76 l, ne_eqb letter 86 v, ne_eqb letter 84 t)

  pub letter_no_head : (letter ≡ 72 → ⊥) → opening_of (letter ∷ 32 ∷ rest) ≡ None
  unfolding opening_of head_fine
  letter_no_head h = rw (ne_eqb letter 72 h)
