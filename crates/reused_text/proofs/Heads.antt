-- Line one, by its letter and its two fields.
-- Assumes nothing.
use Prim.Native.Nat.{ℕ}
use mathlib.Core.Path.{◌≡◌, refl}
use mathlib.Core.Bool.{Bool, true, false, and-false}
use mathlib.Core.List.{List, [], ◌∷◌}
use borrow.Author.Tests.{ne_eqb}
use lib.Dec.{eqb}
use lib.ListN.{get_or}
use Rattle.std.specs.Prelude.{Option, Some, None}
use Rattle.text.specs.Lines.{space}
use Rattle.writer.specs.Form.{before, behind, all_digits, front, is_numeral}
use Rattle.writer.specs.Parts.{size_of}
use Rattle.reused_text.specs.Form.{head_fine}
use Rattle.reused_text.specs.Parts.{sized_by, fields_of, sizes_of}

module _ (line : List ℕ) (h : get_or line 1 0 ≡ 32 → ⊥) where
  pub gap_no_head : sizes_of line ≡ None
  unfolding sizes_of head_fine
  gap_no_head = rw (ne_eqb (get_or line 1 0) 32 h, and-false (eqb (get_or line 0 0) 72))

pub letter_no_head : (letter : ℕ) (rest : List ℕ) → (letter ≡ 72 → ⊥) → sizes_of (letter ∷ 32 ∷ rest) ≡ None
unfolding sizes_of head_fine
letter_no_head letter rest h = rw (ne_eqb letter 72 h)

-- `H N M`
module _ (rest : List ℕ) where
  head_by : (t u : Bool) → is_numeral (before space rest) ≡ t → is_numeral (behind space rest) ≡ u → sizes_of (72 ∷ 32 ∷ rest) ≡ fields_of rest
  unfolding sizes_of head_fine size_of
  head_by true true h k = rw (h, k)
  head_by true false h k = rw (h, k)
  head_by false u h k = rw h

  pub head_line : sizes_of (72 ∷ 32 ∷ rest) ≡ fields_of rest
  head_line = head_by (is_numeral (before space rest)) (is_numeral (behind space rest)) refl refl

  -- with nothing behind the space there is no M
  none : size_of [] ≡ None
  unfolding size_of all_digits front
  none = refl

  pub fields_short : behind space rest ≡ [] → fields_of rest ≡ None
  fields_short h = rw (h, none) (go (size_of (before space rest)))
    where
      go : (x : Option ℕ) → sized_by x None ≡ None
      go (Some x) = refl
      go None = refl
