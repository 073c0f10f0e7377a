-- The fields of a line, and what they say: process, value, and N, S and V together.
-- Assumes nothing.
use Prim.Native.Nat.{ℕ, ◌≤◌}
use mathlib.Core.Path.{◌≡◌, refl}
use mathlib.Core.Bool.{Bool, true, false}
use mathlib.Core.List.{List, [], ◌∷◌}
use native.Mathlib.Omega.{arith}
use lib.Dec.{leb}
use lib.ListN.{length, drop_of_length-le}
use Rattle.std.specs.Prelude.{Option, Some, None, Err}
use Rattle.text.specs.Decimal.{said}
use Rattle.text.specs.Lines.{space}
use Rattle.writer.specs.Types.{Ask, Step, Load, Check, NoNumeral}
use Rattle.writer.specs.Form.{place_of, before, behind, all_digits, front, is_numeral, is_process, head_fine, line_fine, entry_in}
use Rattle.writer.specs.Parts.{numeral_of, size_of, process_of, plain_of, store_of, line_of, opened_by, fields_of, opening_of}

-- what stands behind a byte that stands nowhere, and what no bytes say
pub behind_none : (c : ℕ) (l : List ℕ) → length l ≤ place_of c l → behind c l ≡ []
behind_none c l h = drop_of_length-le l (omega (arith, h))

pub numeral_nothing : numeral_of [] ≡ Err NoNumeral
unfolding numeral_of all_digits front
numeral_nothing = refl

-- where nothing stands, no byte does
pub behind_nothing : (c : ℕ) → behind c [] ≡ []
behind_nothing c = behind_none c [] (omega arith)

-- `L p`, `V p` and `T p`
module _ (rest : List ℕ) where
  load_by : (t : Bool) → is_process rest ≡ t → line_of (76 ∷ 32 ∷ rest) ≡ plain_of rest (Ask Load)
  unfolding line_of line_fine entry_in process_of
  load_by true h = rw h
  load_by false h = rw h

  pub load_line : line_of (76 ∷ 32 ∷ rest) ≡ plain_of rest (Ask Load)
  load_line = load_by (is_process rest) refl

  check_by : (t : Bool) → is_process rest ≡ t → line_of (86 ∷ 32 ∷ rest) ≡ plain_of rest (Ask Check)
  unfolding line_of line_fine entry_in process_of
  check_by true h = rw h
  check_by false h = rw h

  pub check_line : line_of (86 ∷ 32 ∷ rest) ≡ plain_of rest (Ask Check)
  check_line = check_by (is_process rest) refl

  step_by : (t : Bool) → is_process rest ≡ t → line_of (84 ∷ 32 ∷ rest) ≡ plain_of rest Step
  unfolding line_of line_fine entry_in process_of
  step_by true h = rw h
  step_by false h = rw h

  pub step_line : line_of (84 ∷ 32 ∷ rest) ≡ plain_of rest Step
  step_line = step_by (is_process rest) refl

-- `S p value`
module _ (rest : List ℕ) where
  abbrev a : List ℕ
  a = before space rest

  abbrev v : List ℕ
  v = behind space rest

  store_by : (t u w : Bool) → is_process a ≡ t → is_numeral v ≡ u → leb (said v) 18446744073709551615 ≡ w → line_of (83 ∷ 32 ∷ rest) ≡ store_of rest
  unfolding line_of line_fine entry_in process_of numeral_of
  store_by true true true h k l = rw (k, l, h)
  store_by true true false h k l = rw (k, l, h)
  store_by true false w h k l = rw (k, h)
  store_by false true true h k l = rw (k, l, h)
  store_by false true false h k l = rw (k, l, h)
  store_by false false w h k l = rw (k, h)

  pub store_line : line_of (83 ∷ 32 ∷ rest) ≡ store_of rest
  store_line = store_by (is_process a) (is_numeral v) (leb (said v) 18446744073709551615) refl refl refl

-- `H N S V`
module _ (rest : List ℕ) where
  abbrev n : List ℕ
  n = before space rest

  abbrev s : List ℕ
  s = before space (behind space rest)

  abbrev last : List ℕ
  last = behind space (behind space rest)

  head_by : (t u w x : Bool) → is_numeral n ≡ t → is_numeral s ≡ u → is_numeral last ≡ w → leb (said last) 18446744073709551615 ≡ x
      → opening_of (72 ∷ 32 ∷ rest) ≡ fields_of rest
  unfolding opening_of head_fine size_of numeral_of
  head_by true true true true h k l m = rw (h, k, l, m)
  head_by true true true false h k l m = rw (h, k, l, m)
  head_by true true false x h k l m = rw (h, k, l)
  head_by true false w x h k l m = rw (h, k)
  head_by false true w x h k l m = rw h
  head_by false false w x h k l m = rw h

  pub head_line : opening_of (72 ∷ 32 ∷ rest) ≡ fields_of rest
  head_line = head_by (is_numeral n) (is_numeral s) (is_numeral last) (leb (said last) 18446744073709551615) refl refl refl refl

  -- with nothing behind the second space, or the first, there is no V
  pub fields_short : last ≡ [] → fields_of rest ≡ None
  fields_short h = rw (h, numeral_nothing) (go (size_of n) (size_of s))
    where
      go : (x y : Option ℕ) → opened_by x y (Err NoNumeral) ≡ None
      go (Some x) (Some y) = refl
      go (Some x) None = refl
      go None y = refl
