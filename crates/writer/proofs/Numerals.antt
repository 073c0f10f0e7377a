-- The decimal of a number is a numeral, and a field that ends at the space behind it.
-- Assumes nothing.
use Prim.Native.Nat.{ℕ, zero, suc, ◌^◌, ◌≤◌, ◌<◌}
use mathlib.Core.Path.{◌≡◌, refl}
use mathlib.Core.Bool.{Bool, true, false, ◌||◌}
use mathlib.Core.List.{List, [], ◌∷◌, ◌++◌}
use native.Mathlib.Omega.{arith}
use borrow.Author.Tests.{le-leb, ne_eqb}
use lib.Dec.{leb}
use lib.ListN.{length, get_or}
use Rattle.text.specs.Decimal.{decimal_of}
use Rattle.text.specs.Lines.{space, newline}
use Rattle.text.proofs.Digits.{Digit, decimal_first, decimal_only, decimal_no_zero, decimal_said}
use Rattle.writer.specs.Form.{before, behind, all_digits, front, is_numeral, is_up_to}
use Rattle.writer.proofs.Apart.{Lacks, lacks_append, digits_lack, before_it, behind_it}

-- digits at every place are digits throughout
digits_throughout : (l : List ℕ) → ((i : ℕ) → i < length l → Digit (get_or l i 0)) → all_digits l ≡ true
unfolding all_digits
digits_throughout [] h = refl
digits_throughout (b ∷ l) h =
    let first = h 0 (omega arith) in
    rw (le-leb 48 b first.low, le-leb b 57 first.high, digits_throughout l (λ i k. h (suc i) (omega (arith, k))))

decimal_digits : (n : ℕ) → all_digits (decimal_of n) ≡ true
decimal_digits n = digits_throughout (decimal_of n) (decimal_only n)

front_above : (l : List ℕ) → 48 < get_or l 0 0 → front l ≡ true
unfolding front
front_above [] h = absurd (omega (arith, h))
front_above (b ∷ l) h =
    rw (le-leb 1 (suc (length l)) (omega arith), ne_eqb b 48 (λ e. omega (arith, h, e))) (go (leb (suc (length l)) 1))
  where
    go : (t : Bool) → (t || true) ≡ true
    go true = refl
    go false = refl

decimal_front : (n : ℕ) → n < 10 ^ 20 → front (decimal_of n) ≡ true
unfolding front
decimal_front zero h = rw (decimal_first 0 (omega arith))
decimal_front (suc n) h = front_above (decimal_of (suc n)) (decimal_no_zero (suc n) (omega arith) h)

pub decimal_numeral : (n : ℕ) → n < 10 ^ 20 → is_numeral (decimal_of n) ≡ true
decimal_numeral n h = rw (decimal_digits n, decimal_front n h)

-- and one up to the most, where that has at most twenty digits
pub decimal_up_to : (most n : ℕ) → most < 10 ^ 20 → n ≤ most → is_up_to most (decimal_of n) ≡ true
decimal_up_to most n h k =
    let small : n < 10 ^ 20 = omega (arith, h, k) in
    rw (decimal_numeral n small, decimal_said n small, le-leb n most k)

-- no space and no newline stands in it; a space behind it ends the field
pub decimal_lacks : (c : ℕ) → c < 48 → (n : ℕ) → Lacks c (decimal_of n)
decimal_lacks c low n = digits_lack c low (decimal_of n) (decimal_digits n)

module _ (n : ℕ) (rest : List ℕ) where
  pub field_before : before space (decimal_of n ++ space ∷ rest) ≡ decimal_of n
  field_before = before_it space (decimal_of n) rest (decimal_lacks space (omega arith) n)

  pub field_behind : behind space (decimal_of n ++ space ∷ rest) ≡ rest
  field_behind = behind_it space (decimal_of n) rest (decimal_lacks space (omega arith) n)

  pub field_lacks : Lacks newline rest → Lacks newline (decimal_of n ++ space ∷ rest)
  field_lacks h = lacks_append newline (decimal_of n) (space ∷ rest) (decimal_lacks newline (omega arith) n) (refl, h)
