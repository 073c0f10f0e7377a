-- Digits read one after another: whether all are digits, and what they say.
-- Assumes nothing.
use Prim.Native.Nat.{ℕ, suc, ◌+◌, ◌-◌, ◌*◌, ◌≤◌, ◌<◌}
use mathlib.Core.Path.{◌≡◌, refl, ap, ◌∙◌}
use mathlib.Core.Bool.{Bool, true, false, cond, ◌&&◌, and-true, and-false}
use mathlib.Core.List.{List, [], ◌∷◌}
use native.Mathlib.Numerals.{add-one}
use native.Mathlib.Omega.{arith}
use borrow.Author.Tests.{le-leb, lt-leb}
use lib.Dec.{leb}
use lib.ListN.{length, get_or, drop, drop_of_length-le}
use lib.Seq.{drop-cons}
use Rattle.std.specs.Prelude.{Result, Ok, Err}
use Rattle.std.specs.List.{list_all}
use Rattle.std.specs.Char.{is_ascii_digit}
use Rattle.text.specs.Decimal.{said, said_from}
use Rattle.writer.specs.Types.{NumeralError, NoNumeral, TooLarge}
use Rattle.writer.specs.Form.{all_digits, front}
use Rattle.writer.specs.Parts.{numeral_of}

-- the library's word for it
pub digits_all : (l : List ℕ) → all_digits l ≡ list_all is_ascii_digit l
unfolding all_digits
digits_all [] = refl
digits_all (b ∷ bs) = rw (digits_all bs)

-- one digit more
module _ (l : List ℕ) (i : ℕ) (h : i < length l) where
  pub digits_next : all_digits (drop i l) ≡ ((leb 48 (get_or l i 0) && leb (get_or l i 0) 57) && all_digits (drop (i + 1) l))
  unfolding all_digits
  digits_next = rw (drop-cons l i 0 h, add-one i)

  pub digit_next : is_ascii_digit (get_or l i 0) ≡ true → all_digits (drop i l) ≡ all_digits (drop (i + 1) l)
  digit_next e = digits_next ∙ rw e

  pub digit_not : is_ascii_digit (get_or l i 0) ≡ false → all_digits (drop i l) ≡ false
  digit_not e = digits_next ∙ rw e

  pub said_next : (v w : ℕ) → w ≡ v * 10 + (get_or l i 0 - 48) → said_from v (drop i l) ≡ said_from w (drop (i + 1) l)
  unfolding said_from
  said_next v w e =
      let k : 10 * v + (get_or l i 0 - 48) ≡ w = omega (arith, e) in
      rw (drop-cons l i 0 h, add-one i) (ap (λ (u : ℕ). said_from u (drop (suc i) l)) k)

-- and none
pub said_end : (l : List ℕ) (i v : ℕ) → length l ≤ i → said_from v (drop i l) ≡ v
unfolding said_from
said_end l i v h = rw (drop_of_length-le l h)

-- more digits never say less
pub said_least : (v : ℕ) (l : List ℕ) → v ≤ said_from v l
unfolding said_from
said_least v [] = omega arith
said_least v (b ∷ bs) = omega (arith, said_least (10 * v + (b - 48)) bs)

pub digits_end : (l : List ℕ) (i : ℕ) → length l ≤ i → all_digits (drop i l) ≡ true
unfolding all_digits
digits_end l i h = rw (drop_of_length-le l h)

-- what a numeral is, where its front is fine: by whether all are digits, and by what they say
module _ (l : List ℕ) where
  pub numeral_front : front l ≡ false → numeral_of l ≡ Err NoNumeral
  unfolding numeral_of
  numeral_front f = rw (f, and-false (all_digits l))

  pub numeral_none : all_digits l ≡ false → numeral_of l ≡ Err NoNumeral
  unfolding numeral_of
  numeral_none d = rw d

  module _ (f : front l ≡ true) where
    pub numeral_small : (v : ℕ) → all_digits l ≡ true → said l ≡ v → v < 18446744073709551616 → numeral_of l ≡ Ok v
    unfolding numeral_of
    numeral_small v d e h = rw (d, f, e, le-leb v 18446744073709551615 (omega (arith, h)))

    pub numeral_large : (rest : List ℕ) (w : ℕ) → said l ≡ said_from w rest → 18446744073709551615 < w
        → numeral_of l ≡ Err (cond (all_digits l) TooLarge NoNumeral)
    unfolding numeral_of
    numeral_large rest w e h =
        rw (f, and-true (all_digits l), lt-leb (said l) 18446744073709551615 (omega (arith, h, e, said_least w rest))) (go (all_digits l))
      where
        go : (t : Bool) → ◌≡◌ {A = Result ℕ NumeralError} (cond t (Err TooLarge) (Err NoNumeral)) (Err (cond t TooLarge NoNumeral))
        go true = refl
        go false = refl
