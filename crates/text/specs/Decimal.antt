-- Document 01, "The player": a number "in decimal".
use Rattle.std.specs.Prelude.{ℕ, zero, suc, ◌+◌, ◌-◌, ◌*◌, ◌/◌, ◌%◌, cond, List, [], ◌∷◌, ◌++◌, ltb}

-- The last digit of n stands last; before it stand the digits of n / 10, where there are any. The digit 0 is byte 48. The first
-- number is the most digits that are written.
unfoldable pub digits_of : ℕ → ℕ → List ℕ
digits_of zero n = []
digits_of (suc most) n = cond (ltb n 10) [] (digits_of most (n / 10)) ++ ((48 + n % 10) ∷ [])

-- "Values are 0 to 2^64 - 1": twenty digits are enough for them.
unfoldable pub decimal_of : ℕ → List ℕ
decimal_of n = digits_of 20 n

-- The number that digits say, `first` being what those before them say. Proved: it takes the decimal of a number to the number.
unfoldable pub said_from : ℕ → List ℕ → ℕ
said_from first [] = first
said_from first (digit ∷ digits) = said_from (10 * first + (digit - 48)) digits

abbrev pub said : List ℕ → ℕ
said digits = said_from 0 digits
