-- The circle of tags: document 02, P9, "tags run modulo M", and document 001, figures 10 and 13.
use Rattle.std.specs.Prelude.{ℕ, ◌+◌, ◌*◌, ◌%◌, Bool, ◌&&◌, ◌||◌, leb, ltb}
use Rattle.numbers.specs.Numbers.{in_range_n, number_unless, first_found}

-- "D is (2N + 1)N": the length of an interval of tags
abbrev pub interval_of : ℕ → ℕ
interval_of n = (2 * n + 1) * n

-- ".. M, from (2N + 2)D to 4,294,967,296"
abbrev pub in_range_m : ℕ → ℕ → Bool
in_range_m n m = leb ((2 * n + 2) * interval_of n) m && leb m 4294967296

-- "Refusals: 16, then 24 for M out of range": the number that refuses N and M, or 0
abbrev pub sizes_number : ℕ → ℕ → ℕ
sizes_number n m = first_found (number_unless (in_range_n n) 16) (number_unless (in_range_m n m) 24)

-- Figure 10: "the a ⊕ b operation is defined as a + b mod M". Nothing is added up round a circle of no numbers, which no start makes.
unfoldable pub ahead : ℕ → ℕ → ℕ → ℕ
ahead m a k = (a + k) % m

-- Figure 13: "arc(a, b, c, m) returns bool = (b ≤ a < b + c) ∨ (b ≤ a + m < b + c)": whether a is one of the c numbers from b on. It is
-- half open, as document 02 asks ("with its interval half open as the text has it, not closed as printed").
unfoldable pub arc : ℕ → ℕ → ℕ → ℕ → Bool
arc a b c m = (leb b a && ltb a (b + c)) || (leb b (a + m) && ltb (a + m) (b + c))
