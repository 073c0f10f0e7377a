-- The ranges of N and S, and the first number that is found; sums, tests and lists over the numbers below a bound; and numbers as bytes.
use Rattle.std.specs.Prelude.{ℕ, zero, suc, ◌+◌, ◌*◌, ◌/◌, ◌%◌, Bool, ◌&&◌, true, cond, eqb, ltb, leb, List, [], ◌∷◌, ◌++◌, get_or}
use Rattle.numbers.specs.Types.{Process, Sequence}

-- "N is the number of processes, 1 to 16."
abbrev pub in_range_n : ℕ → Bool
in_range_n n = leb 1 n && leb n 16

-- "S is the last usable sequence number, 2 to 4,294,967,295."
abbrev pub in_range_s : Sequence → Bool
in_range_s s = leb 2 s.0 && leb s.0 4294967295

abbrev pub in_range : ℕ → Sequence → Bool
in_range n s = in_range_n n && in_range_s s

-- whose seat among n an entry of process p is given: p's, and for a process that is not there the first
abbrev pub seat_of : ℕ → Process → Process
seat_of n p = cond (ltb p.0 n) p (record { 0 = 0 })

-- the number that is given unless something is fine; 0 stands for nothing found
abbrev pub number_unless : Bool → ℕ → ℕ
number_unless fine n = cond fine 0 n

-- "The first found is given."
abbrev pub first_found : ℕ → ℕ → ℕ
first_found n rest = cond (eqb n 0) rest n

-- Document 02, P2: "in this order, come 16 (N), 17 (S)": the number that refuses N and S, or 0
abbrev pub range_number : ℕ → Sequence → ℕ
range_number n s = first_found (number_unless (in_range_n n) 16) (number_unless (in_range_s s) 17)

-- f 0 + f 1 + .., n summands
abbrev pub sum_below : ℕ → (ℕ → ℕ) → ℕ
sum_below zero f = 0
sum_below (suc n) f = sum_below n f + f n

-- f holds of 0, 1, .. and n - 1
abbrev pub all_below : ℕ → (ℕ → Bool) → Bool
all_below zero f = true
all_below (suc n) f = all_below n f && f n

-- the first that was found of f 0, f 1, .. and f (n - 1), or 0
abbrev pub first_below : ℕ → (ℕ → ℕ) → ℕ
first_below zero f = 0
first_below (suc n) f = first_found (first_below n f) (f n)

-- the list of f 0, f 1, .., n long
abbrev pub list_below {ℓ} : {A : Type ℓ} → ℕ → (ℕ → A) → List A
list_below zero f = []
list_below (suc n) f = list_below n f ++ (f n ∷ [])

-- "Numbers are low byte first, here and in the log": a number in as many bytes as the width says
abbrev pub bytes_of : ℕ → ℕ → List ℕ
bytes_of zero n = []
bytes_of (suc width) n = n % 256 ∷ bytes_of width (n / 256)

-- and read back, from place `at` on
abbrev pub number_at : List ℕ → ℕ → ℕ → ℕ
number_at bytes at zero = 0
number_at bytes at (suc width) = get_or bytes at 0 + 256 * number_at bytes (at + 1) width
