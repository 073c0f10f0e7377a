-- The sum of a block's check in two halves, side by side.
-- Assumes nothing.
use mathlib.Core.Path.{◌≡◌}
use mathlib.Core.List.{List}
use Prim.Native.Nat.{ℕ, zero, suc, ◌+◌, ◌*◌}
use native.Mathlib.Nat.{add-zero, add-suc, add_assoc, mul-zero, mul-add, add-mul}
use native.Mathlib.Numerals.{add-one}
use native.Mathlib.Omega.{arith}
use lib.ListN.{get_or}
use Rattle.numbers.specs.Numbers.{sum_below}
use Rattle.schedule.specs.File.{weighed}

-- the n bytes from place a on, weighed as if they were the first, and plainly added
abbrev pub weighed_from : List ℕ → ℕ → ℕ → ℕ
weighed_from b a n = sum_below n (λ i. (i + 1) * get_or b (a + i) 0)

abbrev pub added_from : List ℕ → ℕ → ℕ → ℕ
added_from b a n = sum_below n (λ i. get_or b (a + i) 0)

-- each of these n bytes weighs a more than that
two_parts : (b : List ℕ) (a n : ℕ) → weighed b (a + n) ≡ weighed b a + (weighed_from b a n + a * added_from b a n)
two_parts b a zero = rw (add-zero a, mul-zero a, add-zero (weighed b a))
two_parts b a (suc n) =
    let x = get_or b (a + n) 0 in
    let weight : (a + n + 1) * x ≡ a * x + (n + 1) * x = rw (add_assoc a n 1) (add-mul a (n + 1) x) in
    let more : a * (added_from b a n + x) ≡ a * added_from b a n + a * x = mul-add a (added_from b a n) x in
    rw (add-suc a n, two_parts b a n, weight, more) (omega arith)

-- one byte more of each half
pub halves_next : (b : List ℕ) (a i sum : ℕ) → sum ≡ weighed b i + weighed_from b a i
    → sum + ((i + 1) * get_or b i 0 + (i + 1) * get_or b (a + i) 0) ≡ weighed b (i + 1) + weighed_from b a (i + 1)
halves_next b a i sum e = rw (add-one i, add-one i, e) (omega arith)

-- both halves are done, and what the second one weighs more is added
pub halves_done : (b : List ℕ) (a i sum more : ℕ) → i ≡ a → sum ≡ weighed b i + weighed_from b a i → more ≡ added_from b a i
    → sum + a * more ≡ weighed b (a + a)
halves_done b a i sum more h e k = rw (e, k, h, two_parts b a a) (add_assoc _ _ _)
