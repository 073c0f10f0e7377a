-- The decimal of a number: how it grows by a digit, how long it is, and that it says the number, in digits, with no zero before them.
-- Assumes nothing.
use Prim.Native.Nat.{ℕ, zero, suc, ◌+◌, ◌-◌, ◌*◌, ◌^◌, ◌/◌, ◌%◌, ◌≤◌, ◌<◌}
use mathlib.Core.Path.{◌≡◌, refl}
use mathlib.Core.Bool.{Bool, true, false, cond}
use mathlib.Core.List.{List, [], ◌∷◌, ◌++◌}
use native.Mathlib.Nat.{pow-suc, one-le-pow}
use native.Mathlib.Decide.{dec_lt}
use native.Mathlib.Omega.{arith}
use borrow.Author.Tests.{lt-ltb, le-ltb}
use lib.Dec.{ltb, lit<}
use lib.ListN.{length, get_or, length-append, get_or-append}
use lib.Seq.{get_or-append_seam}
use Rattle.text.specs.Decimal.{digits_of, decimal_of, said_from, said}

-- the digits before the last one
abbrev before : ℕ → ℕ → List ℕ
before most n = cond (ltb n 10) [] (digits_of most (n / 10))

digits_step : (most n : ℕ) → digits_of (suc most) n ≡ before most n ++ ((48 + n % 10) ∷ [])
unfolding digits_of
digits_step most n = refl

tenth : (most n : ℕ) → n < 10 ^ suc most → n / 10 < 10 ^ most
tenth most n h = let e : 10 ^ suc most ≡ 10 ^ most * 10 = pow-suc 10 most in omega (arith, h, e)

-- where a number of digits is enough, one more changes nothing
digits_same : (most n : ℕ) → n < 10 ^ suc most → digits_of (suc most) n ≡ digits_of (suc (suc most)) n
digits_same zero n h = rw (digits_step 0 n, digits_step 1 n, lt-ltb n 10 h)
digits_same (suc most) n h =
    rw (digits_step (suc most) n, digits_step (suc (suc most)) n, digits_same most (n / 10) (tenth (suc most) n h))

pub decimal_first : (n : ℕ) → n < 10 → decimal_of n ≡ (48 + n % 10) ∷ []
unfolding decimal_of
decimal_first n h = rw (digits_step 19 n, lt-ltb n 10 h)

pub decimal_more : (n : ℕ) → 10 ≤ n → n < 10 ^ 20 → decimal_of n ≡ decimal_of (n / 10) ++ ((48 + n % 10) ∷ [])
unfolding decimal_of
decimal_more n h k = rw (digits_step 19 n, le-ltb n 10 h, digits_same 18 (n / 10) (tenth 19 n k))

-- and their lengths
pub decimal_first_length : (n : ℕ) → n < 10 → length (decimal_of n) ≡ 1
decimal_first_length n h = rw (decimal_first n h)

pub decimal_more_length : (n : ℕ) → 10 ≤ n → n < 10 ^ 20 → length (decimal_of n) ≡ length (decimal_of (n / 10)) + 1
decimal_more_length n h k = rw (decimal_more n h k) (length-append (decimal_of (n / 10)) _)

-- a number from a power of ten on, and below the next, has one digit more than the power
pub power_length : (k n : ℕ) → 10 ^ k ≤ n → n < 10 * 10 ^ k → n < 10 ^ 20 → length (decimal_of n) ≡ k + 1
power_length zero n low high small = decimal_first_length n (omega (arith, high))
power_length (suc k) n low high small =
    let e : 10 ^ suc k ≡ 10 ^ k * 10 = pow-suc 10 k in
    let one : 1 ≤ 10 ^ k = one-le-pow k 10 (lit< tt) in
    rw (decimal_more_length n (omega (arith, low, e, one)) small, power_length k (n / 10) (omega (arith, low, e)) (omega (arith, high, e)) (omega (arith, small)))
    (omega arith)

digits_length : (most n : ℕ) → length (digits_of most n) ≤ most
unfolding digits_of
digits_length zero n = omega arith
digits_length (suc most) n = rw (length-append) (go (ltb n 10) (digits_length most (n / 10)))
  where
    go : (t : Bool) → length (digits_of most (n / 10)) ≤ most → length (cond t [] (digits_of most (n / 10))) + 1 ≤ suc most
    go true h = omega arith
    go false h = omega (arith, h)

pub decimal_length : (n : ℕ) → length (decimal_of n) ≤ 20
unfolding decimal_of
decimal_length n = digits_length 20 n

-- what digits say grows with each one more behind them
said_more : (first digit : ℕ) (digits : List ℕ) → said_from first (digits ++ (digit ∷ [])) ≡ 10 * said_from first digits + (digit - 48)
unfolding said_from
said_more first digit [] = refl
said_more first digit (d ∷ digits) = said_more (10 * first + (d - 48)) digit digits

-- those before the last one say a tenth, so all of them say the number
last_said : (most n : ℕ) → said (before most n) ≡ n / 10 → said (digits_of (suc most) n) ≡ n
last_said most n e = rw (digits_step most n, said_more 0 (48 + n % 10) (before most n), e) (omega arith)

before_said : (most n : ℕ) → (10 ≤ n → said (digits_of most (n / 10)) ≡ n / 10) → said (before most n) ≡ n / 10
unfolding said_from
before_said most n f = go (dec_lt n 10)
  where
    go : Dec (n < 10) → said (before most n) ≡ n / 10
    go (yes l) = rw (lt-ltb n 10 l) (omega (arith, l))
    go (no g) = let h : 10 ≤ n = omega (arith, g) in rw (le-ltb n 10 h) (f h)

digits_said : (most n : ℕ) → n < 10 ^ suc most → said (digits_of (suc most) n) ≡ n
digits_said zero n h = last_said 0 n (before_said 0 n (λ k. absurd (omega (arith, h, k))))
digits_said (suc most) n h =
    last_said (suc most) n (before_said (suc most) n (λ k. digits_said most (n / 10) (tenth (suc most) n h)))

-- the decimal of a number says that number
pub decimal_said : (n : ℕ) → n < 10 ^ 20 → said (decimal_of n) ≡ n
unfolding decimal_of
decimal_said n h = digits_said 19 n h

-- it is digits and nothing else: bytes 48 to 57
pub record Digit (b : ℕ) : Type 0 where
  pub low : 48 ≤ b
  pub high : b ≤ 57

last_digit : (n : ℕ) → Digit (48 + n % 10)
last_digit n = record { low = omega arith; high = omega arith }

-- what holds of each byte of a list, and of one more
each_more : (P : ℕ → Type 0) (bytes : List ℕ) (b i : ℕ) → (i < length bytes → P (get_or bytes i 0)) → P b → i < length bytes + 1
    → P (get_or (bytes ++ (b ∷ [])) i 0)
each_more P bytes b i f p h = go (dec_lt i (length bytes))
  where
    go : Dec (i < length bytes) → P (get_or (bytes ++ (b ∷ [])) i 0)
    go (yes l) = rw (get_or-append bytes (b ∷ []) 0 i l) (f l)
    go (no g) = let e : i ≡ length bytes = omega (arith, g, h) in rw (e, get_or-append_seam bytes b [] 0) p

digits_only : (most n i : ℕ) → i < length (digits_of most n) → Digit (get_or (digits_of most n) i 0)
unfolding digits_of
digits_only zero n i h = absurd (omega (arith, h))
digits_only (suc most) n i h =
    each_more Digit (before most n) (48 + n % 10) i (go (ltb n 10) (digits_only most (n / 10) i)) (last_digit n) (rw length-append at h)
  where
    go : (t : Bool) → (i < length (digits_of most (n / 10)) → Digit (get_or (digits_of most (n / 10)) i 0))
        → i < length (cond t [] (digits_of most (n / 10))) → Digit (get_or (cond t [] (digits_of most (n / 10))) i 0)
    go true f l = absurd (omega (arith, l))
    go false f l = f l

pub decimal_only : (n i : ℕ) → i < length (decimal_of n) → Digit (get_or (decimal_of n) i 0)
unfolding decimal_of
decimal_only n i h = digits_only 20 n i h

-- and begins with no zero, but for the number 0 itself
first_of : (most n : ℕ) → 0 < n → n < 10 ^ suc most → 48 < get_or (digits_of (suc most) n) 0 0
first_of zero n p h = rw (digits_step 0 n, lt-ltb n 10 h) (omega (arith, p, h))
first_of (suc most) n p h = rw (digits_step (suc most) n) (go (dec_lt n 10) (λ k. first_of most (n / 10) (omega (arith, k)) (tenth (suc most) n h)))
  where
    some : (k : ℕ) → 0 < length (digits_of (suc most) k)
    some k = rw (digits_step most k, length-append) (omega arith)

    go : Dec (n < 10) → (10 ≤ n → 48 < get_or (digits_of (suc most) (n / 10)) 0 0) → 48 < get_or (before (suc most) n ++ ((48 + n % 10) ∷ [])) 0 0
    go (yes l) f = rw (lt-ltb n 10 l) (omega (arith, l, p))
    go (no g) f =
        let k : 10 ≤ n = omega (arith, g) in
        rw (le-ltb n 10 k, get_or-append (digits_of (suc most) (n / 10)) ((48 + n % 10) ∷ []) 0 0 (some (n / 10))) (f k)

pub decimal_no_zero : (n : ℕ) → 0 < n → n < 10 ^ 20 → 48 < get_or (decimal_of n) 0 0
unfolding decimal_of
decimal_no_zero n p h = first_of 19 n p h
