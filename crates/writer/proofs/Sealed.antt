-- A block that is sealed over its first bytes: its length, the bytes and numbers that are read in it, and that its check is right.
-- Assumes nothing.
use Prim.Native.Nat.{ℕ, zero, suc, ◌+◌, ◌-◌, ◌*◌, ◌^◌, ◌%◌, ◌<◌, ◌≤◌}
use mathlib.Core.Path.{◌≡◌, refl, ap, ◌∙◌}
use mathlib.Core.Bool.{true}
use mathlib.Core.List.{List, [], ◌∷◌, ◌++◌}
use native.Mathlib.Nat.{mod-lt, mod-eq_of_lt}
use native.Mathlib.Omega.{arith}
use borrow.Author.Tests.{eq-eqb}
use lib.Dec.{eqb}
use lib.ListN.{length, get_or, replicate, length-append, length-replicate, get_or-append, get_or-eq_default}
use Rattle.numbers.specs.Numbers.{bytes_of, number_at, sum_below}
use Rattle.numbers.proofs.Below.{all_intro}
use Rattle.numbers.proofs.Bytes.{bytes_length, number_back}
use Rattle.schedule.specs.File.{zeros_of, number, weighed, check_of, block_number}
use Rattle.writer.specs.Made.{filled, sealed}

-- sums of the same summands are the same
sum_same : (n : ℕ) (f g : ℕ → ℕ) → ((j : ℕ) → j < n → f j ≡ g j) → sum_below n f ≡ sum_below n g
sum_same zero f g h = refl
sum_same (suc n) f g h = rw (sum_same n f g (λ j l. h j (omega (arith, l))), h n (omega arith))

-- zeros behind a list change nothing that is read in it: past its end stand zeros
zero_at : (n i : ℕ) → get_or {A = ℕ} (replicate n 0) i 0 ≡ 0
zero_at zero i = refl
zero_at (suc n) zero = refl
zero_at (suc n) (suc i) = zero_at n i

zeros_behind : (first : List ℕ) (n i : ℕ) → get_or (first ++ replicate n 0) i 0 ≡ get_or first i 0
zeros_behind [] n i = zero_at n i
zeros_behind (b ∷ first) n zero = refl
zeros_behind (b ∷ first) n (suc i) = zeros_behind first n i

-- a check fits its two bytes
check_small : (b : List ℕ) → check_of b < 65521
unfolding check_of
check_small b = mod-lt (weighed b 510) (omega arith)

module _ (first : List ℕ) (room : length first ≤ 510) where
  filled_length : length (filled first) ≡ 510
  filled_length = rw (length-append, length-replicate) (omega arith)

  pub sealed_length : length (sealed first) ≡ 512
  unfolding sealed
  sealed_length = rw (length-append, filled_length)

  -- before its check stand the first bytes, and zeros behind them
  filled_at : (i : ℕ) → i < 510 → get_or (sealed first) i 0 ≡ get_or (filled first) i 0
  unfolding sealed
  filled_at i l = get_or-append (filled first) (bytes_of 2 (check_of (filled first))) 0 i (rw filled_length l)

  pub sealed_at : (i : ℕ) → i < 510 → get_or (sealed first) i 0 ≡ get_or first i 0
  sealed_at i l = filled_at i l ∙ zeros_behind first (510 - length first) i

  sealed_number : (at width : ℕ) → at + width ≤ 510 → number_at (sealed first) at width ≡ number_at first at width
  sealed_number at zero l = refl
  sealed_number at (suc width) l = rw (sealed_at at (omega arith), sealed_number (at + 1) width (omega arith))

  pub sealed_zeros : (at n : ℕ) → length first ≤ at → at + n ≤ 510 → zeros_of (sealed first) at n ≡ true
  unfolding zeros_of
  sealed_zeros at n h l =
      all_intro n (λ i. eqb (get_or (sealed first) (at + i) 0) 0)
      (λ i m. eq-eqb _ 0 (sealed_at (at + i) (omega (arith, m)) ∙ get_or-eq_default first 0 (omega (arith, m))))

  -- the check is made of the bytes before it, so it is that of the whole block
  check_kept : check_of (sealed first) ≡ check_of (filled first)
  unfolding check_of
  check_kept =
      ap (λ (sum : ℕ). sum % 65521)
      (sum_same 510 (λ i. (i + 1) * get_or (sealed first) i 0) (λ i. (i + 1) * get_or (filled first) i 0)
      (λ i l. ap (λ (byte : ℕ). (i + 1) * byte) (filled_at i l)))

  check_read : number 510 511 (sealed first) ≡ check_of (sealed first)
  unfolding sealed
  check_read =
      let check = check_of (filled first) in
      let back = number_back (filled first) [] 2 check ∙ mod-eq_of_lt (omega (arith, check_small (filled first))) in
      rw check_kept (rw filled_length at back)

  -- a sealed block with its place in bytes 0 and 1 is refused by no number, where the rest of it is as it should be
  pub sealed_fine : (k rest : ℕ) → number_at first 0 2 ≡ k → rest ≡ 0 → block_number (sealed first) k rest ≡ 0
  sealed_fine k rest place e =
      rw (
        eq-eqb (number 510 511 (sealed first)) (check_of (sealed first)) check_read,
        sealed_number 0 2 (omega arith),
        eq-eqb (number_at first 0 2) k place,
        e,
      )

-- a number among the first bytes of a sealed block is read back, if it fits its width
pub sealed_back : (before behind : List ℕ) (width n : ℕ) → length (before ++ (bytes_of width n ++ behind)) ≤ 510 → n < 256 ^ width
    → number_at (sealed (before ++ (bytes_of width n ++ behind))) (length before) width ≡ n
sealed_back before behind width n room h =
    sealed_number (before ++ (bytes_of width n ++ behind)) room (length before) width
    (omega (arith, rw (length-append, length-append, bytes_length) at room))
    ∙ number_back before behind width n
    ∙ mod-eq_of_lt h
