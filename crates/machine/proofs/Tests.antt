-- Laws of tests on numbers that several proofs of this crate use.
use Prim.Native.Nat.{ℕ, zero, suc, ◌+◌, ◌-◌, ◌*◌, ◌≤◌, ◌<◌}
use mathlib.Core.Path.{◌≡◌, refl, sym, ap, ◌∙◌, subst}
use native.Mathlib.Nat.{zero-add, add-zero}
use mathlib.Core.Bool.{Bool, true, false, ◌&&◌}
use native.Mathlib.Omega.{arith}
use lib.Dec.{T, leb}
use mir.Val.{Fits}
use mir.Syntax.{w64}
use borrow.Author.Tests.{le-leb, leb-true, leb-false}
use Rattle.std.specs.List.{list_all, range_with_len}
use Rattle.numbers.specs.Numbers.{all_below}
use Rattle.numbers.proofs.Below.{all_front}

-- two tests of order agree where each gives the other
pub leb_same : (a b m n : ℕ) → (a ≤ b → m ≤ n) → (m ≤ n → a ≤ b) → leb a b ≡ leb m n
leb_same a b m n f g = go (leb a b) refl
  where
    go : (t : Bool) → leb a b ≡ t → t ≡ leb m n
    go true e = sym (le-leb m n (f (leb-true a b e)))
    go false e = no_more (leb m n) refl
      where
        no_more : (u : Bool) → leb m n ≡ u → false ≡ u
        no_more true e' = absurd (omega (arith, leb-false a b e, g (leb-true m n e')))
        no_more false e' = refl

-- k - 1 is at most s exactly if k is 1 to s + 1
pub next_range : (k s : ℕ) → (k ≡ 0 → ⊥) → leb (k - 1) s ≡ (leb 1 k && leb k (s + 1))
next_range k s h = rw (le-leb 1 k (omega (arith, h))) (leb_same (k - 1) s k (s + 1) (λ l. omega (arith, l)) (λ l. omega (arith, l)))

-- a row's place in the array can be reckoned
pub row_place : (j : ℕ) → j < 16 → Fits w64 (j * 32)
row_place j h = record { fits = omega arith }

-- Two tests in one: each holds, and both make the one.
pub and_left : (a b : Bool) → (a && b) ≡ true → a ≡ true
and_left true b e = refl
and_left false b e = e

pub and_right : (a b : Bool) → (a && b) ≡ true → b ≡ true
and_right true b e = e
and_right false b e = absurd (subst T (sym e) tt)

pub and_both : (a b : Bool) → a ≡ true → b ≡ true → (a && b) ≡ true
and_both a b e f = rw (e, f)

-- a test of each number of a range from 0 is a test of all the numbers below its end
pub all_of_range : (n : ℕ) (f : ℕ → Bool) → list_all f (range_with_len 0 n) ≡ all_below n f
all_of_range n f = go n f 0 f (λ j. ap f (zero-add j))
  where
    go : (n : ℕ) (f : ℕ → Bool) (a : ℕ) (g : ℕ → Bool) → ((j : ℕ) → f (a + j) ≡ g j) → list_all f (range_with_len a n) ≡ all_below n g
    go zero f a g e = refl
    go (suc n) f a g e =
        let first : f a ≡ g 0 = sym (ap f (add-zero a)) ∙ e 0 in
        let later : (j : ℕ) → f (a + 1 + j) ≡ g (suc j) = λ j. ap f (omega arith) ∙ e (suc j) in
        rw (all_front n g, go n f (a + 1) (λ j. g (suc j)) later, first)
