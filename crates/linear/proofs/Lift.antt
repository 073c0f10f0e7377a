-- The old number plus one, as a natural number: 0 stands for -1. Every other file of this crate speaks of natural numbers.
-- Assumes nothing.
use Prim.Native.Nat.{ℕ, suc, ◌+◌, ◌-◌, ◌≤◌, ◌<◌}
use mathlib.Core.Path.{◌≡◌, refl, sym, subst}
use mathlib.Core.Bool.{Bool, true, false, cond, ◌||◌, false≢true}
use native.Mathlib.Omega.{arith}
use lib.Dec.{T, leb, ltb, eqb}
use lib.IntN.{ℤ, pos, negsuc, sub_ℕ, ◌-ℤ◌}
use lib.Signed.{le_z, lt_z}
use borrow.Author.Tests.{ltb-true, ltb-false, leb-true, leb-false, eqb-true, eqb-false, eq-eqb, le-leb, lt-ltb, le-ltb}
use Rattle.machine.proofs.Tests.{and_left}
use Rattle.step.specs.Steps.{eq_z, is_near, is_old}

abbrev pub lift : ℤ → ℕ
lift (pos n) = suc n
lift (negsuc m) = 0

-- n is k - j just if n + j is k, and -(m + 1) is k - j just if k + (m + 1) is j
pos_is : (n k j : ℕ) → eq_z (pos n) (sub_ℕ k j) ≡ true → n + j ≡ k
pos_is n k j = go (ltb k j) refl
  where
    go : (b : Bool) → ltb k j ≡ b → eq_z (pos n) (cond b (negsuc (j - suc k)) (pos (k - j))) ≡ true → n + j ≡ k
    go true e t = absurd (false≢true t)
    go false e t = omega (arith, ltb-false k j e, eqb-true n (k - j) t)

is_pos : (n k j : ℕ) → n + j ≡ k → eq_z (pos n) (sub_ℕ k j) ≡ true
is_pos n k j h = go (ltb k j) refl
  where
    go : (b : Bool) → ltb k j ≡ b → eq_z (pos n) (cond b (negsuc (j - suc k)) (pos (k - j))) ≡ true
    go true e = absurd (omega (arith, ltb-true k j e))
    go false e = eq-eqb n (k - j) (omega arith)

is_neg : (m k j : ℕ) → k + suc m ≡ j → eq_z (negsuc m) (sub_ℕ k j) ≡ true
is_neg m k j h = go (ltb k j) refl
  where
    go : (b : Bool) → ltb k j ≡ b → eq_z (negsuc m) (cond b (negsuc (j - suc k)) (pos (k - j))) ≡ true
    go true e = eq-eqb m (j - suc k) (omega arith)
    go false e = absurd (omega (arith, ltb-false k j e))

or_cases : (a b : Bool) → (a || b) ≡ true → (P : Type 0) → (a ≡ true → P) → (b ≡ true → P) → P
or_cases true b e P f g = f refl
or_cases false b e P f g = g e

or_neither : (a b : Bool) → (a || b) ≡ false → (a ≡ true → ⊥) × (b ≡ true → ⊥)
or_neither true b e = absurd (subst T e tt)
or_neither false true e = absurd (subst T e tt)
or_neither false false e = (λ t. subst T (sym t) tt, λ t. subst T (sym t) tt)

-- Step 3's test passes: the old number is below k.
pub guard_low : (o : ℤ) (k : ℕ) → is_near o k ≡ true → lift o ≤ k
guard_low (negsuc m) k e = omega arith
guard_low (pos n) k e =
    or_cases (eq_z (pos n) (pos k -ℤ pos 2)) (eq_z (pos n) (pos k -ℤ pos 1)) e (suc n ≤ k)
    (λ t. omega (arith, pos_is n k 2 t))
    (λ t. omega (arith, pos_is n k 1 t))

-- It fails, for an old number not below -1 nor below k - 2: then the old number is not below k.
pub guard_high : (o : ℤ) (k s : ℕ) → is_old o s ≡ true → k ≤ lift o + 1 → is_near o k ≡ false → k < lift o
guard_high (negsuc m) k s old near e = absurd (go (eqb k 0) refl)
  where
    none : m ≡ 0
    none = omega (arith, leb-true m 0 (and_left (le_z (negsuc 0) (negsuc m)) (le_z (negsuc m) (pos s)) old))

    apart : (eq_z (negsuc m) (pos k -ℤ pos 2) ≡ true → ⊥) × (eq_z (negsuc m) (pos k -ℤ pos 1) ≡ true → ⊥)
    apart = or_neither (eq_z (negsuc m) (pos k -ℤ pos 2)) (eq_z (negsuc m) (pos k -ℤ pos 1)) e

    go : (b : Bool) → eqb k 0 ≡ b → ⊥
    go true t = apart.1 (is_neg m k 1 (omega (arith, eqb-true k 0 t, none)))
    go false t = apart.0 (is_neg m k 2 (omega (arith, eqb-false k 0 t, none)))
guard_high (pos n) k s old near e = go (leb k n) refl (eqb k (n + 1)) refl
  where
    apart : (eq_z (pos n) (pos k -ℤ pos 2) ≡ true → ⊥) × (eq_z (pos n) (pos k -ℤ pos 1) ≡ true → ⊥)
    apart = or_neither (eq_z (pos n) (pos k -ℤ pos 2)) (eq_z (pos n) (pos k -ℤ pos 1)) e

    go : (b : Bool) → leb k n ≡ b → (b' : Bool) → eqb k (n + 1) ≡ b' → k < suc n
    go true t b' t' = omega (arith, leb-true k n t)
    go false t true t' = absurd (apart.1 (is_pos n k 1 (omega (arith, eqb-true k (n + 1) t'))))
    go false t false t' = absurd (apart.0 (is_pos n k 2 (omega (arith, leb-false k n t, eqb-false k (n + 1) t'))))

-- what step 10 writes
pub lift_two_less : (k : ℕ) → 1 ≤ k → suc (lift (pos k -ℤ pos 2)) ≡ k
lift_two_less k h = go (ltb k 2) refl
  where
    go : (b : Bool) → ltb k 2 ≡ b → suc (lift (cond b (negsuc (2 - suc k)) (pos (k - 2)))) ≡ k
    go true e = omega (arith, ltb-true k 2 e)
    go false e = omega (arith, ltb-false k 2 e)

-- P10's form. An old number not below -1, and k at most two above it: then it is not below k - 2, ..
pub not_two_below : (o : ℤ) (k s : ℕ) → is_old o s ≡ true → k ≤ lift o + 1 → le_z (pos k -ℤ pos 2) o ≡ true
not_two_below (pos n) k s old low = go (ltb k 2) refl
  where
    go : (b : Bool) → ltb k 2 ≡ b → le_z (cond b (negsuc (2 - suc k)) (pos (k - 2))) (pos n) ≡ true
    go true e = refl
    go false e = le-leb (k - 2) n (omega (arith, ltb-false k 2 e))
not_two_below (negsuc m) k s old low = go (ltb k 2) refl
  where
    go : (b : Bool) → ltb k 2 ≡ b → le_z (cond b (negsuc (2 - suc k)) (pos (k - 2))) (negsuc m) ≡ true
    go true e = le-leb m (2 - suc k) (omega (arith, leb-true m 0 (and_left (le_z (negsuc 0) (negsuc m)) (le_z (negsuc m) (pos s)) old), low))
    go false e = absurd (omega (arith, ltb-false k 2 e, low))

-- .. and step 3's test asks only whether it is below k.
pub near_is_below : (o : ℤ) (k s : ℕ) → is_old o s ≡ true → k ≤ lift o + 1 → is_near o k ≡ lt_z o (pos k)
near_is_below o k s old low = go (is_near o k) refl
  where
    below : (o : ℤ) → lift o ≤ k → true ≡ lt_z o (pos k)
    below (pos n) l = sym (lt-ltb n k l)
    below (negsuc m) l = refl

    above : (o : ℤ) → k < lift o → false ≡ lt_z o (pos k)
    above (pos n) l = sym (le-ltb n k (omega (arith, l)))
    above (negsuc m) l = absurd (omega (arith, l))

    go : (b : Bool) → is_near o k ≡ b → b ≡ lt_z o (pos k)
    go true e = below o (guard_low o k e)
    go false e = above o (guard_high o k s old low e)
