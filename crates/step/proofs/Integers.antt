-- Laws of the signed old number, by cases on its sign; every other file speaks of natural numbers.
use Prim.Native.Nat.{ℕ, zero, suc, ◌+◌, ◌-◌, ◌≤◌, ◌<◌}
use mathlib.Core.Path.{◌≡◌, refl, sym, ◌∙◌}
use mathlib.Core.Bool.{Bool, true, false, cond, ◌&&◌, ◌||◌, false≢true}
use native.Mathlib.Omega.{arith}
use native.Mathlib.Decide.{ℕ_discrete}
use lib.Dec.{T, leb, ltb, eqb}
use lib.IntN.{ℤ, pos, negsuc, nat_abs, sub_ℕ}
use lib.Signed.{le_z, lt_z, non_neg}
use mir.Val.{Fits, SFits, to_z, of_z}
use mir.Facts.{to_z-of_z, to_z_pos}
use mir.Syntax.{w64}
use borrow.Author.Tests.{ltb-true, ltb-false, le-leb, leb-true, eq-eqb, ne_eqb, eqb-true}
use Rattle.step.specs.Steps.{eq_z, is_near, is_old}

-- two tests of equality agree where each equation gives the other
pub eqb_same : (a b m n : ℕ) → (a ≡ b → m ≡ n) → (m ≡ n → a ≡ b) → eqb a b ≡ eqb m n
eqb_same a b m n f g = go (ℕ_discrete a b)
  where
    go : Dec (a ≡ b) → eqb a b ≡ eqb m n
    go (yes e) = eq-eqb a b e ∙ sym (eq-eqb m n (f e))
    go (no ne) = ne_eqb a b ne ∙ sym (ne_eqb m n (λ e. ne (g e)))

-- n is k - j exactly if n + j is k
pos_minus : (n k j : ℕ) → eq_z (pos n) (sub_ℕ k j) ≡ eqb (n + j) k
pos_minus n k j = go (ltb k j) refl
  where
    go : (b : Bool) → ltb k j ≡ b → eq_z (pos n) (cond b (negsuc (j - suc k)) (pos (k - j))) ≡ eqb (n + j) k
    go true e = sym (ne_eqb (n + j) k (λ h. omega (arith, ltb-true k j e, h)))
    go false e = eqb_same n (k - j) (n + j) k (λ h. omega (arith, ltb-false k j e, h)) (λ h. omega (arith, ltb-false k j e, h))

-- -(m + 1) is k - j exactly if k + (m + 1) is j
neg_minus : (m k j : ℕ) → eq_z (negsuc m) (sub_ℕ k j) ≡ eqb (k + suc m) j
neg_minus m k j = go (ltb k j) refl
  where
    go : (b : Bool) → ltb k j ≡ b → eq_z (negsuc m) (cond b (negsuc (j - suc k)) (pos (k - j))) ≡ eqb (k + suc m) j
    go true e = eqb_same m (j - suc k) (k + suc m) j (λ h. omega (arith, ltb-true k j e, h)) (λ h. omega (arith, ltb-true k j e, h))
    go false e = sym (ne_eqb (k + suc m) j (λ h. omega (arith, ltb-false k j e, h)))

-- two tests that hold of the same numbers are one
pub or_leb : (a b : Bool) (m n : ℕ) → (a ≡ true → m ≤ n) → (b ≡ true → m ≤ n) → (m ≤ n → (a || b) ≡ true) → leb m n ≡ (a || b)
or_leb true b m n f g h = le-leb m n (f refl)
or_leb false true m n f g h = le-leb m n (g refl)
or_leb false false m n f g h = go (leb m n) refl
  where
    go : (t : Bool) → leb m n ≡ t → t ≡ false
    go true e = sym (h (leb-true m n e))
    go false e = refl

-- Step 3's test, for an old number o: below -2, -2, -1, and from 0 on.
pub near_far : (o : ℤ) (k : ℕ) → lt_z o (negsuc 1) ≡ true → false ≡ is_near o k
near_far (pos n) k e = absurd (false≢true e)
near_far (negsuc m) k e =
    sym
    (rw (neg_minus m k 2, neg_minus m k 1)
    (rw (ne_eqb (k + suc m) 2 (λ h. omega (arith, ltb-true 1 m e, h)), ne_eqb (k + suc m) 1 (λ h. omega (arith, ltb-true 1 m e, h)))))

pub near_two : (o : ℤ) (k : ℕ) → lt_z o (negsuc 1) ≡ false → lt_z o (negsuc 0) ≡ true → eqb k 0 ≡ is_near o k
near_two (pos n) k e f = absurd (false≢true f)
near_two (negsuc m) k e f =
    let one : m ≡ 1 = omega (arith, ltb-false 1 m e, ltb-true 0 m f) in
    rw (neg_minus m k 2, neg_minus m k 1, one)
    (rw (ne_eqb (k + 2) 1 (λ h. omega (arith, h))) (eqb_same k 0 (k + 2) 2 (λ h. omega (arith, h)) (λ h. omega (arith, h)) ∙ sym (or_false (eqb (k + 2) 2))))
  where
    or_false : (b : Bool) → (b || false) ≡ b
    or_false true = refl
    or_false false = refl

-- a number from 0 on is no number below 0
nonneg_not_below : {A : Type 0} (n : ℕ) → lt_z (pos n) (pos 0) ≡ true → A
nonneg_not_below n e = absurd (omega (arith, ltb-true n 0 e))

pub near_one : (o : ℤ) (k : ℕ) → lt_z o (negsuc 0) ≡ false → lt_z o (pos 0) ≡ true → leb k 1 ≡ is_near o k
near_one (pos n) k e f = nonneg_not_below n f
near_one (negsuc m) k e f =
    let none : m ≡ 0 = omega (arith, ltb-false 0 m e) in
    rw (neg_minus m k 2, neg_minus m k 1, none)
    (or_leb (eqb (k + 1) 2) (eqb (k + 1) 1) k 1
    (λ h. omega (arith, eqb-true (k + 1) 2 h))
    (λ h. omega (arith, eqb-true (k + 1) 1 h))
    (λ h. go k h))
  where
    go : (j : ℕ) → j ≤ 1 → (eqb (j + 1) 2 || eqb (j + 1) 1) ≡ true
    go zero h = refl
    go (suc zero) h = refl
    go (suc (suc j)) h = absurd (omega (arith, h))

pub near_behind : (o : ℤ) (k : ℕ) → lt_z o (pos 0) ≡ false → k ≤ nat_abs o → false ≡ is_near o k
near_behind (negsuc m) k e h = absurd (false≢true (sym e))
near_behind (pos n) k e h =
    sym
    (rw (pos_minus n k 2, pos_minus n k 1)
    (rw (ne_eqb (n + 2) k (λ i. omega (arith, h, i)), ne_eqb (n + 1) k (λ i. omega (arith, h, i)))))

pub near_ahead : (o : ℤ) (k : ℕ) → lt_z o (pos 0) ≡ false → nat_abs o < k → leb (k - nat_abs o) 2 ≡ is_near o k
near_ahead (negsuc m) k e h = absurd (false≢true (sym e))
near_ahead (pos n) k e h =
    rw (pos_minus n k 2, pos_minus n k 1)
    (or_leb (eqb (n + 2) k) (eqb (n + 1) k) (k - n) 2
    (λ i. omega (arith, eqb-true (n + 2) k i))
    (λ i. omega (arith, eqb-true (n + 1) k i))
    (λ i. go (ℕ_discrete (n + 2) k) i))
  where
    go : Dec (n + 2 ≡ k) → k - n ≤ 2 → (eqb (n + 2) k || eqb (n + 1) k) ≡ true
    go (yes i) l = rw (eq-eqb (n + 2) k i)
    go (no ne) l = rw (ne_eqb (n + 2) k ne, eq-eqb (n + 1) k (omega (arith, ne)))

-- An old number from 0 on can be read as a natural number.
pub nonneg_cast : (o : ℤ) → SFits w64 o → lt_z o (pos 0) ≡ false → T (non_neg o) × Fits w64 (nat_abs o)
nonneg_cast (pos n) h e = (tt, record { fits = omega (arith, h.sfits) })
nonneg_cast (negsuc m) h e = absurd (false≢true (sym e))

-- The range -1 to s, for an old number below 0 and for one from 0 on.
pub old_below : (o : ℤ) (s : ℕ) → lt_z o (pos 0) ≡ true → le_z (negsuc 0) o ≡ is_old o s
old_below (pos n) s e = nonneg_not_below n e
old_below (negsuc m) s e = go (le_z (negsuc 0) (negsuc m))
  where
    go : (b : Bool) → b ≡ (b && true)
    go true = refl
    go false = refl

pub old_above : (o : ℤ) (s : ℕ) → lt_z o (pos 0) ≡ false → leb (nat_abs o) s ≡ is_old o s
old_above (pos n) s e = refl
old_above (negsuc m) s e = absurd (false≢true (sym e))

-- What is read from the field is what the field holds.
pub read_back : (o : ℤ) → SFits w64 o → to_z w64 (of_z w64 o) ≡ o
read_back o h = to_z-of_z h

-- k - j fits the field for the numbers that a machine can hold.
pub less_fits : (k j : ℕ) → j < 4 → k ≤ 4294967296 → SFits w64 (sub_ℕ k j)
less_fits k j h l = go (ltb k j) refl
  where
    go : (b : Bool) → ltb k j ≡ b → SFits w64 (cond b (negsuc (j - suc k)) (pos (k - j)))
    go true e = record { sfits = omega (arith, ltb-true k j e) }
    go false e = record { sfits = omega arith }

-- A number that a machine can hold is itself as a signed number.
pub read_pos : (k : ℕ) → k ≤ 4294967296 → to_z w64 k ≡ pos k
read_pos k h = to_z_pos w64 (omega arith)
