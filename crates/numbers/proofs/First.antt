-- Laws of the first number that is found: when none is, and which one it is.
-- Assumes nothing.
use Prim.Native.Nat.{ℕ, zero, suc, ◌<◌}
use mathlib.Core.Logic.{◌≢◌}
use mathlib.Core.Path.{◌≡◌, refl, sym, ◌∙◌}
use mathlib.Core.Bool.{Bool, true, false, cond, ◌&&◌, and-eq-true_iff}
use native.Mathlib.Decide.{dec_lt}
use native.Mathlib.Omega.{arith}
use borrow.Author.Tests.{eqb-true, eq-eqb, ne_eqb}
use lib.Dec.{eqb}
use Rattle.numbers.specs.Numbers.{in_range_n, in_range_s, in_range, number_unless, first_found, range_number, first_below}
use Rattle.numbers.specs.Types.{Sequence}

-- nothing was found of two where nothing was found of either
pub found_none : (n rest : ℕ) → eqb (first_found n rest) 0 ≡ (eqb n 0 && eqb rest 0)
found_none n rest = go (eqb n 0) refl
  where
    go : (t : Bool) → eqb n 0 ≡ t → eqb (cond t rest n) 0 ≡ (t && eqb rest 0)
    go true e = refl
    go false e = e

pub found_both : (n rest : ℕ) → first_found n rest ≡ 0 → (n ≡ 0) × (rest ≡ 0)
found_both n rest h =
    let both = (and-eq-true_iff (eqb n 0) (eqb rest 0)).0 (sym (found_none n rest) ∙ eq-eqb (first_found n rest) 0 h) in
    (eqb-true n 0 both.0, eqb-true rest 0 both.1)

-- and of a test where it is fine
pub unless_fine : (fine : Bool) (n : ℕ) → 0 < n → number_unless fine n ≡ 0 → fine ≡ true
unless_fine true n h e = refl
unless_fine false n h e = absurd (omega arith)

-- no number refuses N and S where both are in range, and only there
pub range_none : (n : ℕ) (s : Sequence) → eqb (range_number n s) 0 ≡ in_range n s
range_none n s = go (in_range_n n) (in_range_s s)
  where
    go : (t u : Bool) → eqb (first_found (number_unless t 16) (number_unless u 17)) 0 ≡ (t && u)
    go true true = refl
    go true false = refl
    go false u = refl

pub range_zero : (n : ℕ) (s : Sequence) → in_range n s ≡ true → range_number n s ≡ 0
range_zero n s h = eqb-true (range_number n s) 0 (range_none n s ∙ h)

pub range_in : (n : ℕ) (s : Sequence) → range_number n s ≡ 0 → in_range n s ≡ true
range_in n s h = sym (range_none n s) ∙ eq-eqb (range_number n s) 0 h

-- of f 0, f 1, .. nothing was found where each is 0
pub below_none : (n : ℕ) (f : ℕ → ℕ) → first_below n f ≡ 0 → (i : ℕ) → i < n → f i ≡ 0
below_none zero f h i l = absurd (omega arith)
below_none (suc n) f h i l =
    let both = found_both (first_below n f) (f n) h in
    go both.1 (λ m. below_none n f both.0 i m) (dec_lt i n)
  where
    go : f n ≡ 0 → (i < n → f i ≡ 0) → Dec (i < n) → f i ≡ 0
    go last before (yes m) = before m
    go last before (no m) =
        let e : i ≡ n = omega (arith, m) in
        rw e last

-- and else f j was, where f is 0 at each number before j
pub record FoundAt (n : ℕ) (f : ℕ → ℕ) (j : ℕ) : Type 0 where
  pub below : j < n
  pub is : first_below n f ≡ f j
  pub first : (i : ℕ) → i < j → f i ≡ 0

pub below_found : (n : ℕ) (f : ℕ → ℕ) → first_below n f ≢ 0 → (j : ℕ) × FoundAt n f j
below_found zero f h = absurd (h refl)
below_found (suc n) f h = go (λ g. below_found n f g) (dec_lt 0 (first_below n f))
  where
    go : (first_below n f ≢ 0 → (j : ℕ) × FoundAt n f j) → Dec (0 < first_below n f) → (j : ℕ) × FoundAt (suc n) f j
    go more (yes l) =
        let some : first_below n f ≢ 0 = λ e. omega (arith, l, e) in
        let at = more some in
        (at.0, record { below = omega (arith, at.1.below); is = rw (ne_eqb (first_below n f) 0 some) at.1.is; first = at.1.first })
    go more (no l) =
        let none : first_below n f ≡ 0 = omega (arith, l) in
        (n, record { below = omega arith; is = rw none; first = below_none n f none })
