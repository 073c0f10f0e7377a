-- Laws of tests that several proofs of this crate use.
use Prim.Native.Nat.{ℕ, zero, suc, ◌≤◌}
use mathlib.Core.Path.{◌≡◌, refl, sym, ap, ◌∙◌}
use mathlib.Core.Bool.{Bool, true, false, ◌&&◌, cond}
use mathlib.Core.List.{List}
use native.Mathlib.Omega.{arith}
use lib.ListN.{length, get_or, take}
use Rattle.std.proofs.Common.{add-one}
use Rattle.std.specs.List.{list_all}
use Rattle.std.proofs.lemmas.List.Folds.{list_all_more}
use Rattle.numbers.specs.Numbers.{all_below}

-- what holds of both results of a test holds of its result
pub either_way : {A : Type 0} (P : A → Type 0) (b : Bool) {r r' : A} → P r → P r' → P (cond b r r')
either_way P true h h' = h
either_way P false h h' = h'

-- A test of the first n of a list is the test at every place below n.
pub list_all_take : {A : Type 0} (p : A → Bool) (xs : List A) (d : A) (n : ℕ) → n ≤ length xs → list_all p (take n xs) ≡ all_below n (λ i. p (get_or xs i d))
list_all_take p xs d zero h = refl
list_all_take p xs d (suc n) h =
    ap (λ (k : ℕ). list_all p (take k xs)) (sym (add-one n))
    ∙ list_all_more p xs n d (omega arith)
    ∙ ap (λ (b : Bool). b && p (get_or xs n d)) (list_all_take p xs d n (omega arith))
