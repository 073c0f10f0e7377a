-- Lists of numbers: what is in them, and how many.
-- Assumes nothing.
use Prim.Native.Nat.{ℕ, suc, ◌+◌, ◌≤◌, ◌<◌}
use mathlib.Core.Path.{◌≡◌, sym, ap, subst}
use mathlib.Core.Bool.{Bool, true, false, cond}
use mathlib.Core.Logic.{◌⊎◌, inl, inr}
use mathlib.Core.List.{List, [], ◌∷◌, ◌++◌, map}
use native.Mathlib.Omega.{arith}
use lib.Dec.{leb}
use lib.ListN.{length}
use borrow.Author.Tests.{le-leb, lt-leb}

abbrev pub In : ℕ → List ℕ → Type 0
In x [] = ⊥
In x (y ∷ ys) = (x ≡ y) ⊎ In x ys

-- those from k on
unfoldable pub from : ℕ → List ℕ → List ℕ
from k [] = []
from k (x ∷ xs) = cond (leb k x) (x ∷ from k xs) (from k xs)

pub in_some : (x : ℕ) (xs : List ℕ) → In x xs → 1 ≤ length xs
in_some x [] h = absurd h
in_some x (y ∷ ys) h = omega arith

-- what is from k on stays in
pub in_from : (k x : ℕ) (xs : List ℕ) → In x xs → k ≤ x → In x (from k xs)
unfolding from
in_from k x [] h l = h
in_from k x (y ∷ ys) (inl e) l = subst (λ (t : Bool). In x (cond t (y ∷ from k ys) (from k ys))) (sym (le-leb k y (omega (arith, e, l)))) (inl e)
in_from k x (y ∷ ys) (inr h) l = go (leb k y) (in_from k x ys h l)
  where
    go : (t : Bool) → In x (from k ys) → In x (cond t (y ∷ from k ys) (from k ys))
    go true i = inr i
    go false i = i

-- and the list only gets shorter, by one at least if something before k was in
from_size : (k : ℕ) (xs : List ℕ) → length (from k xs) ≤ length xs
unfolding from
from_size k [] = omega arith
from_size k (y ∷ ys) = go (leb k y) (from_size k ys)
  where
    go : (t : Bool) → length (from k ys) ≤ length ys → length (cond t (y ∷ from k ys) (from k ys)) ≤ suc (length ys)
    go true h = omega (arith, h)
    go false h = omega (arith, h)

pub from_less : (k x : ℕ) (xs : List ℕ) → In x xs → x < k → length (from k xs) + 1 ≤ length xs
unfolding from
from_less k x [] h l = absurd h
from_less k x (y ∷ ys) (inl e) l =
    subst (λ (t : Bool). length (cond t (y ∷ from k ys) (from k ys)) + 1 ≤ suc (length ys)) (sym (lt-leb k y (omega (arith, e, l)))) (omega (arith, from_size k ys))
from_less k x (y ∷ ys) (inr h) l = go (leb k y) (from_less k x ys h l)
  where
    go : (t : Bool) → length (from k ys) + 1 ≤ length ys → length (cond t (y ∷ from k ys) (from k ys)) + 1 ≤ suc (length ys)
    go true i = omega (arith, i)
    go false i = omega (arith, i)

pub in_map : (f : ℕ → ℕ) (x : ℕ) (xs : List ℕ) → In x xs → In (f x) (map f xs)
in_map f x [] h = h
in_map f x (y ∷ ys) (inl e) = inl (ap f e)
in_map f x (y ∷ ys) (inr h) = inr (in_map f x ys h)

pub in_left : (x : ℕ) (xs ys : List ℕ) → In x xs → In x (xs ++ ys)
in_left x [] ys h = absurd h
in_left x (y ∷ xs) ys (inl e) = inl e
in_left x (y ∷ xs) ys (inr h) = inr (in_left x xs ys h)

pub in_right : (x : ℕ) (xs ys : List ℕ) → In x ys → In x (xs ++ ys)
in_right x [] ys h = h
in_right x (y ∷ xs) ys h = inr (in_right x xs ys h)
