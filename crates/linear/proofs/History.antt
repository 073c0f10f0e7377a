-- The changes of the word so far, newest first, and the places of them, counted from the oldest, which is 0.
-- Assumes nothing.
use Prim.Native.Nat.{ℕ, ◌≤◌, ◌<◌}
use mathlib.Core.Path.{◌≡◌, sym, subst}
use mathlib.Core.Logic.{◌⊎◌, inl, inr}
use mathlib.Core.List.{List, [], ◌∷◌}
use native.Mathlib.Omega.{arith}
use lib.ListN.{length}

-- a change: who made it, with which sequence number, to which value
pub record Change : Type 0 where
  pub process : ℕ
  pub number : ℕ
  pub value : ℕ

-- place i of h is change k of p, to value v
abbrev pub At : List Change → ℕ → ℕ → ℕ → ℕ → Type 0
At [] i p k v = ⊥
At (c ∷ h) i p k v = ((i ≡ length h) × (c.process ≡ p) × (c.number ≡ k) × (c.value ≡ v)) ⊎ At h i p k v

-- [11] of two changes of one process the newer has the larger number
abbrev pub Sorted : List Change → Type 0
Sorted [] = Unit {0}
Sorted (c ∷ h) = ((i k v : ℕ) → At h i c.process k v → k < c.number) × Sorted h

-- some place of h is change k of p, to value v
abbrev pub Held : List Change → ℕ → ℕ → ℕ → Type 0
Held h p k v = (i : ℕ) × At h i p k v

pub at_below : (h : List Change) (i p k v : ℕ) → At h i p k v → i < length h
at_below [] i p k v a = absurd a
at_below (c ∷ h) i p k v (inl e) = omega (arith, e.0)
at_below (c ∷ h) i p k v (inr a) = omega (arith, at_below h i p k v a)

-- a newer place of the same process has a larger number
pub at_order : (h : List Change) (i j p k l u v : ℕ) → Sorted h → At h i p k u → At h j p l v → k ≤ l → i ≤ j
at_order [] i j p k l u v s a b le = absurd a
at_order (c ∷ h) i j p k l u v s (inl e) (inl f) le = omega (arith, e.0, f.0)
at_order (c ∷ h) i j p k l u v s (inl e) (inr b) le =
    absurd (omega (arith, e.2, s.0 j l v (subst (λ (q : ℕ). At h j q l v) (sym e.1) b)))
at_order (c ∷ h) i j p k l u v s (inr a) (inl f) le = omega (arith, at_below h i p k u a, f.0)
at_order (c ∷ h) i j p k l u v s (inr a) (inr b) le = at_order h i j p k l u v s.1 a b le

-- one place holds one change
pub record Same (p q k l u v : ℕ) : Type 0 where
  pub process : p ≡ q
  pub number : k ≡ l
  pub value : u ≡ v

pub at_value : (h : List Change) (i p q k l u v : ℕ) → At h i p k u → At h i q l v → Same p q k l u v
at_value [] i p q k l u v a b = absurd a
at_value (c ∷ h) i p q k l u v (inl e) (inl f) = omega (arith, e, f)
at_value (c ∷ h) i p q k l u v (inl e) (inr b) = absurd (omega (arith, e.0, at_below h i q l v b))
at_value (c ∷ h) i p q k l u v (inr a) (inl f) = absurd (omega (arith, f.0, at_below h i p k u a))
at_value (c ∷ h) i p q k l u v (inr a) (inr b) = at_value h i p q k l u v a b

-- one tag has one place
pub at_same : (h : List Change) (i j p k u v : ℕ) → Sorted h → At h i p k u → At h j p k v → i ≡ j
at_same h i j p k u v s a b = omega (arith, at_order h i j p k k u v s a b (omega arith), at_order h j i p k k v u s b a (omega arith))
