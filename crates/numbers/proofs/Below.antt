-- Laws of tests and lists over the numbers below a bound.
use Prim.Native.Nat.{ℕ, zero, suc, ◌<◌}
use mathlib.Core.Path.{◌≡◌, refl, ◌∙◌}
use mathlib.Core.Bool.{Bool, true, ◌&&◌, and-true, and_assoc, and-eq-true_iff}
use mathlib.Core.List.{List, [], ◌∷◌, ◌++◌, map, map-append}
use native.Mathlib.Decide.{dec_lt}
use native.Mathlib.Omega.{arith}
use lib.ListN.{length, get_or, length-append, get_or-append}
use lib.Seq.{get_or_at, ext_get_or}
use Rattle.numbers.specs.Numbers.{all_below, list_below}

-- what holds of every number below n holds of j, and the other way round
pub all_at : (n : ℕ) (f : ℕ → Bool) → all_below n f ≡ true → (j : ℕ) → j < n → f j ≡ true
all_at zero f h j l = absurd (omega arith)
all_at (suc n) f h j l = go ((and-eq-true_iff (all_below n f) (f n)).0 h) (λ g m. all_at n f g j m) (dec_lt j n)
  where
    go : (all_below n f ≡ true) × (f n ≡ true) → (all_below n f ≡ true → j < n → f j ≡ true) → Dec (j < n) → f j ≡ true
    go h below (yes m) = below h.0 m
    go h below (no m) =
        let e : j ≡ n = omega (arith, m) in
        rw e h.1

pub all_intro : (n : ℕ) (f : ℕ → Bool) → ((j : ℕ) → j < n → f j ≡ true) → all_below n f ≡ true
all_intro zero f h = refl
all_intro (suc n) f h = (and-eq-true_iff (all_below n f) (f n)).1 (all_intro n f (λ j l. h j (omega (arith, l))), h n (omega arith))

-- a test of all the numbers below n + 1, from the front
pub all_front : (n : ℕ) (f : ℕ → Bool) → all_below (suc n) f ≡ (f 0 && all_below n (λ j. f (suc j)))
all_front zero f = rw (and-true (f 0))
all_front (suc n) f = rw (all_front n f) (and_assoc (f 0) (all_below n (λ j. f (suc j))) (f (suc n)))

-- a list of f at the numbers below n: how long it is, what stands at each place, and the same list of another function
module _ {A : Type 0} where
  pub listed_length : (n : ℕ) (f : ℕ → A) → length (list_below n f) ≡ n
  listed_length zero f = refl
  listed_length (suc n) f = rw (length-append, listed_length n f) (omega arith)

  pub listed_at : (n : ℕ) (f : ℕ → A) (d : A) (j : ℕ) → j < n → get_or (list_below n f) j d ≡ f j
  listed_at zero f d j h = elim h [ ]
  listed_at (suc n) f d j h = go (λ l. listed_at n f d j l) (dec_lt j n)
    where
      go : (j < n → get_or (list_below n f) j d ≡ f j) → Dec (j < n) → get_or (list_below n f ++ (f n ∷ [])) j d ≡ f j
      go below (yes l) = get_or-append (list_below n f) (f n ∷ []) d j (rw (listed_length n f) l) ∙ below l
      go below (no l) =
          let e : j ≡ n = omega (arith, l) in
          rw e (get_or_at (list_below n f) (f n) [] d n (listed_length n f))

  pub same_below : (n : ℕ) (f g : ℕ → A) → ((j : ℕ) → j < n → f j ≡ g j) → list_below n f ≡ list_below n g
  same_below zero f g h = refl
  same_below (suc n) f g h = rw (same_below n f g (λ j l. h j (omega (arith, l))), h n (omega arith))

  -- the elements of a list, listed by their places, are the list
  pub listed_all : (l : List A) (d : A) → list_below (length l) (λ i. get_or l i d) ≡ l
  listed_all l d =
      let e = listed_length (length l) (λ i. get_or l i d) in
      ext_get_or d (list_below (length l) (λ i. get_or l i d)) l e (λ j h. listed_at (length l) (λ i. get_or l i d) d j (rw e at h))

pub map_below : {A B : Type 0} (f : A → B) (n : ℕ) (g : ℕ → A) → map f (list_below n g) ≡ list_below n (λ j. f (g j))
map_below f zero g = refl
map_below f (suc n) g = rw (map-append, map_below f n g)
