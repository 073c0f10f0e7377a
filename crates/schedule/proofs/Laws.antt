-- Laws of the definitions, for the proofs beside this file and for the floors above.
-- Assumes nothing.
use mathlib.Core.Path.{◌≡◌, refl, ◌∙◌}
use mathlib.Core.Bool.{◌&&◌}
use mathlib.Core.List.{List}
use Prim.Native.Nat.{ℕ, zero, suc, ◌+◌, ◌-◌, ◌*◌, ◌/◌, ◌≤◌, ◌<◌}
use native.Mathlib.Nat.{zero-add, add-zero, add-suc, mul-zero, mul-suc, mul-le-mul}
use native.Mathlib.Decide.{dec_lt}
use native.Mathlib.Omega.{arith}
use borrow.Author.Tests.{ne_eqb}
use lib.ListN.{length, get_or, take, drop, length-drop, get_or-eq_default}
use lib.Seq.{length-take-le, get_or-take, get_or-drop, drop-drop}
use lib.Dec.{eqb}
use Rattle.std.specs.Simd.{first_chunks}
use Rattle.numbers.specs.Numbers.{number_at, all_below}
use Rattle.numbers.proofs.Below.{all_front}
use Rattle.schedule.specs.File.{zeros_of, weighed, stray_of}

-- a sum is zero where both its parts are
pub eqb_sum : (a x : ℕ) → eqb (a + x) 0 ≡ (eqb a 0 && eqb x 0)
eqb_sum zero x = rw (zero-add x)
eqb_sum (suc a) x = rw (ne_eqb (suc a + x) 0 (λ e. omega arith), ne_eqb (suc a) 0 (λ e. omega arith))

-- and a multiple where what is multiplied is
eqb_scaled : (k x : ℕ) → 0 < k → eqb (k * x) 0 ≡ eqb x 0
eqb_scaled k zero h = rw (mul-zero k)
eqb_scaled k (suc x) h = rw (ne_eqb (k * suc x) 0 (λ e. omega (arith, mul-suc k x)), ne_eqb (suc x) 0 (λ e. omega arith))

-- a number is zero where its bytes are
pub number_zero : (b : List ℕ) (p n : ℕ) → eqb (number_at b p n) 0 ≡ zeros_of b p n
unfolding zeros_of
number_zero b p zero = refl
number_zero b p (suc n) =
    let place : (i : ℕ) → p + suc i ≡ p + 1 + i = λ i. omega arith in
    rw (
      eqb_sum,
      eqb_scaled 256 (number_at b (p + 1) n) (omega arith),
      number_zero b (p + 1) n,
      all_front n (λ i. eqb (get_or b (p + i) 0) 0),
      add-zero p,
    )
    (simp place)

-- a part that lies within a list has as many bytes as were asked for
pub part_length : (l : List ℕ) (at n : ℕ) → at + n ≤ length l → length (take n (drop at l)) ≡ n
part_length l at n h = length-take-le n (drop at l) (simp length-drop (omega arith))

-- one summand of a block's check: a byte with a weight of at most m
pub weight_bound : (m w x : ℕ) → w ≤ m → x < 256 → w * x ≤ m * 255
weight_bound m w x h l = mul-le-mul {n₁ = w} {m₁ = x} {n₂ = m} {m₂ = 255} h (omega arith)

-- past the end of a list there is nothing to add
pub weighed_past : (b : List ℕ) (n m : ℕ) → length b ≤ n → weighed b (n + m) ≡ weighed b n
weighed_past b n zero h = rw (add-zero n)
weighed_past b n (suc m) h =
    let past : length b ≤ n + m = omega arith in
    rw (add-suc n m, weighed_past b n m h, get_or-eq_default b 0 past, mul-zero (n + m + 1), add-zero)

-- zeros, read in the part where they stand
zeros_below : (b : List ℕ) (p n m : ℕ) → m ≤ n
    → all_below m (λ i. eqb (get_or (take n (drop p b)) (0 + i) 0) 0) ≡ all_below m (λ i. eqb (get_or b (p + i) 0) 0)
zeros_below b p n zero h = refl
zeros_below b p n (suc m) h =
    let at : get_or (take n (drop p b)) m 0 ≡ get_or b (p + m) 0 = get_or-take n (drop p b) m 0 (omega arith) ∙ get_or-drop p b m 0 in
    rw (zeros_below b p n m (omega arith), zero-add m, at)

pub zeros_part : (b : List ℕ) (p n : ℕ) → p + n ≤ length b → zeros_of (take n (drop p b)) 0 (length (take n (drop p b))) ≡ zeros_of b p n
unfolding zeros_of
zeros_part b p n h = rw (part_length b p n h) (zeros_below b p n n (omega arith))

-- the first n bytes weigh what they weigh in the whole
weighed_within : (b : List ℕ) (n m : ℕ) → m ≤ n → weighed (take n b) m ≡ weighed b m
weighed_within b n zero h = refl
weighed_within b n (suc m) h = rw (weighed_within b n m (omega arith), get_or-take n b m 0 (omega arith))

pub weighed_take : (b : List ℕ) (n : ℕ) → weighed (take n b) n ≡ weighed b n
weighed_take b n = weighed_within b n n (omega arith)

-- the first byte that is not zero, and none
pub stray_none : (b : List ℕ) (p n : ℕ) → ((k : ℕ) → k < n → get_or b (p + k) 0 ≡ 0) → stray_of b p n ≡ 0
unfolding stray_of
stray_none b p zero h = refl
stray_none b p (suc n) h = rw (stray_none b p n (λ k l. h k (omega arith)), h n (omega arith))

pub stray_first : (b : List ℕ) (p n i : ℕ) → i < n → 0 < p → (get_or b (p + i) 0 ≡ 0 → ⊥) → ((k : ℕ) → k < i → get_or b (p + k) 0 ≡ 0)
    → stray_of b p n ≡ p + i
unfolding stray_of
stray_first b p zero i l pos some first = absurd (omega arith)
stray_first b p (suc n) i l pos some first = go (λ m. stray_first b p n i m pos some first) (dec_lt i n)
  where
    go : (i < n → stray_of b p n ≡ p + i) → Dec (i < n) → stray_of b p (suc n) ≡ p + i
    go below (yes m) = rw (below m, ne_eqb (p + i) 0 (λ e. omega arith))
    go below (no m) =
        let e : n ≡ i = omega (arith, m) in
        rw (e, stray_none b p i first, ne_eqb (get_or b (p + i) 0) 0 some)

-- the chunks that a list is cut into, by their places
chunk_at : (m n : ℕ) (xs : List ℕ) (j : ℕ) (d : List ℕ) → j < n → get_or (first_chunks m n xs) j d ≡ take m (drop (m * j) xs)
chunk_at m zero xs j d h = absurd (omega arith)
chunk_at m (suc n) xs zero d h = rw (mul-zero m)
chunk_at m (suc n) xs (suc j) d h =
    let e : m + m * j ≡ m * suc j = omega (arith, mul-suc m j) in
    chunk_at m n (drop m xs) j d (omega arith) ∙ rw (drop-drop (m * j) m xs, e)

pub chunk_read : (m : ℕ) (f : List ℕ) (cs : List (List ℕ)) (k : ℕ) (d : List ℕ) → cs ≡ first_chunks m (length f / m) f → k < length f / m
    → get_or cs k d ≡ take m (drop (m * k) f)
chunk_read m f cs k d e h = rw e (chunk_at m (length f / m) f k d h)

-- and of those behind the first
pub chunk_behind : (m : ℕ) (f : List ℕ) (cs : List (List ℕ)) (i : ℕ) (d : List ℕ) → cs ≡ first_chunks m (length f / m) f → length cs ≡ length f / m
    → i < length cs - 1 → get_or (take (length cs - 1) (drop 1 cs)) i d ≡ take m (drop (m * (i + 1)) f)
chunk_behind m f cs i d e n h =
    let next : 1 + i ≡ i + 1 = omega arith in
    get_or-take (length cs - 1) (drop 1 cs) i d h
    ∙ get_or-drop 1 cs i d
    ∙ rw next (chunk_read m f cs (i + 1) d e (omega arith))

pub behind_length : (cs : List (List ℕ)) → length (take (length cs - 1) (drop 1 cs)) ≡ length cs - 1
behind_length cs = length-take-le (length cs - 1) (drop 1 cs) (simp length-drop (omega arith))
