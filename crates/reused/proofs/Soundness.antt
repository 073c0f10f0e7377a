-- What soundness says, fact by fact. The test computes; these records are what proofs use, and each is the same as its test.
use Prim.Native.Nat.{ℕ, ◌+◌, ◌*◌, ◌≤◌, ◌<◌}
use mathlib.Core.Path.{◌≡◌}
use mathlib.Core.Bool.{true}
use mathlib.Core.List.{List}
use native.Mathlib.Nat.{mul-le-mul, mod-lt}
use native.Mathlib.Omega.{arith}
use lib.ListN.{length, get_or, take}
use mir.Syntax.{w64}
use mir.Val.{Fits}
use Rattle.std.proofs.Common.{rules}
use Rattle.std.proofs.lemmas.Grind.{common_steps}
use Rattle.std.specs.List.{list_all}
use Rattle.numbers.specs.Numbers.{in_range_n, all_below}
use Rattle.numbers.proofs.Below.{all_at, all_intro}
use Rattle.reused.specs.Types.{Own, State}
use Rattle.reused.specs.Circle.{interval_of, sizes_number, ahead}
use Rattle.reused.specs.State.{sound_triple, sound_kept, sound_named, sound_load, sound_row, sound_sizes, sound, row_at, no_row}
use Rattle.reused.specs.Frame.{Ready}
use Rattle.reused.proofs.Tests.{list_all_take}

-- N and M in range
pub record Sizes (n m : ℕ) : Type 0 where
  pub some : 1 ≤ n
  pub few : n ≤ 16
  pub low : (2 * n + 2) * interval_of n ≤ m
  pub high : m ≤ 4294967296

pub sizes_of_lem : (n m : ℕ) → sound_sizes n m ≡ true → Sizes n m
unfolding sound_sizes
sizes_of_lem n m e = record { some = search rules; few = search rules; low = search rules; high = search rules }

-- no number refuses N and M where both are in range
pub sizes_fine : (n m : ℕ) → sizes_number n m ≡ 0 → sound_sizes n m ≡ true
unfolding sound_sizes
sizes_fine n m e = grind (arith, common_steps)

-- D is 3 to 528, and M at least four times D.
pub interval_least : (n : ℕ) → 1 ≤ n → 3 ≤ interval_of n
interval_least n h = mul-le-mul {n₁ = 3} {m₁ = 1} {n₂ = 2 * n + 1} {m₂ = n} (omega (arith, h)) h

pub interval_most : (n : ℕ) → n ≤ 16 → interval_of n ≤ 528
interval_most n h = mul-le-mul {n₁ = 2 * n + 1} {m₁ = n} {n₂ = 33} {m₂ = 16} (omega (arith, h)) h

pub circle_least : {n m : ℕ} → Sizes n m → 4 * interval_of n ≤ m
circle_least {n} {m} h =
    let k : 4 * interval_of n ≤ (2 * n + 2) * interval_of n = mul-le-mul {n₁ = 4} {m₁ = interval_of n} {n₂ = 2 * n + 2} {m₂ = interval_of n} (omega (arith, h.some)) (omega arith) in
    omega (arith, k, h.low)

-- An interval is shorter than the circle.
pub interval_below : {n m : ℕ} → Sizes n m → interval_of n < m
interval_below {n} {m} h = omega (arith, circle_least h, interval_least n h.some)

-- It has more than one number.
-- N in range is at most 16, and all that is reckoned of it fits.
pub few_of : (n : ℕ) → in_range_n n ≡ true → n ≤ 16
few_of n e = search rules

pub interval_fits : (n : ℕ) → n ≤ 16 → Fits w64 (interval_of n)
interval_fits n h = record { fits = omega (arith, interval_most n h) }

pub circle_fits : (n : ℕ) → n ≤ 16 → Fits w64 ((2 * n + 2) * interval_of n)
circle_fits n h =
    let k : (2 * n + 2) * interval_of n ≤ 34 * 528 = mul-le-mul {n₁ = 2 * n + 2} {m₁ = interval_of n} {n₂ = 34} {m₂ = 528} (omega (arith, h)) (interval_most n h) in
    record { fits = omega (arith, k) }

pub circle_some : {n m : ℕ} → Sizes n m → 12 ≤ m
circle_some {n} {m} h = omega (arith, circle_least h, interval_least n h.some)

-- Going round never leaves the circle.
pub ahead_below : (m a k : ℕ) → 0 < m → ahead m a k < m
unfolding ahead
ahead_below m a k h = mod-lt (a + k) h

-- one row
pub record SoundOwn (n m : ℕ) (own : Own) : Type 0 where
  pub named : sound_named n m own.named ≡ true
  pub old : sound_kept n m own.old ≡ true
  pub check : sound_kept n m own.check ≡ true
  pub tag : own.tag.0 < m
  pub start : own.start.0 < m
  pub search : own.search.0 < n
  pub load : sound_load own.old own.place ≡ true

pub row_of : (n m : ℕ) (own : Own) → sound_row n m own ≡ true → SoundOwn n m own
row_of n m own e =
    record {
      named = search rules;
      old = search rules;
      check = search rules;
      tag = search rules;
      start = search rules;
      search = search rules;
      load = search rules;
    }

pub row_back : (n m : ℕ) (own : Own) → SoundOwn n m own → sound_row n m own ≡ true
row_back n m own h = search rules

-- the whole state
pub record Sound (st : State) : Type 0 where
  pub range : sound_sizes st.n st.m ≡ true
  pub word : sound_triple st.n st.m st.x ≡ true
  pub each : (p : ℕ) → p < st.n → SoundOwn st.n st.m (row_at st p)

pub sound_of : (st : State) → sound st ≡ true → Sound st
unfolding sound
sound_of st e =
    let all : all_below st.n (λ p. sound_row st.n st.m (row_at st p)) ≡ true = search rules in
    record {
      range = search rules;
      word = search rules;
      each = λ p h. row_of st.n st.m (row_at st p) (all_at st.n (λ p. sound_row st.n st.m (row_at st p)) all p h);
    }

pub sound_back : (st : State) → Sound st → sound st ≡ true
unfolding sound
sound_back st h =
    let all = all_intro st.n (λ p. sound_row st.n st.m (row_at st p)) (λ p l. row_back st.n st.m (row_at st p) (h.each p l)) in
    search rules

-- a state that a run can go on from is sound, fact by fact
pub sure : {st : State} → Ready st → Sound st
sure {st} h = sound_of st h.tested

pub sizes : {st : State} → Sound st → Sizes st.n st.m
sizes {st} h = sizes_of_lem st.n st.m h.range

-- The rows below N are the front of the 16.
pub rows_in_front : (n m : ℕ) (rows : List Own) → sound_sizes n m ≡ true → length rows ≡ 16
    → list_all (sound_row n m) (take n rows) ≡ all_below n (λ p. sound_row n m (get_or rows p no_row))
rows_in_front n m rows range full = list_all_take (sound_row n m) rows no_row n (omega (arith, (sizes_of_lem n m range).few))
