-- The number, the block and the place of a refused file are small.
-- Assumes nothing.
use Prim.Native.Nat.{ℕ, zero, suc, ◌+◌, ◌≤◌}
use mathlib.Core.Path.{◌≡◌, refl}
use mathlib.Core.Bool.{Bool, true, false, cond, not}
use mathlib.Core.List.{List}
use native.Mathlib.Omega.{arith}
use lib.Dec.{eqb}
use lib.ListN.{length, get_or}
use Rattle.numbers.specs.Numbers.{in_range_n, in_range_s, number_unless, first_found, first_below, range_number}
use Rattle.schedule.specs.File.{check_fine, place_fine, block_number, start_n, start_s, later_blocks, first_clear, first_rest, first_number, stray_of, first_stray, place_with, later_fine, later_number, length_fine, block_at, blocks_after, found, found_in_first, in_turn, accepted_as, reading}
use Rattle.schedule.specs.Types.{Reading, Refused, Accepted}
use Rattle.schedule.proofs.AcceptedFile.{length_blocks}

abbrev pub Low : Reading → Type 0
Low (Refused n k place) = (n ≤ 19) × (k ≤ 127) × (place ≤ 509)
Low (Accepted n s v c) = Unit {0}

-- the first of two small numbers is small, and what a test gives
first_low : (m n rest : ℕ) → n ≤ m → rest ≤ m → first_found n rest ≤ m
first_low m n rest l h = go (eqb n 0)
  where
    go : (t : Bool) → cond t rest n ≤ m
    go true = h
    go false = l

unless_low : (m : ℕ) (fine : Bool) (n : ℕ) → n ≤ m → number_unless fine n ≤ m
unless_low m true n l = omega arith
unless_low m false n l = l

block_low : (b : List ℕ) (k rest : ℕ) → rest ≤ 19 → block_number b k rest ≤ 19
block_low b k rest l =
    first_low 19 _ _ (unless_low 19 (check_fine b) 2 (omega arith)) (first_low 19 _ _ (unless_low 19 (place_fine b k) 3 (omega arith)) l)

number_low : (b : List ℕ) (after : ℕ) → first_number b after ≤ 19
unfolding first_number
number_low b after =
    block_low b 0 (first_rest b after)
    (first_low 19 (range_number (start_n b) (record { 0 = start_s b })) _
    (first_low 19 _ _ (unless_low 19 (in_range_n (start_n b)) 16 (omega arith)) (unless_low 19 (in_range_s (record { 0 = start_s b })) 17 (omega arith)))
    (first_low 19 _ _ (unless_low 19 (eqb (later_blocks b) after) 18 (omega arith)) (unless_low 19 (first_clear b) 19 (omega arith))))

-- a place stands within the bytes that are looked at
stray_low : (b : List ℕ) (p n m : ℕ) → p + n ≤ m + 1 → stray_of b p n ≤ m
unfolding stray_of
stray_low b p zero m h = omega arith
stray_low b p (suc n) m h =
    first_low m (first_below n (λ i. number_unless (eqb (get_or b (p + i) 0) 0) (p + i))) _
    (stray_low b p n m (omega arith)) (unless_low m (eqb (get_or b (p + n) 0) 0) (p + n) (omega arith))

place_low : (number : ℕ) (b : List ℕ) → place_with number b ≤ 509
place_low number b = go (eqb number 19)
  where
    stray : first_stray b ≤ 509
    stray = first_low 509 _ _ (unless_low 509 (eqb (get_or b 3 0) 0) 3 (omega arith)) (stray_low b 18 492 509 (omega arith))

    go : (t : Bool) → cond t (first_stray b) 0 ≤ 509
    go true = stray
    go false = omega arith

found_low : (n k place : ℕ) (rest : Reading) → n ≤ 19 → k ≤ 127 → place ≤ 509 → Low rest → Low (found n k place rest)
found_low n k place rest l h m low = go (eqb n 0)
  where
    go : (t : Bool) → Low (cond t rest (Refused n k place))
    go true = low
    go false = (l, h, m)

turn_low : (f : List ℕ) (k n : ℕ) (rest : Reading) → k + n ≤ 128 → Low rest → Low (in_turn f k n rest)
unfolding in_turn later_number
turn_low f k zero rest l low = low
turn_low f k (suc n) rest l low =
    let b = block_at f k in
    found_low (later_number b k) k 0 (in_turn f (k + 1) n rest)
    (block_low b k (number_unless (later_fine b) 5) (unless_low 19 (later_fine b) 5 (omega arith))) (omega arith) (omega arith)
    (turn_low f (k + 1) n rest (omega arith) low)

pub reading_low : (f : List ℕ) → Low (reading f)
unfolding reading
reading_low f = go (length_fine (length f)) refl
  where
    b : List ℕ
    b = block_at f 0

    number : ℕ
    number = first_number b (blocks_after f)

    go : (t : Bool) → length_fine (length f) ≡ t
        → Low (cond (not t) (Refused 1 0 0) (found_in_first b number (in_turn f 1 (blocks_after f) (accepted_as f))))
    go true e =
        found_low number 0 (place_with number b) (in_turn f 1 (blocks_after f) (accepted_as f)) (number_low b (blocks_after f)) (omega arith) (place_low number b)
        (turn_low f 1 (blocks_after f) (accepted_as f) (omega (arith, (length_blocks (length f) e).1)) tt)
    go false e = (omega arith, omega arith, omega arith)
