-- Document 02, P2: what is proved of the numbers and the place that block 0 is refused with.
use Rattle.std.specs.Prelude.{ℕ, ◌<◌, Bool, true, cond, not, ◌&&◌, ◌||◌, List, ◌≢◌, ◌≡◌, eqb, leb, get_or}
use Rattle.numbers.specs.Numbers.{in_range}
use Rattle.schedule.specs.Types.{Reading, Refused, Accepted}
use Rattle.schedule.specs.File.{check_fine, place_fine, start_n, start_s, later_blocks, first_clear, block_at, blocks_after, reading_with, reading}

-- "byte 3 zero, .. 18 to 509 zero": the places of block 0 at which a byte must be zero
abbrev pub must_be_zero : ℕ → Bool
must_be_zero i = eqb i 3 || (leb 18 i && leb i 509)

-- the place is that of a byte of block 0 that must be zero and isn't, and no such byte stands before it
pub record FirstStrayAt (b : List ℕ) (place : ℕ) : Type 0 where
  pub asked : must_be_zero place ≡ true
  pub stray : get_or b place 0 ≢ 0
  pub first : (i : ℕ) → i < place → must_be_zero i ≡ true → get_or b i 0 ≡ 0

-- the numbers that a file is refused with when it is read: 4 is not among them, and 6 comes after the reading
abbrev pub file_number : ℕ → Bool
file_number n = eqb n 1 || (eqb n 2 || (eqb n 3 || (eqb n 5 || (leb 16 n && leb n 19))))

-- of every refused file
pub record StrayPlaces : Type 0 where
  pub number : (f : List ℕ) (n k place : ℕ) → reading f ≡ Refused n k place → file_number n ≡ true
  pub stray : (f : List ℕ) (k place : ℕ) → reading f ≡ Refused 19 k place → (k ≡ 0) × FirstStrayAt (block_at f 0) place
  pub none : (f : List ℕ) (n k place : ℕ) → reading f ≡ Refused n k place → n ≢ 19 → place ≡ 0

-- document 01's number by document 02's: "4 is no longer given. In its place .. come 16 (N), 17 (S), 18 (block count) and 19"
abbrev pub old_number : ℕ → ℕ
old_number n = cond (leb 16 n && leb n 19) 4 n

abbrev pub as_before : Reading → Reading
as_before (Refused n k place) = Refused (old_number n) k 0
as_before (Accepted n s v c) = Accepted n s v c

-- document 01: "4 | N or S out of range, block count not that of the file, or a stray byte in block 0": none of these
abbrev pub old_fine : List ℕ → ℕ → Bool
old_fine b after = in_range (start_n b) (record { 0 = start_s b }) && (eqb (later_blocks b) after && first_clear b)

-- document 01: "block 0 by 2, 3, 4": the number that refused it, or 0
abbrev pub old_first : List ℕ → ℕ → ℕ
old_first b after = cond (not (check_fine b)) 2 (cond (not (place_fine b 0)) 3 (cond (not (old_fine b after)) 4 0))

-- Read with the old number, every file is refused where document 01 refused it, with the same number and block, and nowhere else.
abbrev pub AsBefore : Type 0
AsBefore = (f : List ℕ) → as_before (reading f) ≡ reading_with (old_first (block_at f 0) (blocks_after f)) f
