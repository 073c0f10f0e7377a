-- What the block readers answer to a direct caller, and the parts that they hand back.
use Rattle.std.specs.Prelude.{ℕ, ◌+◌, ◌*◌, Bool, true, false, cond, List, [], length, take, drop, eqb, leb}
use Rattle.numbers.specs.Numbers.{list_below}
use Rattle.schedule.specs.Types.{Reading, Refused, Accepted, FirstBlock, FirstRefused, Start, Entry, Fields, Block, BlockRefused, Entries}
use Rattle.schedule.specs.File.{start_n, start_s, start_v, first_number, place_with, kind, process, value, count, later_number, no_entry, meant}

-- block 0 is refused by this number, with the place that goes with it
abbrev pub first_refused : ℕ → List ℕ → FirstBlock
first_refused n b = FirstRefused n (place_with n b)

-- what block 0 says. A list that is not 512 bytes long is no block: by 1, as a file of such a length.
unfoldable pub first_of : List ℕ → ℕ → FirstBlock
first_of b after =
    cond (eqb (length b) 512)
    (cond (eqb (first_number b after) 0) (Start (start_n b) (start_s b) (start_v b)) (first_refused (first_number b after) b))
    (FirstRefused 1 0)

-- what a later block says. A list that is not 512 bytes long is no block: by 1, as a file of such a length.
unfoldable pub later_of : List ℕ → ℕ → Block
later_of b k =
    cond (eqb (length b) 512)
    (cond (eqb (later_number b k) 0) (Entries (count b)) (BlockRefused (later_number b k)))
    (BlockRefused 1)

-- the bytes of the entries that the count speaks of, whether the block is accepted or not; none where they don't fit
unfoldable pub used_part : List ℕ → List ℕ
used_part b = cond (leb (4 + 12 * count b) (length b)) (take (12 * count b) (drop 4 b)) []

-- "The entry bytes of an accepted block are handed back as that part of the lent file, not as a copy; for a refused block an
-- empty part is."
unfoldable pub accepted_part : List ℕ → ℕ → List ℕ
accepted_part b k = cond (eqb (length b) 512) (cond (eqb (later_number b k) 0) (used_part b) []) []

-- entry j of such a part: twelve bytes from place 12j on
unfoldable pub entry_at : List ℕ → ℕ → Entry
entry_at p j = cond (leb (12 * j + 12) (length p)) (meant (take 12 (drop (12 * j) p))) no_entry

-- "Entry: byte 0 the kind .., byte 1 the process, .. 4 to 11 the value for SC": its fields, as they stand in its twelve bytes
abbrev pub fields_of : List ℕ → Fields
fields_of e = record { kind = kind e; process = process e; value = value e }

-- where no entry stands: the fields of a step of process 255, as no_entry
abbrev pub no_fields : Fields
no_fields = record { kind = 4; process = 255; value = 0 }

-- the fields of entry j of such a part
unfoldable pub fields_at : List ℕ → ℕ → Fields
fields_at p j = cond (leb (12 * j + 12) (length p)) (fields_of (take 12 (drop (12 * j) p))) no_fields

-- the first n entries that stand in such a part
unfoldable pub part_entries : List ℕ → ℕ → List Entry
part_entries part n = list_below n (λ j. entry_at part j)

-- whether a reading is of an accepted file
abbrev pub is_accepted : Reading → Bool
is_accepted (Refused n k place) = false
is_accepted (Accepted n s v c) = true
