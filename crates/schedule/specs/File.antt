-- Document 01, "The schedule file": what every block has, block 0, the blocks after it, the entries in them, and the file as a whole. A
-- byte is a number of a list; past the end of the list stand zeros. Document 02, P2: the numbers of block 0.
use Rattle.std.specs.Prelude.{ℕ, ◌+◌, ◌-◌, ◌*◌, ◌%◌, zero, suc, ◌/◌, Bool, cond, not, ◌&&◌, ◌||◌, List, [], ◌++◌, get_or, take, drop, length, eqb, leb}
use Rattle.numbers.specs.Numbers.{number_unless, first_found, range_number, first_below, all_below, number_at, sum_below, list_below}
use Rattle.schedule.specs.Types.{Entry, Kind, Ask, Step, Load, Store, Check, Reading, Refused, Accepted}

-- the n bytes from place p on are zero
unfoldable pub zeros_of : List ℕ → ℕ → ℕ → Bool
zeros_of b p n = all_below n (λ i. eqb (get_or b (p + i) 0) 0)

-- a number, and such zeros, from place p to place q, both among them, as document 01 gives its ranges ("4 to 7 S", "18 to 509 zero")
abbrev pub number : ℕ → ℕ → List ℕ → ℕ
number p q b = number_at b p (q + 1 - p)

abbrev pub zeros : ℕ → ℕ → List ℕ → Bool
zeros p q b = zeros_of b p (q + 1 - p)

-- "the sum over places i from 0 to 509 of (i + 1) times byte i"
abbrev pub weighed : List ℕ → ℕ → ℕ
weighed b n = sum_below n (λ i. (i + 1) * get_or b i 0)

-- ".. modulo 65,521"
unfoldable pub check_of : List ℕ → ℕ
check_of b = weighed b 510 % 65521

-- "The check is in bytes 510 and 511": it is right
abbrev pub check_fine : List ℕ → Bool
check_fine b = eqb (number 510 511 b) (check_of b)

-- "Bytes 0 and 1 of each block carry its place in the file, from 0": it is k
abbrev pub place_fine : List ℕ → ℕ → Bool
place_fine b k = eqb (number 0 1 b) k

-- "block 0 by 2, 3, ..; each later block in turn by 2, 3, ..": the number that refuses block k, or 0. What comes third is the number
-- that the rest of the block gives, or 0.
abbrev pub block_number : List ℕ → ℕ → ℕ → ℕ
block_number b k rest = first_found (number_unless (check_fine b) 2) (first_found (number_unless (place_fine b k) 3) rest)

-- "byte 2 is N, .. 4 to 7 S, 8 to 15 V, 16 and 17 the number of blocks after this one"
abbrev pub start_n : List ℕ → ℕ
start_n b = get_or b 2 0

abbrev pub start_s : List ℕ → ℕ
start_s b = number 4 7 b

abbrev pub start_v : List ℕ → ℕ
start_v b = number 8 15 b

abbrev pub later_blocks : List ℕ → ℕ
later_blocks b = number 16 17 b

-- "byte 3 zero, .. 18 to 509 zero": block 0 has no stray byte
abbrev pub first_clear : List ℕ → Bool
first_clear b = eqb (get_or b 3 0) 0 && zeros 18 509 b

-- Document 02, P2: "in this order, come 16 (N), 17 (S), 18 (block count) and 19 (a stray byte)", where `after` blocks follow block 0 in
-- the file
abbrev pub first_rest : List ℕ → ℕ → ℕ
first_rest b after =
    first_found (range_number (start_n b) (record { 0 = start_s b }))
    (first_found (number_unless (eqb (later_blocks b) after) 18) (number_unless (first_clear b) 19))

-- the number that refuses block 0 of a file, or 0
unfoldable pub first_number : List ℕ → ℕ → ℕ
first_number b after = block_number b 0 (first_rest b after)

-- the place of the first of the n bytes from place p on that is not zero, or 0
unfoldable pub stray_of : List ℕ → ℕ → ℕ → ℕ
stray_of b p n = first_below n (λ i. number_unless (eqb (get_or b (p + i) 0) 0) (p + i))

-- "byte 3 zero, .. 18 to 509 zero": the place of the first stray byte of block 0, or 0
abbrev pub first_stray : List ℕ → ℕ
first_stray b = first_found (number_unless (eqb (get_or b 3 0) 0) 3) (stray_of b 18 (509 + 1 - 18))

-- "19 (a stray byte), the last with the place of the first such byte": the place that goes with a number of block 0, which is 0 with
-- every other
abbrev pub place_with : ℕ → List ℕ → ℕ
place_with n b = cond (eqb n 19) (first_stray b) 0

-- "Entry: byte 0 the kind (1 LL, 2 SC, 3 VL request, 4 step), byte 1 the process, .. 4 to 11 the value for SC"
abbrev pub kind : List ℕ → ℕ
kind e = get_or e 0 0

abbrev pub process : List ℕ → ℕ
process e = get_or e 1 0

abbrev pub value : List ℕ → ℕ
value e = number 4 11 e

-- "kind not 1 to 4": it is one of these
abbrev pub kind_fine : List ℕ → Bool
kind_fine e = leb 1 (kind e) && leb (kind e) 4

-- "2 and 3 zero, 4 to 11 the value for SC and zero for other kinds": the entry has no stray byte
abbrev pub entry_clear : List ℕ → Bool
entry_clear e = zeros 2 3 e && (eqb (kind e) 2 || zeros 4 11 e)

abbrev pub entry_fine : List ℕ → Bool
entry_fine e = kind_fine e && entry_clear e

-- an entry of process p that asks this of it
abbrev pub entry_by : ℕ → Kind → Entry
entry_by p what = record { process = record { 0 = p }; kind = what }

-- Where no entry stands: a step of process 255, which no machine has, so that every run turns it away with 11.
abbrev pub no_entry : Entry
no_entry = entry_by 255 Step

-- what the twelve bytes of an entry ask. "A process number of N or more doesn't refuse the file": any process is taken.
unfoldable pub meant : List ℕ → Entry
meant e =
    cond (eqb (kind e) 1) (entry_by (process e) (Ask Load))
    (cond (eqb (kind e) 2) (entry_by (process e) (Ask (Store (value e))))
    (cond (eqb (kind e) 3) (entry_by (process e) (Ask Check))
    (cond (eqb (kind e) 4) (entry_by (process e) Step) no_entry)))

-- "byte 2 is the count c of entries, 0 to 42; .. entries of 12 bytes from byte 4"
abbrev pub count : List ℕ → ℕ
count b = get_or b 2 0

abbrev pub entry_bytes : List ℕ → ℕ → List ℕ
entry_bytes b j = take 12 (drop (4 + 12 * j) b)

-- the first n entries are as they should be
abbrev pub entries_fine : List ℕ → ℕ → Bool
entries_fine b n = all_below n (λ j. entry_fine (entry_bytes b j))

-- "byte 3 zero; .. every byte from 4 + 12c to 509 zero": outside its entries the block has no stray byte
abbrev pub rest_clear : List ℕ → Bool
rest_clear b = eqb (get_or b 3 0) 0 && zeros (4 + 12 * count b) 509 b

-- "5 | count above 42, kind not 1 to 4, or a stray nonzero byte in a later block": none of these
abbrev pub later_fine : List ℕ → Bool
later_fine b = leb (count b) 42 && (entries_fine b (count b) && rest_clear b)

-- the number that refuses block k of a file, where k is not 0, or 0
unfoldable pub later_number : List ℕ → ℕ → ℕ
later_number b k = block_number b k (number_unless (later_fine b) 5)

-- the entries of a block, in order
unfoldable pub block_entries : List ℕ → List Entry
block_entries b = list_below (count b) (λ j. meant (entry_bytes b j))

-- "1 | file length not a multiple of 512, or outside 512 to 65,536": neither of these
abbrev pub length_fine : ℕ → Bool
length_fine n = eqb (n % 512) 0 && (leb 512 n && leb n 65536)

-- "blocks of 512 bytes": block k, and how many there are after block 0
abbrev pub block_at : List ℕ → ℕ → List ℕ
block_at f k = take 512 (drop (512 * k) f)

abbrev pub blocks_after : List ℕ → ℕ
blocks_after f = length f / 512 - 1

-- the entries of the blocks 1 to n, in order
unfoldable pub entries_to : List ℕ → ℕ → List Entry
entries_to f zero = []
entries_to f (suc n) = entries_to f n ++ block_entries (block_at f (suc n))

-- the entries of the file
abbrev pub file_entries : List ℕ → List Entry
file_entries f = entries_to f (blocks_after f)

-- a number that was found in block k is given, with the block and the place; where it is 0 nothing was found, and the reading goes on
abbrev pub found : ℕ → ℕ → ℕ → Reading → Reading
found n k place rest = cond (eqb n 0) rest (Refused n k place)

-- "each later block in turn": n blocks from block k on, and then the rest
unfoldable pub in_turn : List ℕ → ℕ → ℕ → Reading → Reading
in_turn f k zero rest = rest
in_turn f k (suc n) rest = found (later_number (block_at f k) k) k 0 (in_turn f (k + 1) n rest)

-- what an accepted file says
abbrev pub accepted_as : List ℕ → Reading
accepted_as f = Accepted (start_n (block_at f 0)) (start_s (block_at f 0)) (start_v (block_at f 0)) (length (file_entries f))

-- what block 0 is refused with, by the number that is found there, and the rest where none is
abbrev pub found_in_first : List ℕ → ℕ → Reading → Reading
found_in_first b n rest = found n 0 (place_with n b) rest

-- "Order for a file: 1; block 0 by ..; each later block in turn by 2, 3, 5; .. The first found is given.": with this number of block 0
abbrev pub reading_with : ℕ → List ℕ → Reading
reading_with n f =
    cond (not (length_fine (length f))) (Refused 1 0 0)
    (found_in_first (block_at f 0) n
    (in_turn f 1 (blocks_after f) (accepted_as f)))

-- what a whole file says, with block 0 "by 2, 3", and then by P2's numbers
unfoldable pub reading : List ℕ → Reading
reading f = reading_with (first_number (block_at f 0) (blocks_after f)) f
