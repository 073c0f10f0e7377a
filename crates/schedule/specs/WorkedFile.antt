-- Document 01's full run as a file, and what the definitions say of it; and files with a bad block 0.
use Rattle.std.specs.Prelude.{◌≡◌, List, [], ◌∷◌, ◌++◌, ℕ, ◌+◌, ◌-◌, length, replicate}
use Rattle.numbers.specs.Numbers.{bytes_of}
use Rattle.schedule.specs.Types.{Entry, Ask, Step, Load, Store, Check, Refused, Accepted}
use Rattle.schedule.specs.File.{check_of, entry_by, block_at, file_entries, reading}

-- a block: its first bytes, zeros up to byte 509, and the two bytes of its check
abbrev block : List ℕ → ℕ → ℕ → List ℕ
block first low high = first ++ replicate (510 - length first) 0 ++ (low ∷ high ∷ [])

-- an entry that stores nothing
abbrev plain : ℕ → ℕ → List ℕ
plain kind process = kind ∷ process ∷ replicate 10 0

-- "Input: N 2, S 9, V 7, one entry block: LL by 1, three steps of 1, SC 40 by 1, four steps of 1, VL by 0, one step of 0. The
-- checks are 131 and 5,426.": the file, with the low byte of block 0's check left open
unfoldable pub worked_file : ℕ → List ℕ
worked_file low =
    block (0 ∷ 0 ∷ 2 ∷ 0 ∷ 9 ∷ 0 ∷ 0 ∷ 0 ∷ 7 ∷ 0 ∷ 0 ∷ 0 ∷ 0 ∷ 0 ∷ 0 ∷ 0 ∷ 1 ∷ 0 ∷ []) low 0
    ++ block
    ((1 ∷ 0 ∷ 11 ∷ 0 ∷ [])
    ++ plain 1 1 ++ plain 4 1 ++ plain 4 1 ++ plain 4 1
    ++ (2 ∷ 1 ∷ 0 ∷ 0 ∷ 40 ∷ 0 ∷ 0 ∷ 0 ∷ 0 ∷ 0 ∷ 0 ∷ 0 ∷ [])
    ++ plain 4 1 ++ plain 4 1 ++ plain 4 1 ++ plain 4 1
    ++ plain 3 0 ++ plain 4 0)
    50 21

-- its entries
unfoldable pub worked_entries : List Entry
worked_entries =
    entry_by 1 (Ask Load) ∷ entry_by 1 Step ∷ entry_by 1 Step ∷ entry_by 1 Step
    ∷ entry_by 1 (Ask (Store 40)) ∷ entry_by 1 Step ∷ entry_by 1 Step ∷ entry_by 1 Step ∷ entry_by 1 Step
    ∷ entry_by 0 (Ask Check) ∷ entry_by 0 Step ∷ []

-- the two checks; that the file is accepted with N 2, S 9, V 7 and its 11 entries; and that "the check 132 in the run above gives
-- 2, block 0"
pub record FullRun : Type 0 where
  pub first_check : check_of (block_at (worked_file 131) 0) ≡ 131
  pub later_check : check_of (block_at (worked_file 131) 1) ≡ 5426
  pub accepted : reading (worked_file 131) ≡ Accepted 2 9 7 11
  pub entries : file_entries (worked_file 131) ≡ worked_entries
  pub one_byte_off : reading (worked_file 132) ≡ Refused 2 0 0

-- A file of block 0 alone: its place, N, S, how many blocks it says come after it, the bytes 3, 18 and 509, which should be zero, and
-- what its check is off by.
abbrev first_bytes : ℕ → ℕ → ℕ → ℕ → ℕ → ℕ → ℕ → List ℕ
first_bytes place n s later third low high =
    (place ∷ 0 ∷ n ∷ third ∷ s ∷ 0 ∷ 0 ∷ 0 ∷ 7 ∷ replicate 7 0) ++ (later ∷ 0 ∷ low ∷ replicate 490 0) ++ (high ∷ [])

unfoldable pub first_file : ℕ → ℕ → ℕ → ℕ → ℕ → ℕ → ℕ → ℕ → List ℕ
first_file off place n s later third low high =
    let bytes = first_bytes place n s later third low high in
    bytes ++ bytes_of 2 (check_of bytes + off)

-- "block 0 by 2, 3, ..", and "in this order, come 16 (N), 17 (S), 18 (block count) and 19 (a stray byte), the last with the place of the
-- first such byte": each file has one thing wrong less than the one before it
pub record FirstFiles : Type 0 where
  pub all : reading (first_file 1 1 0 1 1 1 1 1) ≡ Refused 2 0 0
  pub fine_check : reading (first_file 0 1 0 1 1 1 1 1) ≡ Refused 3 0 0
  pub fine_place : reading (first_file 0 0 0 1 1 1 1 1) ≡ Refused 16 0 0
  pub fine_n : reading (first_file 0 0 2 1 1 1 1 1) ≡ Refused 17 0 0
  pub fine_s : reading (first_file 0 0 2 9 1 1 1 1) ≡ Refused 18 0 0
  pub fine_count : reading (first_file 0 0 2 9 0 1 1 1) ≡ Refused 19 0 3
  pub fine_3 : reading (first_file 0 0 2 9 0 0 1 1) ≡ Refused 19 0 18
  pub fine_18 : reading (first_file 0 0 2 9 0 0 0 1) ≡ Refused 19 0 509
  pub fine : reading (first_file 0 0 2 9 0 0 0 0) ≡ Accepted 2 9 7 0
