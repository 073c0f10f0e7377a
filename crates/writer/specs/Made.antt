-- The bytes of a schedule file, made of a start and entries (document 01, "The schedule file"), and the text of both.
use Rattle.std.specs.Prelude.{ℕ, zero, suc, ◌+◌, ◌-◌, ◌/◌, List, [], ◌∷◌, ◌++◌, length, take, drop, replicate}
use Rattle.numbers.specs.Numbers.{bytes_of}
use Rattle.text.specs.Lines.{bytes_in, field, space, newline}
use Rattle.schedule.specs.File.{check_of, file_entries}
use Rattle.writer.specs.Types.{Entry, Kind, Ask, Step, Load, Store, Check}

-- "Entry: byte 0 the kind (1 LL, 2 SC, 3 VL request, 4 step), .. 4 to 11 the value for SC and zero for other kinds"
abbrev pub kind_byte : Kind → ℕ
kind_byte (Ask Load) = 1
kind_byte (Ask (Store v)) = 2
kind_byte (Ask Check) = 3
kind_byte Step = 4

abbrev pub kind_value : Kind → ℕ
kind_value (Ask Load) = 0
kind_value (Ask (Store v)) = v
kind_value (Ask Check) = 0
kind_value Step = 0

-- ".. byte 1 the process, 2 and 3 zero"
unfoldable pub entry_made : Entry → List ℕ
entry_made e = kind_byte e.kind ∷ e.process.0 ∷ 0 ∷ 0 ∷ bytes_of 8 (kind_value e.kind)

unfoldable pub entries_made : List Entry → List ℕ
entries_made [] = []
entries_made (e ∷ es) = entry_made e ++ entries_made es

-- "blocks of 512 bytes, each with its own check .. in bytes 510 and 511": the first bytes of a block, zeros up to byte 509, the check
abbrev pub filled : List ℕ → List ℕ
filled first = first ++ replicate (510 - length first) 0

unfoldable pub sealed : List ℕ → List ℕ
sealed first = filled first ++ bytes_of 2 (check_of (filled first))

-- "Bytes 0 and 1 of each block carry its place in the file, from 0." "Block 0: byte 2 is N, byte 3 zero, 4 to 7 S, 8 to 15 V, 16 and 17
-- the number of blocks after this one, 18 to 509 zero."
abbrev pub first_front : ℕ → ℕ → ℕ → ℕ → List ℕ
first_front n s v after = bytes_of 2 0 ++ (n ∷ 0 ∷ (bytes_of 4 s ++ (bytes_of 8 v ++ bytes_of 2 after)))

unfoldable pub first_made : ℕ → ℕ → ℕ → ℕ → List ℕ
first_made n s v after = sealed (first_front n s v after)

-- "Other blocks: byte 2 is the count c of entries, 0 to 42; byte 3 zero; entries of 12 bytes from byte 4; every byte from 4 + 12c to 509
-- zero."
abbrev pub later_front : ℕ → ℕ → List ℕ
later_front k c = bytes_of 2 k ++ (c ∷ 0 ∷ [])

unfoldable pub later_made : ℕ → List Entry → List ℕ
later_made k es = sealed (later_front k (length es) ++ entries_made es)

-- "It fills each block with 42 entries before it opens the next, and with no entries it writes block 0 only": so many blocks, the first
-- of which is block k
unfoldable pub packed : ℕ → ℕ → List Entry → List ℕ
packed zero k es = []
packed (suc more) k es = later_made k (take 42 es) ++ packed more (k + 1) (drop 42 es)

abbrev pub blocks_for : ℕ → ℕ
blocks_for entries = (entries + 41) / 42

unfoldable pub file_made : ℕ → ℕ → ℕ → List Entry → List ℕ
file_made n s v es = first_made n s v (blocks_for (length es)) ++ packed (blocks_for (length es)) 1 es

-- "`H N S V`", and "`L p`, `S p value`, `V p` or `T p`": the lines of a start and of an entry
unfoldable pub start_line : ℕ → ℕ → ℕ → List ℕ
start_line n s v = bytes_in "H " ++ (field n space ++ (field s space ++ field v newline))

abbrev pub kind_line : Kind → ℕ → List ℕ
kind_line (Ask Load) p = bytes_in "L " ++ field p newline
kind_line (Ask (Store v)) p = bytes_in "S " ++ (field p space ++ field v newline)
kind_line (Ask Check) p = bytes_in "V " ++ field p newline
kind_line Step p = bytes_in "T " ++ field p newline

unfoldable pub entry_line : Entry → List ℕ
entry_line e = kind_line e.kind e.process.0

unfoldable pub entry_lines : List Entry → List ℕ
entry_lines [] = []
entry_lines (e ∷ es) = entry_line e ++ entry_lines es

unfoldable pub text_made : ℕ → ℕ → ℕ → List Entry → List ℕ
text_made n s v es = start_line n s v ++ entry_lines es

-- the text of an accepted file, whose start this is
abbrev pub listing : List ℕ → ℕ → ℕ → ℕ → List ℕ
listing f n s v = text_made n s v (file_entries f)
