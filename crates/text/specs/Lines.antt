-- Document 01, "The player and one full run": what is printed, as bytes.
use Rattle.std.specs.Prelude.{ℕ, zero, suc, ◌+◌, ◌-◌, cond, List, [], ◌∷◌, ◌++◌, eqb, leb, length, take, drop, Option, Some, None}
use Prim.Native.Char.{code}
use Prim.Native.String.{String}
use Prim.Native.String as string
use Rattle.run_log.specs.Found.{head_found, note_found}
use Rattle.text.specs.Types.{Filled, Head, Note}
use Rattle.text.specs.Decimal.{decimal_of}

-- plain text: a byte for each character
abbrev pub bytes_in : String → List ℕ
bytes_in string.[] = []
bytes_in (string.◌∷◌ c cs) = code c ∷ bytes_in cs

-- a number, and the space or the end of the line behind it
abbrev pub space : ℕ
space = 32

abbrev pub newline : ℕ
newline = 10

abbrev pub field : ℕ → ℕ → List ℕ
field n end = decimal_of n ++ (end ∷ [])

-- "one head line (entries, changes of X, N)", as `entries 11 changes 1 processes 2`
unfoldable pub head_line : ℕ → ℕ → ℕ → List ℕ
head_line entries changes n =
    bytes_in "entries " ++ (field entries space ++ (bytes_in "changes " ++ (field changes space ++ (bytes_in "processes " ++ field n newline))))

-- "one line an entry: place from 0, process, outcome, steps, mark, value, in decimal with one space between"
unfoldable pub line_of : ℕ → Note → List ℕ
line_of place note =
    field place space
    ++ (field note.process space
    ++ (field note.outcome space ++ (field note.steps space ++ (field note.mark space ++ field note.value newline))))

-- "A refused file prints one line with its number and block, as `refused 2 block 0`." Document 02, P2: the player prints the place
-- "after the block", as `refused 19 block 0 place 18`; 0 stands for no place.
unfoldable pub refused_line : ℕ → ℕ → ℕ → List ℕ
refused_line number block place =
    bytes_in "refused "
    ++ (field number space
    ++ (bytes_in "block " ++ cond (eqb place 0) (field block newline) (field block space ++ (bytes_in "place " ++ field place newline))))

-- A refused text prints `refused 25 line 3`; the other refusals of a text have no line, as `refused 16`.
unfoldable pub refused_text_line : ℕ → ℕ → List ℕ
refused_text_line number line =
    bytes_in "refused "
    ++ cond (eqb number 25) (field number space ++ (bytes_in "line " ++ field line newline)) (field number newline)

-- What is left of a lent part in which a text is printed, and how many bytes were: a part of 128 bytes has room for every line,
-- and a shorter one stays as it was.
abbrev pub printed : List ℕ → List ℕ → List ℕ
printed text out = cond (leb 128 (length out)) (text ++ drop (length text) out) out

abbrev pub printed_count : List ℕ → List ℕ → ℕ
printed_count text out = cond (leb 128 (length out)) (length text) 0

-- A text from a place of a lent part on, and the place behind it; where it does not fit, the part and the place stay as they were.
abbrev pub stored_at : ℕ → List ℕ → List ℕ → List ℕ
stored_at at text out = cond (leb (at + length text) (length out)) (take at out ++ (text ++ drop (at + length text) out)) out

abbrev pub stored_end : ℕ → List ℕ → List ℕ → ℕ
stored_end at text out = cond (leb (at + length text) (length out)) (at + length text) at

-- the same lines from the bytes of a log; where the log is too short for what is asked, no text
abbrev pub head_text : Option Head → List ℕ
head_text (Some head) = head_line head.entries head.changes head.n
head_text None = []

abbrev pub line_text : ℕ → Option Note → List ℕ
line_text place (Some note) = line_of place note
line_text place None = []

-- the lines of the entries from a place on, as many as are asked for, and all that is printed of a log
unfoldable pub lines_from : List ℕ → ℕ → ℕ → List ℕ
lines_from log place zero = []
lines_from log place (suc more) = line_text place (note_found log place) ++ lines_from log (place + 1) more

abbrev pub text_by : List ℕ → Option Head → List ℕ
text_by log (Some head) = head_text (Some head) ++ lines_from log 0 head.entries
text_by log None = []

unfoldable pub text_of : List ℕ → List ℕ
text_of log = text_by log (head_found log)

-- How many of the lines from a place on, of so many at the most, a part of this many bytes has room for: each is printed where 128 bytes are
-- left for it. The lines themselves are `lines_from log place` of that number.
unfoldable pub lines_fit : List ℕ → ℕ → ℕ → ℕ → ℕ
lines_fit log room place zero = 0
lines_fit log room place (suc more) =
    cond (leb 128 room) (suc (lines_fit log (room - length (line_text place (note_found log place))) (place + 1) more)) 0

-- what is left of a lent part in which the lines of the entries from `place` to before `end` are printed as far as there is room; and how many
-- bytes were, with the place of the first entry that was not
unfoldable pub filled_text : List ℕ → ℕ → ℕ → ℕ → List ℕ
filled_text log room place end = lines_from log place (lines_fit log room place (end - place))

abbrev pub filled_of : List ℕ → ℕ → ℕ → List ℕ → Filled
filled_of log place end out =
    record { bytes = length (filled_text log (length out) place end); place = place + lines_fit log (length out) place (end - place) }

abbrev pub filled_in : List ℕ → ℕ → ℕ → List ℕ → List ℕ
filled_in log place end out = filled_text log (length out) place end ++ drop (length (filled_text log (length out) place end)) out

-- the lines of notes, the first of which has this place
unfoldable pub lines_of : ℕ → List Note → List ℕ
lines_of place [] = []
lines_of place (note ∷ notes) = line_of place note ++ lines_of (place + 1) notes
