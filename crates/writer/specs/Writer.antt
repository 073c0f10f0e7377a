-- Document 02, P1 and P2: what the writer answers, and what every byte of a lent output then is.
use Rattle.std.specs.Prelude.{ℕ, cond, Result, Ok, Err, List, eqb, leb, length}
use Rattle.numbers.specs.Numbers.{number_unless, first_found, range_number}
use Rattle.numbers.specs.Refusals.{refusal_number}
use Rattle.run_log.specs.Log.{laid}
use Rattle.writer.specs.Types.{TextRefusal, Written}
use Rattle.writer.specs.Form.{outside, text_n, text_s, text_v, text_entries}
use Rattle.writer.specs.Made.{file_made}

-- "25 with the number of the first line outside this form .., then .. N or S, 26 for more than 5,334 entries", and P2: "A direct start
-- gives 16 or 17, and so does P1's writer": the number that refuses a text, or 0
unfoldable pub text_number : List ℕ → ℕ
text_number text =
    first_found (number_unless (eqb (outside text) 0) 25)
    (first_found (range_number (text_n text) (record { 0 = text_s text })) (number_unless (leb (length (text_entries text)) 5334) 26))

-- the file of an accepted text
abbrev pub text_file : List ℕ → List ℕ
text_file text = file_made (text_n text) (text_s text) (text_v text) (text_entries text)

-- ".. 27 for a lent output that is too short": the number, the line that 25 names, the length of what was written
abbrev pub turned : ℕ → ℕ → Written
turned number line = record { number = number; line = line; length = 0 }

-- what an answer tells
abbrev pub written_as : Result ℕ TextRefusal → Written
written_as (Ok length) = record { number = 0; line = 0; length = length }
written_as (Err e) = turned (refusal_number e.refusal) e.line

unfoldable pub written_of : List ℕ → List ℕ → Written
written_of text out =
    cond (eqb (text_number text) 0)
    (cond (leb (length (text_file text)) (length out)) (record { number = 0; line = 0; length = length (text_file text) }) (turned 27 0))
    (turned (text_number text) (outside text))

-- "past the file, or after any refusal, the output stays"
unfoldable pub written_in : List ℕ → List ℕ → List ℕ
written_in text out = cond (eqb (text_number text) 0) (laid (text_file text) out) out
