-- Document 02, P9, played from a text: line one is `H N M`, each further line `L p`, `S p bit`, `V p` or `T p` in the form of P1. What lies
-- outside this form, and what a text within it says.
use Rattle.std.specs.Prelude.{ℕ, Bool, true, ◌&&◌, List, map, eqb, leb, length}
use Rattle.numbers.specs.Numbers.{number_unless, first_found}
use Rattle.text.specs.Decimal.{said}
use Rattle.text.specs.Lines.{space}
use Rattle.writer.specs.Form as p1
use Rattle.reused_text.specs.Asked as asked
use Rattle.writer.specs.Form.{behind, is_numeral, opens_with, fields, field_n, line_one}
use Rattle.reused.specs.Circle.{sizes_number}
use Rattle.reused_text.specs.Types.{Entry, Kind, Ask, Step, Request, Load, Store, Check}

-- `H N M` (byte 72 is H): both are numerals, "of any number of digits"
abbrev pub field_m : List ℕ → List ℕ
field_m line = behind space (fields line)

unfoldable pub head_fine : List ℕ → Bool
head_fine line = opens_with 72 line && (is_numeral (field_n line) && is_numeral (field_m line))

-- `S p bit`: "The newer receiver stores a bit", 0 or 1
abbrev pub stores_bit : asked.Request → Bool
stores_bit asked.Load = true
stores_bit (asked.Store value) = leb value 1
stores_bit asked.Check = true

abbrev pub asks_bit : asked.Kind → Bool
asks_bit (asked.Ask request) = stores_bit request
asks_bit asked.Step = true

-- a further line: in the form of P1, and what it stores is a bit
unfoldable pub line_fine : List ℕ → Bool
line_fine line = p1.line_fine line && asks_bit (p1.entry_in line).kind

-- what such a line asks of this machine: the same, with its value as a bit
abbrev pub request_in : asked.Request → Request
request_in asked.Load = Load
request_in (asked.Store value) = Store (eqb value 1)
request_in asked.Check = Check

abbrev pub kind_in : asked.Kind → Kind
kind_in (asked.Ask request) = Ask (request_in request)
kind_in asked.Step = Step

abbrev pub entry_in : asked.Entry → Entry
entry_in e = record { process = e.process; kind = kind_in e.kind }

-- P1: "25 with the number of the first line outside this form (line 1 for empty input ..)"; 0 where there is none
abbrev pub outside : List ℕ → ℕ
outside text = p1.outside_by head_fine line_fine text

-- what a text says
abbrev pub text_n : List ℕ → ℕ
text_n text = said (field_n (line_one text))

abbrev pub text_m : List ℕ → ℕ
text_m text = said (field_m (line_one text))

abbrev pub text_entries : List ℕ → List Entry
text_entries text = map entry_in (p1.text_entries text)

-- The number that refuses a text, or 0: 25, then "16, then 24 for M out of range"; and 26 for more entries than the four bytes of a log's
-- head can count, 4,294,967,295.
unfoldable pub text_number : List ℕ → ℕ
text_number text =
    first_found (number_unless (eqb (outside text) 0) 25)
    (first_found (sizes_number (text_n text) (text_m text)) (number_unless (leb (length (text_entries text)) 4294967295) 26))
