-- What the inner functions promise: a numeral, a line, and a text as far as the writer goes through it before it writes.
use Rattle.std.specs.Prelude.{ℕ, ◌≡◌, ◌+◌, Bool, cond, Option, Some, None, option_map, Result, Ok, Err, List, eqb, ltb, leb, length, get_or, drop}
use Rattle.std.specs.Borrow.{Bor}
use Rattle.numbers.specs.Numbers.{range_number}
use Rattle.numbers.specs.Refusals.{refusal_number}
use Rattle.text.specs.Decimal.{said}
use Rattle.text.specs.Lines.{space, newline}
use Rattle.writer.specs.Types.{Process, Entry, Kind, Ask, Store, NumeralError, NoNumeral, TooLarge, Opening, Read, Start, TextRefusal, Scanned}
use Rattle.writer.specs.Form.{place_of, before, behind, parts, is_numeral, is_process, head_fine, field_n, field_s, field_v, line_fine, entry_in, line_one, first_outside_by, outside_by, outside, entries_in, text_n, text_s, text_v, text_entries}
use Rattle.writer.specs.Writer.{text_number}

-- what stands before a byte and behind it, where it stands somewhere
unfoldable pub split_by : ℕ → List ℕ → Option (List ℕ × List ℕ)
split_by c l = cond (ltb (place_of c l) (length l)) (Some (before c l, behind c l)) None

-- a line's letter, and what stands behind the space that follows it
unfoldable pub letter_of : List ℕ → Option (ℕ × List ℕ)
letter_of line = cond (eqb (get_or line 1 0) space) (Some (get_or line 0 0, drop 2 line)) None

-- what parts of a lent slice hold
abbrev pub halves_in : Option (Bor (List ℕ) × Bor (List ℕ)) → Option (List ℕ × List ℕ)
halves_in (Some r) = Some (r.0.now, r.1.now)
halves_in None = None

abbrev pub letter_in : Option (ℕ × Bor (List ℕ)) → Option (ℕ × List ℕ)
letter_in (Some r) = Some (r.0, r.1.now)
letter_in None = None

-- whether bytes are a numeral, and then its number, if it is below 2^64
unfoldable pub numeral_of : List ℕ → Result ℕ NumeralError
numeral_of l = cond (is_numeral l) (cond (leb (said l) 18446744073709551615) (Ok (said l)) (Err TooLarge)) (Err NoNumeral)

-- a numeral as a size: a number of 2^64 or more, which is out of every range, is given as 0, which is so too
abbrev pub below_64 : ℕ → ℕ
below_64 n = cond (leb n 18446744073709551615) n 0

unfoldable pub size_of : List ℕ → Option ℕ
size_of l = cond (is_numeral l) (Some (below_64 (said l))) None

-- the process that bytes say
unfoldable pub process_of : List ℕ → Option Process
process_of l = cond (is_process l) (Some (record { 0 = said l })) None

-- what a further line asks for
unfoldable pub line_of : List ℕ → Option Entry
line_of line = cond (line_fine line) (Some (entry_in line)) None

-- by its fields: `p` behind the letter of a kind, and `p value` behind S
abbrev pub asks : Kind → Process → Entry
asks kind p = record { process = p; kind = kind }

abbrev pub plain_of : List ℕ → Kind → Option Entry
plain_of rest kind = option_map (asks kind) (process_of rest)

abbrev pub stored_by : List ℕ → Result ℕ NumeralError → Option Entry
stored_by process (Ok value) = plain_of process (Ask (Store value))
stored_by process (Err e) = None

abbrev pub store_of : List ℕ → Option Entry
store_of rest = stored_by (before space rest) (numeral_of (behind space rest))

-- line one: N, S and V
abbrev pub opening_in : List ℕ → Opening
opening_in line = record { n = below_64 (said (field_n line)); s = below_64 (said (field_s line)); v = said (field_v line) }

unfoldable pub opening_of : List ℕ → Option Opening
opening_of line = cond (head_fine line) (Some (opening_in line)) None

-- by its fields
abbrev pub opened_by : Option ℕ → Option ℕ → Result ℕ NumeralError → Option Opening
opened_by (Some n) (Some s) (Ok v) = Some (record { n = n; s = s; v = v })
opened_by (Some n) (Some s) (Err e) = None
opened_by (Some n) None v = None
opened_by None s v = None

abbrev pub fields_of : List ℕ → Option Opening
fields_of rest =
    opened_by (size_of (before space rest)) (size_of (before space (behind space rest))) (numeral_of (behind space (behind space rest)))

-- the lines of what stands behind line one, and the entries that they ask for
abbrev pub lines_in : List ℕ → List (List ℕ)
lines_in rest = parts newline rest

unfoldable pub entries_left : List ℕ → List Entry
entries_left rest = entries_in (lines_in rest)

-- all of them are in a form
unfoldable pub InForm : (List ℕ → Bool) → List ℕ → Type 0
InForm fine rest = first_outside_by fine 1 (lines_in rest) ≡ 0

-- what lines come to, the first of which has number k, behind e entries: how many entries, or the first line outside the form
unfoldable pub over_lines_by : (List ℕ → Bool) → ℕ → ℕ → List (List ℕ) → Result ℕ ℕ
over_lines_by fine k e ls = cond (eqb (first_outside_by fine k ls) 0) (Ok (e + length (entries_in ls))) (Err (first_outside_by fine k ls))

-- a whole text of any form: what line one says, where the further lines begin and how many entries they ask for, or its first line outside
-- the form
unfoldable pub read_by : {T : Type 0} → (List ℕ → Bool) → (List ℕ → T) → (List ℕ → Bool) → List ℕ → Result (Read T) ℕ
read_by headed opening fine text =
    cond (eqb (outside_by headed fine text) 0)
    (Ok (record { opening = opening (line_one text); from = place_of newline text + 1; entries = length (text_entries text) }))
    (Err (outside_by headed fine text))

-- the whole text, in the documents' numbers
abbrev pub passed_over : ℕ → ℕ → Scanned
passed_over number line = record { number = number; line = line; from = 0; entries = 0; n = 0; s = 0; v = 0 }

abbrev pub scanned_as : Result (Read Start) TextRefusal → Scanned
scanned_as (Ok told) =
    record {
      number = 0;
      line = 0;
      from = told.from;
      entries = told.entries;
      n = told.opening.n;
      s = told.opening.s;
      v = told.opening.v;
    }
scanned_as (Err e) = passed_over (refusal_number e.refusal) e.line

-- a text whose lines are all in the form, by what line one says, where the further lines begin and how many entries they ask for
unfoldable pub judged : Opening → ℕ → ℕ → Scanned
judged o from entries =
    let number = range_number o.n (record { 0 = o.s }) in
    cond (eqb number 0)
    (cond (leb entries 5334) (record { number = 0; line = 0; from = from; entries = entries; n = o.n; s = o.s; v = o.v }) (passed_over 26 0))
    (passed_over number 0)

abbrev pub within : List ℕ → Scanned
within text =
    record {
      number = 0;
      line = 0;
      from = place_of newline text + 1;
      entries = length (text_entries text);
      n = text_n text;
      s = text_s text;
      v = text_v text;
    }

unfoldable pub scanned_of : List ℕ → Scanned
scanned_of text = cond (eqb (text_number text) 0) (within text) (passed_over (text_number text) (outside text))
