-- What the inner functions promise: a line, line one, and a text as far as it is gone through before anything is played.
use Rattle.std.specs.Prelude.{ℕ, ◌+◌, cond, Option, Some, None, Result, Ok, Err, List, map, eqb, leb, length}
use Rattle.numbers.specs.Numbers.{number_unless, first_found}
use Rattle.numbers.specs.Refusals.{refusal_number}
use Rattle.text.specs.Decimal.{said}
use Rattle.text.specs.Lines.{space, newline}
use Rattle.writer.specs.Form as p1
use Rattle.writer.specs.Form.{place_of, before, behind, field_n}
use Rattle.writer.specs.Parts.{below_64, size_of, entries_left}
use Rattle.reused.specs.Circle.{sizes_number}
use Rattle.reused_text.specs.Types.{Entry, TextRefusal, Scanned, Sizes, Read}
use Rattle.reused_text.specs.Form.{field_m, head_fine, line_fine, entry_in, outside, text_n, text_m, text_entries, text_number}

abbrev pub bit_entry_in : List ℕ → Entry
bit_entry_in line = entry_in (p1.entry_in line)

unfoldable pub bit_line_of : List ℕ → Option Entry
bit_line_of line = cond (line_fine line) (Some (bit_entry_in line)) None

-- Line one: N and M; a number of 2^64 or more, which is no N and no M, is given as 0.
abbrev pub sizes_in : List ℕ → Sizes
sizes_in line = record { n = below_64 (said (field_n line)); m = below_64 (said (field_m line)) }

unfoldable pub sizes_of : List ℕ → Option Sizes
sizes_of line = cond (head_fine line) (Some (sizes_in line)) None

-- by its fields
abbrev pub sized_by : Option ℕ → Option ℕ → Option Sizes
sized_by (Some n) (Some m) = Some (record { n = n; m = m })
sized_by (Some n) None = None
sized_by None m = None

abbrev pub fields_of : List ℕ → Option Sizes
fields_of rest = sized_by (size_of (before space rest)) (size_of (behind space rest))

-- the entries that lines ask for
abbrev pub bit_entries_left : List ℕ → List Entry
bit_entries_left lines = map entry_in (entries_left lines)

-- the whole text
abbrev pub passed_over : ℕ → ℕ → Scanned
passed_over number line = record { number = number; line = line; from = 0; entries = 0; n = 0; m = 0 }

abbrev pub told_as : Read Sizes → Scanned
told_as told =
    record {
      number = 0;
      line = 0;
      from = told.from;
      entries = told.entries;
      n = told.opening.n;
      m = told.opening.m;
    }

abbrev pub scanned_as : Result (Read Sizes) TextRefusal → Scanned
scanned_as (Ok told) = told_as told
scanned_as (Err e) = passed_over (refusal_number e.refusal) e.line

-- a text whose lines are all in the form, by what line one says, where the further lines begin and how many entries they ask for
unfoldable pub judged : Sizes → ℕ → ℕ → Scanned
judged s from entries =
    let number = first_found (sizes_number s.n s.m) (number_unless (leb entries 4294967295) 26) in
    cond (eqb number 0) (record { number = 0; line = 0; from = from; entries = entries; n = s.n; m = s.m }) (passed_over number 0)

abbrev pub within : List ℕ → Scanned
within text =
    record {
      number = 0;
      line = 0;
      from = place_of newline text + 1;
      entries = length (text_entries text);
      n = text_n text;
      m = text_m text;
    }

unfoldable pub scanned_of : List ℕ → Scanned
scanned_of text = cond (eqb (text_number text) 0) (within text) (passed_over (text_number text) (outside text))
