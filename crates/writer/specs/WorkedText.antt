-- A text with all five kinds of line, the worked run, and texts that are refused: what the definitions say of them.
use Rattle.std.specs.Prelude.{ℕ, ◌≡◌, List, [], ◌∷◌, ◌++◌, replicate}
use Prim.Native.String.{String}
use Rattle.text.specs.Lines.{bytes_in, newline}
use Rattle.schedule.specs.WorkedFile.{worked_file, worked_entries}
use Rattle.writer.specs.Form.{text_entries, outside}
use Rattle.writer.specs.Made.{text_made}
use Rattle.writer.specs.Writer.{text_number, text_file, written_of, turned}

-- document 01's full run: "N 2, S 9, V 7 ..: LL by 1, three steps of 1, SC 40 by 1, four steps of 1, VL by 0, one step of 0"
abbrev pub typed_text : List ℕ
typed_text =
    bytes_in "H 2 9 7\n"
    ++ (bytes_in "L 1\nT 1\nT 1\nT 1\n" ++ (bytes_in "S 1 40\nT 1\nT 1\nT 1\nT 1\n" ++ bytes_in "V 0\nT 0\n"))

-- the numbers that two texts beside an edge get
abbrev pub Beside : String → ℕ → String → ℕ → Type 0
Beside one a other b = (text_number (bytes_in one) ≡ a) × (text_number (bytes_in other) ≡ b)

pub record TextRun : Type 0 where
  -- it is accepted, its entries are the run's, and its file is the run's file, with the checks 131 and 5,426; and the text of these
  -- entries is the text
  pub accepted : text_number typed_text ≡ 0
  pub entries : text_entries typed_text ≡ worked_entries
  pub file : text_file typed_text ≡ worked_file 131
  pub back : text_made 2 9 7 worked_entries ≡ typed_text
  -- "line 1 for empty input"; a last line without its newline; a leading zero; a value of 2^64; an empty line; a second H
  pub none : written_of [] [] ≡ turned 25 1
  pub unended : outside (bytes_in "H 2 9 7\nL 1\nT 1") ≡ 3
  pub leading : outside (bytes_in "H 2 9 7\nL 01\n") ≡ 2
  pub large : outside (bytes_in "H 2 9 7\nS 1 18446744073709551615\nS 1 18446744073709551616\n") ≡ 3
  pub gap : outside (bytes_in "H 2 9 7\n\nL 1\n") ≡ 2
  pub second : outside (bytes_in "H 2 9 7\nL 1\nH 2 9 7\n") ≡ 3
  -- a line outside the form comes before N or S out of range, however many digits they have, and N before S; and then 27
  pub before : text_number (bytes_in "H 0 9 7\nL 1 \n") ≡ 25
  pub ranged : text_number (bytes_in "H 2 100000000000000000000009 7\nL 1\n") ≡ 17
  pub long_n : text_number (bytes_in "H 18446744073709551618 9 7\n") ≡ 16
  pub both : text_number (bytes_in "H 17 1 7\n") ≡ 16
  pub short : written_of typed_text [] ≡ turned 27 0
  -- beside each edge: processes, values, N, S, zero, a return for the newline, a newline alone, line one alone
  pub processes : Beside "H 2 9 7\nT 255\n" 0 "H 2 9 7\nT 256\n" 25
  pub values : Beside "H 2 9 18446744073709551615\n" 0 "H 2 9 18446744073709551616\n" 25
  pub few_n : Beside "H 1 9 7\n" 0 "H 0 9 7\n" 16
  pub many_n : Beside "H 16 9 7\n" 0 "H 17 9 7\n" 16
  pub low_s : Beside "H 2 2 7\n" 0 "H 2 1 7\n" 17
  pub high_s : Beside "H 2 4294967295 7\n" 0 "H 2 4294967296 7\n" 17
  pub zeros : Beside "H 2 9 0\n" 0 "H 2 9 00\n" 25
  pub ends : Beside "H 2 9 7\nV 1\n" 0 "H 2 9 7\nV 1\r\n" 25
  pub fewer : Beside "H 2 9 7\nS 1 0\n" 0 "H 2 9 7\nS 1\n" 25
  pub more : Beside "H 2 9 7\nL 1\n" 0 "H 2 9 7\nL 1 0\n" 25
  pub alone : outside (newline ∷ []) ≡ 1
  pub just : written_of (bytes_in "H 2 9 7\n") (replicate 512 1) ≡ record { number = 0; line = 0; length = 512 }
  pub under : written_of (bytes_in "H 2 9 7\n") (replicate 511 1) ≡ turned 27 0
