-- Document 01, "The log".
use Rattle.std.specs.Prelude.{ℕ, ◌+◌, ◌*◌, cond, List, [], ◌∷◌, ◌++◌, leb, length, get_or, drop}
use Rattle.numbers.specs.Numbers.{list_below, bytes_of, number_at}
use Rattle.run_log.specs.Types.{Head, Note}

-- "First 12 bytes: entry count (0 to 3), how often X has changed (4 to 7), N (8), three zeros."
unfoldable pub head_of : ℕ → ℕ → ℕ → List ℕ
head_of entries changes n = bytes_of 4 entries ++ (bytes_of 4 changes ++ (n ∷ 0 ∷ 0 ∷ 0 ∷ []))

-- "12 bytes an entry, in order: outcome, process, own steps of this call so far with this one .., mark, value"
unfoldable pub record_of : Note → List ℕ
record_of note = note.outcome ∷ note.process ∷ note.steps ∷ note.mark ∷ bytes_of 8 note.value

-- "the records are written .., 12 bytes an entry, in order"
unfoldable pub records_of : List Note → List ℕ
records_of [] = []
records_of (note ∷ notes) = record_of note ++ records_of notes

-- Bytes at the front of a lent part; what lies past them keeps what it held. A part that is too short for them stays as it was.
unfoldable pub laid : List ℕ → List ℕ → List ℕ
laid bytes part = cond (leb (length bytes) (length part)) (bytes ++ drop (length bytes) part) part

-- "12 + 12 times the entries"
abbrev pub log_length : ℕ → ℕ
log_length entries = 12 + 12 * entries

-- the same twelve bytes read back
unfoldable pub head_in : List ℕ → Head
head_in log = record { entries = number_at log 0 4; changes = number_at log 4 4; n = get_or log 8 0 }

unfoldable pub note_in : List ℕ → Note
note_in part =
    record {
      outcome = get_or part 0 0;
      process = get_or part 1 0;
      steps = get_or part 2 0;
      mark = get_or part 3 0;
      value = number_at part 4 8;
    }

-- the records of a log, as many as its head says
unfoldable pub notes_in : List ℕ → List Note
notes_in log = list_below (head_in log).entries (λ i. note_in (drop (log_length i) log))
