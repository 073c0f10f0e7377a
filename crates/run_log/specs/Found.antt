-- What is found of a log that may be too short; and the log of a list of entries.
use Rattle.std.specs.Prelude.{ℕ, ◌+◌, cond, List, ◌++◌, leb, length, drop, Option, Some, None}
use Rattle.run_log.specs.Types.{Head, Note}
use Rattle.run_log.specs.Log.{head_of, records_of, log_length, head_in, note_in}

-- The head is there where its twelve bytes are.
unfoldable pub head_found : List ℕ → Option Head
head_found log = cond (leb 12 (length log)) (Some (head_in log)) None

-- The record of entry i, counted from 0, follows the head and i records.
unfoldable pub note_found : List ℕ → ℕ → Option Note
note_found log i = cond (leb (log_length (i + 1)) (length log)) (Some (note_in (drop (log_length i) log))) None

-- the whole log of these entries
unfoldable pub log_of : ℕ → ℕ → List Note → List ℕ
log_of changes n notes = head_of (length notes) changes n ++ records_of notes
