-- The whole run of a file with a lent log: what is returned, and what every byte of the log then is.
use Rattle.std.specs.Prelude.{ℕ, cond, List, ◌++◌, map, leb, length, drop}
use Rattle.schedule.specs.File.{reading, file_entries}
use Rattle.bench.specs.Types.{Reading, Refused, Accepted, State, Ran}
use Rattle.machine.specs.State.{start_of, zero_state}
use Rattle.machine.specs.Run.{EntryNote, notes, after, change_count}
use Rattle.run_log.specs.declared.Note as log
use Rattle.run_log.specs.Log.{head_of, records_of, log_length}

-- "in order: outcome, process, own steps of this call so far with this one .., mark, value"
abbrev pub in_log : EntryNote → log.Note
in_log w = record { outcome = w.outcome; process = w.process; steps = w.steps; mark = w.mark; value = w.value }

-- the state that a file's run starts from: the start of its N, S and V
abbrev pub start_state : ℕ → ℕ → ℕ → State
start_state n s v = (start_of n (record { 0 = s }) v).state

-- what the log says of each entry of a file
unfoldable pub notes_of : List ℕ → ℕ → ℕ → ℕ → List EntryNote
notes_of f n s v = notes (start_state n s v) (file_entries f)

-- the state after them
unfoldable pub last_state : List ℕ → ℕ → ℕ → ℕ → State
last_state f n s v = after (start_state n s v) (file_entries f)

-- "First 12 bytes: entry count .., how often X has changed .., N .. Then the records .. Bytes of the lent log past the last record
-- keep what they held."
abbrev pub written : List EntryNote → ℕ → List ℕ → List ℕ
written ws n log = head_of (length ws) (change_count ws) n ++ (records_of (map in_log ws) ++ drop (log_length (length ws)) log)

-- turned away: a number, a block, the place of a stray byte or 0, and a state of zeros
abbrev pub ran_not : ℕ → ℕ → ℕ → Ran
ran_not number block place = record { number = number; block = block; place = place; state = zero_state }

-- the file's refusals, "then 6": "lent log shorter than 12 + 12 times the entries"
abbrev pub ran_by : List ℕ → List ℕ → Reading → Ran
ran_by f log (Refused number block place) = ran_not number block place
ran_by f log (Accepted n s v c) =
    cond (leb (log_length c) (length log)) (record { number = 0; block = 0; place = 0; state = last_state f n s v }) (ran_not 6 0 0)

-- "number, that block; log untouched"
abbrev pub log_by : List ℕ → List ℕ → Reading → List ℕ
log_by f log (Refused number block place) = log
log_by f log (Accepted n s v c) = cond (leb (log_length c) (length log)) (written (notes_of f n s v) n log) log

unfoldable pub ran_of : List ℕ → List ℕ → Ran
ran_of f log = ran_by f log (reading f)

unfoldable pub log_after : List ℕ → List ℕ → List ℕ
log_after f log = log_by f log (reading f)
