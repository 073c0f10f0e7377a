-- The run of a text: the record of each entry in the log's form, every byte of the lent log, and what is printed.
use Rattle.std.specs.Prelude.{ℕ, ◌*◌, Bool, true, false, cond, Result, Ok, Err, List, ◌++◌, map, eqb, leb, length, drop}
use Rattle.numbers.specs.Refusals.{refusal_number}
pub use Rattle.numbers.specs.Numbers.{seat_of}
use Rattle.run_log.specs.Log.{records_of, laid, log_length}
use Rattle.run_log.specs.Found.{log_of}
use Rattle.text.specs.Lines.{head_line, lines_of, refused_text_line}
use Rattle.reused.specs.Steps.{told_of}
use Rattle.reused.specs.State.{start_of}
use Rattle.reused.specs.Run.{EntryNote, steps_by, notes, change_count}
use Rattle.reused_text.specs.Types.{State, Entry, Kind, Place, Outcome, Note, Version, TextRefusal, Ran}
use Rattle.reused_text.specs.Form.{outside, text_n, text_m, text_entries, text_number}

abbrev pub bit_number : Bool → ℕ
bit_number true = 1
bit_number false = 0

-- "process, outcome, own steps, and the load's answer as process and bit": six numbers with the place, as the log's line has them, the
-- answer's process for the mark and its bit for the value
abbrev pub in_log : EntryNote → Note
in_log w =
    record {
      outcome = w.outcome;
      process = w.process;
      steps = w.steps;
      mark = w.stored.process.0;
      value = bit_number w.stored.bit;
    }

-- what is said of each entry of a text, from the start of its N and M
unfoldable pub text_notes : List ℕ → List EntryNote
text_notes text = notes (start_of (text_n text) (text_m text)).state (text_entries text)

-- the log of its run
unfoldable pub text_log : List ℕ → List ℕ
text_log text = log_of (change_count (text_notes text)) (text_n text) (map in_log (text_notes text))

-- The text's refusals, then "27 for a lent output that is too short": the number, the line that 25 names, and how many entries were played.
abbrev pub ran_not : ℕ → ℕ → Ran
ran_not number line = record { number = number; line = line; entries = 0 }

-- what an answer tells
abbrev pub ran_as : Result ℕ TextRefusal → Ran
ran_as (Ok entries) = record { number = 0; line = 0; entries = entries }
ran_as (Err e) = ran_not (refusal_number e.refusal) e.line

unfoldable pub ran_of : List ℕ → List ℕ → Ran
ran_of text log =
    cond (eqb (text_number text) 0)
    (cond (leb (log_length (length (text_entries text))) (length log)) (record { number = 0; line = 0; entries = length (text_entries text) }) (ran_not 27 0))
    (ran_not (text_number text) (outside text))

-- past the last record, or after any refusal, the log stays
unfoldable pub log_after : List ℕ → List ℕ → List ℕ
log_after text log = cond (eqb (text_number text) 0) (laid (text_log text) log) log

-- What is printed of a text: `entries E changes C processes N` and a line an entry, or one line that refuses it.
unfoldable pub reuse_text : List ℕ → List ℕ
reuse_text text =
    cond (eqb (text_number text) 0)
    (head_line (length (text_notes text)) (change_count (text_notes text)) (text_n text) ++ lines_of 0 (map in_log (text_notes text)))
    (refused_text_line (text_number text) (outside text))

-- What the inner functions promise, beside `seat_of` (whose row an entry is given): the record of an entry of process p, from the place
-- before it and its outcome;
abbrev pub record_from : ℕ → Kind → Place → Outcome → Note
record_from p kind place outcome =
    record {
      outcome = (told_of outcome).number;
      process = p;
      steps = steps_by place kind outcome;
      mark = (told_of outcome).value.process.0;
      value = bit_number (told_of outcome).value.bit;
    }

-- and of entries played from a state: how often X changed, and their records at the front of the rest of the log
unfoldable pub changes_from : State → List Entry → Version
changes_from st es = record { 0 = change_count (notes st es) }

unfoldable pub records_from : State → List Entry → List ℕ → List ℕ
records_from st es rest = records_of (map in_log (notes st es)) ++ drop (12 * length es) rest
