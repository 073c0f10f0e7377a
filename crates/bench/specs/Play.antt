-- A run that goes on from a state and a count of changes: where it comes to, and the records that it writes.
use Rattle.std.specs.Prelude.{ℕ, ◌+◌, ◌*◌, cond, List, ◌++◌, map, length, drop}
use Rattle.step.specs.Steps.{told_of}
use Rattle.bench.specs.Bench.{in_log}
use Rattle.bench.specs.Types.{Entry, Outcome, Tag, Note, Played}
use Rattle.machine.specs.Run.{turned_away, mark_by, notes, after, change_count}
use Rattle.run_log.specs.Log.{records_of}

-- the record of an entry of process p, from the own steps that it has unless it is turned away, its outcome, and X and p's kept tag after
-- it
abbrev pub record_from : ℕ → ℕ → Outcome → Tag → Tag → Note
record_from p ahead outcome x kept =
    record {
      outcome = (told_of outcome).number;
      process = p;
      steps = cond (turned_away outcome) 0 ahead;
      mark = mark_by (told_of outcome).number x kept;
      value = (told_of outcome).value;
    }

unfoldable pub played_from : Played → List Entry → Played
played_from from es =
    record { state = after from.state es; changes = record { 0 = from.changes.0 + change_count (notes from.state es) } }

-- the records of these entries at the front of the rest of the log; what lies past them stays
unfoldable pub records_from : Played → List Entry → List ℕ → List ℕ
records_from from es rest = records_of (map in_log (notes from.state es)) ++ drop (12 * length es) rest
