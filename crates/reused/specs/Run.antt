-- A run: entries as data, played one after another, and what is printed of each.
use Rattle.std.specs.Prelude.{ℕ, suc, Bool, not, cond, List, [], ◌∷◌, leb}
use Rattle.reused.specs.Types.{Place, Stored, Outcome, State, Kind, Ask, Step, Entry, Answer}
use Rattle.reused.specs.Steps.{same_triple, own_steps, told_of}
use Rattle.reused.specs.State.{row_at}
use Rattle.reused.specs.Called.{called}

-- What is said of an entry: "process, outcome, own steps, and the load's answer as process and bit"; and whether X changed.
pub record EntryNote : Type 0 where
  pub outcome : ℕ
  pub process : ℕ
  pub steps : ℕ
  pub stored : Stored
  pub changed : Bool

abbrev pub played : State → Entry → Answer
played st e = called st e.process e.kind

-- "A refused entry's outcome is its number below", and those numbers start at 11.
abbrev pub turned_away : Outcome → Bool
turned_away outcome = leb 11 (told_of outcome).number

-- "own steps of this call so far with this one (0 for a request or a refused entry)", by the place before the entry
abbrev pub steps_by : Place → Kind → Outcome → ℕ
steps_by place (Ask request) outcome = 0
steps_by place Step outcome = cond (turned_away outcome) 0 (own_steps place)

-- "how often X has changed" goes by this: X after the entry is not X before it
abbrev pub x_changed : State → State → Bool
x_changed before after = not (same_triple before.x after.x)

abbrev pub note_of : State → Entry → EntryNote
note_of st e =
    let a = played st e in
    record {
      outcome = (told_of a.outcome).number;
      process = e.process.0;
      steps = steps_by (row_at st e.process.0).place e.kind a.outcome;
      stored = (told_of a.outcome).value;
      changed = x_changed st a.state;
    }

-- the state after a list of entries, and the notes of them in order
unfoldable pub after : State → List Entry → State
after st [] = st
after st (e ∷ es) = after (played st e).state es

unfoldable pub notes : State → List Entry → List EntryNote
notes st [] = []
notes st (e ∷ es) = note_of st e ∷ notes (played st e).state es

-- how many of the notes say that X changed
unfoldable pub change_count : List EntryNote → ℕ
change_count [] = 0
change_count (w ∷ ws) = cond w.changed (suc (change_count ws)) (change_count ws)
