-- A run: entries as data, played one after another, and what the log says of each.
use Rattle.std.specs.Prelude.{ℕ, suc, Bool, not, cond, List, [], ◌∷◌, eqb, leb}
use Rattle.step.specs.Steps.{same_tag, own_steps, told_of}
use Rattle.machine.specs.Types.{Process, Tag, Place, Outcome, State, Kind, Ask, Step, Entry, Answer}
use Rattle.machine.specs.State.{record_at}
use Rattle.machine.specs.Entry.{called}

-- The fields of a record of the log, and whether X changed.
pub record EntryNote : Type 0 where
  pub outcome : ℕ
  pub process : ℕ
  pub steps : ℕ
  pub mark : ℕ
  pub value : ℕ
  pub changed : Bool

abbrev pub played : State → Entry → Answer
played st e = called st e.process e.kind

-- "A refused entry's outcome is its number below", and those numbers start at 11.
abbrev pub turned_away : Outcome → Bool
turned_away outcome = leb 11 (told_of outcome).number

-- "own steps of this call so far with this one (0 for a request or a refused entry)", by the place before the entry
abbrev pub steps_by : Place → Kind → Outcome → ℕ
steps_by place (Ask request) outcome = 0
steps_by place Step outcome = cond (turned_away outcome) 0 (own_steps place)

abbrev pub steps_of : State → Process → Kind → Outcome → ℕ
steps_of st p kind outcome = steps_by (record_at st p.0).place kind outcome

-- "how often X has changed" goes by this: X after the entry is not X before it
abbrev pub x_changed : State → State → Bool
x_changed before after = not (same_tag before.x after.x)

-- Document 02, P3: "From now on the bench, not the step, looks at X: mark 1 if it equals the kept tag straight after the load's last step,
-- else 2." x and kept are X and the kept tag of the entry's process, both after the entry. Outcome number 2 is "LL answered"; with every
-- other the mark is 0.
abbrev pub mark_by : ℕ → Tag → Tag → ℕ
mark_by number x kept = cond (eqb number 2) (cond (same_tag x kept) 1 2) 0

abbrev pub note_of : State → Entry → EntryNote
note_of st e =
    let a = played st e in
    record {
      outcome = (told_of a.outcome).number;
      process = e.process.0;
      steps = steps_of st e.process e.kind a.outcome;
      mark = mark_by (told_of a.outcome).number a.state.x (record_at a.state e.process.0).kept;
      value = (told_of a.outcome).value;
      changed = x_changed st a.state;
    }

-- the state after a list of entries, and the notes of them in order
unfoldable pub after : State → List Entry → State
after st [] = st
after st (e ∷ es) = after (played st e).state es

unfoldable pub notes : State → List Entry → List EntryNote
notes st [] = []
notes st (e ∷ es) = note_of st e ∷ notes (played st e).state es

-- how many of the notes say that X changed
unfoldable pub change_count : List EntryNote → ℕ
change_count [] = 0
change_count (w ∷ ws) = cond w.changed (suc (change_count ws)) (change_count ws)
