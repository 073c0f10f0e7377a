-- An entry's record by its outcome, the item that it tells, and that an entry which is turned away tells nothing.
-- Assumes nothing.
use Prim.Native.Nat.{ℕ}
use mathlib.Core.Path.{◌≡◌, refl}
use mathlib.Core.Bool.{true, false≢true}
use lib.Dec.{leb}
use Rattle.linear.specs.Types.{Process, Tag, Entry, Kind, Ask, Step, Outcome, Taken, GoesOn, Value, Done, NotDone, Yes, No, NoProcess, CallOpen, UsedUp, NoCall, Unsound, State, Note}
use Rattle.step.specs.Steps.{told_of}
use Rattle.machine.specs.State.{record_at}
use Rattle.machine.specs.Run.{turned_away, steps_of, mark_by}
use Rattle.word.specs.Calls.{Item, away}
use Rattle.word.proofs.Items as items
use Rattle.linear.specs.Demand3.{wants_of, said_of, item_by}

abbrev pub entry_of : Process → Kind → Entry
entry_of p k = record { process = p; kind = k }

-- an entry on st that leaves st'
abbrev pub note_with : State → Process → Kind → State → Outcome → Note
note_with st p k st' o =
    record {
      outcome = (told_of o).number;
      process = p.0;
      steps = steps_of st p k o;
      mark = mark_by (told_of o).number st'.x (record_at st' p.0).kept;
      value = (told_of o).value;
    }

-- what came of it
abbrev pub came : State → Process → Kind → State → Outcome → Item ℕ
came st p k st' o = item_by p.0 k (note_with st p k st' o)

-- an outcome of 11 or more tells nothing, and counts no step
pub item_away : (p : ℕ) (k : Kind) (w : Note) → leb 11 w.outcome ≡ true → item_by p k w ≡ away
item_away p k w e = items.item_away p (wants_of k) (said_of w) e

pub away_steps : (st : State) (p : Process) (k : Kind) (o : Outcome) → turned_away o ≡ true → steps_of st p k o ≡ 0
away_steps st p (Ask request) o e = refl
away_steps st p Step o e = rw e

-- nor has it a mark or a value
pub away_plain : (o : Outcome) → turned_away o ≡ true → ((x kept : Tag) → mark_by (told_of o).number x kept ≡ 0) × ((told_of o).value ≡ 0)
away_plain Taken e = (λ x kept. refl, refl)
away_plain GoesOn e = (λ x kept. refl, refl)
away_plain (Value v) e = absurd (false≢true e)
away_plain Done e = (λ x kept. refl, refl)
away_plain NotDone e = (λ x kept. refl, refl)
away_plain Yes e = (λ x kept. refl, refl)
away_plain No e = (λ x kept. refl, refl)
away_plain NoProcess e = (λ x kept. refl, refl)
away_plain CallOpen e = (λ x kept. refl, refl)
away_plain UsedUp e = (λ x kept. refl, refl)
away_plain NoCall e = (λ x kept. refl, refl)
away_plain Unsound e = (λ x kept. refl, refl)
