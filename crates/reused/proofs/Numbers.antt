-- The table of numbers, by its conditions and in its order, is what a direct call comes to.
use mathlib.Core.Path.{◌≡◌, refl}
use mathlib.Core.Bool.{Bool, true, false, cond}
use lib.Dec.{ltb}
use Rattle.reused.specs.Types.{Process, Own, Place, Idle, Load1, Load2, Load3, Store1, Store2, Check1, Kind, Ask, Step, Request, Outcome, Taken, NotDone, Yes, No, NoProcess, CallOpen, Unsound, Requested, State, Answer}
use Rattle.reused.specs.Steps.{all_equal, at, goes_on, answered, step_at, idle, first_place, told_of}
use Rattle.reused.specs.State.{sound, row_at}
use Rattle.reused.specs.Called.{looked_at, refused, entered, called}
use Rattle.reused.specs.Run.{steps_by, note_of}
use Rattle.reused.specs.Numbers.{Numbers, numbers, no_steps, of_step, of_kind, numbers_of, numbers_in}

-- what is said of an outcome, by the place before the entry
abbrev printed : Place → Kind → Outcome → Numbers
printed place kind o = record { outcome = (told_of o).number; steps = steps_by place kind o; stored = (told_of o).value }

-- an entry that is not looked at further
absent : (place : Place) (kind : Kind) → printed place kind NoProcess ≡ no_steps 11
absent place (Ask request) = refl
absent place Step = refl

unsound : (place : Place) (kind : Kind) → printed place kind Unsound ≡ no_steps 15
unsound place (Ask request) = refl
unsound place Step = refl

module _ (st : State) (p : Process) where
  abbrev own : Own
  own = row_at st p.0

  request_numbers : (request : Request) (b : Bool)
      → printed (row_at st p.0).place (Ask request) (cond {A = Requested} b (record { own = at (row_at st p.0) (first_place request); outcome = Taken }) (record { own = row_at st p.0; outcome = CallOpen })).outcome
      ≡ cond b (no_steps 0) (no_steps 12)
  request_numbers request true = refl
  request_numbers request false = refl

  step_numbers : (place : Place)
      → printed place Step (step_at st.n st.m p st.x (row_at st p.0) (looked_at st (row_at st p.0)) place).outcome ≡ of_step st.x (row_at st p.0) place
  step_numbers Idle = refl
  step_numbers Load1 = refl
  step_numbers Load2 = refl
  step_numbers Load3 = refl
  step_numbers (Store1 bit) = go (all_equal st.x own)
    where
      go : (b : Bool)
          → printed (Store1 bit) Step (cond b (goes_on (record { tag = own.tag; process = p; bit = bit }) (at own Store2)) (answered st.x own NotDone)).outcome
          ≡ cond b (numbers 1 1) (numbers 4 1)
      go true = refl
      go false = refl
  step_numbers Store2 = refl
  step_numbers Check1 = go (all_equal st.x own)
    where
      go : (b : Bool) → printed Check1 Step (cond b Yes No) ≡ cond b (numbers 5 1) (numbers 6 1)
      go true = refl
      go false = refl

  kind_numbers : (kind : Kind) → printed (row_at st p.0).place kind (entered st p kind).outcome ≡ of_kind st p kind
  unfolding entered
  kind_numbers (Ask request) = request_numbers request (idle own.place)
  kind_numbers Step = step_numbers own.place

pub numbers_in_order : (st : State) (p : Process) (kind : Kind) → numbers_in (note_of st (record { process = p; kind = kind })) ≡ numbers_of st p kind
unfolding called
numbers_in_order st p kind = outer (sound st)
  where
    said : Answer → Numbers
    said a = printed (row_at st p.0).place kind a.outcome

    inner : (b : Bool) → said (cond b (entered st p kind) (refused st NoProcess)) ≡ cond b (of_kind st p kind) (no_steps 11)
    inner true = kind_numbers st p kind
    inner false = absent (row_at st p.0).place kind

    outer : (b : Bool)
        → said (cond b (cond (ltb p.0 st.n) (entered st p kind) (refused st NoProcess)) (refused st Unsound))
        ≡ cond b (cond (ltb p.0 st.n) (of_kind st p kind) (no_steps 11)) (no_steps 15)
    outer true = inner (ltb p.0 st.n)
    outer false = unsound (row_at st p.0).place kind
