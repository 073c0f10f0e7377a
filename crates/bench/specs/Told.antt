-- What a run returns, in the documents' numbers, and what the code's answer tells of it.
use Rattle.std.specs.Prelude.{ℕ, Result, Ok, Err}
use Rattle.numbers.specs.Refusals.{refusal_number}
use Rattle.machine.specs.declared.State.{State}
use Rattle.schedule.specs.declared.FileRefusal.{FileRefusal}
use Rattle.bench.specs.declared.Ran.{Ran as RanFile}

-- 0 or the number that turned the file away, in which block, the place of a stray byte or 0, and the state after the last entry (zeros where
-- the file was turned away)
pub record Ran : Type 0 where
  pub number : ℕ
  pub block : ℕ
  pub place : ℕ
  pub state : State

abbrev pub ran_from : Result (Unit {0}) FileRefusal → State → Ran
ran_from (Ok x) state = record { number = 0; block = 0; place = 0; state = state }
ran_from (Err e) state = record { number = refusal_number e.refusal; block = e.block; place = e.place; state = state }

abbrev pub ran_as : RanFile → Ran
ran_as r = ran_from r.refused r.state
