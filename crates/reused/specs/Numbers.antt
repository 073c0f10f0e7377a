-- The machine's numbers, read off as one table: what is said of an entry on a state, by its conditions and in their order. Proved:
-- `numbers_in_order` in proofs/ says that this is what a direct call comes to, for every state, process and kind.
use Rattle.std.specs.Prelude.{ℕ, cond, ltb}
use Rattle.reused.specs.Types.{Process, Triple, Kind, Ask, Step, Own, Place, Idle, Load1, Load2, Load3, Store1, Store2, Check1, Stored, State}
use Rattle.reused.specs.Steps.{none_stored, stored_of, all_equal, idle}
use Rattle.reused.specs.State.{sound, row_at}
use Rattle.reused.specs.Run.{EntryNote}

-- outcome, own steps, and the load's answer
pub record Numbers : Type 0 where
  pub outcome : ℕ
  pub steps : ℕ
  pub stored : Stored

abbrev pub numbers : ℕ → ℕ → Numbers
numbers outcome steps = record { outcome = outcome; steps = steps; stored = none_stored }

-- a request, a refusal: no steps
abbrev pub no_steps : ℕ → Numbers
no_steps outcome = numbers outcome 0

-- "1 step taken, call goes on; 2 LL answered; 3 SC done; 4 SC not done; 5 VL yes; 6 VL no"; 14: "step of an idle process". "loads of
-- three steps, stores of one if not done and two if done, checks of one"
abbrev pub of_step : Triple → Own → Place → Numbers
of_step x own Idle = no_steps 14
of_step x own Load1 = numbers 1 1
of_step x own Load2 = numbers 1 2
of_step x own Load3 = record { outcome = 2; steps = 3; stored = stored_of own.old }
of_step x own (Store1 bit) = cond (all_equal x own) (numbers 1 1) (numbers 4 1)
of_step x own Store2 = numbers 3 2
of_step x own Check1 = cond (all_equal x own) (numbers 5 1) (numbers 6 1)

-- "then 12 .. for a request, or 14 for a step"
abbrev pub of_kind : State → Process → Kind → Numbers
of_kind st p (Ask request) = cond (idle (row_at st p.0).place) (no_steps 0) (no_steps 12)
of_kind st p Step = of_step st.x (row_at st p.0) (row_at st p.0).place

-- "Order for an entry: 15, 11, then .."
abbrev pub numbers_of : State → Process → Kind → Numbers
numbers_of st p kind = cond (sound st) (cond (ltb p.0 st.n) (of_kind st p kind) (no_steps 11)) (no_steps 15)

-- the same three of what is said
abbrev pub numbers_in : EntryNote → Numbers
numbers_in w = record { outcome = w.outcome; steps = w.steps; stored = w.stored }
