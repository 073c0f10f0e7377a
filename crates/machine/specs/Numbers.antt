-- Document 01's numbers, read off as one table: what the log says of an entry on a state, by its conditions and in their order. Proved:
-- `numbers_in_order` in proofs/ says that this is what a direct call comes to, for every state, process and kind.
use Rattle.std.specs.Prelude.{ℕ, cond, leb, ltb}
use Rattle.machine.specs.Types.{Process, Kind, Ask, Step, Request, Load, Store, Check, Record, Row, Place, Idle, Load1, Load2, Load3, Load5, Store7, Store8, Store9, Store10, Check14, State}
use Rattle.step.specs.Steps.{is_near, same_tag, idle}
use Rattle.machine.specs.State.{sound, row_at, record_at}
use Rattle.machine.specs.Run.{EntryNote, mark_by}

-- outcome, own steps, mark, value
pub record Numbers : Type 0 where
  pub outcome : ℕ
  pub steps : ℕ
  pub mark : ℕ
  pub value : ℕ

abbrev pub numbers : ℕ → ℕ → ℕ → ℕ → Numbers
numbers outcome steps mark value = record { outcome = outcome; steps = steps; mark = mark; value = value }

-- a request, a refusal: no steps
abbrev pub no_steps : ℕ → Numbers
no_steps outcome = numbers outcome 0 0 0

-- "0 request taken"; 13: "SC request when the next number is above S"
abbrev pub of_request : State → Process → Request → Numbers
of_request st p Load = no_steps 0
of_request st p (Store v) = cond (leb (record_at st p.0).next.0 st.s.0) (no_steps 0) (no_steps 13)
of_request st p Check = no_steps 0

-- "LL answered" after so many steps, with mark and value. Steps 3 and 5 leave X and the kept tag, so both may be read before the entry.
abbrev pub of_load : State → Record → ℕ → ℕ → Numbers
of_load st own steps v = numbers 2 steps (mark_by 2 st.x own.kept) v

-- "1 step taken, call goes on; 2 LL answered; 3 SC done; 4 SC not done; 5 VL yes; 6 VL no"; 14: "step of an idle process". [q, k] is the
-- kept tag, and q's row is given.
abbrev pub of_step : State → Record → Row → Place → Numbers
of_step st own row Idle = no_steps 14
of_step st own row Load1 = numbers 1 1 0 0
of_step st own row Load2 = numbers 1 2 0 0
of_step st own row (Load3 v) = cond (is_near row.old_number own.kept.number.0) (of_load st own 3 v) (numbers 1 3 0 0)
of_step st own row Load5 = of_load st own 4 row.old_value
of_step st own row (Store7 v) = numbers 1 1 0 0
of_step st own row Store8 = cond (same_tag st.x own.kept) (numbers 1 2 0 0) (numbers 4 2 0 0)
of_step st own row Store9 = numbers 1 3 0 0
of_step st own row Store10 = numbers 3 4 0 0
of_step st own row Check14 = cond (same_tag st.x own.kept) (numbers 5 1 0 0) (numbers 6 1 0 0)

-- "then 12 and 13 for a request, or 14 for a step"
abbrev pub of_kind : State → Process → Kind → Numbers
of_kind st p (Ask request) = cond (idle (record_at st p.0).place) (of_request st p request) (no_steps 12)
of_kind st p Step =
    let own = record_at st p.0 in
    of_step st own (row_at st own.kept.process.0) own.place

-- "Order for an entry: 15, 11, then .."
abbrev pub numbers_of : State → Process → Kind → Numbers
numbers_of st p kind = cond (sound st) (cond (ltb p.0 st.n) (of_kind st p kind) (no_steps 11)) (no_steps 15)

-- the same four of what the log says
abbrev pub numbers_in : EntryNote → Numbers
numbers_in w = numbers w.outcome w.steps w.mark w.value
