-- The three claims of document 001, section 4.5, that it assumed and did not prove: (W1), (W9) and (W4short), of every state that a run
-- from the start reaches. Its pc 7 is `Store2`, its old, chk, tag, nextStart and procNum are a row's old, check, tag, start and search.
-- Arcs are half open.
use Rattle.std.specs.Prelude.{ℕ, ◌+◌, ◌*◌, ◌<◌, ◌≡◌, true, false, ◌⊎◌}
use Rattle.reused.specs.Circle.{ahead}
use Rattle.reused.specs.Steps.{hits}
use Rattle.reused.specs.State.{row_at}
use Rattle.reused.specs.Called.{looked_at}
use Rattle.reused_linear.specs.Types.{Process, Triple, Some, Place, Idle, Load1, Load2, Load3, Store1, Store2, Check1, State}
use Rattle.reused_linear.specs.Arcs.{way, InArc}
use Rattle.reused_linear.specs.Safe.{Safe, end_safe}

-- "#pc.p = 7": 1 if it is, else 0
abbrev pub at_choice : Place → ℕ
at_choice Idle = 0
at_choice Load1 = 0
at_choice Load2 = 0
at_choice Load3 = 0
at_choice (Store1 bit) = 0
at_choice Store2 = 1
at_choice Check1 = 0

-- "pc.r ∉ {1, 2, 3}". It is enough that r waits for neither step 2 nor step 3 of a load: at 1 the claim holds as well.
abbrev pub OutsideLoad : Place → Type 0
OutsideLoad Idle = Unit {0}
OutsideLoad Load1 = Unit {0}
OutsideLoad Load2 = ⊥
OutsideLoad Load3 = ⊥
OutsideLoad (Store1 bit) = Unit {0}
OutsideLoad Store2 = Unit {0}
OutsideLoad Check1 = Unit {0}

pub record Claims (st : State) (safe : ℕ → Safe) : Type 0 where
  -- (W1) "For a process r that has completed its LL operation and for which the old and chk values are equal, the tag field of old.r is
  -- not in the remaining safe interval of the process from the pid field of old.r": [tag.p ⊕ (#pc.p = 7), endSafe.p)
  pub w1 : (r : ℕ) → r < st.n → (w : Triple) → OutsideLoad (row_at st r).place → (row_at st r).old ≡ Some w → (row_at st r).check ≡ Some w
      → InArc st.m (ahead st.m (row_at st w.process.0).tag.0 (at_choice (row_at st w.process.0).place)) (end_safe st.n st.m (safe w.process.0)) w.tag.0
      → ⊥
  -- (W9) "under the conditions when a new tag is selected from the current safe interval, the end of the safe interval has not been reached
  -- yet": tag.r ⊕ 1 is in [startSafe.r, endSafe.r), one further from startSafe.r than tag.r is
  pub w9 : (r : Process) → r.0 < st.n → (row_at st r.0).place ≡ Store2
      → (let own = row_at st r.0 in
      (hits st.n st.m r own (looked_at st own) ≡ true) ⊎ ((hits st.n st.m r own (looked_at st own) ≡ false) × (own.search.0 + 1 < st.n)))
      → (let own = row_at st r.0 in
      InArc st.m (safe r.0).start (end_safe st.n st.m (safe r.0)) (ahead st.m own.tag.0 1)
      × (way st.m (safe r.0).start (ahead st.m own.tag.0 1) ≡ way st.m (safe r.0).start own.tag.0 + 1))
  -- (W4short) "is used to limit the amount of 'jumps'"
  pub w4short : (r : ℕ) → r < st.n → (safe r).jump < 2 * st.n + 1
