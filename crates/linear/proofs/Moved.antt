-- What an entry leaves of a state, as far as the invariants speak of it: X, and the row and the record of its process; all else stays.
-- From here on the states themselves are not looked into.
-- Assumes nothing.
use Prim.Native.Nat.{ℕ, ◌≤◌, ◌<◌}
use mathlib.Core.Path.{◌≡◌, refl, ap, ◌∙◌}
use mathlib.Core.Bool.{Bool, true, false, cond}
use native.Mathlib.Omega.{arith}
use lib.Dec.{leb, ltb}
use borrow.Author.Tests.{lt-ltb, ltb-true, ltb-false, le-leb}
use Rattle.linear.specs.Types.{Process, Row, Kind, Ask, Step, Request, Place, Idle, Load1, Load2, Load3, Load5, Store7, Store8, Store9, Store10, Check14, Stepped, NoProcess, State, Answer}
use Rattle.numbers.proofs.Range.{range_of}
use Rattle.step.specs.Steps.{is_near, same_tag, step_at, step_of, reached_at, largest_next, request_of}
use Rattle.step.proofs.Reach.{either_way}
use Rattle.machine.specs.State.{row_at, record_at}
use Rattle.machine.specs.Entry.{with_parts, with_entry, refused, entered, called}
use Rattle.machine.specs.Frame.{Ready}
use Rattle.machine.proofs.Soundness.{sure}
use Rattle.machine.proofs.Writers.{row_same, row_kept, record_same}
use Rattle.machine.proofs.Frame.{frame}
use Rattle.linear.proofs.View.{view_of, frame_of, Moved}

-- the process in a kept tag is below N
pub tag_below : (st : State) (p : ℕ) → Ready st → p < st.n → (record_at st p).kept.process.0 < st.n
tag_below st p ready l = ((sure ready).each p l).kept.owner

-- what an entry of p that leaves m comes to
pub record Left (p : ℕ) (st : State) (m : Stepped) (r' : Row) (a : Answer) : Type 0 where
  pub outcome : a.outcome ≡ m.outcome
  pub x : a.state.x ≡ m.x
  pub moved : Moved p (view_of st) (view_of a.state) r' m.own

-- p's own row after a step: only 7, 9 and 10 write into it
abbrev pub row_left : Place → Row → Stepped → Row
row_left Idle r m = r
row_left Load1 r m = r
row_left Load2 r m = r
row_left (Load3 v) r m = r
row_left Load5 r m = r
row_left (Store7 v) r m = m.row
row_left Store8 r m = r
row_left Store9 r m = m.row
row_left Store10 r m = m.row
row_left Check14 r m = r

-- the step that p takes at a place
abbrev pub step_from : State → Process → Place → Stepped
step_from st p place =
    step_at p st.x (record_at st p.0) (row_at st (reached_at p (record_at st p.0).kept place).0) place

module _ (st : State) (p : Process) (ready : Ready st) where
  -- Process not below N: 11. Otherwise a request or a step of its own.
  pub by_entry : (P : Kind → Answer → Type 0)
      → (st.n ≤ p.0 → (k : Kind) → P k (refused st NoProcess)) → (p.0 < st.n → (k : Kind) → P k (called st p k))
      → (k : Kind) → P k (called st p k)
  unfolding called
  by_entry P away enters k = rw ready.tested (inner (ltb p.0 st.n) refl)
    where
      enters' : p.0 < st.n → P k (entered st p k)
      enters' l = rw (ready.tested, lt-ltb p.0 st.n l) at (enters l k)

      inner : (b : Bool) → ltb p.0 st.n ≡ b → P k (cond b (entered st p k) (refused st NoProcess))
      inner true e = enters' (ltb-true p.0 st.n e)
      inner false e = away (ltb-false p.0 st.n e) k

  module _ (l : p.0 < st.n) where
    sixteen : p.0 < 16
    sixteen = omega (arith, l, (range_of st.n st.s (sure ready).range).few)

    called_is : (k : Kind) → called st p k ≡ entered st p k
    unfolding called
    called_is k = rw (ready.tested, lt-ltb p.0 st.n l)

    -- what holds of the entry over its parts holds of the call
    left_by : (k : Kind) (m : Stepped) (r' : Row) → (entered st p k).outcome ≡ m.outcome → (entered st p k).state.x ≡ m.x
        → row_at (entered st p k).state p.0 ≡ r' → record_at (entered st p k).state p.0 ≡ m.own
        → Left p.0 st m r' (called st p k)
    left_by k m r' outcome x row own =
        let e = called_is k in
        record {
          outcome = ap (λ (a : Answer). a.outcome) e ∙ outcome;
          x = ap (λ (a : Answer). a.state.x) e ∙ x;
          moved = record {
            frame = frame_of st (called st p k).state (frame st p k);
            row = ap (λ (a : Answer). row_at a.state p.0) e ∙ row;
            own = ap (λ (a : Answer). record_at a.state p.0) e ∙ own;
          };
        }

    -- A request touches p's record alone.
    pub asked_left : (request : Request)
        → Left p.0 st (with_parts st.x (row_at st p.0) (request_of st.s (record_at st p.0) request)) (row_at st p.0) (called st p (Ask request))
    unfolding entered
    asked_left request =
        let m = with_parts st.x (row_at st p.0) (request_of st.s (record_at st p.0) request) in
        left_by (Ask request) m (row_at st p.0) refl refl (row_kept st p p m refl p.0) (record_same st p p m (omega (arith, sixteen, ready.full.records)))

    -- A step hands back the row that it was given. If that is another's it is as it was, and so p's own is.
    row_law : (place : Place)
        → row_at (with_entry st p (reached_at p (record_at st p.0).kept place) (step_from st p place)) p.0 ≡ row_left place (row_at st p.0) (step_from st p place)
    row_law Idle = row_kept st p p (step_from st p Idle) refl p.0
    row_law Load1 = row_kept st p p (step_from st p Load1) refl p.0
    row_law Load2 = row_kept st p (record_at st p.0).kept.process (step_from st p Load2) refl p.0
    row_law (Load3 v) =
        let q = (record_at st p.0).kept.process in
        row_kept st p q (step_from st p (Load3 v))
        (either_way (λ m. m.row ≡ row_at st q.0) (is_near (row_at st q.0).old_number (record_at st p.0).kept.number.0) refl refl) p.0
    row_law Load5 = row_kept st p (record_at st p.0).kept.process (step_from st p Load5) refl p.0
    row_law (Store7 v) = row_same st p p (step_from st p (Store7 v)) (omega (arith, sixteen, ready.full.rows))
    row_law Store8 =
        row_kept st p p (step_from st p Store8) (either_way (λ m. m.row ≡ row_at st p.0) (same_tag st.x (record_at st p.0).kept) refl refl) p.0
    row_law Store9 = row_same st p p (step_from st p Store9) (omega (arith, sixteen, ready.full.rows))
    row_law Store10 = row_same st p p (step_from st p Store10) (omega (arith, sixteen, ready.full.rows))
    row_law Check14 = row_kept st p p (step_from st p Check14) refl p.0

    abbrev place : Place
    place = (record_at st p.0).place

    small : leb (record_at st p.0).next.0 largest_next ≡ true
    small = le-leb (record_at st p.0).next.0 largest_next (omega (arith, ((sure ready).each p.0 l).high, (range_of st.n st.s (sure ready).range).last))

    step_parts :
        ((entered st p Step).outcome ≡ (step_from st p place).outcome) × ((entered st p Step).state.x ≡ (step_from st p place).x)
        × (row_at (entered st p Step).state p.0 ≡ row_left place (row_at st p.0) (step_from st p place))
        × (record_at (entered st p Step).state p.0 ≡ (step_from st p place).own)
    unfolding entered step_of
    step_parts =
        rw small
        (refl, refl, row_law place, record_same st p (reached_at p (record_at st p.0).kept place) (step_from st p place) (omega (arith, sixteen, ready.full.records)))

    pub step_left : Left p.0 st (step_from st p place) (row_left place (row_at st p.0) (step_from st p place)) (called st p Step)
    step_left =
        let parts = step_parts in
        left_by Step (step_from st p place) (row_left place (row_at st p.0) (step_from st p place)) parts.0 parts.1 parts.2 parts.3
