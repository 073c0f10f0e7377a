-- One entry on a state: document 01, "Numbers for what is turned away" and "The steps".
use Rattle.std.specs.Prelude.{cond, ltb, set}
use Rattle.machine.specs.Types.{Process, Sequence, Tag, Row, Record, Kind, Ask, Step, Requested, Stepped, Outcome, NoProcess, Unsound, State, Answer}
use Rattle.step.specs.Steps.{step_of, reached, request_of}
use Rattle.machine.specs.State.{sound, row_at, record_at}

-- Which process's row an entry of p is given: a step's is the one that it reaches. A request "reaches no register": it is given p's own
-- and hands it back as it was.
abbrev pub row_given : Process → Record → Kind → Process
row_given p own (Ask request) = p
row_given p own Step = reached p own

abbrev pub with_parts : Tag → Row → Requested → Stepped
with_parts x row r = record { x = x; own = r.own; row = row; outcome = r.outcome }

-- "A request starts a call and reaches no register. A step entry then runs the next step of the named process."
abbrev pub parts_after : Sequence → Process → Tag → Record → Row → Kind → Stepped
parts_after s p x own row (Ask request) = with_parts x row (request_of s own request)
parts_after s p x own row Step = step_of p x own row

-- An entry of p leaves X, the row of q that it was given, and p's own record; everything else stays.
abbrev pub with_entry : State → Process → Process → Stepped → State
with_entry st p q m =
    record { n = st.n; s = st.s; x = m.x; rows = set st.rows q.0 m.row; records = set st.records p.0 m.own }

abbrev pub answer_with : State → Process → Process → Stepped → Answer
answer_with st p q m = record { state = with_entry st p q m; outcome = m.outcome }

-- an entry of a process that is there
unfoldable pub entered : State → Process → Kind → Answer
entered st p kind =
    let own = record_at st p.0 in
    let q = row_given p own kind in
    answer_with st p q (parts_after st.s p st.x own (row_at st q.0) kind)

-- "state the same"
abbrev pub refused : State → Outcome → Answer
refused st outcome = record { state = st; outcome = outcome }

-- "Order for an entry: 15, 11, then 12 and 13 for a request, or 14 for a step." The last three are the request's and the step's own.
unfoldable pub called : State → Process → Kind → Answer
called st p kind = cond (sound st) (cond (ltb p.0 st.n) (entered st p kind) (refused st NoProcess)) (refused st Unsound)
