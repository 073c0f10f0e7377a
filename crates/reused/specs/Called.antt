-- One entry on a state: document 02, P9, "Refusals: .. 11, 12, 14 and 15 in 01's order".
use Rattle.std.specs.Prelude.{ℕ, cond, ltb, set}
use Rattle.reused.specs.Types.{Process, Triple, Option, Own, Kind, Ask, Step, Outcome, NoProcess, Unsound, Requested, Stepped, State, Answer, Announced}
use Rattle.reused.specs.Steps.{step_of, request_of}
use Rattle.reused.specs.State.{sound, row_at}

abbrev pub with_x : Triple → Requested → Stepped
with_x x r = record { x = x; own = r.own; outcome = r.outcome }

-- "A request starts a call and reaches no register. A step entry then runs the next step of the named process."
abbrev pub parts_after : ℕ → ℕ → Process → Triple → Own → Option Announced → Kind → Stepped
parts_after n m p x own looked (Ask request) = with_x x (request_of own request)
parts_after n m p x own looked Step = step_of n m p x own looked

-- the place of A that the second step of a store looks at: that of the search place
abbrev pub looked_at : State → Own → Option Announced
looked_at st own = (row_at st own.search.0).named

-- An entry of p leaves X and p's row; everything else stays.
abbrev pub with_entry : State → Process → Stepped → State
with_entry st p r = record { n = st.n; m = st.m; x = r.x; rows = set st.rows p.0 r.own }

abbrev pub answer_with : State → Process → Stepped → Answer
answer_with st p r = record { state = with_entry st p r; outcome = r.outcome }

-- an entry of a process that is there
unfoldable pub entered : State → Process → Kind → Answer
entered st p kind =
    let own = row_at st p.0 in
    answer_with st p (parts_after st.n st.m p st.x own (looked_at st own) kind)

-- "state the same"
abbrev pub refused : State → Outcome → Answer
refused st outcome = record { state = st; outcome = outcome }

-- "15, 11, then 12 .. for a request, or 14 for a step." The last two are the request's and the step's own.
unfoldable pub called : State → Process → Kind → Answer
called st p kind = cond (sound st) (cond (ltb p.0 st.n) (entered st p kind) (refused st NoProcess)) (refused st Unsound)
