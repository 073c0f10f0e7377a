-- What an entry can come to, case by case: the one place where the steps' definitions are looked at. `G kind st' outcome changed` is
-- whatever is to be shown of the entry's kind, the state after it, its outcome, and whether X has changed.
-- Assumes nothing.
use Prim.Native.Nat.{ℕ, suc, ◌+◌, ◌≤◌, ◌<◌}
use mathlib.Core.Logic.{◌⊎◌, inl, inr}
use mathlib.Core.Path.{◌≡◌, refl, sym, ap, ◌∙◌, subst, subst₂}
use mathlib.Core.Bool.{Bool, true, false, not, cond, false≢true}
use native.Mathlib.Omega.{arith}
use lib.Dec.{eqb, leb}
use lib.IntN.{pos, ◌-ℤ◌}
use borrow.Author.Tests.{eqb-true, eq-eqb}
use Rattle.linear.specs.Types.{Process, Tag, Row, Record, Kind, Ask, Step, Request, Load, Store, Check, Requested, Place, Idle, Load1, Load2, Load3, Load5, Store7, Store8, Store9, Store10, Check14, Outcome, Taken, GoesOn, Value, Done, NotDone, Yes, No, NoProcess, CallOpen, UsedUp, NoCall, State, Answer}
use Rattle.step.specs.Steps.{is_near, same_tag, with_old, at, with_slot, with_old_value, answered, goes_on, idle, request_of, when_idle, begun, not_taken}
use Rattle.machine.specs.State.{row_at, record_at}
use Rattle.machine.specs.Entry.{with_parts, refused, called}
use Rattle.machine.specs.Frame.{Ready}
use Rattle.machine.specs.Run.{turned_away, x_changed}
use Rattle.machine.proofs.Tests.{and_left, and_right, and_both}
use Rattle.machine.proofs.Refusals.{refusal_same}
use Rattle.linear.proofs.Invariant.{slot_of}
use Rattle.linear.proofs.View.{view_of, Moved}
use Rattle.linear.proofs.Moved.{Left, row_left, step_from, by_entry, asked_left, step_left}

same_tag_lem : (x : Tag) → same_tag x x ≡ true
same_tag_lem x = and_both _ _ (eq-eqb x.process.0 x.process.0 refl) (eq-eqb x.number.0 x.number.0 refl)

unchanged : (st st' : State) → st'.x ≡ st.x → x_changed st st' ≡ false
unchanged st st' e = ap not (ap (same_tag st.x) e ∙ same_tag_lem st.x)

-- X becomes [p, next], and next is above every number that X has had for p.
changed_by : (st st' : State) (p : ℕ) → (record_at st st.x.process.0).next.0 ≡ suc st.x.number.0
    → st'.x ≡ record { process = record { 0 = p }; number = (record_at st p).next } → x_changed st st' ≡ true
changed_by st st' p following e = ap (λ (x : Tag). not (same_tag st.x x)) e ∙ ap not (go (same_tag st.x new) refl)
  where
    new : Tag
    new = record { process = record { 0 = p }; number = (record_at st p).next }

    go : (b : Bool) → same_tag st.x new ≡ b → b ≡ false
    go false t = refl
    go true t =
        let process : st.x.process.0 ≡ p = eqb-true _ _ (and_left (eqb st.x.process.0 p) (eqb st.x.number.0 (record_at st p).next.0) t) in
        let number : st.x.number.0 ≡ (record_at st p).next.0 = eqb-true _ _ (and_right (eqb st.x.process.0 p) (eqb st.x.number.0 (record_at st p).next.0) t) in
        absurd (omega (arith, number, subst (λ (q : ℕ). (record_at st q).next.0 ≡ suc st.x.number.0) process following))

-- Why an entry of p is turned away: p is not there; or a call is open, a store has no number left, no call is open.
abbrev pub TurnedAt : State → ℕ → Kind → Outcome → Type 0
TurnedAt st p (Ask request) o =
    ((o ≡ CallOpen) × (idle (record_at st p).place ≡ false)) ⊎ ((o ≡ UsedUp) × (idle (record_at st p).place ≡ true) × ((v : ℕ) × (request ≡ Store v)))
TurnedAt st p Step o = (o ≡ NoCall) × (idle (record_at st p).place ≡ true)

abbrev pub Turned : State → ℕ → Kind → Outcome → Type 0
Turned st p k o = ((o ≡ NoProcess) × (st.n ≤ p)) ⊎ ((p < st.n) × TurnedAt st p k o)

-- The cases of a process p below N: the requests that are taken, and the steps. A calm one leaves X.
module _ (G : Kind → State → Outcome → Bool → Type 0) (st : State) (p : ℕ) where
  abbrev pub Calm : Kind → Outcome → Row → Record → Type 0
  Calm k o r' o' = (st' : State) → st'.x ≡ st.x → Moved p (view_of st) (view_of st') r' o' → G k st' o false

  pub record Cases : Type 0 where
    pub asks_load : (record_at st p).place ≡ Idle → Calm (Ask Load) Taken (row_at st p) (at (record_at st p) Load1)
    pub asks_store : (u : ℕ) → (record_at st p).place ≡ Idle → Calm (Ask (Store u)) Taken (row_at st p) (at (record_at st p) (Store7 u))
    pub asks_check : (record_at st p).place ≡ Idle → Calm (Ask Check) Taken (row_at st p) (at (record_at st p) Check14)
    pub step_1 : (record_at st p).place ≡ Load1 → Calm Step GoesOn (row_at st p) (record { kept = st.x; next = (record_at st p).next; place = Load2 })
    pub step_2 : (record_at st p).place ≡ Load2
        → Calm Step GoesOn (row_at st p) (at (record_at st p) (Load3 (slot_of (row_at st (record_at st p).kept.process.0) (record_at st p).kept.number.0)))
    pub step_3_answers : (v : ℕ) → (record_at st p).place ≡ Load3 v
        → is_near (row_at st (record_at st p).kept.process.0).old_number (record_at st p).kept.number.0 ≡ true
        → Calm Step (Value v) (row_at st p) (at (record_at st p) Idle)
    pub step_3_goes_on : (v : ℕ) → (record_at st p).place ≡ Load3 v
        → is_near (row_at st (record_at st p).kept.process.0).old_number (record_at st p).kept.number.0 ≡ false
        → Calm Step GoesOn (row_at st p) (at (record_at st p) Load5)
    pub step_5 : (record_at st p).place ≡ Load5
        → Calm Step (Value (row_at st (record_at st p).kept.process.0).old_value) (row_at st p) (at (record_at st p) Idle)
    pub step_7 : (v : ℕ) → (record_at st p).place ≡ Store7 v
        → Calm Step GoesOn (with_slot (row_at st p) (record_at st p).next v) (at (record_at st p) Store8)
    pub step_8_done : (record_at st p).place ≡ Store8 → same_tag st.x (record_at st p).kept ≡ true → (st' : State)
        → st'.x ≡ record { process = record { 0 = p }; number = (record_at st p).next }
        → Moved p (view_of st) (view_of st') (row_at st p) (record { kept = (record_at st p).kept; next = record { 0 = (record_at st p).next.0 + 1 }; place = Store9 })
        → G Step st' GoesOn true
    pub step_8_not_done : (record_at st p).place ≡ Store8 → same_tag st.x (record_at st p).kept ≡ false
        → Calm Step NotDone (row_at st p) (at (record_at st p) Idle)
    pub step_9 : (record_at st p).place ≡ Store9
        → Calm Step GoesOn (with_old_value (row_at st p) (slot_of (row_at st p) (record_at st p).next.0)) (at (record_at st p) Store10)
    pub step_10 : (record_at st p).place ≡ Store10
        → Calm Step Done (with_old (row_at st p) (pos (record_at st p).next.0 -ℤ pos 2)) (at (record_at st p) Idle)
    pub step_14_yes : (record_at st p).place ≡ Check14 → same_tag st.x (record_at st p).kept ≡ true
        → Calm Step Yes (row_at st p) (at (record_at st p) Idle)
    pub step_14_no : (record_at st p).place ≡ Check14 → same_tag st.x (record_at st p).kept ≡ false
        → Calm Step No (row_at st p) (at (record_at st p) Idle)

pub idle_is : (place : Place) → idle place ≡ true → place ≡ Idle
idle_is Idle e = refl
idle_is Load1 e = absurd (false≢true e)
idle_is Load2 e = absurd (false≢true e)
idle_is (Load3 v) e = absurd (false≢true e)
idle_is Load5 e = absurd (false≢true e)
idle_is (Store7 v) e = absurd (false≢true e)
idle_is Store8 e = absurd (false≢true e)
idle_is Store9 e = absurd (false≢true e)
idle_is Store10 e = absurd (false≢true e)
idle_is Check14 e = absurd (false≢true e)

module _ (G : Kind → State → Outcome → Bool → Type 0) (st : State) (p : Process) (ready : Ready st)
    (following : (record_at st st.x.process.0).next.0 ≡ suc st.x.number.0)
    (away : (k : Kind) (o : Outcome) → turned_away o ≡ true → Turned st p.0 k o → G k st o false) (cases : p.0 < st.n → Cases G st p.0) where
  abbrev Shown : Kind → Answer → Type 0
  Shown k a = G k a.state a.outcome (x_changed st a.state)

  shown : (k : Kind) (a : Answer) (o : Outcome) (b : Bool) → a.outcome ≡ o → x_changed st a.state ≡ b → G k a.state o b → Shown k a
  shown k a o b e f g = subst₂ (G k a.state) (sym e) (sym f) g

  calm : (k : Kind) (a : Answer) (o : Outcome) → a.outcome ≡ o → a.state.x ≡ st.x → G k a.state o false → Shown k a
  calm k a o e x g = shown k a o false e (unchanged st a.state x) g

  abbrev after_step : State
  after_step = (called st p Step).state

  -- a refused entry leaves the state
  turned : (k : Kind) (o : Outcome) → (called st p k).outcome ≡ o → turned_away o ≡ true → Turned st p.0 k o → Shown k (called st p k)
  turned k o e t why =
      let same : (called st p k).state ≡ st = refusal_same st p k (ap turned_away e ∙ t) in
      shown k (called st p k) o false e (unchanged st (called st p k).state (ap (λ (s : State). s.x) same))
      (subst (λ (s : State). G k s o false) (sym same) (away k o t why))

  module _ (l : p.0 < st.n) where
    abbrev own : Record
    own = record_at st p.0

    -- a request k that leaves r of p's record
    abbrev To : Request → Requested → Type 0
    To k r = (called st p (Ask k)).outcome ≡ r.outcome → Moved p.0 (view_of st) (view_of (called st p (Ask k)).state) (row_at st p.0) r.own → Shown (Ask k) (called st p (Ask k))

    request_shown : (request : Request) → Shown (Ask request) (called st p (Ask request))
    unfolding request_of
    request_shown request = by_idle (idle own.place) refl left.outcome left.moved
      where
        left : Left p.0 st (with_parts st.x (row_at st p.0) (request_of st.s (record_at st p.0) request)) (row_at st p.0) (called st p (Ask request))
        left = asked_left st p ready l request

        by_room : (v : ℕ) (b : Bool) → own.place ≡ Idle → (called st p (Ask (Store v))).state.x ≡ st.x → To (Store v) (cond b (begun own (Store7 v)) (not_taken own UsedUp))
        by_room v true e x o m = calm (Ask (Store v)) (called st p (Ask (Store v))) Taken o x ((cases l).asks_store v e (called st p (Ask (Store v))).state x m)
        by_room v false e x o m = turned (Ask (Store v)) UsedUp o refl (inr (l, inr (refl, ap idle e, (v, refl))))

        by_kind : (r : Request) → own.place ≡ Idle → (called st p (Ask r)).state.x ≡ st.x → To r (when_idle st.s own r)
        by_kind Load e x o m = calm (Ask Load) (called st p (Ask Load)) Taken o x ((cases l).asks_load e (called st p (Ask Load)).state x m)
        by_kind (Store v) e x o m = by_room v (leb own.next.0 st.s.0) e x o m
        by_kind Check e x o m = calm (Ask Check) (called st p (Ask Check)) Taken o x ((cases l).asks_check e (called st p (Ask Check)).state x m)

        by_idle : (b : Bool) → idle own.place ≡ b → To request (cond b (when_idle st.s own request) (not_taken own CallOpen))
        by_idle true e o m = by_kind request (idle_is own.place e) left.x o m
        by_idle false e o m = turned (Ask request) CallOpen o refl (inr (l, inl (refl, e)))

    step_shown : (place : Place) → own.place ≡ place
        → Left p.0 st (step_from st p place) (row_left place (row_at st p.0) (step_from st p place)) (called st p Step)
        → Shown Step (called st p Step)
    step_shown Idle e left = turned Step NoCall left.outcome refl (inr (l, (refl, ap idle e)))
    step_shown Load1 e left = calm Step (called st p Step) GoesOn left.outcome left.x ((cases l).step_1 e after_step left.x left.moved)
    step_shown Load2 e left = calm Step (called st p Step) GoesOn left.outcome left.x ((cases l).step_2 e after_step left.x left.moved)
    step_shown (Load3 v) e left = go (is_near (row_at st own.kept.process.0).old_number own.kept.number.0) refl left
      where
        go : (b : Bool) → is_near (row_at st own.kept.process.0).old_number own.kept.number.0 ≡ b
            → Left p.0 st
            (cond b (answered st.x own (row_at st own.kept.process.0) (Value v)) (goes_on st.x (at own Load5) (row_at st own.kept.process.0)))
            (row_at st p.0) (called st p Step)
            → Shown Step (called st p Step)
        go true t left = calm Step (called st p Step) (Value v) left.outcome left.x ((cases l).step_3_answers v e t after_step left.x left.moved)
        go false t left = calm Step (called st p Step) GoesOn left.outcome left.x ((cases l).step_3_goes_on v e t after_step left.x left.moved)
    step_shown Load5 e left =
        calm Step (called st p Step) (Value (row_at st own.kept.process.0).old_value) left.outcome left.x ((cases l).step_5 e after_step left.x left.moved)
    step_shown (Store7 v) e left = calm Step (called st p Step) GoesOn left.outcome left.x ((cases l).step_7 v e after_step left.x left.moved)
    step_shown Store8 e left = go (same_tag st.x own.kept) refl left
      where
        go : (b : Bool) → same_tag st.x own.kept ≡ b
            → Left p.0 st
            (cond b
            (goes_on (record { process = p; number = own.next }) (record { kept = own.kept; next = record { 0 = own.next.0 + 1 }; place = Store9 }) (row_at st p.0))
            (answered st.x own (row_at st p.0) NotDone))
            (row_at st p.0) (called st p Step)
            → Shown Step (called st p Step)
        go true t left =
            shown Step (called st p Step) GoesOn true left.outcome (changed_by st after_step p.0 following left.x) ((cases l).step_8_done e t after_step left.x left.moved)
        go false t left = calm Step (called st p Step) NotDone left.outcome left.x ((cases l).step_8_not_done e t after_step left.x left.moved)
    step_shown Store9 e left = calm Step (called st p Step) GoesOn left.outcome left.x ((cases l).step_9 e after_step left.x left.moved)
    step_shown Store10 e left = calm Step (called st p Step) Done left.outcome left.x ((cases l).step_10 e after_step left.x left.moved)
    step_shown Check14 e left = go (same_tag st.x own.kept) refl left.outcome
      where
        go : (b : Bool) → same_tag st.x own.kept ≡ b → (called st p Step).outcome ≡ cond b Yes No → Shown Step (called st p Step)
        go true t o = calm Step (called st p Step) Yes o left.x ((cases l).step_14_yes e t after_step left.x left.moved)
        go false t o = calm Step (called st p Step) No o left.x ((cases l).step_14_no e t after_step left.x left.moved)

  -- Every entry of p is one of these.
  pub by_cases : (k : Kind) → G k (called st p k).state (called st p k).outcome (x_changed st (called st p k).state)
  by_cases k =
      by_entry st p ready Shown
      (λ g j. shown j (refused st NoProcess) NoProcess false refl (unchanged st st refl) (away j NoProcess refl (inl (refl, g))))
      enters
      k
    where
      enters : p.0 < st.n → (k : Kind) → Shown k (called st p k)
      enters l (Ask request) = request_shown l request
      enters l Step = step_shown l (record_at st p.0).place refl (step_left st p ready l)
