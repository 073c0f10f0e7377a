-- An entry that is turned away changes nothing; and no run from a start meets 15.
use Prim.Native.Nat.{ℕ, ◌≤◌}
use mathlib.Core.Path.{◌≡◌, refl, sym, ap, ◌∙◌}
use mathlib.Core.Logic.{◌≢◌, ⊎_elim}
use mathlib.Core.Bool.{Bool, true, false, cond, false≢true}
use mathlib.Core.List.Memᴰ
use mathlib.Core.List.{List, [], ◌∷◌, Memᴰ}
use native.Mathlib.Omega.{arith}
use lib.Dec.{leb, ltb}
use borrow.Author.Tests.{le-leb, ltb-true}
use Rattle.numbers.specs.Numbers.{in_range}
use Rattle.numbers.proofs.Range.{range_of}
use Rattle.step.specs.Steps.{is_near, same_tag, at, step_at, step_of, largest_next, idle, request_of, when_idle, begun, not_taken, told_of}
use Rattle.step.proofs.Reach.{either_way}
use Rattle.machine.specs.Types.{Process, Sequence, Tag, Row, Record, Place, Idle, Load1, Load2, Load3, Load5, Store7, Store8, Store9, Store10, Check14, Request, Load, Store, Check, Stepped, Outcome, NoProcess, CallOpen, UsedUp, Yes, No, Entry, State, Kind, Ask, Step}
use Rattle.machine.specs.State.{row_at, record_at, first_state}
use Rattle.machine.specs.Entry.{parts_after, refused, entered, called}
use Rattle.machine.specs.Frame.{Ready}
use Rattle.machine.specs.Run.{EntryNote, turned_away, played, notes}
use Rattle.machine.proofs.Soundness.{sure}
use Rattle.machine.proofs.Frame.{by_call, given, left}
use Rattle.machine.proofs.Writers.{all_kept}
use Rattle.machine.proofs.RunLaws.{ready_start, ready_played, played_ready}

-- A request that is not taken hands back the record as it was.
request_away : (s : Sequence) (own : Record) (request : Request) → turned_away (request_of s own request).outcome ≡ true → (request_of s own request).own ≡ own
unfolding request_of
request_away s own request = by_idle (idle own.place)
  where
    by_room : (v : ℕ) (b : Bool) → turned_away (cond b (begun own (Store7 v)) (not_taken own UsedUp)).outcome ≡ true
        → (cond b (begun own (Store7 v)) (not_taken own UsedUp)).own ≡ own
    by_room v true e = absurd (false≢true e)
    by_room v false e = refl

    by_kind : (r : Request) → turned_away (when_idle s own r).outcome ≡ true → (when_idle s own r).own ≡ own
    by_kind Load e = absurd (false≢true e)
    by_kind (Store v) e = by_room v (leb own.next.0 s.0) e
    by_kind Check e = absurd (false≢true e)

    by_idle : (b : Bool) → turned_away (cond b (when_idle s own request) (not_taken own CallOpen)).outcome ≡ true
        → (cond b (when_idle s own request) (not_taken own CallOpen)).own ≡ own
    by_idle true e = by_kind request e
    by_idle false e = refl

-- A step that is not taken hands back all that it was given.
step_away : (p : Process) (x : Tag) (own : Record) (row : Row) → turned_away (step_of p x own row).outcome ≡ true
    → ((step_of p x own row).x ≡ x) × ((step_of p x own row).own ≡ own) × ((step_of p x own row).row ≡ row)
unfolding step_of
step_away p x own row = either_way Same (leb own.next.0 largest_next) (go own.place) (λ e. (refl, refl, refl))
  where
    Same : Stepped → Type 0
    Same m = turned_away m.outcome ≡ true → (m.x ≡ x) × (m.own ≡ own) × (m.row ≡ row)

    go : (place : Place) → Same (step_at p x own row place)
    go Idle e = (refl, refl, refl)
    go Load1 e = absurd (false≢true e)
    go Load2 e = absurd (false≢true e)
    go (Load3 v) e = either_way Same (is_near row.old_number own.kept.number.0) (λ t. absurd (false≢true t)) (λ t. absurd (false≢true t)) e
    go Load5 e = absurd (false≢true e)
    go (Store7 v) e = absurd (false≢true e)
    go Store8 e = either_way Same (same_tag x own.kept) (λ t. absurd (false≢true t)) (λ t. absurd (false≢true t)) e
    go Store9 e = absurd (false≢true e)
    go Store10 e = absurd (false≢true e)
    go Check14 e = answers (same_tag x own.kept) e
      where
        answers : (b : Bool) → turned_away (cond b Yes No) ≡ true → (x ≡ x) × (at own Idle ≡ own) × (row ≡ row)
        answers true t = absurd (false≢true t)
        answers false t = absurd (false≢true t)

-- An entry that is not taken hands back all that it was given.
entry_away : (s : Sequence) (p : Process) (x : Tag) (own : Record) (row : Row) (kind : Kind) → turned_away (parts_after s p x own row kind).outcome ≡ true
    → ((parts_after s p x own row kind).x ≡ x) × ((parts_after s p x own row kind).own ≡ own) × ((parts_after s p x own row kind).row ≡ row)
entry_away s p x own row (Ask request) e = (refl, request_away s own request e, refl)
entry_away s p x own row Step e = step_away p x own row e

entered_same : (st : State) (p : Process) (kind : Kind) → turned_away (entered st p kind).outcome ≡ true → (entered st p kind).state ≡ st
unfolding entered
entered_same st p kind e =
    let same = entry_away st.s p st.x (record_at st p.0) (row_at st (given st p kind).0) kind e in
    all_kept st p (given st p kind) (left st p kind) same.0 same.1 same.2

-- 11 to 15: "state the same"
pub refusal_same : (st : State) (p : Process) (kind : Kind) → turned_away (called st p kind).outcome ≡ true → (called st p kind).state ≡ st
refusal_same st p kind =
    by_call (λ a. turned_away a.outcome ≡ true → a.state ≡ st) st p kind (λ outcome e. refl) (λ sure below. entered_same st p kind)

-- Neither a request nor a step of a sound record is ever called unsound.
Not15 : Outcome → Type 0
Not15 outcome = (told_of outcome).number ≢ 15

request_not_15 : (s : Sequence) (own : Record) (request : Request) → Not15 (request_of s own request).outcome
unfolding request_of Not15
request_not_15 s own request = by_idle (idle own.place)
  where
    by_room : (v : ℕ) (b : Bool) → Not15 (cond b (begun own (Store7 v)) (not_taken own UsedUp)).outcome
    by_room v true = λ e. omega (arith, e)
    by_room v false = λ e. omega (arith, e)

    by_kind : (r : Request) → Not15 (when_idle s own r).outcome
    by_kind Load = λ e. omega (arith, e)
    by_kind (Store v) = by_room v (leb own.next.0 s.0)
    by_kind Check = λ e. omega (arith, e)

    by_idle : (b : Bool) → Not15 (cond b (when_idle s own request) (not_taken own CallOpen)).outcome
    by_idle true = by_kind request
    by_idle false = λ e. omega (arith, e)

step_not_15 : (p : Process) (x : Tag) (own : Record) (row : Row) → own.next.0 ≤ largest_next → Not15 (step_of p x own row).outcome
unfolding step_of Not15
step_not_15 p x own row l = rw (le-leb own.next.0 largest_next l) (go own.place)
  where
    Not : Stepped → Type 0
    Not m = Not15 m.outcome

    go : (place : Place) → Not15 (step_at p x own row place).outcome
    go Idle = λ e. omega (arith, e)
    go Load1 = λ e. omega (arith, e)
    go Load2 = λ e. omega (arith, e)
    go (Load3 v) = either_way Not (is_near row.old_number own.kept.number.0) (λ e. omega (arith, e)) (λ e. omega (arith, e))
    go Load5 = λ e. omega (arith, e)
    go (Store7 v) = λ e. omega (arith, e)
    go Store8 = either_way Not (same_tag x own.kept) (λ e. omega (arith, e)) (λ e. omega (arith, e))
    go Store9 = λ e. omega (arith, e)
    go Store10 = λ e. omega (arith, e)
    go Check14 = yes_or_no (same_tag x own.kept)
      where
        yes_or_no : (b : Bool) → Not15 (cond b Yes No)
        yes_or_no true = λ e. omega (arith, e)
        yes_or_no false = λ e. omega (arith, e)

entered_not_15 : (st : State) (p : Process) (kind : Kind) → (record_at st p.0).next.0 ≤ largest_next → Not15 (entered st p kind).outcome
unfolding entered
entered_not_15 st p (Ask request) l = request_not_15 st.s (record_at st p.0) request
entered_not_15 st p Step l = step_not_15 p st.x (record_at st p.0) _ l

played_not_15 : (st : State) (e : Entry) → Ready st → Not15 (played st e).outcome
unfolding Not15
played_not_15 st e h = rw (played_ready st e h) (go (ltb e.process.0 st.n) refl)
  where
    go : (b : Bool) → ltb e.process.0 st.n ≡ b → Not15 (cond b (entered st e.process e.kind) (refused st NoProcess)).outcome
    go true t =
        let high = ((sure h).each e.process.0 (ltb-true _ _ t)).high in
        let last = (range_of st.n st.s (sure h).range).last in
        entered_not_15 st e.process e.kind (omega (arith, high, last))
    go false t = λ z. omega (arith, z)

notes_not_15 : (st : State) (es : List Entry) → Ready st → (w : EntryNote) → Memᴰ w (notes st es) → w.outcome ≢ 15
unfolding notes Not15
notes_not_15 st [] h w m = absurd (Memᴰ.not-nil m)
notes_not_15 st (e ∷ es) h w m =
    ⊎_elim
    (λ first z. played_not_15 st e h (sym (ap (λ (v : EntryNote). v.outcome) first) ∙ z))
    (λ later. notes_not_15 (played st e).state es (ready_played st e h) w later)
    (Memᴰ.cases_cons m)

-- "No file run meets 15."
pub never_unsound : (n : ℕ) (s : Sequence) (v : ℕ) → in_range n s ≡ true → (es : List Entry) (w : EntryNote) → Memᴰ w (notes (first_state n s v) es) → w.outcome ≢ 15
never_unsound n s v e es w m = notes_not_15 (first_state n s v) es (ready_start n s v e) w m
