-- An entry that is turned away changes nothing; and no run from a start meets 15.
use Prim.Native.Nat.{ℕ}
use mathlib.Core.Path.{◌≡◌, refl, sym, ap, ◌∙◌}
use mathlib.Core.Logic.{◌≢◌, ⊎_elim}
use mathlib.Core.Bool.{Bool, true, false, cond, false≢true}
use mathlib.Core.List.Memᴰ
use mathlib.Core.List.{List, [], ◌∷◌, Memᴰ}
use native.Mathlib.Omega.{arith}
use lib.Dec.{ltb}
use Rattle.reused.specs.Types.{Process, Triple, Own, Option, Place, Idle, Load1, Load2, Load3, Store1, Store2, Check1, Request, Stepped, Outcome, Taken, Yes, No, NoProcess, CallOpen, Requested, Entry, State, Kind, Ask, Step, Announced}
use Rattle.reused.specs.Circle.{sizes_number}
use Rattle.reused.specs.Steps.{all_equal, at, step_at, idle, first_place, request_of, told_of}
use Rattle.reused.specs.State.{row_at, first_state}
use Rattle.reused.specs.Called.{looked_at, parts_after, refused, entered, called}
use Rattle.reused.specs.Frame.{Ready}
use Rattle.reused.specs.Run.{EntryNote, turned_away, played, after, notes}
use Rattle.reused.specs.EveryRun.{EveryRun}
use Rattle.reused.proofs.Tests.{either_way}
use Rattle.reused.proofs.Untouched.{by_call, left}
use Rattle.reused.proofs.Writers.{all_kept}
use Rattle.reused.proofs.RunLaws.{ready_start, ready_played, ready_after, played_ready, size_kept, above_kept_after}

-- a request that is taken, and one that is not
abbrev taken : Own → Request → Requested
taken own request = record { own = at own (first_place request); outcome = Taken }

abbrev open_call : Own → Requested
open_call own = record { own = own; outcome = CallOpen }

-- A request that is not taken hands back the row as it was.
request_away : (own : Own) (request : Request) → turned_away (request_of own request).outcome ≡ true → (request_of own request).own ≡ own
request_away own request = by_idle (idle own.place)
  where
    by_idle : (b : Bool) → turned_away (cond b (taken own request) (open_call own)).outcome ≡ true → (cond b (taken own request) (open_call own)).own ≡ own
    by_idle true e = absurd (false≢true e)
    by_idle false e = refl

module _ (n m : ℕ) (p : Process) (x : Triple) (own : Own) (looked : Option Announced) where
  -- all that an entry was given, handed back
  abbrev Same : Stepped → Type 0
  Same r = turned_away r.outcome ≡ true → (r.x ≡ x) × (r.own ≡ own)

  -- Only a step of an idle process is not taken.
  step_away : (place : Place) → Same (step_at n m p x own looked place)
  step_away Idle e = (refl, refl)
  step_away Load1 e = absurd (false≢true e)
  step_away Load2 e = absurd (false≢true e)
  step_away Load3 e = absurd (false≢true e)
  step_away (Store1 bit) e = either_way Same (all_equal x own) (λ t. absurd (false≢true t)) (λ t. absurd (false≢true t)) e
  step_away Store2 e = absurd (false≢true e)
  step_away Check1 e = answers (all_equal x own) e
    where
      answers : (b : Bool) → turned_away (cond b Yes No) ≡ true → (x ≡ x) × (at own Idle ≡ own)
      answers true t = absurd (false≢true t)
      answers false t = absurd (false≢true t)

  entry_away : (kind : Kind) → Same (parts_after n m p x own looked kind)
  entry_away (Ask request) e = (refl, request_away own request e)
  entry_away Step e = step_away own.place e

entered_same : (st : State) (p : Process) (kind : Kind) → turned_away (entered st p kind).outcome ≡ true → (entered st p kind).state ≡ st
unfolding entered
entered_same st p kind e =
    let same = entry_away st.n st.m p st.x (row_at st p.0) (looked_at st (row_at st p.0)) kind e in
    all_kept st p (left st p kind) same.0 same.1

-- 11, 12, 14 and 15: "state the same"
pub refusal_same : (st : State) (p : Process) (kind : Kind) → turned_away (called st p kind).outcome ≡ true → (called st p kind).state ≡ st
refusal_same st p kind =
    by_call (λ a. turned_away a.outcome ≡ true → a.state ≡ st) st p kind (λ outcome e. refl) (λ sure below. entered_same st p kind)

-- Neither a request nor a step is ever called unsound by itself.
abbrev Not15 : Outcome → Type 0
Not15 outcome = (told_of outcome).number ≢ 15

request_not_15 : (own : Own) (request : Request) → Not15 (request_of own request).outcome
request_not_15 own request = by_idle (idle own.place)
  where
    by_idle : (b : Bool) → Not15 (cond b (taken own request) (open_call own)).outcome
    by_idle true = λ e. omega (arith, e)
    by_idle false = λ e. omega (arith, e)

step_not_15 : (n m : ℕ) (p : Process) (x : Triple) (own : Own) (looked : Option Announced) (place : Place) → Not15 (step_at n m p x own looked place).outcome
step_not_15 n m p x own looked Idle = λ e. omega (arith, e)
step_not_15 n m p x own looked Load1 = λ e. omega (arith, e)
step_not_15 n m p x own looked Load2 = λ e. omega (arith, e)
step_not_15 n m p x own looked Load3 = λ e. omega (arith, e)
step_not_15 n m p x own looked (Store1 bit) =
    either_way (λ (r : Stepped). Not15 r.outcome) (all_equal x own) (λ e. omega (arith, e)) (λ e. omega (arith, e))
step_not_15 n m p x own looked Store2 = λ e. omega (arith, e)
step_not_15 n m p x own looked Check1 = either_way Not15 (all_equal x own) {r = Yes} {r' = No} (λ e. omega (arith, e)) (λ e. omega (arith, e))

entered_not_15 : (st : State) (p : Process) (kind : Kind) → Not15 (entered st p kind).outcome
unfolding entered
entered_not_15 st p (Ask request) = request_not_15 (row_at st p.0) request
entered_not_15 st p Step = step_not_15 st.n st.m p st.x (row_at st p.0) (looked_at st (row_at st p.0)) (row_at st p.0).place

played_not_15 : (st : State) (e : Entry) → Ready st → Not15 (played st e).outcome
played_not_15 st e h = rw (played_ready st e h) (go (ltb e.process.0 st.n))
  where
    go : (b : Bool) → Not15 (cond b (entered st e.process e.kind) (refused st NoProcess)).outcome
    go true = entered_not_15 st e.process e.kind
    go false = λ z. omega (arith, z)

notes_not_15 : (st : State) (es : List Entry) → Ready st → (w : EntryNote) → Memᴰ w (notes st es) → w.outcome ≢ 15
unfolding notes
notes_not_15 st [] h w m = absurd (Memᴰ.not-nil m)
notes_not_15 st (e ∷ es) h w m =
    ⊎_elim
    (λ first z. played_not_15 st e h (sym (ap (λ (v : EntryNote). v.outcome) first) ∙ z))
    (λ later. notes_not_15 (played st e).state es (ready_played st e h) w later)
    (Memᴰ.cases_cons m)

-- No run from a start meets 15.
pub never_unsound : (n m : ℕ) → sizes_number n m ≡ 0 → (es : List Entry) (w : EntryNote) → Memᴰ w (notes (first_state n m) es) → w.outcome ≢ 15
never_unsound n m e es w i = notes_not_15 (first_state n m) es (ready_start n m e) w i

-- What holds of every run from a start.
pub every_run : (n m : ℕ) → sizes_number n m ≡ 0 → (es : List Entry) → EveryRun n m es
every_run n m fine es =
    record {
      ready = ready_after (first_state n m) es (ready_start n m fine);
      n_same = (size_kept (first_state n m) es).0;
      m_same = (size_kept (first_state n m) es).1;
      never_15 = never_unsound n m fine es;
      above_same = above_kept_after (first_state n m) es;
      refused_same = λ e. refusal_same (after (first_state n m) es) e.process e.kind;
    }
