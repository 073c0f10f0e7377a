-- Steps and replies, a second induction over the same run, with no order and no changes in it: word/proofs/Stages.antt, with the stage at
-- each place of document 01's machine.
-- Assumes nothing.
use Prim.Native.Nat.{ℕ, suc, ◌≤◌, ◌<◌}
use mathlib.Core.Path.{◌≡◌, refl, sym, ap, ◌∙◌, subst}
use mathlib.Core.Bool.{not, Bool, true, false, false≢true}
use mathlib.Core.Logic.{inl, inr}
use native.Mathlib.Omega.{arith}
use Rattle.numbers.specs.Numbers.{in_range}
use Rattle.numbers.proofs.Range.{range_of}
use Rattle.linear.specs.Types.{Process, Sequence, Row, Record, Kind, Ask, Step, Request, Place, Idle, Load1, Load2, Load3, Load5, Store7, Store8, Store9, Store10, Check14, Outcome, GoesOn, State}
use Rattle.step.specs.Steps.{own_steps, idle, told_of}
use Rattle.machine.specs.State.{first_state}
use Rattle.machine.specs.Entry.{called}
use Rattle.machine.specs.Frame.{Ready}
use Rattle.machine.specs.Run.{turned_away, x_changed}
use Rattle.word.specs.Word.{Op, load, store, check, value, not_done, says_yes, says_no, put}
use Rattle.word.specs.Calls.{Item, goes, away, Calls, is_store, no_calls, decides, go_on}
use Rattle.word.specs.Decides.{decides_in}
use Rattle.word.proofs.Stages as stages
use Rattle.word.proofs.Stages.{Stage, shut, undecided, decided, loads, stores, checks, is_open, KnownOf, Known, known_put, known_at, opened_at, known_away, known_asks, known_goes, known_stored, known_done, known_answers, known_answered, decides_at}
use Rattle.linear.specs.Demand3.{step_of_store, counted, op_of, MayGoOn, Allowed, RightRecord}
use Rattle.linear.proofs.Start.{idle_start}
use Rattle.linear.proofs.View.{View, record_at, view_of, Moved}
use Rattle.linear.proofs.Cases.{Turned, Cases, by_cases}
use Rattle.linear.proofs.Noted.{entry_of, note_with, came, item_away, away_steps, away_plain}

-- a store is decided from step 8 on
abbrev pub stage_of : Place → Stage
stage_of Idle = shut
stage_of Load1 = undecided 1 loads
stage_of Load2 = undecided 2 loads
stage_of (Load3 v) = undecided 3 loads
stage_of Load5 = undecided 4 loads
stage_of (Store7 v) = undecided 1 stores
stage_of Store8 = undecided 2 stores
stage_of Store9 = decided 3
stage_of Store10 = decided 4
stage_of Check14 = undecided 1 checks

open_is : (place : Place) → is_open (stage_of place) ≡ not (idle place)
open_is Idle = refl
open_is Load1 = refl
open_is Load2 = refl
open_is (Load3 v) = refl
open_is Load5 = refl
open_is (Store7 v) = refl
open_is Store8 = refl
open_is Store9 = refl
open_is Store10 = refl
open_is Check14 = refl

abbrev pub stages_of : View → ℕ → Stage
stages_of st q = stage_of (record_at st q).place

abbrev pub KnownIn : State → Calls ℕ → Type 0
KnownIn st c = Known st.n (stages_of (view_of st)) c

pub known_start : (n : ℕ) (s : Sequence) (v : ℕ) → in_range n s ≡ true → KnownIn (first_state n s v) no_calls
known_start n s v e =
    stages.known_start n (stages_of (view_of (first_state n s v))) (λ q l. ap stage_of (idle_start n s v q (omega (arith, l, (range_of n s e).few))))

module _ (st : State) {c : Calls ℕ} (known : KnownIn st c) (p : ℕ) (l : p < st.n) where
  -- p's call by its place, and whether it is open
  pub call_at : {place : Place} → (record_at (view_of st) p).place ≡ place → KnownOf c p (stage_of place)
  call_at e = known_at known step_of_store p l (ap stage_of e)

  pub is_open_lem : {b : Bool} → idle (record_at (view_of st) p).place ≡ b → c.opened p ≡ not b
  is_open_lem e = known.opens p l ∙ open_is (record_at (view_of st) p).place ∙ ap not e

-- Every entry: what is known goes on, its record is right, and X has changed exactly if it decides a store.
module _ {st : State} (c : Calls ℕ) (known : KnownIn st c) (ready : Ready st) (following : (record_at (view_of st) st.x.process.0).next.0 ≡ suc st.x.number.0) (p : Process) where
  abbrev pub Gone : Kind → State → Outcome → Bool → Type 0
  Gone k st' o b =
      KnownIn st' (go_on step_of_store c (came st p k st' o)) × RightRecord st.n c (entry_of p k) (note_with st p k st' o) × (b ≡ decides_in step_of_store c (came st p k st' o))

  -- why it was turned away, in the log's numbers and by the open calls
  may_refuse : (k : Kind) (o : Outcome) → Turned st p.0 k o → Allowed st.n c (entry_of p k) (told_of o).number away
  may_refuse k o (inl (e, g)) = inl (ap (λ (o : Outcome). (told_of o).number) e, g)
  may_refuse (Ask request) o (inr (l, inl (e, busy))) = inr (l, inl (ap (λ (o : Outcome). (told_of o).number) e, is_open_lem st known p.0 l busy))
  may_refuse (Ask request) o (inr (l, inr (e, free, (v, is)))) =
      inr (l, inr (ap (λ (o : Outcome). (told_of o).number) e, is_open_lem st known p.0 l free, ap (λ (r : Request). is_store (op_of r)) is))
  may_refuse Step o (inr (l, (e, free))) = inr (l, (ap (λ (o : Outcome). (told_of o).number) e, is_open_lem st known p.0 l free))

  away_known : (k : Kind) (o : Outcome) → turned_away o ≡ true → Turned st p.0 k o → Gone k st o false
  away_known k o e why =
      let none : came st p k st o ≡ away = item_away p.0 k (note_with st p k st o) e in (
        subst (λ (i : Item ℕ). KnownIn st (go_on step_of_store c i)) (sym none) (known_away known step_of_store),
        record {
          process = refl;
          steps = away_steps st p k o e ∙ ap (λ (i : Item ℕ). (counted c i).steps) (sym none);
          value = (away_plain o e).1 ∙ ap (λ (i : Item ℕ). (counted c i).value) (sym none);
          allowed = subst (Allowed st.n c (entry_of p k) (told_of o).number) (sym none) (may_refuse k o why);
        },
        ap (decides_in step_of_store c) (sym none),
      )

  module _ (l : p.0 < st.n) where
    -- p's stage is the one of its new place, and the others' are as they were
    staged : {st' : View} {r' : Row} {o' : Record} {c' : Calls ℕ} → Moved p.0 (view_of st) st' r' o'
        → Known st.n (put p.0 (stage_of o'.place) (stages_of (view_of st))) c' → Known st'.n (stages_of st') c'
    staged {st'} {c' = c'} m k =
        subst (λ (n : ℕ). Known n (stages_of st') c') (sym m.frame.n)
        (known_put (ap (λ (o : Record). stage_of o.place) m.own) (λ q ne. ap (λ (o : Record). stage_of o.place) (m.frame.records q ne)) k)

    opened_by : {place : Place} → (record_at (view_of st) p.0).place ≡ place → c.opened p.0 ≡ is_open (stage_of place)
    opened_by e = opened_at known step_of_store p.0 l (ap stage_of e)

    -- the rank of the step that p takes is the number of its own steps with this one
    rank_of : {place : Place} → (record_at (view_of st) p.0).place ≡ place → suc (c.steps p.0) ≡ own_steps place → own_steps (record_at (view_of st) p.0).place ≡ suc (c.steps p.0)
    rank_of e rank = ap own_steps e ∙ sym rank

    -- a step after which the call goes on, and whether it decides a store
    goes_on_lem : (st' : State) {r' : Row} {o' : Record} {place : Place} {b : Bool} → (record_at (view_of st) p.0).place ≡ place → Moved p.0 (view_of st) (view_of st') r' o'
        → Known st.n (put p.0 (stage_of o'.place) (stages_of (view_of st))) (go_on step_of_store c (goes p.0)) → decides step_of_store c p.0 ≡ b
        → is_open (stage_of place) ≡ true → suc (c.steps p.0) ≡ own_steps place → MayGoOn (c.op p.0) (suc (c.steps p.0)) → Gone Step st' GoesOn b
    goes_on_lem st' e m known' d is rank may = (staged m known', record { process = refl; steps = rank_of e rank; value = refl; allowed = (l, opened_by e ∙ is, may) }, sym d)

    may_load : {k : ℕ} → c.op p.0 ≡ load → suc (c.steps p.0) ≡ k → k ≤ 3 → MayGoOn (c.op p.0) (suc (c.steps p.0))
    may_load {k} e f le = subst (λ (o : Op ℕ). MayGoOn o (suc (c.steps p.0))) (sym e) (omega (arith, f, le))

    may_store : {k : ℕ} → is_store (c.op p.0) ≡ true → suc (c.steps p.0) ≡ k → k ≤ 3 → MayGoOn (c.op p.0) (suc (c.steps p.0))
    may_store {k} e f le = go (c.op p.0) e
      where
        go : (o : Op ℕ) → is_store o ≡ true → MayGoOn o (suc (c.steps p.0))
        go load e = absurd (false≢true e)
        go (store u) e = omega (arith, f, le)
        go check e = absurd (false≢true e)

    cases : Cases Gone st p.0
    cases =
        record {
          asks_load = λ e st' x m. (staged m (known_asks known step_of_store p.0 l 0 load loads refl), record { process = refl; steps = refl; value = refl; allowed = (l, opened_by e) }, refl);
          asks_store = λ u e st' x m. (staged m (known_asks known step_of_store p.0 l 0 (store u) stores refl), record { process = refl; steps = refl; value = refl; allowed = (l, opened_by e) }, refl);
          asks_check = λ e st' x m. (staged m (known_asks known step_of_store p.0 l 0 check checks refl), record { process = refl; steps = refl; value = refl; allowed = (l, opened_by e) }, refl);
          step_1 = λ e st' x m.
              let (o, asked, own) = call_at st known p.0 l e in
              let quiet = decides_at step_of_store c p.0 1 false (ap is_store asked) o.counted in
              goes_on_lem st' e m (known_goes known step_of_store p.0 l (ap stage_of e) quiet) quiet refl o.counted (may_load asked o.counted (omega arith));
          step_2 = λ e st' x m.
              let (o, asked, own) = call_at st known p.0 l e in
              let quiet = decides_at step_of_store c p.0 2 false (ap is_store asked) o.counted in
              goes_on_lem st' e m (known_goes known step_of_store p.0 l (ap stage_of e) quiet) quiet refl o.counted (may_load asked o.counted (omega arith));
          step_3_answers = λ v e near st' x m.
              let (o, asked, own) = call_at st known p.0 l e in
              (staged m (known_answers known step_of_store p.0 l (value v) refl (ap stage_of e)), record { process = refl; steps = rank_of e o.counted; value = refl; allowed = (l, opened_by e, (asked, inl o.counted)) }, refl);
          step_3_goes_on = λ v e far st' x m.
              let (o, asked, own) = call_at st known p.0 l e in
              let quiet = decides_at step_of_store c p.0 3 false (ap is_store asked) o.counted in
              goes_on_lem st' e m (known_goes known step_of_store p.0 l (ap stage_of e) quiet) quiet refl o.counted (may_load asked o.counted (omega arith));
          step_5 = λ e st' x m.
              let (o, asked, own) = call_at st known p.0 l e in
              (staged m (known_answers known step_of_store p.0 l (value _) refl (ap stage_of e)), record { process = refl; steps = rank_of e o.counted; value = refl; allowed = (l, opened_by e, (asked, inr o.counted)) }, refl);
          step_7 = λ v e st' x m.
              let (o, asked, own) = call_at st known p.0 l e in
              let quiet = decides_at step_of_store c p.0 1 true asked o.counted in
              goes_on_lem st' e m (known_goes known step_of_store p.0 l (ap stage_of e) quiet) quiet refl o.counted (may_store asked o.counted (omega arith));
          step_8_done = λ e same st' x m.
              let (o, asked, own) = call_at st known p.0 l e in
              let decides-it = decides_at step_of_store c p.0 2 true asked o.counted in
              goes_on_lem st' e m (known_done known step_of_store p.0 l (ap stage_of e) decides-it) decides-it refl o.counted (may_store asked o.counted (omega arith));
          step_8_not_done = λ e other st' x m.
              let (o, asked, own) = call_at st known p.0 l e in
              (staged m (known_answers known step_of_store p.0 l not_done refl (ap stage_of e)), record { process = refl; steps = rank_of e o.counted; value = refl; allowed = (l, opened_by e, (asked, o.counted)) }, refl);
          step_9 = λ e st' x m.
              let (o, asked, played) = call_at st known p.0 l e in
              let quiet = decides_at step_of_store c p.0 3 true asked o.counted in
              goes_on_lem st' e m (known_stored known step_of_store p.0 l (ap stage_of e) quiet) quiet refl o.counted (may_store asked o.counted (omega arith));
          step_10 = λ e st' x m.
              let (o, asked, played) = call_at st known p.0 l e in
              (staged m (known_answered known step_of_store p.0 l (ap stage_of e)), record { process = refl; steps = rank_of e o.counted; value = refl; allowed = (l, opened_by e, (asked, o.counted)) }, refl);
          step_14_yes = λ e same st' x m.
              let (o, asked, own) = call_at st known p.0 l e in
              (staged m (known_answers known step_of_store p.0 l says_yes refl (ap stage_of e)), record { process = refl; steps = rank_of e o.counted; value = refl; allowed = (l, opened_by e, (asked, o.counted)) }, refl);
          step_14_no = λ e other st' x m.
              let (o, asked, own) = call_at st known p.0 l e in
              (staged m (known_answers known step_of_store p.0 l says_no refl (ap stage_of e)), record { process = refl; steps = rank_of e o.counted; value = refl; allowed = (l, opened_by e, (asked, o.counted)) }, refl);
        }

  pub known_entry : (k : Kind) → Gone k (called st p k).state (called st p k).outcome (x_changed st (called st p k).state)
  known_entry k = by_cases Gone st p ready following away_known cases k
