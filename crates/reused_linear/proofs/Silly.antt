-- Records and states that have to fall: of each the statement is false. These are facts that a weaker definition breaks, where the
-- theorems would go on. (Records that fall whatever a machine's rules are stand in word/proofs/Silly.antt.) Assumes nothing.
use Prim.Native.Nat.{ℕ, ◌≤◌, ◌<◌}
use mathlib.Core.Path.{◌≡◌, refl, ap}
use mathlib.Core.Bool.{Bool, true, false, false≢true}
use mathlib.Core.Logic.{◌⊎◌, inl, inr}
use mathlib.Core.List.{List, [], ◌∷◌, ◌++◌, map}
use native.Mathlib.Omega.{arith}
use Rattle.word.specs.Word.{Op, load, store, check, Answer, value, done, not_done, says_yes, says_no}
use Rattle.word.specs.Calls.{calls_from}
use Rattle.word.specs.Records.{Said}
use Rattle.word.specs.Records as records
use Rattle.word.proofs.Agree.{some_first}
use Rattle.reused.specs.Circle.{ahead, arc}
use Rattle.reused.specs.Steps.{none_stored, chosen}
use Rattle.reused.specs.State.{row_at, sound_sizes, sound, first_triple, first_state}
use Rattle.reused.specs.Called.{entered, called}
use Rattle.reused.specs.Run.{after}
use Rattle.reused.specs.Table.{LL, pairs, triple}
use Rattle.reused_linear.specs.Types.{Stored, Entry, Kind, Ask, Step, Load, Store, Check, None, Some, Idle, Store2, Own, State}
use Rattle.reused_linear.specs.Arcs.{way}
use Rattle.reused_linear.specs.Safe.{Safe, end_safe, first_safe, safe_after}
use Rattle.reused_linear.specs.Claims.{Claims}
use Rattle.reused_linear.specs.Demand3.{asked_of, rules}

-- an entry of process p; what is said of it: outcome, steps, the load's answer
abbrev by : ℕ → Kind → Entry
by p kind = record { process = record { 0 = p }; kind = kind }

abbrev said : ℕ → ℕ → ℕ → Stored → Said Stored
said p outcome steps v = record { outcome = outcome; process = p; steps = steps; value = v }

abbrev taken : Said Stored
taken = said 0 0 0 none_stored

abbrev on : ℕ → Said Stored
on k = said 0 1 k none_stored

abbrev step : Entry
step = by 0 Step

abbrev stored : ℕ → Bool → Stored
stored p bit = record { process = record { 0 = p }; bit = bit }

-- of two processes
abbrev Demand : ℕ → List Entry → List (Said Stored) → Type 0
Demand changes es ss = records.Demand3 rules 2 none_stored changes (map asked_of es) ss

-- A load that goes on at its third own step, or is answered at its second:
pub load_goes_on : ¬ Demand 0 (by 0 (Ask Load) ∷ step ∷ step ∷ step ∷ []) (taken ∷ on 1 ∷ on 2 ∷ on 3 ∷ [])
load_goes_on h = omega (arith, h.records.1.1.1.0.allowed.2)

pub load_early : ¬ Demand 0 (by 0 (Ask Load) ∷ step ∷ step ∷ []) (taken ∷ on 1 ∷ said 0 2 2 none_stored ∷ [])
load_early h = omega (arith, h.records.1.1.0.allowed.2.1)

-- a store that goes on at its second, is done at its first, or is not done at its second; a check that goes on;
pub store_goes_on : ¬ Demand 1 (by 0 (Ask (Store true)) ∷ step ∷ step ∷ []) (taken ∷ on 1 ∷ on 2 ∷ [])
store_goes_on h = omega (arith, h.records.1.1.0.allowed.2)

pub done_early : ¬ Demand 0 (by 0 (Ask (Store true)) ∷ step ∷ []) (taken ∷ said 0 3 1 none_stored ∷ [])
done_early h = omega (arith, h.records.1.0.allowed.2.1)

pub not_done_late : ¬ Demand 1 (by 0 (Ask (Store true)) ∷ step ∷ step ∷ []) (taken ∷ on 1 ∷ said 0 4 2 none_stored ∷ [])
not_done_late h = omega (arith, h.records.1.1.0.allowed.2.1)

pub check_goes_on : ¬ Demand 0 (by 0 (Ask Check) ∷ step ∷ []) (taken ∷ on 1 ∷ [])
check_goes_on h = h.records.1.0.allowed.2

-- a load that is answered "yes", a store that is answered "no", a check that is "not done";
abbrev op_number : Op Stored → ℕ
op_number load = 1
op_number (store v) = 2
op_number check = 3

pub load_says_yes : ¬ Demand 0 (by 0 (Ask Load) ∷ step ∷ []) (taken ∷ said 0 5 1 none_stored ∷ [])
load_says_yes h = let same : op_number load ≡ op_number check = ap op_number h.records.1.0.allowed.2.0 in omega (arith, same)

pub store_says_no : ¬ Demand 0 (by 0 (Ask (Store true)) ∷ step ∷ []) (taken ∷ said 0 6 1 none_stored ∷ [])
store_says_no h = let same : op_number (store (stored 0 true)) ≡ op_number check = ap op_number h.records.1.0.allowed.2.0 in omega (arith, same)

pub check_not_done : ¬ Demand 0 (by 0 (Ask Check) ∷ step ∷ []) (taken ∷ said 0 4 1 none_stored ∷ [])
check_not_done h = false≢true h.records.1.0.allowed.2.0

-- a request that is turned away by 13, which this machine has not; or by 12 where no call is open;
pub gets_13 : ¬ Demand 0 (by 0 (Ask (Store true)) ∷ []) (said 0 13 0 none_stored ∷ [])
gets_13 h = by_reason h.records.0.allowed
  where
    by_reason : ((◌≡◌ {A = ℕ} 13 11) × (2 ≤ 0)) ⊎ ((0 < 2) × ((◌≡◌ {A = ℕ} 13 12) × (false ≡ true))) → ⊥
    by_reason (inl (e, g)) = omega (arith, e)
    by_reason (inr (l, (e, o))) = omega (arith, e)

pub free_gets_12 : ¬ Demand 0 (by 0 (Ask Load) ∷ []) (said 0 12 0 none_stored ∷ [])
free_gets_12 h = by_reason h.records.0.allowed
  where
    by_reason : ((◌≡◌ {A = ℕ} 12 11) × (2 ≤ 0)) ⊎ ((0 < 2) × ((◌≡◌ {A = ℕ} 12 12) × (false ≡ true))) → ⊥
    by_reason (inl (e, g)) = omega (arith, e)
    by_reason (inr (l, (e, o))) = false≢true o

-- a store whose first step goes on, and no change is counted;
pub uncounted : ¬ Demand 0 (by 0 (Ask (Store true)) ∷ step ∷ []) (taken ∷ on 1 ∷ [])
unfolding calls_from
uncounted h = omega (arith, h.changes_counted)

-- a store that is done though its process has not loaded, answered or not; a load that gives a value that was never stored.
abbrev answer_number : Answer Stored → ℕ
answer_number (value v) = v.process.0
answer_number done = 1
answer_number not_done = 2
answer_number says_yes = 3
answer_number says_no = 4

pub unlinked_store : ¬ Demand 1 (by 0 (Ask (Store true)) ∷ step ∷ []) (taken ∷ on 1 ∷ [])
unfolding calls_from
unlinked_store h = some_first none_stored _ _ ((λ e. omega (arith, ap answer_number e)), tt) h.one_order.in_order

pub never_stored : ¬ Demand 0 (by 0 (Ask Load) ∷ step ∷ step ∷ step ∷ []) (taken ∷ on 1 ∷ on 2 ∷ said 0 2 3 (stored 1 false) ∷ [])
unfolding calls_from
never_stored h = some_first none_stored _ _ ((λ e. omega (arith, ap answer_number e)), tt) h.one_order.in_order

-- States that the three claims exclude. N 1, M 12: process 0 is linked to tag 0 and is about to use it.
abbrev row : ℕ → ℕ → ℕ → Own
row tag start search =
    record { named = None; old = Some first_triple; check = Some first_triple; tag = record { 0 = tag }; start = record { 0 = start }; search = record { 0 = search }; place = Idle }

abbrev choosing : ℕ → Own
choosing tag =
    record { named = None; old = Some first_triple; check = Some first_triple; tag = record { 0 = tag }; start = record { 0 = 10 }; search = record { 0 = 0 }; place = Store2 }

abbrev from_zero : ℕ → ℕ → Safe
from_zero jump p = record { start = 0; jump = jump }

pub tag_again : ¬ Claims (record { n = 1; m = 12; x = first_triple; rows = row 0 3 0 ∷ [] }) (from_zero 0)
unfolding way ahead
tag_again h = h.w1 0 (omega arith) first_triple tt refl refl (omega arith)

-- N 2, M 60: process 0 has used up its interval and will go on in it
pub end_reached : ¬ Claims (record { n = 2; m = 60; x = first_triple; rows = choosing 9 ∷ choosing 0 ∷ [] }) (from_zero 0)
unfolding way ahead
end_reached h = omega (arith, (h.w9 (record { 0 = 0 }) (omega arith) refl (inr (refl, omega arith))).0)

-- five jumps
pub jumps_on : ¬ Claims (record { n = 2; m = 60; x = first_triple; rows = row 0 10 0 ∷ row 0 10 0 ∷ [] }) (from_zero 5)
jumps_on h = omega (arith, h.w4short 0 (omega arith))

-- With arcs closed, as document 001 prints them, (W1) is false. N 2, M 60, so that D is 10: process 1 loads tag 10, and stays linked to
-- it; by nine more stores process 0 comes round to the safe interval [0, 10), whose end is 10.
abbrev round_run : List Entry
round_run = map (λ l. l.entry) (pairs 3 ++ (LL 1 0 false ++ pairs 9))

abbrev round_state : State
round_state = after (first_state 2 60) round_run

pub record LinkedToTheEnd : Type 0 where
  pub old : (row_at round_state 1).old ≡ Some (triple 10 0 false)
  pub check : (row_at round_state 1).check ≡ Some (triple 10 0 false)
  pub outside : (row_at round_state 1).place ≡ Idle
  pub safe : safe_after (first_state 2 60) first_safe round_run 0 ≡ record { start = 0; jump = 0 }
  pub last : end_safe 2 60 (safe_after (first_state 2 60) first_safe round_run 0) ≡ 10

pub linked_to_the_end : LinkedToTheEnd
unfolding after safe_after called entered sound sound_sizes chosen arc ahead
linked_to_the_end = record { old = refl; check = refl; outside = refl; safe = refl; last = refl }
