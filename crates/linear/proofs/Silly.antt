-- Logs that have to fall: of each the statement is false. These are facts that a weaker definition breaks, where the theorems would go on.
-- Assumes nothing.
use Prim.Native.Nat.{ℕ, ◌≤◌, ◌<◌}
use mathlib.Core.Path.{◌≡◌, refl, sym, ap}
use mathlib.Core.Bool.{Bool, true, false, false≢true}
use mathlib.Core.Logic.{◌⊎◌, inl, inr}
use mathlib.Core.List.{[], ◌∷◌}
use native.Mathlib.Omega.{arith}
use Rattle.linear.specs.Types.{Entry, Kind, Ask, Step, Load, Store, Check, Note}
use Rattle.word.specs.Word.{none, at, first, Op, load, store, check, Answer, value, done, not_done, says_yes, says_no}
use Rattle.word.specs.Calls.{no_calls, calls_from}
use Rattle.word.proofs.Agree.{some_first}
use Rattle.linear.specs.Demand3.{Demand3}
use Rattle.linear.specs.TrueOfWord.{AllTrueOfWord, SameWord}

-- an entry of process p; a record of it: outcome, steps, mark, value
abbrev by : ℕ → Kind → Entry
by p kind = record { process = record { 0 = p }; kind = kind }

abbrev told : ℕ → ℕ → ℕ → ℕ → ℕ → Note
told p outcome steps mark v = record { outcome = outcome; process = p; steps = steps; mark = mark; value = v }

-- a request of process 0 that was taken, and steps of it that go on
abbrev taken : Note
taken = told 0 0 0 0 0

abbrev on : ℕ → Note
on k = told 0 1 k 0 0

abbrev step : Entry
step = by 0 Step

-- what 11, 12 and 13 want of a request of process 0: is its call open, does it ask a store
abbrev MayTurnAway : ℕ → Bool → Bool → Type 0
MayTurnAway o opened stores = ((o ≡ 11) × (2 ≤ 0)) ⊎ ((0 < 2) × (((o ≡ 12) × (opened ≡ true)) ⊎ ((o ≡ 13) × (opened ≡ false) × (stores ≡ true))))

-- to tell answers apart, and what is asked
abbrev answer_number : Answer ℕ → ℕ
answer_number (value v) = v
answer_number done = 1
answer_number not_done = 2
answer_number says_yes = 3
answer_number says_no = 4

abbrev op_number : Op ℕ → ℕ
op_number load = 1
op_number (store v) = 2
op_number check = 3

-- N 2, V 7. A load that goes on for ever, a store that does:
pub for_ever : ¬ Demand3 2 7 0 (by 0 (Ask Load) ∷ step ∷ step ∷ step ∷ step ∷ []) (taken ∷ on 1 ∷ on 2 ∷ on 3 ∷ on 4 ∷ [])
for_ever h = omega (arith, h.records.1.1.1.1.0.allowed.2)

pub store_for_ever : ¬ Demand3 2 7 1 (by 0 (Ask (Store 5)) ∷ step ∷ step ∷ step ∷ step ∷ []) (taken ∷ on 1 ∷ on 2 ∷ on 3 ∷ on 4 ∷ [])
store_for_ever h = omega (arith, h.records.1.1.1.1.0.allowed.2)

-- a check that goes on;
pub check_on : ¬ Demand3 2 7 0 (by 0 (Ask Check) ∷ step ∷ []) (taken ∷ on 1 ∷ [])
check_on h = h.records.1.0.allowed.2

-- an open call whose next step is turned away as if none were open;
pub forgotten : ¬ Demand3 2 7 0 (by 0 (Ask Load) ∷ step ∷ []) (taken ∷ told 0 14 0 0 0 ∷ [])
forgotten h = by_reason h.records.1.0.allowed
  where
    by_reason : ((◌≡◌ {A = ℕ} 14 11) × (2 ≤ 0)) ⊎ ((0 < 2) × ((◌≡◌ {A = ℕ} 14 14) × (true ≡ false))) → ⊥
    by_reason (inl (e, g)) = omega (arith, e)
    by_reason (inr (l, (e, o))) = false≢true (sym o)

-- a step that nobody asked for, an answer to nothing;
pub unasked : ¬ Demand3 2 7 0 (step ∷ []) (on 1 ∷ [])
unasked h = false≢true h.records.0.allowed.1

pub answer_unasked : ¬ Demand3 2 7 0 (step ∷ []) (told 0 6 1 0 0 ∷ [])
answer_unasked h = false≢true h.records.0.allowed.1

-- a request that is taken while a call is open;
pub twice : ¬ Demand3 2 7 0 (by 0 (Ask Load) ∷ by 0 (Ask Check) ∷ []) (taken ∷ taken ∷ [])
twice h = false≢true (sym h.records.1.0.allowed.1)

-- a process that is not there, and one that is there and gets 11;
pub absent_served : ¬ Demand3 2 7 0 (by 2 (Ask Load) ∷ []) (told 2 0 0 0 0 ∷ [])
absent_served h = omega (arith, h.records.0.allowed.0)

pub present_refused : ¬ Demand3 2 7 0 (by 1 Step ∷ []) (told 1 11 0 0 0 ∷ [])
present_refused h = by_reason h.records.0.allowed
  where
    by_reason : ((◌≡◌ {A = ℕ} 11 11) × (2 ≤ 1)) ⊎ ((1 < 2) × ((◌≡◌ {A = ℕ} 11 14) × (false ≡ false))) → ⊥
    by_reason (inl (e, g)) = omega (arith, g)
    by_reason (inr (l, (e, o))) = omega (arith, e)

-- a request that is turned away by an outcome that there is not; by 12, and no call is open; by 13, and it is a load; by 13, and a call is open;
pub no_outcome : ¬ Demand3 2 7 0 (by 0 (Ask Load) ∷ []) (told 0 255 0 0 0 ∷ [])
no_outcome h = by_reason h.records.0.allowed
  where
    by_reason : MayTurnAway 255 false false → ⊥
    by_reason (inl (e, g)) = omega (arith, e)
    by_reason (inr (l, inl (e, o))) = omega (arith, e)
    by_reason (inr (l, inr (e, o, s))) = omega (arith, e)

pub always_12 : ¬ Demand3 2 7 0 (by 0 (Ask Load) ∷ []) (told 0 12 0 0 0 ∷ [])
always_12 h = by_reason h.records.0.allowed
  where
    by_reason : MayTurnAway 12 false false → ⊥
    by_reason (inl (e, g)) = omega (arith, e)
    by_reason (inr (l, inl (e, o))) = false≢true o
    by_reason (inr (l, inr (e, o, s))) = omega (arith, e)

pub load_gets_13 : ¬ Demand3 2 7 0 (by 0 (Ask Load) ∷ []) (told 0 13 0 0 0 ∷ [])
load_gets_13 h = by_reason h.records.0.allowed
  where
    by_reason : MayTurnAway 13 false false → ⊥
    by_reason (inl (e, g)) = omega (arith, e)
    by_reason (inr (l, inl (e, o))) = omega (arith, e)
    by_reason (inr (l, inr (e, o, s))) = false≢true s

pub open_gets_13 : ¬ Demand3 2 7 0 (by 0 (Ask Load) ∷ by 0 (Ask (Store 5)) ∷ []) (taken ∷ told 0 13 0 0 0 ∷ [])
open_gets_13 h = by_reason h.records.1.0.allowed
  where
    by_reason : MayTurnAway 13 true true → ⊥
    by_reason (inl (e, g)) = omega (arith, e)
    by_reason (inr (l, inl (e, o))) = omega (arith, e)
    by_reason (inr (l, inr (e, o, s))) = false≢true (sym o)

-- a record too few, a record too many;
pub too_few : ¬ Demand3 2 7 0 (by 0 (Ask Load) ∷ []) []
too_few h = h.records

pub too_many : ¬ Demand3 2 7 0 [] (taken ∷ [])
too_many h = h.records

-- steps, a value, a process that were invented;
pub steps_invented : ¬ Demand3 2 7 0 (by 0 (Ask Load) ∷ step ∷ []) (taken ∷ on 2 ∷ [])
steps_invented h = omega (arith, h.records.1.0.steps)

pub value_invented : ¬ Demand3 2 7 0 (by 0 (Ask (Store 5)) ∷ []) (told 0 0 0 0 5 ∷ [])
value_invented h = omega (arith, h.records.0.value)

pub process_invented : ¬ Demand3 2 7 0 (by 0 (Ask Load) ∷ []) (told 1 0 0 0 0 ∷ [])
process_invented h = omega (arith, h.records.0.process)

-- a load answered at its second step, a store done at its third, a store not done at its first;
pub too_early : ¬ Demand3 2 7 0 (by 0 (Ask Load) ∷ step ∷ step ∷ []) (taken ∷ on 1 ∷ told 0 2 2 0 7 ∷ [])
too_early h = by_step h.records.1.1.0.allowed.2.1
  where
    by_step : (◌≡◌ {A = ℕ} 2 3) ⊎ (◌≡◌ {A = ℕ} 2 4) → ⊥
    by_step (inl e) = omega (arith, e)
    by_step (inr e) = omega (arith, e)

pub done_early : ¬ Demand3 2 7 1 (by 0 (Ask (Store 5)) ∷ step ∷ step ∷ step ∷ []) (taken ∷ on 1 ∷ on 2 ∷ told 0 3 3 0 0 ∷ [])
done_early h = omega (arith, h.records.1.1.1.0.allowed.2.1)

pub not_done_early : ¬ Demand3 2 7 0 (by 0 (Ask (Store 5)) ∷ step ∷ []) (taken ∷ told 0 4 1 0 0 ∷ [])
not_done_early h = omega (arith, h.records.1.0.allowed.2.1)

-- a load that is answered as a check is, a store that is;
pub load_says_yes : ¬ Demand3 2 7 0 (by 0 (Ask Load) ∷ step ∷ []) (taken ∷ told 0 5 1 0 0 ∷ [])
load_says_yes h = omega (arith, ap op_number h.records.1.0.allowed.2.0)

pub store_says_no : ¬ Demand3 2 7 0 (by 0 (Ask (Store 5)) ∷ step ∷ []) (taken ∷ told 0 6 1 0 0 ∷ [])
store_says_no h = omega (arith, ap op_number h.records.1.0.allowed.2.0)

-- a change that no store made, and one that the head leaves out: the store is past its step 8, and is not answered;
pub change_invented : ¬ Demand3 2 7 1 (by 0 (Ask Load) ∷ []) (taken ∷ [])
unfolding calls_from
change_invented h = omega (arith, h.changes_counted)

pub change_left_out : ¬ Demand3 2 7 0 (by 0 (Ask (Store 5)) ∷ step ∷ step ∷ []) (taken ∷ on 1 ∷ on 2 ∷ [])
unfolding calls_from
change_left_out h = omega (arith, h.changes_counted)

-- and calls that no order gives their answers: a load of 99, which nobody stored; a check that says yes and a store that is done, and their
-- process never loaded.
pub load_of_99 : ¬ Demand3 2 7 0 (by 0 (Ask Load) ∷ step ∷ step ∷ step ∷ []) (taken ∷ on 1 ∷ on 2 ∷ told 0 2 3 1 99 ∷ [])
unfolding calls_from
load_of_99 h = some_first 7 _ _ ((λ e. omega (arith, ap answer_number e)), tt) h.one_order.in_order

pub unlinked_yes : ¬ Demand3 2 7 0 (by 0 (Ask Check) ∷ step ∷ []) (taken ∷ told 0 5 1 0 0 ∷ [])
unfolding calls_from
unlinked_yes h = some_first 7 _ _ ((λ e. omega (arith, ap answer_number e)), tt) h.one_order.in_order

pub unlinked_done : ¬ Demand3 2 7 1 (by 0 (Ask (Store 5)) ∷ step ∷ step ∷ step ∷ step ∷ []) (taken ∷ on 1 ∷ on 2 ∷ on 3 ∷ told 0 3 4 0 0 ∷ [])
unfolding calls_from
unlinked_done h = some_first 7 _ _ ((λ e. omega (arith, ap answer_number e)), tt) h.one_order.in_order

-- Records that are not true of the word: a mark on a request;
pub mark_invented : ¬ AllTrueOfWord no_calls (first 7 0) (by 0 (Ask Load) ∷ []) (told 0 0 0 1 0 ∷ [])
mark_invented h = omega (arith, h.0.mark)

-- mark 2 for a load while nobody stores, and mark 1 for a value that the word does not hold;
pub unchanged_marked_2 : ¬ AllTrueOfWord no_calls (first 7 0) (by 0 (Ask Load) ∷ step ∷ step ∷ step ∷ []) (taken ∷ on 1 ∷ on 2 ∷ told 0 2 3 2 7 ∷ [])
unchanged_marked_2 h = omega (arith, h.1.1.1.0.mark)

pub mark_1_of_99 : ¬ AllTrueOfWord no_calls (first 7 0) (by 0 (Ask Load) ∷ step ∷ step ∷ step ∷ []) (taken ∷ on 1 ∷ on 2 ∷ told 0 2 3 1 99 ∷ [])
mark_1_of_99 h = omega (arith, h.1.1.1.0.says refl)

-- run F with the mark by the route: process 1 stands after step 1 of its load, process 0 loads and changes the word, and process 1's load is
-- answered by step 3; "the log says "current" and the word already stands for 20";
pub mark_by_route :
    ¬ AllTrueOfWord no_calls (first 7 0)
    (by 1 (Ask Load) ∷ by 1 Step ∷ by 0 (Ask Load) ∷ step ∷ step ∷ step ∷ by 0 (Ask (Store 20)) ∷ step ∷ step ∷ by 1 Step ∷ by 1 Step ∷ [])
    (told 1 0 0 0 0 ∷ told 1 1 1 0 0 ∷ taken ∷ on 1 ∷ on 2 ∷ told 0 2 3 1 7 ∷ taken ∷ on 1 ∷ on 2 ∷ told 1 1 2 0 0 ∷ told 1 2 3 1 7 ∷ [])
mark_by_route h = omega (arith, h.1.1.1.1.1.1.1.1.1.1.0.mark)

-- a load that is answered by step 5 while nobody stores, which no run does: mark 1 is false of step 5, and 2 of the word;
pub step_5_marked_1 : ¬ AllTrueOfWord no_calls (first 7 0) (by 0 (Ask Load) ∷ step ∷ step ∷ step ∷ step ∷ []) (taken ∷ on 1 ∷ on 2 ∷ on 3 ∷ told 0 2 4 1 7 ∷ [])
step_5_marked_1 h = omega (arith, h.1.1.1.1.0.by_step5 refl refl)

-- a store that changes the word and a check that says yes, and their process never loaded; a store that is not done and a check that says no,
-- and nothing has changed since their process loaded.
pub unlinked_changes : ¬ AllTrueOfWord no_calls (first 7 0) (by 0 (Ask (Store 5)) ∷ step ∷ step ∷ []) (taken ∷ on 1 ∷ on 2 ∷ [])
unlinked_changes h = false≢true (h.1.1.0.says refl)

pub unlinked_says_yes : ¬ AllTrueOfWord no_calls (first 7 0) (by 0 (Ask Check) ∷ step ∷ []) (taken ∷ told 0 5 1 0 0 ∷ [])
unlinked_says_yes h = false≢true h.1.0.says

pub linked_not_done :
    ¬ AllTrueOfWord no_calls (first 7 0) (by 0 (Ask Load) ∷ step ∷ step ∷ step ∷ by 0 (Ask (Store 5)) ∷ step ∷ step ∷ [])
    (taken ∷ on 1 ∷ on 2 ∷ told 0 2 3 1 7 ∷ taken ∷ on 1 ∷ told 0 4 2 0 0 ∷ [])
linked_not_done h = false≢true (sym h.1.1.1.1.1.1.0.says)

pub linked_says_no :
    ¬ AllTrueOfWord no_calls (first 7 0) (by 0 (Ask Load) ∷ step ∷ step ∷ step ∷ by 0 (Ask Check) ∷ step ∷ [])
    (taken ∷ on 1 ∷ on 2 ∷ told 0 2 3 1 7 ∷ taken ∷ told 0 6 1 0 0 ∷ [])
linked_says_no h = false≢true (sym h.1.1.1.1.1.0.says)

-- And words that are not the one that an order leaves: with no call at all, another value, another count, a link.
pub another_value : ¬ SameWord 2 7 no_calls [] (record { current = 8; count = 0; link = λ p. none })
another_value h = omega (arith, h.current)

pub another_count : ¬ SameWord 2 7 no_calls [] (record { current = 7; count = 1; link = λ p. none })
another_count h = omega (arith, h.count)

pub linked_at_once : ¬ SameWord 2 7 no_calls [] (record { current = 7; count = 0; link = λ p. at 0 })
linked_at_once h = false≢true (h.links 0 (omega arith) refl)
