-- Records that have to fall, whatever a machine's rules are: they are false of the part of demand 3 that all machines share. These are facts
-- that a weaker definition breaks, where the theorems would go on.
-- Assumes nothing.
use Prim.Native.Nat.{ℕ, ◌≤◌, ◌<◌}
use mathlib.Core.Path.{◌≡◌, sym, ap}
use mathlib.Core.Bool.{true, false, false≢true}
use mathlib.Core.Logic.{◌⊎◌, inl, inr, ◌≢◌}
use mathlib.Core.List.{[], ◌∷◌}
use native.Mathlib.Omega.{arith}
use Rattle.word.specs.Word.{load, store, check, Answer, value, done, not_done, says_yes, says_no}
use Rattle.word.specs.Calls.{calls_from}
use Rattle.word.specs.Records.{Wants, a_request, a_step, Asked, Said, Rules, Demand3}
use Rattle.word.proofs.Agree.{some_first}

-- an entry of process p; a record of it: outcome, steps, value
abbrev by : ℕ → Wants ℕ → Asked ℕ
by p wants = record { process = p; wants = wants }

abbrev told : ℕ → ℕ → ℕ → ℕ → Said ℕ
told p outcome steps v = record { outcome = outcome; process = p; steps = steps; value = v }

-- to tell answers apart
abbrev answer_number : Answer ℕ → ℕ
answer_number (value v) = v
answer_number done = 1
answer_number not_done = 2
answer_number says_yes = 3
answer_number says_no = 4

module _ (rules : Rules ℕ) where
  -- a request of process 0 that was taken, and a step of it that goes on
  abbrev taken : Said ℕ
  taken = told 0 0 0 rules.no_value

  abbrev on : ℕ → Said ℕ
  on k = told 0 1 k rules.no_value

  -- N 2, V 7. An open call whose next step is turned away as if none were open;
  pub forgotten : ¬ Demand3 rules 2 7 0 (by 0 (a_request 0 load) ∷ by 0 a_step ∷ []) (taken ∷ told 0 14 0 rules.no_value ∷ [])
  forgotten h = by_reason h.records.1.0.allowed
    where
      by_reason : ((◌≡◌ {A = ℕ} 14 11) × (2 ≤ 0)) ⊎ ((0 < 2) × ((◌≡◌ {A = ℕ} 14 14) × (true ≡ false))) → ⊥
      by_reason (inl (e, g)) = omega (arith, e)
      by_reason (inr (l, (e, o))) = false≢true (sym o)

  -- a step that nobody asked for, an answer to nothing;
  pub unasked : ¬ Demand3 rules 2 7 0 (by 0 a_step ∷ []) (on 1 ∷ [])
  unasked h = false≢true h.records.0.allowed.1

  pub answer_unasked : ¬ Demand3 rules 2 7 0 (by 0 a_step ∷ []) (told 0 6 1 rules.no_value ∷ [])
  answer_unasked h = false≢true h.records.0.allowed.1

  -- a request that is taken while a call is open;
  pub twice : ¬ Demand3 rules 2 7 0 (by 0 (a_request 0 load) ∷ by 0 (a_request 0 check) ∷ []) (taken ∷ taken ∷ [])
  twice h = false≢true (sym h.records.1.0.allowed.1)

  -- a process that is not there, and one that is there and gets 11;
  pub absent_served : ¬ Demand3 rules 2 7 0 (by 2 (a_request 0 load) ∷ []) (told 2 0 0 rules.no_value ∷ [])
  absent_served h = omega (arith, h.records.0.allowed.0)

  pub present_refused : ¬ Demand3 rules 2 7 0 (by 1 a_step ∷ []) (told 1 11 0 rules.no_value ∷ [])
  present_refused h = by_reason h.records.0.allowed
    where
      by_reason : ((◌≡◌ {A = ℕ} 11 11) × (2 ≤ 1)) ⊎ ((1 < 2) × ((◌≡◌ {A = ℕ} 11 14) × (false ≡ false))) → ⊥
      by_reason (inl (e, g)) = omega (arith, g)
      by_reason (inr (l, (e, o))) = omega (arith, e)

  -- a record too few, a record too many;
  pub too_few : ¬ Demand3 rules 2 7 0 (by 0 (a_request 0 load) ∷ []) []
  too_few h = h.records

  pub too_many : ¬ Demand3 rules 2 7 0 [] (taken ∷ [])
  too_many h = h.records

  -- steps, a value, a process that were invented;
  pub steps_invented : ¬ Demand3 rules 2 7 0 (by 0 (a_request 0 load) ∷ by 0 a_step ∷ []) (taken ∷ on 2 ∷ [])
  steps_invented h = omega (arith, h.records.1.0.steps)

  pub value_invented : (v : ℕ) → v ≢ rules.no_value → ¬ Demand3 rules 2 7 0 (by 0 (a_request 0 (store 5)) ∷ []) (told 0 0 0 v ∷ [])
  value_invented v other h = other h.records.0.value

  pub process_invented : ¬ Demand3 rules 2 7 0 (by 0 (a_request 0 load) ∷ []) (told 1 0 0 rules.no_value ∷ [])
  process_invented h = omega (arith, h.records.0.process)

  -- a change that no store made;
  pub change_invented : ¬ Demand3 rules 2 7 1 (by 0 (a_request 0 load) ∷ []) (taken ∷ [])
  unfolding calls_from
  change_invented h = omega (arith, h.changes_counted)

  -- and a call that no order gives its answer: a load of 99, which nobody stored.
  pub load_of_99 : ¬ Demand3 rules 2 7 0 (by 0 (a_request 0 load) ∷ by 0 a_step ∷ []) (taken ∷ told 0 2 1 99 ∷ [])
  unfolding calls_from
  load_of_99 h = some_first 7 _ _ ((λ e. omega (arith, ap answer_number e)), tt) h.one_order.in_order
