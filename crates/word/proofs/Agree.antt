-- What the definitions come to: document 01's runs as the atomic linked word has them, what an order of given calls holds, what items and
-- records tell.
-- These are the facts that an edit of a definition breaks.
-- Assumes nothing.
use Prim.Native.Nat.{ℕ}
use mathlib.Core.Path.{◌≡◌, refl}
use mathlib.Core.HLevel.{⊥_prop, ¬_prop}
use mathlib.Core.Logic.{inr}
use mathlib.Core.List.Perm
use mathlib.Core.List.{List, [], ◌∷◌, map, Mem, Perm, perm_append_singleton}
use native.Mathlib.Omega.{arith}
use Rattle.word.specs.Word.{Op, load, store, check, Answer, value, done, not_done, says_yes, says_no, answer_of, first, Call, Every, Plays, InTime, InOrder}
use Rattle.word.specs.Calls.{Item, asks, goes, answers, away, Reply, no_calls, calls_from}
use Rattle.word.specs.Records.{Wants, a_request, a_step, Asked, Said, Rules, item_of, RightRecords}
use Rattle.word.proofs.Lists.{every_perm}

-- Exactly the calls given: each stands in the order, and nothing else does.
module _ {A : Type 0} (a : A) (calls : List (Call A)) (o : InOrder a calls) (c : Call A) where
  pub stands : Mem c calls → Mem c o.order
  stands = (Perm.mem_iff o.once).1

  pub given : Mem c o.order → Mem c calls
  given = (Perm.mem_iff o.once).0

module _ {A : Type 0} (a : A) where
  -- the start does not give d its answer
  abbrev pub NotFirst : Call A → Type 0
  NotFirst d = ¬ (answer_of (first a d.word) d.process d.op ≡ d.answer)

  -- Some call stands first: if the start gives none of them its answer, there is no order of them.
  pub some_first : (c : Call A) (cs : List (Call A)) → Every NotFirst (c ∷ cs) → ¬ InOrder a (c ∷ cs)
  some_first c cs h o = by_order o.order o.once o.plays
    where
      by_order : (order : List (Call A)) → Perm order (c ∷ cs) → Plays (first a) order → ⊥
      by_order [] p t = (every_perm (λ d. ⊥) (λ d. ⊥_prop) p tt).0
      by_order (d ∷ ds) p t = (every_perm NotFirst (λ d. ¬_prop) (Perm.symm p) h).0 t.0

-- a call of process p on word w, requested and decided at these places
abbrev pub call : ℕ → ℕ → ℕ → ℕ → Op ℕ → Answer ℕ → Call ℕ
call asked decided p w o r = record { asked = asked; decided = decided; process = p; word = w; op = o; answer = r }

-- a call on word 0, where the places do not matter
abbrev pub by : ℕ → Op ℕ → Answer ℕ → Call ℕ
by p o r = call 0 1 p 0 o r

-- First value 7. Runs A to E of document 01, each call with its answer; B, C and D go on with a call that shows what the word has
-- become. Then a check after a load, and a store on another word, which leaves the link to this one.
abbrev pub runs : List (List (Call ℕ))
runs =
    (by 0 load (value 7) ∷ [])
    ∷ (by 1 (store 40) not_done ∷ by 0 load (value 7) ∷ [])
    ∷ (by 0 check says_no ∷ by 0 (store 9) not_done ∷ [])
    ∷ (by 1 load (value 7) ∷ by 1 (store 40) done ∷ by 1 (store 41) not_done ∷ by 0 load (value 40) ∷ [])
    ∷ (by 1 load (value 7) ∷ by 0 load (value 7) ∷ by 0 (store 20) done ∷ by 0 load (value 20) ∷ by 0 (store 7) done ∷ by 1 (store 99) not_done ∷ [])
    ∷ (by 0 load (value 7) ∷ by 0 check says_yes ∷ by 1 check says_no ∷ [])
    ∷ (by 0 load (value 7) ∷ call 0 1 1 3 load (value 7) ∷ call 0 1 1 3 (store 8) done ∷ by 0 (store 9) done ∷ [])
    ∷ []

pub runs_play : Every (Plays (first 7)) runs
runs_play = (
  (refl, tt),
  (
    (refl, (refl, tt)),
    (
      (refl, (refl, tt)),
      (
        (refl, (refl, (refl, (refl, tt)))),
        ((refl, (refl, (refl, (refl, (refl, (refl, tt)))))), ((refl, (refl, (refl, tt))), ((refl, (refl, (refl, (refl, tt)))), tt))),
      ),
    ),
  ),
)

-- Run H with its places, the calls as they are decided. LL1 was requested first and is decided last, and it stands before the store of
-- 20, since its answer is 7.
abbrev pub h_load : Call ℕ
h_load = call 0 19 1 0 load (value 7)

abbrev pub h_calls : List (Call ℕ)
h_calls = call 2 5 0 0 load (value 7) ∷ call 6 8 0 0 (store 20) done ∷ call 11 14 0 0 load (value 20) ∷ h_load ∷ []

pub run_h : InOrder 7 h_calls
run_h = record {
  order = call 2 5 0 0 load (value 7) ∷ h_load ∷ call 6 8 0 0 (store 20) done ∷ call 11 14 0 0 load (value 20) ∷ [];
  once = Perm.cons _ (Perm.symm (perm_append_singleton h_load (call 6 8 0 0 (store 20) done ∷ call 11 14 0 0 load (value 20) ∷ [])));
  in_time = omega arith;
  plays = (refl, (refl, (refl, (refl, tt))));
}

-- A call decided at 1 does not stand behind one that was requested at 5.
pub no_turning_back : (p q v w : ℕ) (o o' : Op ℕ) (r r' : Answer ℕ) → ¬ InTime (call 5 6 p v o r ∷ call 0 1 q w o' r' ∷ [])
no_turning_back p q v w o o' r r' h = omega (arith, h.0.0)

-- The calls that a list of items tells: of process 1's load two steps go on; process 0 stores 20 by two steps, and is not answered; the load
-- is answered; process 2's check says no; process 0's next request is turned away, and its store is answered.
abbrev pub items : List (Item ℕ)
items = asks 1 0 load ∷ goes 1 ∷ asks 0 0 (store 20) ∷ goes 0 ∷ goes 0 ∷ goes 1 ∷ answers 1 (value 7) ∷ asks 2 0 check ∷ answers 2 says_no ∷ away ∷ goes 0 ∷ answers 0 done ∷ []

abbrev pub reply : ℕ → ℕ → ℕ → Op ℕ → ℕ → Answer ℕ → Reply ℕ
reply place asked p o steps r = record { place = place; asked = asked; process = p; word = 0; op = o; steps = steps; answer = r }

pub items_read :
    ((calls_from 2 no_calls items).played ≡ call 2 4 0 0 (store 20) done ∷ call 0 6 1 0 load (value 7) ∷ call 7 8 2 0 check says_no ∷ [])
    × ((calls_from 2 no_calls items).replies ≡ reply 6 0 1 load 3 (value 7) ∷ reply 8 7 2 check 1 says_no ∷ reply 11 2 0 (store 20) 4 done ∷ [])
unfolding calls_from
items_read = (refl, refl)

-- an entry of process p, and a record of it: outcome, steps, value
abbrev pub entry : ℕ → Wants ℕ → Asked ℕ
entry p wants = record { process = p; wants = wants }

abbrev pub says : ℕ → ℕ → ℕ → ℕ → Said ℕ
says p outcome steps v = record { outcome = outcome; process = p; steps = steps; value = v }

-- What an outcome tells of a step, number by number, and of a request.
pub records_read :
    (map (λ o. item_of (entry 3 a_step) (says 3 o 1 9)) (0 ∷ 1 ∷ 2 ∷ 3 ∷ 4 ∷ 5 ∷ 6 ∷ 7 ∷ 14 ∷ [])
    ≡ away ∷ goes 3 ∷ answers 3 (value 9) ∷ answers 3 done ∷ answers 3 not_done ∷ answers 3 says_yes ∷ answers 3 says_no ∷ away ∷ away ∷ [])
    × (map (λ o. item_of (entry 3 (a_request 5 check)) (says 3 o 0 0)) (0 ∷ 1 ∷ 12 ∷ []) ≡ asks 3 5 check ∷ away ∷ away ∷ [])
records_read = (refl, refl)

-- Records that are right, of a machine that may do anything: a load that goes on and is answered, and a step that nobody asked for.
abbrev pub anything : Rules ℕ
anything = record { no_value = 0; step_of_store = 2; MayGoOn = λ o k. Unit {0}; MayAnswer = λ o a k. Unit {0}; MayRefuse = λ opened o k. Unit {0} }

pub records_right :
    RightRecords anything 2 no_calls (entry 0 (a_request 0 load) ∷ entry 0 a_step ∷ entry 0 a_step ∷ entry 0 a_step ∷ [])
    (says 0 0 0 0 ∷ says 0 1 1 0 ∷ says 0 2 2 7 ∷ says 0 14 0 0 ∷ [])
records_right = (
  record { process = refl; steps = refl; value = refl; allowed = (omega arith, refl) },
  (
    record { process = refl; steps = refl; value = refl; allowed = (omega arith, refl, tt) },
    (
      record { process = refl; steps = refl; value = refl; allowed = (omega arith, refl, tt) },
      (record { process = refl; steps = refl; value = refl; allowed = inr (omega arith, (refl, refl)) }, tt),
    ),
  ),
)
