-- Demand 3 of this machine, by word/specs/Records.antt: what its entries ask, what is said of them, and its rules of right steps.
-- Document 02, P9: "Demand 3 holds for every sequence of its entries from the start, with loads of three steps, stores of one if not done
-- and two if done, checks of one; the atomic word's value is a process and a bit, at first [0, 0], and an unanswered store whose first
-- step changed X is played as a success."
use Rattle.std.specs.Prelude.{ℕ, ◌≤◌, ◌≡◌, Bool, true, List, [], ◌∷◌, map}
use Rattle.word.specs.Word.{Op, load, store, check, Answer, value, done, not_done, says_yes, says_no}
use Rattle.word.specs.Calls.{Calls, is_store, go_on}
use Rattle.word.specs.Decides.{decides_in}
use Rattle.word.specs.Records.{Wants, a_request, a_step, Asked, Said, Rules}
use Rattle.word.specs.Records as records
use Rattle.reused.specs.Steps.{none_stored}
use Rattle.reused.specs.State.{first_state}
use Rattle.reused.specs.Run.{EntryNote, notes, change_count}
use Rattle.reused_linear.specs.Types.{Process, Stored, Entry, Kind, Ask, Step, Load, Store, Check}

-- "stores a bit and returns [process, bit]": what a store of p stores is p and the bit. There is one word, word 0.
abbrev pub wants : Process → Kind → Wants Stored
wants p (Ask Load) = a_request 0 load
wants p (Ask (Store bit)) = a_request 0 (store (record { process = p; bit = bit }))
wants p (Ask Check) = a_request 0 check
wants p Step = a_step

abbrev pub asked_of : Entry → Asked Stored
asked_of e = record { process = e.process.0; wants = wants e.process e.kind }

abbrev pub said_of : EntryNote → Said Stored
said_of w = record { outcome = w.outcome; process = w.process; steps = w.steps; value = w.stored }

-- A load goes on at its first two own steps, a store at its first.
abbrev pub MayGoOn : Op Stored → ℕ → Type 0
MayGoOn load k = k ≤ 2
MayGoOn (store v) k = k ≡ 1
MayGoOn check k = ⊥

-- "loads of three steps, stores of one if not done and two if done, checks of one"
abbrev pub MayAnswer : Op Stored → Answer Stored → ℕ → Type 0
MayAnswer o (value v) k = (o ≡ load) × (k ≡ 3)
MayAnswer o done k = (is_store o ≡ true) × (k ≡ 2)
MayAnswer o not_done k = (is_store o ≡ true) × (k ≡ 1)
MayAnswer o says_yes k = (o ≡ check) × (k ≡ 1)
MayAnswer o says_no k = (o ≡ check) × (k ≡ 1)

-- a request is refused by 12 and by nothing else: a call is open
abbrev pub MayRefuse : Bool → Op Stored → ℕ → Type 0
MayRefuse opened op number = (number ≡ 12) × (opened ≡ true)

-- a store that goes on at its first own step has changed X, and is done
abbrev pub rules : Rules Stored
rules = record { no_value = none_stored; step_of_store = 1; MayGoOn = MayGoOn; MayAnswer = MayAnswer; MayRefuse = MayRefuse }

-- the entries es of a run of n processes round a circle of m tags, from the start
abbrev pub Demand3 : ℕ → ℕ → List Entry → Type 0
Demand3 n m es =
    let ws = notes (first_state n m) es in
    records.Demand3 rules n none_stored (change_count ws) (map asked_of es) (map said_of ws)

-- Entry by entry, c being the calls before it: X has changed exactly if a store's first own step goes on.
abbrev pub ChangesDecide : Calls Stored → List Entry → List EntryNote → Type 0
ChangesDecide c [] [] = Unit {0}
ChangesDecide c [] (w ∷ ws) = ⊥
ChangesDecide c (e ∷ es) [] = ⊥
ChangesDecide c (e ∷ es) (w ∷ ws) =
    let came = records.item_of (asked_of e) (said_of w) in
    (w.changed ≡ decides_in 1 c came) × ChangesDecide (go_on 1 c came) es ws
