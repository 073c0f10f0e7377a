-- Demand 3 of a log: what word/specs/Records.antt says of records, said of document 01's machine and its log. Here stand the machine's right
-- steps and refusals, and how its entries and records are read. No state of the machine stands in it.
-- Assumes nothing.
use Rattle.std.specs.Prelude.{ℕ, ◌≤◌, ◌≡◌, Bool, true, false, ◌⊎◌, List, map}
use Rattle.linear.specs.Types.{Entry, Kind, Ask, Step, Request, Load, Store, Check, Note}
use Rattle.word.specs.Word.{Op, load, store, check, Answer, value, done, not_done, says_yes, says_no}
use Rattle.word.specs.Calls.{Item, Calls, is_store}
use Rattle.word.specs.Records as word
use Rattle.word.specs.Records.{Wants, a_request, a_step, Asked, Said, Rules, Counted}

-- a store is decided by step 8, its second own step
abbrev pub step_of_store : ℕ
step_of_store = 2

-- A call goes on at a load's first three own steps, at a store's first three, and never at a check's. (That a store's second goes on
-- exactly if X changed is what `changes` counts below, and `ChangesDecide` says entry by entry.)
abbrev pub MayGoOn : Op ℕ → ℕ → Type 0
MayGoOn load k = k ≤ 3
MayGoOn (store v) k = k ≤ 3
MayGoOn check k = ⊥

-- "A load is answered at its third own step .. or fourth .., a store that fails at its second, one that succeeds at its fourth, a check
-- at its first." The third is step 3, the fourth step 5.
abbrev pub MayAnswer : Op ℕ → Answer ℕ → ℕ → Type 0
MayAnswer o (value v) k = (o ≡ load) × ((k ≡ 3) ⊎ (k ≡ 4))
MayAnswer o done k = (is_store o ≡ true) × (k ≡ 4)
MayAnswer o not_done k = (is_store o ≡ true) × (k ≡ 2)
MayAnswer o says_yes k = (o ≡ check) × (k ≡ 1)
MayAnswer o says_no k = (o ≡ check) × (k ≡ 1)

-- "12 and 13 for a request": whether a call is open, what is asked, and the number. (That 13 is due exactly where the next number is above S is
-- about sequence numbers, which no log shows; demand 2 says it. 11, and 14 for a step, are in Records.antt.)
abbrev pub MayRefuse : Bool → Op ℕ → ℕ → Type 0
MayRefuse opened op o = ((o ≡ 12) × (opened ≡ true)) ⊎ ((o ≡ 13) × (opened ≡ false) × (is_store op ≡ true))

-- "Value: the LL's answer, else 0."
abbrev pub rules : Rules ℕ
rules = record { no_value = 0; step_of_store = step_of_store; MayGoOn = MayGoOn; MayAnswer = MayAnswer; MayRefuse = MayRefuse }

abbrev pub op_of : Request → Op ℕ
op_of Load = load
op_of (Store v) = store v
op_of Check = check

-- There is one word, word 0.
abbrev pub wants_of : Kind → Wants ℕ
wants_of (Ask request) = a_request 0 (op_of request)
wants_of Step = a_step

abbrev pub asked_of : Entry → Asked ℕ
asked_of e = record { process = e.process.0; wants = wants_of e.kind }

-- (The mark is read beside the word, by `TrueOfWord` in TrueOfWord.antt.)
abbrev pub said_of : Note → Said ℕ
said_of w = record { outcome = w.outcome; process = w.process; steps = w.steps; value = w.value }

-- what came of an entry of p, as its record tells it
abbrev pub item_by : ℕ → Kind → Note → Item ℕ
item_by p k w = word.item_by p (wants_of k) (said_of w)

abbrev pub item_of : Entry → Note → Item ℕ
item_of e w = word.item_of (asked_of e) (said_of w)

abbrev pub items_of : List Entry → List Note → List (Item ℕ)
items_of es ws = word.items_of (map asked_of es) (map said_of ws)

-- the calls of these entries, as these records tell them
abbrev pub calls_in : List Entry → List Note → Calls ℕ
calls_in es ws = word.calls_in rules (map asked_of es) (map said_of ws)

-- what a record must say of own steps and value
abbrev pub counted : Calls ℕ → Item ℕ → Counted ℕ
counted = word.counted rules

-- what may come of an entry with outcome o among n processes
abbrev pub Allowed : ℕ → Calls ℕ → Entry → ℕ → Item ℕ → Type 0
Allowed n c e o i = word.Allowed rules n c (asked_of e) o i

-- what a record says of its entry, c being the calls before it
abbrev pub RightRecord : ℕ → Calls ℕ → Entry → Note → Type 0
RightRecord n c e w = word.RightRecord rules n c (asked_of e) (said_of w)

abbrev pub RightRecords : ℕ → Calls ℕ → List Entry → List Note → Type 0
RightRecords n c es ws = word.RightRecords rules n c (map asked_of es) (map said_of ws)

-- The records ws of the entries es, of n processes and from first value v, with the head's count of changes.
abbrev pub Demand3 : (n v changes : ℕ) → List Entry → List Note → Type 0
Demand3 n v changes es ws = word.Demand3 rules n v changes (map asked_of es) (map said_of ws)
