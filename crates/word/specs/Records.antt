-- Demand 3 of a run's records, whichever machine it was: they are read beside the entries that they are of, and with the count of changes
-- they say what the atomic linked word says. No state of a machine stands in it. The quotes are of document 01; document 02, P9, asks the
-- same of its machine. Where the two differ there are `Rules`, of which each machine gives its own.
-- Assumes nothing.
use Rattle.std.specs.Prelude.{ℕ, suc, ◌≤◌, ◌<◌, ◌≡◌, Bool, true, false, cond, ◌⊎◌, List, [], ◌∷◌, eqb, get_or}
use Rattle.word.specs.Word.{Op, Answer, value, done, not_done, says_yes, says_no}
use Rattle.word.specs.Calls.{Item, asks, goes, answers, away, Calls, no_calls, go_on, calls_from, done_count, OneOrder}

-- What an entry wants: a request on word w, or a step.
pub data Wants (A : Type 0) : Type 0 where
  a_request : (w : ℕ) → Op A → Wants A
  a_step : Wants A

pub record Asked (A : Type 0) : Type 0 where
  pub process : ℕ
  pub wants : Wants A

-- What is said of an entry: "outcome, process, own steps of this call so far with this one .., value". (A mark is no part of demand 3.)
pub record Said (A : Type 0) : Type 0 where
  pub outcome : ℕ
  pub process : ℕ
  pub steps : ℕ
  pub value : A

-- What a machine gives.
pub record Rules (A : Type 0) : Type 1 where
  -- "Value: the LL's answer, else 0": what stands there else
  pub no_value : A
  -- a store that goes on at this own step has changed the word, and is done
  pub step_of_store : ℕ
  -- whether a call that asks this may go on at its own step k, and whether it may be answered so by that step
  pub MayGoOn : Op A → ℕ → Type 0
  pub MayAnswer : Op A → Answer A → ℕ → Type 0
  -- whether a request to do this, of a process that is there, may be refused by the number o: first, whether a call is open
  pub MayRefuse : Bool → Op A → ℕ → Type 0

module _ {A : Type 0} where
  -- What came of an entry of p, by the number of its outcome: "0 request taken; 1 step taken, call goes on; 2 LL answered; 3 SC done; 4
  -- SC not done; 5 VL yes; 6 VL no. A refused entry's outcome is its number below." A step is never "taken as a request": 0 is none of
  -- its outcomes.
  abbrev pub step_items : ℕ → A → List (Item A)
  step_items p v = away ∷ goes p ∷ answers p (value v) ∷ answers p done ∷ answers p not_done ∷ answers p says_yes ∷ answers p says_no ∷ []

  abbrev pub item_by : ℕ → Wants A → Said A → Item A
  item_by p (a_request w o) s = cond (eqb s.outcome 0) (asks p w o) away
  item_by p a_step s = get_or (step_items p s.value) s.outcome away

  abbrev pub item_of : Asked A → Said A → Item A
  item_of e s = item_by e.process e.wants s

  abbrev pub items_of : List (Asked A) → List (Said A) → List (Item A)
  items_of [] ss = []
  items_of (e ∷ es) [] = []
  items_of (e ∷ es) (s ∷ ss) = item_of e s ∷ items_of es ss

-- What a record must say beside its outcome, counted over the entries: own steps and value.
pub record Counted (A : Type 0) : Type 0 where
  pub steps : ℕ
  pub value : A

abbrev pub counts : {A : Type 0} → ℕ → A → Counted A
counts steps v = record { steps = steps; value = v }

module _ {A : Type 0} (rules : Rules A) where
  -- the calls of these entries, as these records tell them
  abbrev pub calls_in : List (Asked A) → List (Said A) → Calls A
  calls_in es ss = calls_from rules.step_of_store no_calls (items_of es ss)

  -- "Value: the LL's answer, else 0."
  abbrev pub counted_answer : ℕ → Answer A → Counted A
  counted_answer k (value v) = counts k v
  counted_answer k done = counts k rules.no_value
  counted_answer k not_done = counts k rules.no_value
  counted_answer k says_yes = counts k rules.no_value
  counted_answer k says_no = counts k rules.no_value

  -- "own steps of this call so far with this one (0 for a request or a refused entry)"
  abbrev pub counted : Calls A → Item A → Counted A
  counted c (asks p w o) = counts 0 rules.no_value
  counted c (goes p) = counts (suc (c.steps p)) rules.no_value
  counted c (answers p a) = counted_answer (suc (c.steps p)) a
  counted c away = counts 0 rules.no_value

  -- ".. for a request, or 14 for a step": whether a call is open, what is wanted, and the number.
  abbrev pub MayBeRefused : Bool → Wants A → ℕ → Type 0
  MayBeRefused opened (a_request w op) o = rules.MayRefuse opened op o
  MayBeRefused opened a_step o = (o ≡ 14) × (opened ≡ false)

  -- What may come of an entry e with outcome o among n processes: a process that is not there gets 11, "process not below N", and nothing
  -- else; a request is taken where no call is open, and a step goes on with an open call or answers it.
  abbrev pub Allowed : ℕ → Calls A → Asked A → ℕ → Item A → Type 0
  Allowed n c e o (asks p w op) = (p < n) × (c.opened p ≡ false)
  Allowed n c e o (goes p) = (p < n) × (c.opened p ≡ true) × rules.MayGoOn (c.op p) (suc (c.steps p))
  Allowed n c e o (answers p a) = (p < n) × (c.opened p ≡ true) × rules.MayAnswer (c.op p) a (suc (c.steps p))
  Allowed n c e o away = ((o ≡ 11) × (n ≤ e.process)) ⊎ ((e.process < n) × MayBeRefused (c.opened e.process) e.wants o)

  -- What a record says of its entry, c being the calls before it.
  pub record RightRecord (n : ℕ) (c : Calls A) (e : Asked A) (s : Said A) : Type 0 where
    pub process : s.process ≡ e.process
    pub steps : s.steps ≡ (counted c (item_of e s)).steps
    pub value : s.value ≡ (counted c (item_of e s)).value
    pub allowed : Allowed n c e s.outcome (item_of e s)

  -- There are as many records as entries, and each is right.
  abbrev pub RightRecords : ℕ → Calls A → List (Asked A) → List (Said A) → Type 0
  RightRecords n c [] [] = Unit {0}
  RightRecords n c [] (s ∷ ss) = ⊥
  RightRecords n c (e ∷ es) [] = ⊥
  RightRecords n c (e ∷ es) (s ∷ ss) = RightRecord n c e s × RightRecords n (go_on rules.step_of_store c (item_of e s)) es ss

  -- The records ss of the entries es, of n processes and from first value v, with the count of changes.
  pub record Demand3 (n : ℕ) (v : A) (changes : ℕ) (es : List (Asked A)) (ss : List (Said A)) : Type 0 where
    pub one_order : OneOrder v (calls_in es ss)
    pub records : RightRecords n no_calls es ss
    -- "how often X has changed": the stores that were decided as done, answered or not
    pub changes_counted : changes ≡ done_count (calls_in es ss).played
