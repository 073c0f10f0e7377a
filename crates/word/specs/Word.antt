-- The atomic linked word, as document 01 gives it in the last paragraph of "The steps"; calls on such words, and what an order of them must
-- keep. Processes and words are numbers, and A is the type of the values, whichever it is. Document 01 has one word; here are as many
-- words as there are numbers, and one order over all of them together.
-- Assumes nothing.
use Rattle.std.specs.Prelude.{ℕ, suc, ◌<◌, Bool, false, cond, eqb, ◌≡◌}
use Rattle.std.proofs.Math.Option.{some}
use mathlib.Core.List.{List, [], ◌∷◌, foldl, Perm}
use Rattle.std.proofs.Math.ListN.{get_elem?}

-- "for each process a link, at first none": none, or the count at which it was set. That none is no number is what keeps a
-- process that has not loaded apart from one that has loaded at count 0.
pub data Link : Type 0 where
  none : Link
  at : ℕ → Link

-- "has a current value, a count of changes that starts at 0, and for each process a link"
pub record Word (A : Type 0) : Type 0 where
  pub current : A
  pub count : ℕ
  pub link : ℕ → Link

-- what can be asked of a word: LL, SC of a value, VL
pub data Op (A : Type 0) : Type 0 where
  load : Op A
  store : A → Op A
  check : Op A

-- what it can answer: a value to LL, "done" or "not done" to SC, "yes" or "no" to VL. (Two answers can be told apart, if two values
-- can: `Answer-discrete`.)
pub data Answer (A : Type 0) : Type 0 where
  value : A → Answer A
  done : Answer A
  not_done : Answer A
  says_yes : Answer A
  says_no : Answer A
  deriving Discrete as Answer-discrete

-- f with b at place i, and everywhere else as it was
abbrev pub put : {B : Type 0} → ℕ → B → (ℕ → B) → ℕ → B
put i b f j = cond (eqb j i) b (f j)

-- "the link equals the count"
abbrev pub linked : Link → ℕ → Bool
linked none n = false
linked (at m) n = eqb m n

module _ {A : Type 0} where
  -- "LL gives the value", "SC succeeds exactly if the link equals the count", "VL says whether they are equal"
  abbrev pub answer_of : Word A → ℕ → Op A → Answer A
  answer_of s p load = value s.current
  answer_of s p (store v) = cond (linked (s.link p) s.count) done not_done
  answer_of s p check = cond (linked (s.link p) s.count) says_yes says_no

  -- LL "sets the link to the count"; SC that succeeds "sets the value and adds 1 to the count"; the rest changes nothing
  abbrev pub next_of : Word A → ℕ → Op A → Word A
  next_of s p load = record { current = s.current; count = s.count; link = put p (at s.count) s.link }
  next_of s p (store v) = cond (linked (s.link p) s.count) (record { current = v; count = suc s.count; link = s.link }) s
  next_of s p check = s

  -- the start, the same for every word: value a, count 0, no links
  abbrev pub first : A → ℕ → Word A
  first a w = record { current = a; count = 0; link = λ p. none }

-- One call. Time is counted in places of the schedule: `asked` is the place of the request, `decided` the place of the step by which
-- the call took effect. "An unanswered SC that has passed step 8 with success is played as a success": a store that succeeds is
-- decided by its step 8, before it is answered; every other call is decided by the step that answers it.
pub record Call (A : Type 0) : Type 0 where
  pub asked : ℕ
  pub decided : ℕ
  pub process : ℕ
  pub word : ℕ
  pub op : Op A
  pub answer : Answer A

-- P holds of every element
abbrev pub Every : {B : Type 0} → (B → Type 0) → List B → Type 0
Every P [] = Unit {0}
Every P (b ∷ bs) = P b × Every P bs

module _ {A : Type 0} where
  -- the words after one call: that call's word has moved, and no other
  abbrev pub step : (ℕ → Word A) → Call A → ℕ → Word A
  step ws c = put c.word (next_of (ws c.word) c.process c.op) ws

  -- the words at the end of play
  abbrev pub words_after : (ℕ → Word A) → List (Call A) → ℕ → Word A
  words_after ws l = foldl step ws l

  -- Demand 3, "gives every answered call its answer": played one at a time from the words ws, each call finds its answer.
  abbrev pub Plays : (ℕ → Word A) → List (Call A) → Type 0
  Plays ws [] = Unit {0}
  Plays ws (c ∷ cs) = (answer_of (ws c.word) c.process c.op ≡ c.answer) × Plays (step ws c) cs

  -- Demand 3's real-time clause, as the proofs keep it: for c before d in the order, c was requested before d was decided. A call d
  -- that was decided before c was requested can thus not stand behind c; and a call is decided before it is answered, or then.
  abbrev pub InTime : List (Call A) → Type 0
  InTime [] = Unit {0}
  InTime (c ∷ cs) = Every (λ d. c.asked < d.decided) cs × InTime cs

  -- The same clause in demand 3's words, "a call answered before another was requested stands first", by places of the order: if
  -- the call at place i was answered at t, and the call at place j was requested after t, then i is before j. `Answered c t` says
  -- that c was answered at the place t of the schedule. (It follows from InTime: `stands_first` in proofs/RealTime.antt.)
  abbrev pub StandsFirst : (Call A → ℕ → Type 0) → List (Call A) → Type 0
  StandsFirst Answered order =
      (i j t : ℕ) (c d : Call A) → get_elem? order i ≡ some c → get_elem? order j ≡ some d → Answered c t → t < d.asked → i < j

-- Demand 3, "can be put in one order": there is a list that holds exactly the calls given, each once (it is a permutation of them);
-- that keeps the real-time clause; and that the atomic linked words, each from value a, count 0 and no links, play with the
-- calls' answers.
pub record InOrder {A : Type 0} (a : A) (calls : List (Call A)) : Type 0 where
  pub order : List (Call A)
  pub once : Perm order calls
  pub in_time : InTime order
  pub plays : Plays (first a) order
