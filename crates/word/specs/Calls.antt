-- The calls of a run, read off what came of its entries one after another, whichever machine it was; and demand 3 of them. Time is
-- counted in places of the run: its first entry has place 0.
-- Assumes nothing.
use Rattle.std.specs.Prelude.{ℕ, suc, ◌≤◌, ◌<◌, Bool, true, false, cond, ◌&&◌, eqb, ◌≡◌, ◌⊎◌}
use mathlib.Core.List.{List, [], ◌∷◌, ◌++◌, Memᴰ}
use Rattle.word.specs.Word.{Op, load, store, check, Answer, value, done, not_done, says_yes, says_no, put, Call, Every, StandsFirst, InOrder}

-- What came of an entry: a request of process p on word w was taken; a step of p was taken and its call goes on; a step of p answered its
-- call; or the entry was turned away ("Refused entries are not calls").
pub data Item (A : Type 0) : Type 0 where
  asks : (p w : ℕ) → Op A → Item A
  goes : (p : ℕ) → Item A
  answers : (p : ℕ) → Answer A → Item A
  away : Item A

-- An answered call: the place of its answer and of its request, its process and word, what was asked, the process's own steps since
-- the request with this one, and the answer.
pub record Reply (A : Type 0) : Type 0 where
  pub place : ℕ
  pub asked : ℕ
  pub process : ℕ
  pub word : ℕ
  pub op : Op A
  pub steps : ℕ
  pub answer : Answer A

-- What is known before the entry at place `now`: for each process whether it has a call open, the place of its latest request, its word,
-- what it asked, and the own steps since; the calls to be played; and the replies.
pub record Calls (A : Type 0) : Type 0 where
  pub now : ℕ
  pub opened : ℕ → Bool
  pub asked : ℕ → ℕ
  pub word : ℕ → ℕ
  pub op : ℕ → Op A
  pub steps : ℕ → ℕ
  pub played : List (Call A)
  pub replies : List (Reply A)

module _ {A : Type 0} where
  abbrev pub is_store : Op A → Bool
  is_store load = false
  is_store (store v) = true
  is_store check = false

  abbrev pub is_done : Answer A → Bool
  is_done (value v) = false
  is_done done = true
  is_done not_done = false
  is_done says_yes = false
  is_done says_no = false

  abbrev pub no_calls : Calls A
  no_calls = record { now = 0; opened = λ p. false; asked = λ p. 0; word = λ p. 0; op = λ p. load; steps = λ p. 0; played = []; replies = [] }

  -- p's call, decided now; p's reply now
  abbrev pub call_by : Calls A → ℕ → Answer A → Call A
  call_by c p a = record { asked = c.asked p; decided = c.now; process = p; word = c.word p; op = c.op p; answer = a }

  abbrev pub reply_by : Calls A → ℕ → Answer A → Reply A
  reply_by c p a =
      record { place = c.now; asked = c.asked p; process = p; word = c.word p; op = c.op p; steps = suc (c.steps p); answer = a }

  -- "An unanswered SC that has passed step 8 with success is played as a success": a store is done where its own step d goes on. Step 8
  -- is a store's second own step, so d is 2 for document 01's machine.
  abbrev pub decides : ℕ → Calls A → ℕ → Bool
  decides d c p = is_store (c.op p) && eqb (suc (c.steps p)) d

  -- one place further, with no request
  abbrev pub noted : Calls A → (ℕ → Bool) → (ℕ → ℕ) → List (Call A) → List (Reply A) → Calls A
  noted c opened steps played replies =
      record { now = suc c.now; opened = opened; asked = c.asked; word = c.word; op = c.op; steps = steps; played = played; replies = replies }

  -- One item. Every call but such a store is decided by the step that answers it; "other unanswered calls are not played".
  abbrev pub go_on : ℕ → Calls A → Item A → Calls A
  go_on d c (asks p w o) =
      record {
        now = suc c.now;
        opened = put p true c.opened;
        asked = put p c.now c.asked;
        word = put p w c.word;
        op = put p o c.op;
        steps = put p 0 c.steps;
        played = c.played;
        replies = c.replies;
      }
  go_on d c (goes p) =
      noted c c.opened (put p (suc (c.steps p)) c.steps) (cond (decides d c p) (c.played ++ call_by c p done ∷ []) c.played) c.replies
  go_on d c (answers p a) =
      noted c (put p false c.opened) (put p (suc (c.steps p)) c.steps) (cond (is_done a) c.played (c.played ++ call_by c p a ∷ [])) (c.replies ++ reply_by c p a ∷ [])
  go_on d c away = noted c c.opened c.steps c.played c.replies

  unfoldable pub calls_from : ℕ → Calls A → List (Item A) → Calls A
  calls_from d c [] = c
  calls_from d c (i ∷ is) = calls_from d (go_on d c i) is

  -- how many of the calls are stores that were done
  abbrev pub done_count : List (Call A) → ℕ
  done_count [] = 0
  done_count (c ∷ cs) = cond (is_done c.answer) (suc (done_count cs)) (done_count cs)

module _ {A : Type 0} where
  -- the call that a reply answers, if it was decided at place d
  abbrev pub call_of : Reply A → ℕ → Call A
  call_of r d = record { asked = r.asked; decided = d; process = r.process; word = r.word; op = r.op; answer = r.answer }

  -- "The calls that were answered": this one is played, with the answer that it got, and was decided when it was answered or before.
  abbrev pub IsPlayed : List (Call A) → Reply A → Type 0
  IsPlayed played r = (d : ℕ) × (d ≤ r.place) × Memᴰ (call_of r d) played

  -- call c was answered at place t: a reply is there to the same request of the same process
  abbrev pub Answered : List (Reply A) → Call A → ℕ → Type 0
  Answered replies c t = (r : Reply A) × Memᴰ r replies × (r.place ≡ t) × (r.asked ≡ c.asked) × (r.process ≡ c.process)

  -- Nothing else is played: a played call was answered with that answer where it was decided, or it is a store that has changed the word.
  abbrev pub AnsweredOrDone : List (Reply A) → Call A → Type 0
  AnsweredOrDone replies c = (c.answer ≡ done) ⊎ ((r : Reply A) × Memᴰ r replies × (call_of r r.place ≡ c))

  -- No request is played twice: each call was requested before it was decided, and of two calls of one process, in the order in which
  -- they were decided, the earlier was decided before the later was requested.
  abbrev pub OneByOne : List (Call A) → Type 0
  OneByOne [] = Unit {0}
  OneByOne (c ∷ cs) = (c.asked < c.decided) × Every (λ d. c.process ≡ d.process → c.decided < d.asked) cs × OneByOne cs

pub record OneOrder {A : Type 0} (a : A) (c : Calls A) : Type 0 where
  -- There is one order of the calls: each of them once; the real-time clause; and "played one at a time from the start (value V, count
  -- 0, no links)" the atomic linked word gives every call its answer.
  pub in_order : InOrder a c.played
  -- "a call answered before another was requested stands first"
  pub first : StandsFirst (Answered c.replies) in_order.order
  -- every answered call is among them, no request twice, and nothing but these and stores that have changed the word
  pub answered : Every (IsPlayed c.played) c.replies
  pub one_by_one : OneByOne c.played
  pub only : Every (AnsweredOrDone c.replies) c.played
