-- What a run's records say of the word, read beside its calls: when X changes, what a load's mark means, when a store is done.
-- Assumes nothing.
use Rattle.std.specs.Prelude.{ℕ, ◌<◌, ◌≡◌, Bool, true, false, cond, ◌&&◌, ◌||◌, List, [], ◌∷◌, eqb}
use Rattle.linear.specs.Types.{Entry, Note}
use Rattle.machine.specs.Run.{EntryNote}
use Rattle.bench.specs.Bench.{in_log}
use Rattle.word.specs.Word.{Word, Op, load, store, check, value, done, not_done, says_yes, says_no, linked, next_of, first, Call, words_after}
use Rattle.word.specs.Calls.{Item, asks, goes, answers, away, Calls, decides, go_on}
use Rattle.word.specs.Decides.{decides_in}
use Rattle.linear.specs.Demand3.{step_of_store, item_of}

-- X changes exactly where a store's second own step goes on. The notes are demand 2's, which say of each entry whether X changed.
abbrev pub ChangesDecide : Calls ℕ → List Entry → List EntryNote → Type 0
ChangesDecide c [] ws = Unit {0}
ChangesDecide c (e ∷ es) [] = Unit {0}
ChangesDecide c (e ∷ es) (w ∷ ws) =
    (w.changed ≡ decides_in step_of_store c (item_of e (in_log w))) × ChangesDecide (go_on step_of_store c (item_of e (in_log w))) es ws

abbrev pub is_load : Op ℕ → Bool
is_load load = true
is_load (store v) = false
is_load check = false

-- The word as the steps leave it: the atomic linked word again, but played at the steps themselves, a load at its step 1, which is its first
-- own step, and a store where its second own step goes on. So its count is that of the changes so far, its value the newest store's, and a
-- process's link the count at its latest step 1 of a load, none if it took none.
abbrev pub word_on : Calls ℕ → Word ℕ → Item ℕ → Word ℕ
word_on c m (asks p w o) = m
word_on c m (goes p) = cond ((is_load (c.op p) && eqb (c.steps p) 0) || decides step_of_store c p) (next_of m p (c.op p)) m
word_on c m (answers p a) = m
word_on c m away = m

-- whether p took step 1 of a load, and no store has changed the word since its latest
abbrev pub unchanged : Word ℕ → ℕ → Bool
unchanged m p = linked (m.link p) m.count

-- The mark beside an item: of an answered load it is 1 exactly if no store has changed the word since the load's step 1, else 2. Everything
-- else has 0.
abbrev pub mark_at : Word ℕ → Item ℕ → ℕ
mark_at m (asks p w o) = 0
mark_at m (goes p) = 0
mark_at m (answers p (value v)) = cond (unchanged m p) 1 2
mark_at m (answers p done) = 0
mark_at m (answers p not_done) = 0
mark_at m (answers p says_yes) = 0
mark_at m (answers p says_no) = 0
mark_at m away = 0

-- A load whose word has not changed since its step 1 gives the word's value at the moment of the answer. And document 02, P14: "a store is not
-- done exactly if its process never took step 1 of a load of that word, or the word has changed between the latest such step and the
-- store's step 8"; a check says no exactly then.
abbrev pub SaysAt : Calls ℕ → Word ℕ → Item ℕ → Type 0
SaysAt c m (asks p w o) = Unit {0}
SaysAt c m (goes p) = decides step_of_store c p ≡ true → unchanged m p ≡ true
SaysAt c m (answers p (value v)) = unchanged m p ≡ true → v ≡ m.current
SaysAt c m (answers p done) = Unit {0}
SaysAt c m (answers p not_done) = unchanged m p ≡ false
SaysAt c m (answers p says_yes) = unchanged m p ≡ true
SaysAt c m (answers p says_no) = unchanged m p ≡ false
SaysAt c m away = Unit {0}

-- What the record of an entry says, c being the calls and m the word before it. Document 02, P3: "a load answered by step 5 always has mark
-- 2"; 2 is the outcome "LL answered", and step 5 is a load's fourth own step.
pub record TrueOfWord (c : Calls ℕ) (m : Word ℕ) (e : Entry) (w : Note) : Type 0 where
  pub mark : w.mark ≡ mark_at m (item_of e w)
  pub by_step5 : w.outcome ≡ 2 → w.steps ≡ 4 → w.mark ≡ 2
  pub says : SaysAt c m (item_of e w)

-- (That no record is missing, and none is left over, is what `RightRecords` says.)
abbrev pub AllTrueOfWord : Calls ℕ → Word ℕ → List Entry → List Note → Type 0
AllTrueOfWord c m [] ws = Unit {0}
AllTrueOfWord c m (e ∷ es) [] = Unit {0}
AllTrueOfWord c m (e ∷ es) (w ∷ ws) = TrueOfWord c m e w × AllTrueOfWord (go_on step_of_store c (item_of e w)) (word_on c m (item_of e w)) es ws

-- the word as all these steps leave it
abbrev pub word_from : Calls ℕ → Word ℕ → List Entry → List Note → Word ℕ
word_from c m [] ws = m
word_from c m (e ∷ es) [] = m
word_from c m (e ∷ es) (w ∷ ws) = word_from (go_on step_of_store c (item_of e w)) (word_on c m (item_of e w)) es ws

-- What this word and demand 3's have in common, at the end of an order of the calls c of n processes: the value, the count of changes, and
-- for every process with no call open whether its link is at that count. So straight after a load's answer its mark says whether a store
-- that changed the word stands behind it in the order. (The links themselves may differ: a load is played only when it is answered, and one
-- by step 5 may stand behind changes after its step 1, as in run I.)
pub record SameWord (n v : ℕ) (c : Calls ℕ) (order : List (Call ℕ)) (m : Word ℕ) : Type 0 where
  pub current : (words_after (first v) order 0).current ≡ m.current
  pub count : (words_after (first v) order 0).count ≡ m.count
  pub links : (p : ℕ) → p < n → c.opened p ≡ false → unchanged (words_after (first v) order 0) p ≡ unchanged m p
