-- Whether given calls play, and whether they are in time, can be decided by computing, if two values can be told apart. (`decide` of
-- mathlib.Core.Bool makes a Boolean of each, and its `decide_iff` is the law that the Boolean says just that.)
-- Assumes nothing.
use Prim.Native.Nat.{ℕ, ◌<◌}
use mathlib.Core.Path.{◌≡◌, refl}
use mathlib.Core.Bool.{true, decide}
use mathlib.Core.Logic.Dec
use mathlib.Core.List.{List, [], ◌∷◌}
use native.Mathlib.Decide.{ℕ_discrete, dec_lt}
use Rattle.word.specs.Word.{Word, Answer-discrete, answer_of, first, Call, Every, step, Plays, InTime}
use Rattle.word.proofs.Agree.{runs}

unfoldable pub every? : {B : Type 0} (P : B → Type 0) → ((b : B) → Dec (P b)) → (l : List B) → Dec (Every P l)
unfolding Dec.and
every? P d [] = yes tt
every? P d (b ∷ l) = Dec.and (d b) (every? P d l)

module _ {A : Type 0} where
  unfoldable pub plays? : Discrete A → (ws : ℕ → Word A) (l : List (Call A)) → Dec (Plays ws l)
  unfolding Dec.and
  plays? same ws [] = yes tt
  plays? same ws (c ∷ l) =
      Dec.and (Answer-discrete same (answer_of (ws c.word) c.process c.op) c.answer) (plays? same (step ws c) l)

  unfoldable pub in_time? : (l : List (Call A)) → Dec (InTime l)
  unfolding Dec.and every?
  in_time? [] = yes tt
  in_time? (c ∷ l) = Dec.and (every? (λ d. c.asked < d.decided) (λ d. dec_lt c.asked d.decided) l) (in_time? l)

-- It does compute: the table of runs, decided at once.
pub runs_decided : decide (every? (Plays (first 7)) (plays? ℕ_discrete (first 7)) runs) ≡ true
unfolding every? plays? ℕ_discrete decide
runs_decided = refl
