-- A list of calls played in two parts.
-- Assumes nothing.
use Prim.Native.Nat.{ℕ}
use mathlib.Core.Path.{◌≡◌}
use mathlib.Core.List.{List, [], ◌∷◌, ◌++◌, foldl-append}
use Rattle.word.specs.Word.{Word, answer_of, Call, step, words_after, Plays}

module _ {A : Type 0} where
  pub after_append : (ws : ℕ → Word A) (a b : List (Call A)) → words_after ws (a ++ b) ≡ words_after (words_after ws a) b
  after_append ws a b = foldl-append step ws a b

  pub after_snoc : (ws : ℕ → Word A) (l : List (Call A)) (c : Call A) → words_after ws (l ++ c ∷ []) ≡ step (words_after ws l) c
  after_snoc ws l c = after_append ws l (c ∷ [])

  pub plays_left : (ws : ℕ → Word A) (a b : List (Call A)) → Plays ws (a ++ b) → Plays ws a
  plays_left ws [] b h = tt
  plays_left ws (c ∷ a) b h = (h.0, plays_left (step ws c) a b h.1)

  pub plays_right : (ws : ℕ → Word A) (a b : List (Call A)) → Plays ws (a ++ b) → Plays (words_after ws a) b
  plays_right ws [] b h = h
  plays_right ws (c ∷ a) b h = plays_right (step ws c) a b h.1

  pub plays_append : (ws : ℕ → Word A) (a b : List (Call A)) → Plays ws a → Plays (words_after ws a) b → Plays ws (a ++ b)
  plays_append ws [] b h k = k
  plays_append ws (c ∷ a) b h k = (h.0, plays_append (step ws c) a b h.1 k)

  pub plays_snoc : (ws : ℕ → Word A) (l : List (Call A)) (c : Call A) → Plays ws l
      → answer_of (words_after ws l c.word) c.process c.op ≡ c.answer → Plays ws (l ++ c ∷ [])
  plays_snoc ws l c h e = plays_append ws l (c ∷ []) h (e, tt)
