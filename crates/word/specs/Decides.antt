-- Whether an item decides a store as done.
-- Assumes nothing.
use Rattle.std.specs.Prelude.{ℕ, Bool, false}
use Rattle.word.specs.Calls.{Item, asks, goes, answers, away, Calls, decides}

module _ {A : Type 0} where
  abbrev pub decides_in : ℕ → Calls A → Item A → Bool
  decides_in d c (asks p w o) = false
  decides_in d c (goes p) = decides d c p
  decides_in d c (answers p a) = false
  decides_in d c away = false
