-- Of every taker of a text: where two pieces fit, there is room for each in its turn.
-- Assumes nothing.
use Prim.Native.Nat.{ℕ}
use mathlib.Core.List.{List, [], ◌++◌}
use native.Mathlib.Omega.{arith}
use lib.ListN.{length, length-append}
use Rattle.lister.specs.Taker.{TakerLaws}

module _ {T : Type 0} {fits : T → ℕ → Type 0} {takes : T → List ℕ → T → Type 0} (laws : TakerLaws fits takes) where
  -- where two pieces fit, the first does, and once it is taken the second does
  pub first_fits : {s : T} (xs ys : List ℕ) → fits s (length (xs ++ ys)) → fits s (length xs)
  first_fits {s} xs ys h = laws.room s s [] (length (xs ++ ys)) (length xs) (laws.none s) h (omega (arith, length-append xs ys))

  pub then_fits : {s t : T} (xs ys : List ℕ) → takes s xs t → fits s (length (xs ++ ys)) → fits t (length ys)
  then_fits {s} {t} xs ys took h = laws.room s t xs (length (xs ++ ys)) (length ys) took h (omega (arith, length-append xs ys))
