-- At the end of a run: an order of the calls played and what is known of the replies make demand 3's `OneOrder`.
-- Assumes nothing.
use Prim.Native.Nat.{ℕ, ◌≤◌}
use mathlib.Core.Path.{subst}
use mathlib.Core.HLevel.{Π_prop}
use mathlib.Core.List.Perm
use mathlib.Core.List.{List}
use native.Mathlib.Bridge.{le_prop}
use Rattle.word.specs.Word.{Call, Every}
use Rattle.word.specs.Calls.{Reply, Calls, Answered, OneOrder}
use Rattle.word.proofs.Lists.{every_map, every_perm}
use Rattle.word.proofs.Good.{Good, good_order, good_first}
use Rattle.word.proofs.Told.{NotLater, Told, every_mem}

module _ {A : Type 0} where
  -- a reply to a call of an order stands where the call was decided, or later
  pub answered_late : (replies : List (Reply A)) (played : List (Call A)) → Every (λ c. Every (NotLater c) replies) played
      → Every (λ c. (t : ℕ) → Answered replies c t → c.decided ≤ t) played
  answered_late replies played =
      every_map (λ c. Every (NotLater c) replies) (λ c. (t : ℕ) → Answered replies c t → c.decided ≤ t)
      (λ c h t a. subst (λ (s : ℕ). c.decided ≤ s) a.2 (every_mem (NotLater c) replies a.0 h a.1 a.3 a.4))
      played

  -- One order of the calls c, and it is this one.
  unfoldable pub one_order_lem : {a : A} {now now' : ℕ} {order : List (Call A)} (c : Calls A)
      → Good a now order c.played → Told now' c.played c.replies → OneOrder a c
  one_order_lem c good told =
      record {
        in_order = good_order good;
        first =
            good_first (Answered c.replies) good
            (every_perm (λ c'. (t : ℕ) → Answered c.replies c' t → c'.decided ≤ t) (λ c'. Π_prop (λ t. Π_prop (λ a. le_prop)))
            (Perm.symm good.once) (answered_late c.replies c.played told.late));
        answered = told.answered;
        one_by_one = told.one_by_one;
        only = told.only;
      }
