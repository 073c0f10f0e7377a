-- What an entry's record tells.
-- Assumes nothing.
use Prim.Native.Nat.{ℕ, ◌≤◌}
use mathlib.Core.Path.{◌≡◌}
use mathlib.Core.Bool.{true}
use native.Mathlib.Omega.{arith}
use lib.Dec.{leb}
use lib.ListN.{get_or-eq_default}
use borrow.Author.Tests.{leb-true, ne_eqb}
use Rattle.word.specs.Calls.{away}
use Rattle.word.specs.Records.{Wants, a_request, a_step, Said, step_items, item_by}

module _ {A : Type 0} where
  -- an outcome of 11 or more tells nothing
  pub item_away : (p : ℕ) (wants : Wants A) (s : Said A) → leb 11 s.outcome ≡ true → item_by p wants s ≡ away
  item_away p (a_request w o) s e = rw (ne_eqb s.outcome 0 (λ z. omega (arith, z, leb-true 11 s.outcome e)))
  item_away p a_step s e =
      let past : 7 ≤ s.outcome = omega (arith, leb-true 11 s.outcome e) in
      get_or-eq_default (step_items p s.value) away past
