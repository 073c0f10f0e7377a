-- The real-time clause by places of the order.
-- Assumes nothing.
use Prim.Native.Nat.{ℕ, zero, suc, ◌≤◌, ◌<◌}
use mathlib.Core.Path.{◌≡◌, refl, sym, ap, ◌∙◌, subst}
use mathlib.Core.Bool.{Bool, true, false}
use mathlib.Core.Logic.{◌≢◌}
use mathlib.Core.Option.{some, some-injective, none-ne-some}
use mathlib.Core.List.{List, [], ◌∷◌}
use native.Mathlib.Nat.{le_of_suc-le-suc, not-suc-le-zero}
use native.Mathlib.Omega.{arith}
use lib.Dec.{ltb}
use lib.ListN.{get_elem?}
use borrow.Author.Tests.{ltb-true, ltb-false}
use Rattle.word.specs.Word.{Call, Every, InTime, StandsFirst}

-- what holds of every element holds of the one at place i
pub every_at : {B : Type 0} (P : B → Type 0) (l : List B) (i : ℕ) (b : B) → Every P l → get_elem? l i ≡ some b → P b
every_at P [] i b h e = absurd (none-ne-some b e)
every_at P (x ∷ l) zero b h e = subst P (some-injective x b e) h.0
every_at P (x ∷ l) (suc i) b h e = every_at P l i b h.1 e

-- and what holds of the one at each place holds of every element
pub every_of : {B : Type 0} (P : B → Type 0) (l : List B) → ((i : ℕ) (b : B) → get_elem? l i ≡ some b → P b) → Every P l
every_of P [] h = tt
every_of P (x ∷ l) h = (h 0 x refl, every_of P l (λ i. h (suc i)))

module _ {A : Type 0} where
  -- of two places of an order in time, the later one was decided after the earlier one was requested
  pub in_time_at : (l : List (Call A)) (i j : ℕ) (c d : Call A) → InTime l → get_elem? l i ≡ some c → get_elem? l j ≡ some d → i < j → c.asked < d.decided
  in_time_at [] i j c d h ei ej lt = absurd (none-ne-some c ei)
  in_time_at (x ∷ l) i zero c d h ei ej lt = absurd (omega arith)
  in_time_at (x ∷ l) zero (suc j) c d h ei ej lt =
      subst (λ (y : Call A). y.asked < d.decided) (some-injective x c ei) (every_at (λ y. x.asked < y.decided) l j d h.0 ej)
  in_time_at (x ∷ l) (suc i) (suc j) c d h ei ej lt = in_time_at l i j c d h.1 ei ej (omega arith)

  -- A call is answered when or after it is decided, so one that is answered before another is requested is decided before that, and
  -- cannot stand behind it. Nor are the two the same call: a call is requested before it is decided.
  pub stands_first : (Answered : Call A → ℕ → Type 0) (order : List (Call A)) → InTime order → Every (λ c. c.asked < c.decided) order
      → Every (λ c. (t : ℕ) → Answered c t → c.decided ≤ t) order → StandsFirst Answered order
  stands_first Answered order h spans late i j t c d ei ej answered before = go (ltb i j) refl (ltb j i) refl
    where
      go : (b : Bool) → ltb i j ≡ b → (b' : Bool) → ltb j i ≡ b' → i < j
      go true e b' e' = ltb-true i j e
      go false e true e' = absurd (omega (arith, in_time_at order j i d c h ej ei (ltb-true j i e'), every_at _ order i c late ei t answered))
      go false e false e' = absurd (omega (arith, every_at _ order j d spans ej, every_at _ order i c late ei t answered, ap (λ (y : Call A). y.decided) same))
        where
          places : i ≡ j
          places = omega (arith, ltb-false i j e, ltb-false j i e')

          same : c ≡ d
          same = some-injective c d (sym ei ∙ ap (get_elem? order) places ∙ ej)

  -- The other way round, for calls that are decided where they are answered, at places of their own: then the clause by places gives
  -- `InTime`, so `InTime` asks no more than what is asked for.
  pub in_time_of : (order : List (Call A))
      → ((i j : ℕ) (c d : Call A) → get_elem? order i ≡ some c → get_elem? order j ≡ some d → c.asked ≢ d.decided)
      → StandsFirst (λ c t. c.decided ≡ t) order → InTime order
  in_time_of [] apart first = tt
  in_time_of (x ∷ l) apart first = (
    every_of (λ d. x.asked < d.decided) l behind,
    in_time_of l (λ i j c d ei ej. apart (suc i) (suc j) c d ei ej) (λ i j t c d ei ej a b. le_of_suc-le-suc (first (suc i) (suc j) t c d ei ej a b)),
  )
    where
      behind : (j : ℕ) (d : Call A) → get_elem? l j ≡ some d → x.asked < d.decided
      behind j d ej = go (ltb d.decided x.asked) refl
        where
          go : (b : Bool) → ltb d.decided x.asked ≡ b → x.asked < d.decided
          go true e = absurd (not-suc-le-zero (first (suc j) 0 d.decided d x ej refl refl (ltb-true d.decided x.asked e)))
          go false e = omega (arith, ltb-false d.decided x.asked e, apart 0 (suc j) x d refl ej)
