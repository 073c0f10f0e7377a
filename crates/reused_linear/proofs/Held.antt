-- The tags of process p that are held: in X, announced in A, or read by a load that has not announced yet. They are few.
-- Assumes nothing.
use Prim.Native.Nat.{ℕ, zero, suc, ◌+◌, ◌*◌, ◌≤◌, ◌<◌}
use mathlib.Core.Path.{◌≡◌, refl, sym, ap, ◌∙◌, subst}
use mathlib.Core.Bool.{Bool, true, false, cond}
use mathlib.Core.Logic.{◌⊎◌, inl, inr}
use mathlib.Core.List.{List, [], ◌∷◌, ◌++◌}
use native.Mathlib.Nat.{eq-or-lt_of_le}
use native.Mathlib.Omega.{arith}
use lib.Dec.{eqb}
use lib.ListN.{length, length-append}
use borrow.Author.Tests.{eq-eqb}
use Rattle.reused_linear.specs.Types.{Triple, Announced, Option, None, Some, Place, Idle, Load1, Load2, Load3, Store1, Store2, Check1, Own}
use Rattle.reused_linear.proofs.Lists.{In, in_left, in_right}

-- the tag, if it is one of p
abbrev pub of_owner : ℕ → ℕ → ℕ → List ℕ
of_owner p process tag = cond (eqb process p) (tag ∷ []) []

abbrev pub in_name : ℕ → Option Announced → List ℕ
in_name p None = []
in_name p (Some a) = of_owner p a.process.0 a.tag.0

abbrev pub in_kept : ℕ → Option Triple → List ℕ
in_kept p None = []
in_kept p (Some w) = of_owner p w.process.0 w.tag.0

-- of a process that waits for step 2 of its load
abbrev pub in_read : ℕ → Option Triple → Place → List ℕ
in_read p old Idle = []
in_read p old Load1 = []
in_read p old Load2 = in_kept p old
in_read p old Load3 = []
in_read p old (Store1 bit) = []
in_read p old Store2 = []
in_read p old Check1 = []

unfoldable pub held : ℕ → Triple → (ℕ → Own) → ℕ → List ℕ
held p x own zero = of_owner p x.process.0 x.tag.0
held p x own (suc n) = in_name p (own n).named ++ (in_read p (own n).old (own n).place ++ held p x own n)

-- whether a process waits for step 2 of its load
abbrev pub Pending : Place → Type 0
Pending Idle = ⊥
Pending Load1 = ⊥
Pending Load2 = Unit {0}
Pending Load3 = ⊥
Pending (Store1 bit) = ⊥
Pending Store2 = ⊥
Pending Check1 = ⊥

owned : (p process tag : ℕ) → process ≡ p → In tag (of_owner p process tag)
owned p process tag e = subst (λ (t : Bool). In tag (cond t (tag ∷ []) [])) (sym (eq-eqb process p e)) (inl refl)

few_owned : (p process tag : ℕ) → length (of_owner p process tag) ≤ 1
few_owned p process tag = go (eqb process p)
  where
    go : (t : Bool) → length (cond t (tag ∷ []) []) ≤ 1
    go true = omega arith
    go false = omega arith

few_name : (p : ℕ) (a : Option Announced) → length (in_name p a) ≤ 1
few_name p None = omega arith
few_name p (Some a) = few_owned p a.process.0 a.tag.0

few_read : (p : ℕ) (old : Option Triple) (place : Place) → length (in_read p old place) ≤ 1
few_read p old Idle = omega arith
few_read p old Load1 = omega arith
few_read p None Load2 = omega arith
few_read p (Some w) Load2 = few_owned p w.process.0 w.tag.0
few_read p old Load3 = omega arith
few_read p old (Store1 bit) = omega arith
few_read p old Store2 = omega arith
few_read p old Check1 = omega arith

no_read : (p : ℕ) (old : Option Triple) (place : Place) → (Pending place → ⊥) → length (in_read p old place) ≡ 0
no_read p old Idle h = refl
no_read p old Load1 h = refl
no_read p old Load2 h = absurd (h tt)
no_read p old Load3 h = refl
no_read p old (Store1 bit) h = refl
no_read p old Store2 h = refl
no_read p old Check1 h = refl

module _ (p : ℕ) (x : Triple) (own : ℕ → Own) where
  pub x_held : (n : ℕ) → x.process.0 ≡ p → In x.tag.0 (held p x own n)
  unfolding held
  x_held zero e = owned p x.process.0 x.tag.0 e
  x_held (suc n) e =
      in_right x.tag.0 (in_name p (own n).named) (in_read p (own n).old (own n).place ++ held p x own n)
      (in_right x.tag.0 (in_read p (own n).old (own n).place) (held p x own n) (x_held n e))

  pub name_held : (n q : ℕ) (a : Announced) → q < n → (own q).named ≡ Some a → a.process.0 ≡ p → In a.tag.0 (held p x own n)
  unfolding held
  name_held zero q a l e f = absurd (omega (arith, l))
  name_held (suc n) q a l e f = go (λ k. name_held n q a k e f) (eq-or-lt_of_le l)
    where
      go : (q < n → In a.tag.0 (held p x own n)) → (suc q ≡ suc n) ⊎ (suc q < suc n) → In a.tag.0 (in_name p (own n).named ++ (in_read p (own n).old (own n).place ++ held p x own n))
      go rec (inl g) =
          in_left a.tag.0 (in_name p (own n).named) (in_read p (own n).old (own n).place ++ held p x own n)
          (subst (λ (b : Option Announced). In a.tag.0 (in_name p b)) (sym e ∙ ap (λ (k : ℕ). (own k).named) (same g)) (owned p a.process.0 a.tag.0 f))
        where
          same : suc q ≡ suc n → q ≡ n
          same g = omega (arith, g)
      go rec (inr g) =
          in_right a.tag.0 (in_name p (own n).named) (in_read p (own n).old (own n).place ++ held p x own n)
          (in_right a.tag.0 (in_read p (own n).old (own n).place) (held p x own n) (rec (omega (arith, g))))

  pub read_held : (n q : ℕ) (w : Triple) → q < n → Pending (own q).place → (own q).old ≡ Some w → w.process.0 ≡ p → In w.tag.0 (held p x own n)
  unfolding held
  read_held zero q w l h e f = absurd (omega (arith, l))
  read_held (suc n) q w l h e f = go (λ k. read_held n q w k h e f) (eq-or-lt_of_le l)
    where
      mine : (old : Option Triple) (place : Place) → Pending place → old ≡ Some w → In w.tag.0 (in_read p old place)
      mine old Idle i g = absurd i
      mine old Load1 i g = absurd i
      mine old Load2 i g = subst (λ (k : Option Triple). In w.tag.0 (in_kept p k)) (sym g) (owned p w.process.0 w.tag.0 f)
      mine old Load3 i g = absurd i
      mine old (Store1 bit) i g = absurd i
      mine old Store2 i g = absurd i
      mine old Check1 i g = absurd i

      go : (q < n → In w.tag.0 (held p x own n)) → (suc q ≡ suc n) ⊎ (suc q < suc n) → In w.tag.0 (in_name p (own n).named ++ (in_read p (own n).old (own n).place ++ held p x own n))
      go rec (inl g) =
          in_right w.tag.0 (in_name p (own n).named) (in_read p (own n).old (own n).place ++ held p x own n)
          (in_left w.tag.0 (in_read p (own n).old (own n).place) (held p x own n)
          (subst (λ (k : ℕ). In w.tag.0 (in_read p (own k).old (own k).place)) (same g) (mine (own q).old (own q).place h e)))
        where
          same : suc q ≡ suc n → q ≡ n
          same g = omega (arith, g)
      go rec (inr g) =
          in_right w.tag.0 (in_name p (own n).named) (in_read p (own n).old (own n).place ++ held p x own n)
          (in_right w.tag.0 (in_read p (own n).old (own n).place) (held p x own n) (rec (omega (arith, g))))

  -- one in X, one announced by each process, one read by each process but p itself
  held_most : (n : ℕ) → length (held p x own n) ≤ 2 * n + 1
  unfolding held
  held_most zero = few_owned p x.process.0 x.tag.0
  held_most (suc n) =
      omega (
        arith,
        length-append (in_name p (own n).named) (in_read p (own n).old (own n).place ++ held p x own n),
        length-append (in_read p (own n).old (own n).place) (held p x own n),
        few_name p (own n).named,
        few_read p (own n).old (own n).place,
        held_most n,
      )

  pub held_few : (n : ℕ) → p < n → (Pending (own p).place → ⊥) → length (held p x own n) ≤ 2 * n
  unfolding held
  held_few zero l calm = absurd (omega (arith, l))
  held_few (suc n) l calm = go (λ k. held_few n k calm) (eq-or-lt_of_le l)
    where
      one : length (in_name p (own n).named ++ (in_read p (own n).old (own n).place ++ held p x own n)) ≡ length (in_name p (own n).named) + (length (in_read p (own n).old (own n).place) + length (held p x own n))
      one =
          length-append (in_name p (own n).named) (in_read p (own n).old (own n).place ++ held p x own n)
          ∙ ap (λ (k : ℕ). length (in_name p (own n).named) + k) (length-append (in_read p (own n).old (own n).place) (held p x own n))

      go : (p < n → length (held p x own n) ≤ 2 * n) → (suc p ≡ suc n) ⊎ (suc p < suc n) → length (in_name p (own n).named ++ (in_read p (own n).old (own n).place ++ held p x own n)) ≤ 2 * suc n
      go rec (inl g) =
          let none : length (in_read p (own n).old (own n).place) ≡ 0 = subst (λ (k : ℕ). length (in_read p (own k).old (own k).place) ≡ 0) (same g) (no_read p (own p).old (own p).place calm) in
          omega (arith, one, none, few_name p (own n).named, held_most n)
        where
          same : suc p ≡ suc n → p ≡ n
          same g = omega (arith, g)
      go rec (inr g) = omega (arith, one, few_name p (own n).named, few_read p (own n).old (own n).place, rec (omega (arith, g)))
