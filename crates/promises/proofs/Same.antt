-- From a promise that is an equation to the equality of two answers that meet it.
use Prim.Native.Nat.{ℕ}
use mathlib.Core.Path.{◌≡◌, refl, sym, ◌∙◌, ap}
use mathlib.Core.Logic.{∥∥₁_elim}
use mathlib.Core.List.{List}
use base.Stored.{Coded, Coded-set, coded_list, coded_via, coded_ℕ}
use contract.Lifetimes.{Lfts}
use contract.Monad.{fact}
use denote.Signature.{type_at}
use denote.Triple.Clauses.{Ended, Lasts}
use denote.Triple.Entry.{Args, Res}
use Rattle.std.specs.Prelude.{Option, Some, None, option_to_list}
use Rattle.promises.specs.Determined.{Promise, Meets}

module _ {M : Type 1} {T : Ended} {c : Promise M T} {κs : Lfts T.signature.lifetimes} {a : Args T.signature κs}
    (k l : Meets M T c κs a) where
  -- what a fact that holds of the one and a fact that holds of the other say together
  told : {X : Type 0} {x y : X} {φ ψ : Type 0} → Coded X → (φ → ψ → x ≡ y)
      → (fact k.𝓤 φ).holds k.resource → (fact l.𝓤 ψ).holds l.resource → x ≡ y
  told {x = x} {y} code f p q = ∥∥₁_elim p (Coded-set code x y) (λ s. ∥∥₁_elim q (Coded-set code x y) (λ t. f s.0 t.0))

  -- the promise is an equation for the result, or one for the result and more
  pub same_result : {z : Res T.signature κs}
      → (fact k.𝓤 (k.result ≡ z)).holds k.resource → (fact l.𝓤 (l.result ≡ z)).holds l.resource → k.result ≡ l.result
  same_result = told (type_at T.signature.result κs).coded (λ e f. e ∙ sym f)

  pub same_result_too : {z : Res T.signature κs} {φ ψ : Type 0}
      → (fact k.𝓤 ((k.result ≡ z) × φ)).holds k.resource
      → (fact l.𝓤 ((l.result ≡ z) × ψ)).holds l.resource → k.result ≡ l.result
  same_result_too = told (type_at T.signature.result κs).coded (λ e f. e.0 ∙ sym f.0)

  -- the promise is an equation for the numbers that f reads off the result, and no two results have the same
  pub same_told : {X : Type 0} (f : Res T.signature κs → X) → ((x y : Res T.signature κs) → f x ≡ f y → x ≡ y) → {z : X}
      → (fact k.𝓤 (f k.result ≡ z)).holds k.resource → (fact l.𝓤 (f l.result ≡ z)).holds l.resource → k.result ≡ l.result
  same_told f one = told (type_at T.signature.result κs).coded (λ d e. one k.result l.result (d ∙ sym e))

  -- the promise is an equation for a list of numbers, or one for the result and one for such a list, of which f makes the last values
  pub same_list : {x y z : List ℕ}
      → (fact k.𝓤 (x ≡ z)).holds k.resource → (fact l.𝓤 (y ≡ z)).holds l.resource → x ≡ y
  same_list = told (coded_list coded_ℕ) (λ e f. e ∙ sym f)

  pub same_both : (f : List ℕ → Lasts T κs a) {r : Res T.signature κs} {x y z : List ℕ}
      → (fact k.𝓤 ((k.result ≡ r) × (x ≡ z))).holds k.resource
      → (fact l.𝓤 ((l.result ≡ r) × (y ≡ z))).holds l.resource → (k.result ≡ l.result) × (f x ≡ f y)
  same_both f p q = (same_result_too p q, ap f (told (coded_list coded_ℕ) (λ d e. d.1 ∙ sym e.1) p q))

  pub same_told_both : {X : Type 0} (tell : Res T.signature κs → X) → ((x y : Res T.signature κs) → tell x ≡ tell y → x ≡ y) → (f : List ℕ → Lasts T κs a)
      → {r : X} {x y z : List ℕ}
      → (fact k.𝓤 ((tell k.result ≡ r) × (x ≡ z))).holds k.resource
      → (fact l.𝓤 ((tell l.result ≡ r) × (y ≡ z))).holds l.resource → (k.result ≡ l.result) × (f x ≡ f y)
  same_told_both tell one f p q = (
    told (type_at T.signature.result κs).coded (λ d e. one k.result l.result (d.0 ∙ sym e.0)) p q,
    ap f (told (coded_list coded_ℕ) (λ d e. d.1 ∙ sym e.1) p q),
  )

  -- the promise is an equation for what stands in the parts of a slice that the result has, and more
  pub same_seen : {X : Type 0} → Coded X → (see : Res T.signature κs → X) → {z : X} {φ χ ψ ω : Type 0}
      → (fact k.𝓤 ((see k.result ≡ z) × φ × χ)).holds k.resource
      → (fact l.𝓤 ((see l.result ≡ z) × ψ × ω)).holds l.resource → see k.result ≡ see l.result
  same_seen code see = told code (λ d e. d.0 ∙ sym e.0)

-- what a list of at most one is tells an Option
coded_one : {A : Type 0} (x y : Option A) → option_to_list x ≡ option_to_list y → x ≡ y
coded_one None None h = refl
coded_one None (Some y) h = cc
coded_one (Some x) None h = cc
coded_one (Some x) (Some y) h = cc

pub coded_option : {A : Type 0} → Coded A → Coded (Option A)
coded_option a = coded_via (coded_list a) option_to_list coded_one
