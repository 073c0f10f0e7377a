-- Laws of `Every` over lists, with no word in them.
-- Assumes nothing.
use Prim.Native.Nat.{ℕ}
use mathlib.Core.Path.{subst}
use mathlib.Core.HLevel.{×_prop, Unit-prop}
use mathlib.Core.Logic.{∥∥₁_elim}
use mathlib.Core.List.{List, [], ◌∷◌, ◌++◌, Perm, Permᴰ}
use lib.ListN.{take, drop, take-append-drop}
use Rattle.word.specs.Word.{Every}

module _ {B : Type 0} where
  pub every_map : (P Q : B → Type 0) → ((b : B) → P b → Q b) → (l : List B) → Every P l → Every Q l
  every_map P Q f [] h = tt
  every_map P Q f (b ∷ l) h = (f b h.0, every_map P Q f l h.1)

  pub every_both : (P Q : B → Type 0) (l : List B) → Every P l → Every Q l → Every (λ b. P b × Q b) l
  every_both P Q [] h k = tt
  every_both P Q (b ∷ l) h k = ((h.0, k.0), every_both P Q l h.1 k.1)

  pub every_left : (P : B → Type 0) (a b : List B) → Every P (a ++ b) → Every P a
  every_left P [] b h = tt
  every_left P (x ∷ a) b h = (h.0, every_left P a b h.1)

  pub every_right : (P : B → Type 0) (a b : List B) → Every P (a ++ b) → Every P b
  every_right P [] b h = h
  every_right P (x ∷ a) b h = every_right P a b h.1

  pub every_append : (P : B → Type 0) (a b : List B) → Every P a → Every P b → Every P (a ++ b)
  every_append P [] b h k = k
  every_append P (x ∷ a) b h k = (h.0, every_append P a b h.1 k)

  -- one more element at the end, and anywhere
  pub every_snoc : (P : B → Type 0) (l : List B) (x : B) → Every P l → P x → Every P (l ++ x ∷ [])
  every_snoc P l x h px = every_append P l (x ∷ []) h (px, tt)

  pub every_mid : (P : B → Type 0) (a b : List B) (x : B) → Every P (a ++ b) → P x → Every P (a ++ x ∷ b)
  every_mid P a b x h px = every_append P a (x ∷ b) (every_left P a b h) (px, every_right P a b h)

  pub every_drop : (P : B → Type 0) (k : ℕ) (l : List B) → Every P l → Every P (drop k l)
  every_drop P k l h = every_right P (take k l) (drop k l) (rw (take-append-drop k l) h)

  -- A fact on every element goes over to the same elements in another order. (It has to be one with no content but that it holds: that
  -- two lists are permutations of one another does not say which elements went where.)
  every_prop : (P : B → Type 0) → ((b : B) → IsProp (P b)) → (l : List B) → IsProp (Every P l)
  every_prop P prop [] = Unit-prop
  every_prop P prop (b ∷ l) = ×_prop (prop b) (every_prop P prop l)

  every_permᴰ : (P : B → Type 0) {l₁ l₂ : List B} → Permᴰ l₁ l₂ → Every P l₁ → Every P l₂
  every_permᴰ P Permᴰ.nil h = h
  every_permᴰ P (Permᴰ.cons e d) h = (subst P e h.0, every_permᴰ P d h.1)
  every_permᴰ P (Permᴰ.swap e₁ e₂) h = (subst P e₂ h.1.0, (subst P e₁ h.0, h.1.1))
  every_permᴰ P (Permᴰ.trans d₁ d₂) h = every_permᴰ P d₂ (every_permᴰ P d₁ h)

  pub every_perm : (P : B → Type 0) → ((b : B) → IsProp (P b)) → {l₁ l₂ : List B} → Perm l₁ l₂ → Every P l₁ → Every P l₂
  every_perm P prop {l₂ = l₂} p h = ∥∥₁_elim p (every_prop P prop l₂) (λ d. every_permᴰ P d h)
