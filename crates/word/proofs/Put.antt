-- A function changed at one place. Laws of `put`, for links and for words alike.
-- Assumes nothing.
use Prim.Native.Nat.{ℕ}
use mathlib.Core.Path.{◌≡◌, refl, sym, ap, ◌∙◌, fun_ext, subst}
use mathlib.Core.Bool.{Bool, true, false, cond}
use mathlib.Core.Logic.{◌≢◌}
use lib.Dec.{eqb}
use borrow.Author.Tests.{eqb-true, eqb-false, eq-eqb, ne_eqb}
use Rattle.word.specs.Word.{put}

-- what holds at p, and at every place other than p, holds at every place
pub split : (P : ℕ → Type 0) (p : ℕ) → P p → ((q : ℕ) → q ≢ p → P q) → (q : ℕ) → P q
split P p here there q = go (eqb q p) refl
  where
    go : (b : Bool) → eqb q p ≡ b → P q
    go true e = subst P (sym (eqb-true q p e)) here
    go false e = there q (eqb-false q p e)

module _ {B : Type 0} where
  pub put_same : (i : ℕ) (b : B) (f : ℕ → B) → put i b f i ≡ b
  put_same i b f = rw (eq-eqb i i refl)

  pub put_other : (i : ℕ) (b : B) (f : ℕ → B) (j : ℕ) → j ≢ i → put i b f j ≡ f j
  put_other i b f j ne = rw (ne_eqb j i ne)

  pub put_put : (i : ℕ) (b c : B) (f : ℕ → B) → put i b (put i c f) ≡ put i b f
  put_put i b c f = fun_ext (λ j. go (eqb j i) j)
    where
      go : (t : Bool) (j : ℕ) → cond t b (cond t c (f j)) ≡ cond t b (f j)
      go true j = refl
      go false j = refl

  pub put_id : (i : ℕ) (f : ℕ → B) → put i (f i) f ≡ f
  put_id i f = fun_ext (split (λ j. put i (f i) f j ≡ f j) i (put_same i (f i) f) (put_other i (f i) f))

  pub put_comm : (i j : ℕ) (b c : B) (f : ℕ → B) → i ≢ j → put i b (put j c f) ≡ put j c (put i b f)
  put_comm i j b c f ne = fun_ext (split (λ k. put i b (put j c f) k ≡ put j c (put i b f) k) i here there)
    where
      here : put i b (put j c f) i ≡ put j c (put i b f) i
      here = put_same i b (put j c f) ∙ sym (put_other j c (put i b f) i ne ∙ put_same i b f)

      there : (k : ℕ) → k ≢ i → put i b (put j c f) k ≡ put j c (put i b f) k
      there k nk = put_other i b (put j c f) k nk ∙ ap (λ (x : B). cond (eqb k j) c x) (sym (put_other i b f k nk))

  -- the function with F done at place i
  abbrev pub change : ℕ → (B → B) → (ℕ → B) → ℕ → B
  change i F f = put i (F (f i)) f

  -- If F and G commute, so do F at one place and G at a place, the same or another.
  pub change_comm : (i j : ℕ) (F G : B → B) → ((b : B) → F (G b) ≡ G (F b)) → (f : ℕ → B)
      → change i F (change j G f) ≡ change j G (change i F f)
  change_comm i j F G swap f = split (λ k. change k F (change j G f) ≡ change j G (change k F f)) j same apart i
    where
      -- both at one place come to one function there
      twice : (F G : B → B) → change j F (change j G f) ≡ change j (λ b. F (G b)) f
      twice F G = put_put j (F (change j G f j)) (G (f j)) f ∙ ap (λ (b : B). put j (F b) f) (put_same j (G (f j)) f)

      same : change j F (change j G f) ≡ change j G (change j F f)
      same = twice F G ∙ ap (λ (b : B). put j b f) (swap (f j)) ∙ sym (twice G F)

      apart : (k : ℕ) → k ≢ j → change k F (change j G f) ≡ change j G (change k F f)
      apart k ne =
          ap (λ (b : B). put k (F b) (change j G f)) (put_other j (G (f j)) f k ne) ∙ put_comm k j (F (f k)) (G (f j)) f ne
          ∙ ap (λ (b : B). put j (G b) (change k F f)) (sym (put_other k (F (f k)) f j (λ e. ne (sym e))))
