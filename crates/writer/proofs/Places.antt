-- Where a byte stands first, byte by byte; and the parts that it stands between.
-- Assumes nothing.
use Prim.Native.Nat.{ℕ, suc, ◌+◌, ◌≤◌, ◌<◌}
use mathlib.Core.Path.{◌≡◌, refl, sym, ◌∙◌}
use mathlib.Core.Bool.{Bool, true, false, cond, not}
use mathlib.Core.List.{List, [], ◌∷◌}
use native.Mathlib.Numerals.{add-one, one-add}
use native.Mathlib.Omega.{arith}
use native.Mathlib.Decide.{dec_lt}
use borrow.Author.Tests.{lt-ltb}
use lib.Dec.{eqb, ltb}
use lib.ListN.{length, take, drop, drop_of_length-le}
use Rattle.std.specs.Prelude.{Option, Some, None}
use Rattle.std.specs.List.{position, position_or_len}
use Rattle.std.proofs.lemmas.List.Sums.{prefix_len-le-length}
use Rattle.std.proofs.lemmas.Option.{cond_some, none-some}
use Rattle.std.proofs.lemmas.List.Recursion.{is_position_or_len}
use Rattle.writer.specs.Form.{place_of, before, behind, begun_with, parts}

-- the library's word for it
pub place_is : (c : ℕ) (l : List ℕ) → place_of c l ≡ position_or_len (λ x. eqb x c) l
unfolding place_of
place_is c l = is_position_or_len (place_of c) (λ x. eqb x c) refl (λ x xs. rw one-add) l

pub place_most : (c : ℕ) (l : List ℕ) → place_of c l ≤ length l
place_most c l = rw place_is (prefix_len-le-length (λ x. not (eqb x c)) l)

-- what the library's search for it says
module _ (c : ℕ) (l : List ℕ) {r : Option ℕ} (e : r ≡ position (λ x. eqb x c) l) where
  abbrev found : ℕ → Option ℕ
  found p = cond (ltb p (length l)) (Some p) None

  is : r ≡ found (place_of c l)
  is = rw place_is e

  pub place_found : (p : ℕ) → r ≡ Some p → place_of c l ≡ p
  place_found p h = (cond_some (ltb (place_of c l) (length l)) (place_of c l) p (sym is ∙ h)).1

  pub place_missed : r ≡ None → place_of c l ≡ length l
  place_missed h = go (dec_lt (place_of c l) (length l))
    where
      go : Dec (place_of c l < length l) → place_of c l ≡ length l
      go (yes k) =
          let f : found (place_of c l) ≡ Some (place_of c l) = rw (lt-ltb (place_of c l) (length l) k) in
          absurd (none-some (place_of c l) (sym h ∙ is ∙ f))
      go (no k) = omega (arith, k, place_most c l)

-- the first part, and those behind it: where the byte stands, and where it stands nowhere
pub parts_first : (c : ℕ) (l : List ℕ) → place_of c l < length l → parts c l ≡ before c l ∷ parts c (behind c l)
unfolding place_of parts
parts_first c [] h = absurd (omega (arith, h))
parts_first c (b ∷ bs) h = go (eqb b c) h (parts_first c bs)
  where
    go : (t : Bool) → cond t 0 (suc (place_of c bs)) < suc (length bs)
        → (place_of c bs < length bs → parts c bs ≡ take (place_of c bs) bs ∷ parts c (drop (place_of c bs + 1) bs))
        → cond t ([] ∷ parts c bs) (begun_with b (parts c bs))
        ≡ take (cond t 0 (suc (place_of c bs))) (b ∷ bs) ∷ parts c (drop (cond t 0 (suc (place_of c bs)) + 1) (b ∷ bs))
    go true l f = refl
    go false l f = rw (f (omega (arith, l)), add-one (place_of c bs), add-one (suc (place_of c bs)))

pub parts_none : (c : ℕ) (l : List ℕ) → length l ≤ place_of c l → parts c l ≡ l ∷ []
unfolding place_of parts
parts_none c [] h = refl
parts_none c (b ∷ bs) h = go (eqb b c) h (parts_none c bs)
  where
    go : (t : Bool) → suc (length bs) ≤ cond t 0 (suc (place_of c bs)) → (length bs ≤ place_of c bs → parts c bs ≡ bs ∷ [])
        → cond t ([] ∷ parts c bs) (begun_with b (parts c bs)) ≡ (b ∷ bs) ∷ []
    go true l f = absurd (omega (arith, l))
    go false l f = rw (f (omega (arith, l)))

-- behind the end it stands nowhere
pub place_end : (c : ℕ) (l : List ℕ) (i : ℕ) → length l ≤ i → place_of c (drop i l) ≡ 0
unfolding place_of
place_end c l i h = rw (drop_of_length-le l h)
