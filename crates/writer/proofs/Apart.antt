-- Where a byte stands first in a list, and the parts that it stands between: of a list whose front lacks it.
-- Assumes nothing.
use Prim.Native.Nat.{ℕ, ◌≤◌, ◌<◌}
use mathlib.Core.Path.{◌≡◌, refl}
use mathlib.Core.Bool.{Bool, true, false, cond, and-eq-true_iff, ◌&&◌}
use mathlib.Core.List.{List, [], ◌∷◌, ◌++◌}
use native.Mathlib.Omega.{arith}
use borrow.Author.Tests.{eq-eqb, ne_eqb, leb-true}
use lib.Dec.{eqb, leb}
use lib.ListN.{length, length-append}
use lib.Seq.{take-append_seam, drop-append-add}
use Rattle.writer.specs.Form.{place_of, before, behind, begun_with, parts, all_digits}

-- the byte does not stand in the list
abbrev pub Lacks : ℕ → List ℕ → Type 0
Lacks c [] = Unit
Lacks c (b ∷ l) = (eqb b c ≡ false) × Lacks c l

pub lacks_append : (c : ℕ) (l m : List ℕ) → Lacks c l → Lacks c m → Lacks c (l ++ m)
lacks_append c [] m h k = k
lacks_append c (b ∷ l) m h k = (h.0, lacks_append c l m h.1 k)

-- a byte below 48 stands in no digits
pub digits_lack : (c : ℕ) → c < 48 → (l : List ℕ) → all_digits l ≡ true → Lacks c l
unfolding all_digits
digits_lack c low [] h = tt
digits_lack c low (b ∷ l) h =
    let both = (and-eq-true_iff (leb 48 b && leb b 57) (all_digits l)).0 h in
    let least : 48 ≤ b = leb-true 48 b ((and-eq-true_iff (leb 48 b) (leb b 57)).0 both.0).0 in
    (ne_eqb b c (λ e. omega (arith, low, least, e)), digits_lack c low l both.1)

-- behind a front that lacks it
module _ (c : ℕ) where
  place_behind : (l rest : List ℕ) → Lacks c l → place_of c (l ++ c ∷ rest) ≡ length l
  unfolding place_of
  place_behind [] rest h = rw (eq-eqb c c refl)
  place_behind (b ∷ l) rest h = rw (h.0, place_behind l rest h.1)

  pub place_within : (l rest : List ℕ) → Lacks c l → place_of c (l ++ c ∷ rest) < length (l ++ c ∷ rest)
  place_within l rest h = rw (place_behind l rest h, length-append l (c ∷ rest)) (omega arith)

  pub before_it : (l rest : List ℕ) → Lacks c l → before c (l ++ c ∷ rest) ≡ l
  before_it l rest h = rw (place_behind l rest h) (take-append_seam l (c ∷ rest))

  pub behind_it : (l rest : List ℕ) → Lacks c l → behind c (l ++ c ∷ rest) ≡ rest
  behind_it l rest h = rw (place_behind l rest h) (drop-append-add l (c ∷ rest) 1)

  pub parts_next : (l rest : List ℕ) → Lacks c l → parts c (l ++ c ∷ rest) ≡ l ∷ parts c rest
  unfolding parts
  parts_next [] rest h = rw (eq-eqb c c refl)
  parts_next (b ∷ l) rest h = rw (h.0, parts_next l rest h.1)

  -- there is always a part: what holds of one and more of them holds of all
  pub some_part : (P : List (List ℕ) → Type 0) → ((part : List ℕ) (more : List (List ℕ)) → P (part ∷ more)) → (l : List ℕ) → P (parts c l)
  unfolding parts
  some_part P f [] = f [] []
  some_part P f (b ∷ l) = go (eqb b c) (parts c l)
    where
      go : (t : Bool) (ps : List (List ℕ)) → P (cond t ([] ∷ ps) (begun_with b ps))
      go true ps = f [] ps
      go false [] = f (b ∷ []) []
      go false (part ∷ more) = f (b ∷ part) more
