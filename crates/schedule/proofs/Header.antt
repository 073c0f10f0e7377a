-- What block 0 is refused with: the place of the first stray byte, and document 01's number.
-- Assumes nothing.
use Prim.Native.Nat.{ℕ, zero, suc, ◌+◌, ◌-◌, ◌≤◌, ◌<◌}
use mathlib.Core.Bool.{Bool, true, false, cond, not, ◌&&◌, ◌||◌, false≢true, and-eq-true_iff}
use mathlib.Core.List.{List}
use mathlib.Core.Logic.{◌≢◌}
use mathlib.Core.Path.{◌≡◌, refl, sym, ap, subst, ◌∙◌}
use native.Mathlib.Omega.{arith}
use borrow.Author.Tests.{eqb-true, eq-eqb, ne_eqb, leb-true, le-leb}
use lib.Dec.{eqb, leb}
use lib.ListN.{get_or, length}
use Rattle.numbers.specs.Numbers.{in_range_n, in_range_s, number_unless, first_found}
use Rattle.numbers.proofs.Below.{all_intro}
use Rattle.numbers.proofs.First.{unless_fine, below_none, below_found}
use Rattle.schedule.specs.Types.{Reading, Refused, Accepted}
use Rattle.schedule.specs.File.{zeros_of, check_fine, place_fine, start_n, start_s, later_blocks, first_clear, first_number, stray_of, first_stray, later_fine, later_number, length_fine, block_at, blocks_after, found, found_in_first, in_turn, accepted_as, reading}
use Rattle.schedule.specs.Header.{must_be_zero, FirstStrayAt, file_number, StrayPlaces, as_before, old_first, AsBefore}

-- the number of block 0 and of a later block, by what its tests say
abbrev first_by : Bool → Bool → Bool → Bool → Bool → Bool → ℕ
first_by check place n s count clear =
    first_found (number_unless check 2)
    (first_found (number_unless place 3)
    (first_found (first_found (number_unless n 16) (number_unless s 17)) (first_found (number_unless count 18) (number_unless clear 19))))

abbrev later_by : Bool → Bool → Bool → ℕ
later_by check place fine = first_found (number_unless check 2) (first_found (number_unless place 3) (number_unless fine 5))

-- The first stray byte.
module _ (b : List ℕ) where
  -- what a byte from place 18 on gives: its place, unless it is zero
  abbrev here : ℕ → ℕ
  here i = number_unless (eqb (get_or b (18 + i) 0) 0) (18 + i)

  here_zero : (i : ℕ) → here i ≡ 0 → get_or b (18 + i) 0 ≡ 0
  here_zero i h = eqb-true (get_or b (18 + i) 0) 0 (unless_fine (eqb (get_or b (18 + i) 0) 0) (18 + i) (omega arith) h)

  here_some : (i : ℕ) → here i ≢ 0 → (here i ≡ 18 + i) × (get_or b (18 + i) 0 ≢ 0)
  here_some i h = (rw (ne_eqb (get_or b (18 + i) 0) 0 some), some)
    where
      some : get_or b (18 + i) 0 ≢ 0
      some e = h (rw e)

  -- where bytes 18 to 509 are not all zero, a place is found
  rest_some : zeros_of b 18 492 ≡ false → stray_of b 18 492 ≢ 0
  unfolding zeros_of stray_of
  rest_some h e =
      false≢true (sym h ∙ all_intro 492 (λ i. eqb (get_or b (18 + i) 0) 0) (λ i l. eq-eqb (get_or b (18 + i) 0) 0 (here_zero i (below_none 492 here e i l))))

  -- byte 3 is the stray one: no place before it is asked for
  at_3 : get_or b 3 0 ≢ 0 → FirstStrayAt b 3
  at_3 some = record { asked = refl; stray = some; first = before }
    where
      before : (i : ℕ) → i < 3 → must_be_zero i ≡ true → get_or b i 0 ≡ 0
      before zero l h = absurd (false≢true h)
      before (suc zero) l h = absurd (false≢true h)
      before (suc (suc zero)) l h = absurd (false≢true h)
      before (suc (suc (suc i))) l h = absurd (omega arith)

  -- byte 3 is zero, and the first of the others that is not stands at 18 + j
  at_rest : get_or b 3 0 ≡ 0 → (j : ℕ) → j < 492 → get_or b (18 + j) 0 ≢ 0 → ((i : ℕ) → i < j → here i ≡ 0) → FirstStrayAt b (18 + j)
  at_rest third j l some first = record { asked = asked; stray = some; first = before }
    where
      asked : must_be_zero (18 + j) ≡ true
      asked = rw (ne_eqb (18 + j) 3 (λ e. omega (arith, e)), le-leb 18 (18 + j) (omega arith), le-leb (18 + j) 509 (omega arith))

      by : (i : ℕ) → i < 18 + j → (t : Bool) → (t ≡ true → i ≡ 3) → (t || (leb 18 i && leb i 509)) ≡ true → get_or b i 0 ≡ 0
      by i m true is h = rw (is refl) third
      by i m false is h =
          let low : 18 ≤ i = leb-true 18 i ((and-eq-true_iff (leb 18 i) (leb i 509)).0 h).0 in
          let e : 18 + (i - 18) ≡ i = omega arith in
          rw e at (here_zero (i - 18) (first (i - 18) (omega arith)))

      before : (i : ℕ) → i < 18 + j → must_be_zero i ≡ true → get_or b i 0 ≡ 0
      before i m h = by i m (eqb i 3) (eqb-true i 3) h

  pub first_stray_lem : first_clear b ≡ false → FirstStrayAt b (first_stray b)
  unfolding stray_of
  first_stray_lem h = by (eqb (get_or b 3 0) 0) refl (zeros_of b 18 492) refl h
    where
      rest : get_or b 3 0 ≡ 0 → zeros_of b 18 492 ≡ false → FirstStrayAt b (stray_of b 18 492)
      rest third z =
          let at = below_found 492 here (rest_some z) in
          let some : here at.0 ≢ 0 = λ e. rest_some z (at.1.is ∙ e) in
          rw (at.1.is ∙ (here_some at.0 some).0) (at_rest third at.0 at.1.below (here_some at.0 some).1 at.1.first)

      by : (t : Bool) → eqb (get_or b 3 0) 0 ≡ t → (u : Bool) → zeros_of b 18 492 ≡ u → (t && u) ≡ false
          → FirstStrayAt b (first_found (number_unless t 3) (stray_of b 18 492))
      by true e true z g = absurd (false≢true (sym g))
      by true e false z g = rest (eqb-true (get_or b 3 0) 0 e) z
      by false e u z g = at_3 (λ q. false≢true (sym e ∙ eq-eqb (get_or b 3 0) 0 q))

-- What is told of a refused file: a number that there is, and a place with 19 alone.
abbrev Told : List ℕ → Reading → Type 0
Told b (Refused n k place) = (file_number n ≡ true) × ((n ≡ 19 → (k ≡ 0) × FirstStrayAt b place) × (n ≢ 19 → place ≡ 0))
Told b (Accepted n s v c) = Unit {0}

first_told : (b : List ℕ) (check place n s count clear : Bool) → (clear ≡ false → FirstStrayAt b (first_stray b)) → (rest : Reading) → Told b rest
    → Told b (found_in_first b (first_by check place n s count clear) rest)
first_told b false place n s count clear at rest h = (refl, ((λ e. absurd (omega (arith, e))), (λ g. refl)))
first_told b true false n s count clear at rest h = (refl, ((λ e. absurd (omega (arith, e))), (λ g. refl)))
first_told b true true false s count clear at rest h = (refl, ((λ e. absurd (omega (arith, e))), (λ g. refl)))
first_told b true true true false count clear at rest h = (refl, ((λ e. absurd (omega (arith, e))), (λ g. refl)))
first_told b true true true true false clear at rest h = (refl, ((λ e. absurd (omega (arith, e))), (λ g. refl)))
first_told b true true true true true false at rest h = (refl, ((λ e. (refl, at refl)), (λ g. absurd (g refl))))
first_told b true true true true true true at rest h = h

later_told : (b : List ℕ) (k : ℕ) (check place fine : Bool) (rest : Reading) → Told b rest → Told b (found (later_by check place fine) k 0 rest)
later_told b k false place fine rest h = (refl, ((λ e. absurd (omega (arith, e))), (λ g. refl)))
later_told b k true false fine rest h = (refl, ((λ e. absurd (omega (arith, e))), (λ g. refl)))
later_told b k true true false rest h = (refl, ((λ e. absurd (omega (arith, e))), (λ g. refl)))
later_told b k true true true rest h = h

turn_told : (b f : List ℕ) (k n : ℕ) (rest : Reading) → Told b rest → Told b (in_turn f k n rest)
unfolding in_turn later_number
turn_told b f k zero rest h = h
turn_told b f k (suc n) rest h =
    let c = block_at f k in
    later_told b k (check_fine c) (place_fine c k) (later_fine c) (in_turn f (k + 1) n rest) (turn_told b f (k + 1) n rest h)

told : (f : List ℕ) → Told (block_at f 0) (reading f)
unfolding reading first_number
told f = go (length_fine (length f))
  where
    b : List ℕ
    b = block_at f 0

    go : (t : Bool) → Told b (cond (not t) (Refused 1 0 0) (found_in_first b (first_number b (blocks_after f)) (in_turn f 1 (blocks_after f) (accepted_as f))))
    go true =
        first_told b (check_fine b) (place_fine b 0) (in_range_n (start_n b)) (in_range_s (record { 0 = start_s b })) (eqb (later_blocks b) (blocks_after f)) (first_clear b)
        (first_stray_lem b) (in_turn f 1 (blocks_after f) (accepted_as f)) (turn_told b f 1 (blocks_after f) (accepted_as f) tt)
    go false = (refl, ((λ e. absurd (omega (arith, e))), (λ g. refl)))

pub stray_places : StrayPlaces
stray_places =
    record {
      number = λ f n k place e. (by f n k place e).0;
      stray = λ f k place e. (by f 19 k place e).1.0 refl;
      none = λ f n k place e. (by f n k place e).1.1;
    }
  where
    by : (f : List ℕ) (n k place : ℕ) → reading f ≡ Refused n k place → Told (block_at f 0) (Refused n k place)
    by f n k place e = subst (Told (block_at f 0)) e (told f)

-- Read with the old number.
abbrev old_by : Bool → Bool → Bool → Bool → Bool → Bool → ℕ
old_by check place n s count clear = cond (not check) 2 (cond (not place) 3 (cond (not ((n && s) && (count && clear))) 4 0))

first_before : (b : List ℕ) (check place n s count clear : Bool) (rest : Reading)
    → as_before (found_in_first b (first_by check place n s count clear) rest) ≡ found_in_first b (old_by check place n s count clear) (as_before rest)
first_before b false place n s count clear rest = refl
first_before b true false n s count clear rest = refl
first_before b true true false s count clear rest = refl
first_before b true true true false count clear rest = refl
first_before b true true true true false clear rest = refl
first_before b true true true true true false rest = refl
first_before b true true true true true true rest = refl

later_before : (k : ℕ) (check place fine : Bool) (rest : Reading)
    → as_before (found (later_by check place fine) k 0 rest) ≡ found (later_by check place fine) k 0 (as_before rest)
later_before k false place fine rest = refl
later_before k true false fine rest = refl
later_before k true true false rest = refl
later_before k true true true rest = refl

turn_before : (f : List ℕ) (k n : ℕ) (rest : Reading) → as_before rest ≡ rest → as_before (in_turn f k n rest) ≡ in_turn f k n rest
unfolding in_turn later_number
turn_before f k zero rest h = h
turn_before f k (suc n) rest h =
    let c = block_at f k in
    later_before k (check_fine c) (place_fine c k) (later_fine c) (in_turn f (k + 1) n rest)
    ∙ ap (found (later_number c k) k 0) (turn_before f (k + 1) n rest h)

pub as_before_lem : AsBefore
unfolding reading first_number
as_before_lem f = go (length_fine (length f))
  where
    b : List ℕ
    b = block_at f 0

    later : Reading
    later = in_turn f 1 (blocks_after f) (accepted_as f)

    old : ℕ
    old = old_first b (blocks_after f)

    go : (t : Bool)
        → as_before (cond (not t) (Refused 1 0 0) (found_in_first b (first_number b (blocks_after f)) later)) ≡ cond (not t) (Refused 1 0 0) (found_in_first b old later)
    go true =
        first_before b (check_fine b) (place_fine b 0) (in_range_n (start_n b)) (in_range_s (record { 0 = start_s b })) (eqb (later_blocks b) (blocks_after f)) (first_clear b) later
        ∙ ap (found_in_first b old) (turn_before f 1 (blocks_after f) (accepted_as f) refl)
    go false = refl
