-- The further lines of a text, one after another: what they come to, and the entries that they ask for.
-- Assumes nothing.
use Prim.Native.Nat.{ℕ, suc, ◌+◌, ◌-◌, ◌≤◌, ◌<◌}
use mathlib.Core.Path.{◌≡◌, refl, sym}
use mathlib.Core.Bool.{Bool, true, false, cond, false≢true}
use mathlib.Core.List.{List, [], ◌∷◌}
use native.Mathlib.Nat.{add-zero}
use native.Mathlib.Decide.{dec_lt}
use native.Mathlib.Omega.{arith}
use borrow.Author.Tests.{ne_eqb}
use lib.Dec.{eqb}
use lib.ListN.{length, take, drop, length-drop}
use lib.Seq.{take_all}
use Rattle.std.specs.Prelude.{Option, Some, None, is_some, IsSome, IfNone, Ok, Err}
use Rattle.text.specs.Lines.{newline}
use Rattle.writer.specs.Form.{place_of, before, behind, parts, line_fine, entry_in, first_outside_by, entries_in}
use Rattle.writer.specs.Parts.{line_of, lines_in, entries_left, InForm, over_lines_by}
use Rattle.writer.proofs.Apart.{some_part}
use Rattle.writer.proofs.Places.{parts_first, parts_none}

-- what lines come to: one more in the form, one outside it, one without its newline, and none
module _ (fine : List ℕ → Bool) (k e : ℕ) where
  over_more : (line l : List ℕ) → fine line ≡ true → over_lines_by fine k e (line ∷ parts newline l) ≡ over_lines_by fine (k + 1) (e + 1) (parts newline l)
  unfolding over_lines_by first_outside_by entries_in
  over_more line l h = some_part newline (λ ls. over_lines_by fine k e (line ∷ ls) ≡ over_lines_by fine (k + 1) (e + 1) ls) (λ part more. one part more) l
    where
      one : (part : List ℕ) (more : List (List ℕ)) → over_lines_by fine k e (line ∷ part ∷ more) ≡ over_lines_by fine (k + 1) (e + 1) (part ∷ more)
      one part more =
          let count : e + suc (length (entries_in (part ∷ more))) ≡ e + 1 + length (entries_in (part ∷ more)) = omega arith in
          rw (h, count)

  over_not : 0 < k → (line l : List ℕ) → fine line ≡ false → over_lines_by fine k e (line ∷ parts newline l) ≡ Err k
  unfolding over_lines_by first_outside_by
  over_not p line l h =
      some_part newline (λ ls. over_lines_by fine k e (line ∷ ls) ≡ Err k) (λ part more. rw (h, ne_eqb k 0 (λ q. omega (arith, p, q)))) l

  over_rest : 0 < k → (left : List ℕ) → 0 < length left → over_lines_by fine k e (left ∷ []) ≡ Err k
  unfolding over_lines_by first_outside_by
  over_rest p left h = rw (ne_eqb (length left) 0 (λ q. omega (arith, h, q)), ne_eqb k 0 (λ q. omega (arith, p, q)))

  module _ (rest : List ℕ) where
    pub over_next : place_of newline rest < length rest → fine (before newline rest) ≡ true
        → over_lines_by fine k e (lines_in rest) ≡ over_lines_by fine (k + 1) (e + 1) (lines_in (behind newline rest))
    over_next h t = rw (parts_first newline rest h) (over_more (before newline rest) (behind newline rest) t)

    pub over_outside : 0 < k → place_of newline rest < length rest → fine (before newline rest) ≡ false → over_lines_by fine k e (lines_in rest) ≡ Err k
    over_outside p h t = rw (parts_first newline rest h) (over_not p (before newline rest) (behind newline rest) t)

    pub over_left : 0 < k → length rest ≤ place_of newline rest → 0 < length rest → over_lines_by fine k e (lines_in rest) ≡ Err k
    over_left p h t = rw (parts_none newline rest h) (over_rest p rest t)

  pub over_end : (rest : List ℕ) → length rest ≡ 0 → over_lines_by fine k e (lines_in rest) ≡ Ok e
  unfolding over_lines_by first_outside_by parts entries_in
  over_end [] h = rw (add-zero e)
  over_end (b ∷ l) h = absurd (omega (arith, h))

-- wherever the count of lines begins, all are in the form
module _ (fine : List ℕ → Bool) where
  pub all_earlier : (k : ℕ) (ls : List (List ℕ)) → first_outside_by fine (k + 1) ls ≡ 0 → first_outside_by fine k ls ≡ 0
  unfolding first_outside_by
  all_earlier k [] h = refl
  all_earlier k (left ∷ []) h = go (eqb (length left) 0) h
    where
      go : (t : Bool) → cond t 0 (k + 1) ≡ 0 → cond t 0 k ≡ 0
      go true h = refl
      go false h = absurd (omega (arith, h))
  all_earlier k (line ∷ next ∷ more) h = go (fine line) h (all_earlier (k + 1) (next ∷ more))
    where
      go : (t : Bool) → cond t (first_outside_by fine (k + 1 + 1) (next ∷ more)) (k + 1) ≡ 0
          → (first_outside_by fine (k + 1 + 1) (next ∷ more) ≡ 0 → first_outside_by fine (k + 1) (next ∷ more) ≡ 0)
          → cond t (first_outside_by fine (k + 1) (next ∷ more)) k ≡ 0
      go true h f = f h
      go false h f = absurd (omega (arith, h))

  first_fine : (line l : List ℕ) → first_outside_by fine 1 (line ∷ parts newline l) ≡ 0
      → (fine line ≡ true) × (first_outside_by fine 2 (parts newline l) ≡ 0)
  unfolding first_outside_by
  first_fine line l = some_part newline (λ ls. first_outside_by fine 1 (line ∷ ls) ≡ 0 → (fine line ≡ true) × (first_outside_by fine 2 ls ≡ 0)) (λ part more. go (fine line) (part ∷ more)) l
    where
      go : (t : Bool) (ls : List (List ℕ)) → cond t (first_outside_by fine 2 ls) 1 ≡ 0 → (t ≡ true) × (first_outside_by fine 2 ls ≡ 0)
      go true ls h = (refl, h)
      go false ls h = absurd (omega (arith, h))

-- lines that are all in the form and ask for an entry: the first of them, and those behind it
module _ (rest : List ℕ) where
  none_left : length rest ≤ place_of newline rest → entries_left rest ≡ []
  unfolding entries_left entries_in
  none_left h = rw (parts_none newline rest h)

  pub newline_next : 0 < length (entries_left rest) → place_of newline rest < length rest
  newline_next h = go (dec_lt (place_of newline rest) (length rest))
    where
      go : Dec (place_of newline rest < length rest) → place_of newline rest < length rest
      go (yes l) = l
      go (no g) =
          let none : length (entries_left rest) ≡ 0 = rw (none_left (omega (arith, g))) in
          absurd (omega (arith, h, none))

  module _ (h : place_of newline rest < length rest) where
    pub entries_next : entries_left rest ≡ entry_in (before newline rest) ∷ entries_left (behind newline rest)
    unfolding entries_left entries_in
    entries_next =
        rw (parts_first newline rest h)
        (some_part newline (λ ls. entries_in (before newline rest ∷ ls) ≡ entry_in (before newline rest) ∷ entries_in ls)
        (λ part more. refl) (behind newline rest))

    module _ (fine : List ℕ → Bool) where
      parts_fine : InForm fine rest → (fine (before newline rest) ≡ true) × (first_outside_by fine 2 (lines_in (behind newline rest)) ≡ 0)
      unfolding InForm
      parts_fine f = first_fine fine (before newline rest) (behind newline rest) (rw (parts_first newline rest h) at f)

      pub line_next : InForm fine rest → fine (before newline rest) ≡ true
      line_next f = (parts_fine f).0

      pub form_next : InForm fine rest → InForm fine (behind newline rest)
      unfolding InForm
      form_next f = all_earlier fine 1 (lines_in (behind newline rest)) (parts_fine f).1

-- what stands from a place on
pub part_from : (l : List ℕ) (from : ℕ) → take (length l - from) (drop from l) ≡ drop from l
part_from l from = take_all (length l - from) (drop from l) (rw length-drop (omega arith))

-- what stands behind the next newline is less
pub behind_length : (c : ℕ) (l : List ℕ) → place_of c l < length l → length (behind c l) + (place_of c l + 1) ≡ length l
behind_length c l h = rw length-drop (omega (arith, h))

-- so there is a next line, and what is read of it
pub split_next : (rest : List ℕ) → 0 < length (entries_left rest) → {T : Type 0} (r : Option T) → IfNone r (length rest ≤ place_of newline rest) → IsSome r
split_next rest h (Some x) e = refl
split_next rest h None e = absurd (omega (arith, e, newline_next rest h))

pub line_read : (line : List ℕ) → line_fine line ≡ true → line_of line ≡ Some (entry_in line)
unfolding line_of
line_read line h = rw h

-- what was read of a line says whether it is in the form
pub not_read : {T : Type 0} (fine : Bool) (x : T) {r : Option T} → r ≡ cond fine (Some x) None → false ≡ is_some r → fine ≡ false
not_read true x e h = absurd (false≢true (rw e at h))
not_read false x e h = refl

pub was_read : {T : Type 0} (fine : Bool) (x : T) {r : Option T} → r ≡ cond fine (Some x) None → true ≡ is_some r → fine ≡ true
was_read true x e h = refl
was_read false x e h = absurd (false≢true (sym (rw e at h)))
