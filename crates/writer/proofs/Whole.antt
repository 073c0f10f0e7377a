-- A whole text: where its first line outside the form stands, and what it comes to where there is none.
-- Assumes nothing.
use Prim.Native.Nat.{ℕ, ◌+◌, ◌≤◌, ◌<◌}
use mathlib.Core.Path.{◌≡◌, refl, sym, ap, ◌∙◌}
use mathlib.Core.Bool.{Bool, true, false, cond, and-false, and-eq-true_iff}
use mathlib.Core.List.{List}
use native.Mathlib.Nat.{zero-add}
use native.Mathlib.Decide.{dec_lt}
use native.Mathlib.Omega.{arith}
use borrow.Author.Tests.{le-leb, lt-leb, leb-true, ne_eqb}
use lib.Dec.{eqb, leb}
use lib.ListN.{length, drop}
use Rattle.std.specs.Prelude.{Some, None, Result, Ok, Err}
use Rattle.std.proofs.lemmas.Option.{none-some}
use Rattle.numbers.specs.Numbers.{in_range_n, in_range_s, number_unless, first_found, range_number}
use Rattle.numbers.specs.declared.Refusal.{Refusal}
use Rattle.numbers.specs.Refusals.{refusal_number}
use Rattle.numbers.proofs.Refusals.{refused}
use Rattle.numbers.proofs.First.{range_in}
use Rattle.text.specs.Lines.{newline}
use Rattle.writer.specs.Types.{Opening, Read, Scanned}
use Rattle.writer.specs.Form.{place_of, head_fine, line_fine, line_one, further, first_outside_by, outside_by, outside, text_n, text_s, text_v, text_entries}
use Rattle.writer.specs.Writer.{text_number}
use Rattle.writer.proofs.Further.{all_earlier}
use Rattle.writer.specs.Parts.{InForm, below_64, opening_in, over_lines_by, read_by, passed_over, judged, within, scanned_of}

-- an Ok is no Err, and both are one-to-one
ok-err : {A B : Type 0} {x : A} {y : B} → ◌≡◌ {A = Result A B} (Ok x) (Err y) → ⊥
ok-err e = cc

same_ok : {A B : Type 0} {x y : A} → ◌≡◌ {A = Result A B} (Ok x) (Ok y) → x ≡ y
same_ok e = cc

same_err : {A B : Type 0} {x y : B} → ◌≡◌ {A = Result A B} (Err x) (Err y) → x ≡ y
same_err e = cc

-- by any form of line one and of further lines
module _ (headed fine : List ℕ → Bool) (text : List ℕ) where
  pub outside_none : length text ≤ place_of newline text → outside_by headed fine text ≡ 1
  unfolding outside_by
  outside_none h = rw (le-leb (length text) (place_of newline text) h)

  pub outside_head : headed (line_one text) ≡ false → outside_by headed fine text ≡ 1
  unfolding outside_by
  outside_head h = rw h (go (leb (length text) (place_of newline text)))
    where
      go : (t : Bool) → ◌≡◌ {A = ℕ} (cond t 1 1) 1
      go true = refl
      go false = refl

  pub outside_further : place_of newline text < length text → headed (line_one text) ≡ true → outside_by headed fine text ≡ first_outside_by fine 2 (further text)
  unfolding outside_by
  outside_further h k = rw (lt-leb (length text) (place_of newline text) h, k)

  -- a text with no line outside the form has its first newline
  pub newline_there : outside_by headed fine text ≡ 0 → place_of newline text < length text
  newline_there e = go (dec_lt (place_of newline text) (length text))
    where
      go : Dec (place_of newline text < length text) → place_of newline text < length text
      go (yes l) = l
      go (no g) =
          let one : outside_by headed fine text ≡ 1 = outside_none (omega (arith, g)) in
          absurd (omega (arith, e, one))

-- what a text of any form is read as
module _ {T : Type 0} (headed : List ℕ → Bool) (opening : List ℕ → T) (fine : List ℕ → Bool) (text : List ℕ) where
  pub by_none : length text ≤ place_of newline text → read_by headed opening fine text ≡ Err 1
  unfolding read_by
  by_none h = rw (outside_none headed fine text h)

  pub by_head : headed (line_one text) ≡ false → read_by headed opening fine text ≡ Err 1
  unfolding read_by
  by_head h = rw (outside_head headed fine text h)

  module _ (h : place_of newline text < length text) (k : headed (line_one text) ≡ true) where
    pub by_err : (line : ℕ) → Err line ≡ over_lines_by fine 2 0 (further text) → read_by headed opening fine text ≡ Err line
    unfolding read_by over_lines_by
    by_err line e = rw (outside_further headed fine text h k) (go (eqb n 0) _ _ e)
      where
        n : ℕ
        n = first_outside_by fine 2 (further text)

        go : (t : Bool) (m : ℕ) (x : Read T) → Err line ≡ cond t (Ok m) (Err n) → cond t (Ok x) (Err n) ≡ Err line
        go true m x e = absurd (ok-err (sym e))
        go false m x e = rw (same_err e)

    pub by_ok : (entries : ℕ) → Ok entries ≡ over_lines_by fine 2 0 (further text)
        → read_by headed opening fine text ≡ Ok (record { opening = opening (line_one text); from = place_of newline text + 1; entries = entries })
    unfolding read_by over_lines_by
    by_ok entries e = rw (outside_further headed fine text h k) (go (eqb n 0) _ e)
      where
        n : ℕ
        n = first_outside_by fine 2 (further text)

        as_read : ℕ → Read T
        as_read m = record { opening = opening (line_one text); from = place_of newline text + 1; entries = m }

        go : (t : Bool) (m : ℕ) → Ok entries ≡ cond t (Ok (0 + m)) (Err n) → cond t (Ok (as_read m)) (Err n) ≡ Ok (as_read entries)
        go true m e = ap (λ (k : ℕ). Ok (as_read k)) (sym (zero-add m) ∙ sym (same_ok e))
        go false m e = absurd (ok-err e)

  -- and read back: no line is outside the form, or the first that is
  pub read_ok : (read : Read T) → Ok read ≡ read_by headed opening fine text
      → (outside_by headed fine text ≡ 0)
      × (read ≡ record { opening = opening (line_one text); from = place_of newline text + 1; entries = length (text_entries text) })
  unfolding read_by
  read_ok read e = go (outside_by headed fine text) (dec_lt 0 (outside_by headed fine text)) e
    where
      all : Read T
      all = record { opening = opening (line_one text); from = place_of newline text + 1; entries = length (text_entries text) }

      go : (n : ℕ) → Dec (0 < n) → Ok read ≡ cond (eqb n 0) (Ok all) (Err n) → (n ≡ 0) × (read ≡ all)
      go n (yes h) e = absurd (ok-err (rw (ne_eqb n 0 (λ q. omega (arith, h, q))) at e))
      go n (no h) e =
          let z : n ≡ 0 = omega (arith, h) in
          (z, same_ok (rw z at e))

  pub read_err : (line : ℕ) → Err line ≡ read_by headed opening fine text → (outside_by headed fine text ≡ line) × (line ≡ 0 → ⊥)
  unfolding read_by
  read_err line e = go (outside_by headed fine text) (dec_lt 0 (outside_by headed fine text)) _ e
    where
      go : (n : ℕ) → Dec (0 < n) → (x : Read T) → Err line ≡ cond (eqb n 0) (Ok x) (Err n) → (n ≡ line) × (line ≡ 0 → ⊥)
      go n (yes h) x e =
          let same = same_err (rw (ne_eqb n 0 (λ q. omega (arith, h, q))) at e) in
          (sym same, λ q. omega (arith, h, q, same))
      go n (no h) x e =
          let z : n ≡ 0 = omega (arith, h) in
          absurd (ok-err (sym (rw z at e)))

pub absent : {T : Type 0} (t : Bool) (x : T) → None ≡ cond t (Some x) None → t ≡ false
absent true x e = absurd (none-some x e)
absent false x e = refl

-- a number of 2^64 or more is out of every range, and so is 0
below_id : (n : ℕ) → n < 18446744073709551616 → below_64 n ≡ n
below_id n h = rw (le-leb n 18446744073709551615 (omega (arith, h)))

below_n : (n : ℕ) → in_range_n (below_64 n) ≡ in_range_n n
below_n n = go (dec_lt n 18446744073709551616)
  where
    go : Dec (n < 18446744073709551616) → in_range_n (below_64 n) ≡ in_range_n n
    go (yes h) = rw (below_id n h)
    go (no h) = rw (lt-leb n 18446744073709551615 (omega (arith, h)), lt-leb n 16 (omega (arith, h)), and-false (leb 1 n))

below_s : (n : ℕ) → in_range_s (record { 0 = below_64 n }) ≡ in_range_s (record { 0 = n })
below_s n = go (dec_lt n 18446744073709551616)
  where
    go : Dec (n < 18446744073709551616) → in_range_s (record { 0 = below_64 n }) ≡ in_range_s (record { 0 = n })
    go (yes h) = rw (below_id n h)
    go (no h) = rw (lt-leb n 18446744073709551615 (omega (arith, h)), lt-leb n 4294967295 (omega (arith, h)), and-false (leb 2 n))

-- what is judged: a start out of range, too many entries, and neither
module _ (o : Opening) (from entries : ℕ) where
  pub judged_out : (e : Refusal) → refusal_number e ≡ range_number o.n (record { 0 = o.s }) → passed_over (refusal_number e) 0 ≡ judged o from entries
  unfolding judged
  judged_out e h = rw (← h, ne_eqb (refusal_number e) 0 (λ q. omega (arith, q, refused e)))

  pub judged_many : range_number o.n (record { 0 = o.s }) ≡ 0 → 5334 < entries → passed_over 26 0 ≡ judged o from entries
  unfolding judged
  judged_many h k = rw (h, lt-leb entries 5334 k)

  pub judged_few : range_number o.n (record { 0 = o.s }) ≡ 0 → entries ≤ 5334
      → record { number = 0; line = 0; from = from; entries = entries; n = o.n; s = o.s; v = o.v } ≡ judged o from entries
  unfolding judged
  judged_few h k = rw (h, le-leb entries 5334 k)

-- the further lines of a text with no line outside a form
module _ (headed fine : List ℕ → Bool) (text : List ℕ) (e : outside_by headed fine text ≡ 0) where
  further_none : first_outside_by fine 2 (further text) ≡ 0
  unfolding outside_by
  further_none = go (leb (length text) (place_of newline text)) (headed (line_one text)) e
    where
      go : (a b : Bool) → cond a 1 (cond b (first_outside_by fine 2 (further text)) 1) ≡ 0 → first_outside_by fine 2 (further text) ≡ 0
      go true b h = absurd (omega (arith, h))
      go false true h = h
      go false false h = absurd (omega (arith, h))

  pub further_fine : InForm fine (drop (place_of newline text + 1) text)
  unfolding InForm
  further_fine = all_earlier fine 1 (further text) further_none

module _ (text : List ℕ) where
  -- its first line outside the form
  scanned_outside : (line : ℕ) → outside text ≡ line → (line ≡ 0 → ⊥) → scanned_of text ≡ passed_over 25 line
  unfolding scanned_of text_number
  scanned_outside line e h = rw (e, ne_eqb line 0 h)

  pub scanned_form : (line : ℕ) → Err line ≡ read_by head_fine opening_in line_fine text → passed_over 25 line ≡ scanned_of text
  scanned_form line e =
      let p = read_err head_fine opening_in line_fine text line e in
      sym (scanned_outside line p.0 p.1)

  -- or none
  judged_text : outside text ≡ 0 → judged (opening_in (line_one text)) (place_of newline text + 1) (length (text_entries text)) ≡ scanned_of text
  unfolding judged scanned_of text_number
  judged_text e = rw (e, below_n (text_n text), below_s (text_s text)) (go (dec_lt 0 range) (leb count 5334))
    where
      range : ℕ
      range = range_number (text_n text) (record { 0 = text_s text })

      count : ℕ
      count = length (text_entries text)

      rest : Bool → ℕ
      rest u = first_found range (number_unless u 26)

      start : Scanned
      start =
          record {
            number = 0;
            line = 0;
            from = place_of newline text + 1;
            entries = count;
            n = below_64 (text_n text);
            s = below_64 (text_s text);
            v = text_v text;
          }

      same : range ≡ 0 → start ≡ within text
      same z =
          let both = (and-eq-true_iff (in_range_n (text_n text)) (in_range_s (record { 0 = text_s text }))).0 (range_in (text_n text) (record { 0 = text_s text }) z) in
          let n = leb-true (text_n text) 16 ((and-eq-true_iff (leb 1 (text_n text)) (leb (text_n text) 16)).0 both.0).1 in
          let s = leb-true (text_s text) 4294967295 ((and-eq-true_iff (leb 2 (text_s text)) (leb (text_s text) 4294967295)).0 both.1).1 in
          rw (below_id (text_n text) (omega (arith, n)), below_id (text_s text) (omega (arith, s)))

      go : Dec (0 < range) → (u : Bool)
          → cond (eqb range 0) (cond u start (passed_over 26 0)) (passed_over range 0) ≡ cond (eqb (rest u) 0) (within text) (passed_over (rest u) 0)
      go (yes l) u = rw (ne_eqb range 0 (λ q. omega (arith, l, q)), ne_eqb range 0 (λ q. omega (arith, l, q)))
      go (no l) true =
          let z : range ≡ 0 = omega (arith, l) in
          rw (z, same z)
      go (no l) false =
          let z : range ≡ 0 = omega (arith, l) in
          rw z

  pub scanned_judged : (read : Read Opening) → Ok read ≡ read_by head_fine opening_in line_fine text
      → judged read.opening read.from read.entries ≡ scanned_of text
  scanned_judged read e =
      let p = read_ok head_fine opening_in line_fine text read e in
      rw p.1 (judged_text p.0)

  -- what a scan says, by the number that refuses the text
  pub scanned_number : (scanned_of text).number ≡ text_number text
  unfolding scanned_of
  scanned_number = go (text_number text) (dec_lt 0 (text_number text))
    where
      which : ℕ → Scanned
      which n = cond (eqb n 0) (within text) (passed_over n (outside text))

      go : (n : ℕ) → Dec (0 < n) → (which n).number ≡ n
      go n (yes h) = rw (ne_eqb n 0 (λ q. omega (arith, h, q)))
      go n (no h) =
          let z : n ≡ 0 = omega (arith, h) in
          rw z

  pub scanned_refused : (text_number text ≡ 0 → ⊥) → scanned_of text ≡ passed_over (text_number text) (outside text)
  unfolding scanned_of
  scanned_refused h = rw (ne_eqb (text_number text) 0 h)

  pub scanned_accepted : text_number text ≡ 0 → scanned_of text ≡ within text
  unfolding scanned_of
  scanned_accepted h = rw h
