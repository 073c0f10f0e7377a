-- A whole text: where its first line outside the form stands, and what it comes to where there is none.
-- Assumes nothing.
use Prim.Native.Nat.{ℕ, ◌+◌, ◌*◌, ◌≤◌, ◌<◌}
use mathlib.Core.Path.{◌≡◌, refl, sym, ap, ◌∙◌}
use mathlib.Core.Bool.{Bool, true, false, cond, and-false, and-eq-true_iff}
use mathlib.Core.List.{List}
use native.Mathlib.Decide.{dec_lt}
use native.Mathlib.Nat.{mul-le-mul}
use native.Mathlib.Omega.{arith}
use borrow.Author.Tests.{le-leb, lt-leb, leb-true, ne_eqb, eqb-true}
use lib.Dec.{eqb, leb}
use lib.ListN.{length, length-map}
use Rattle.std.specs.Prelude.{Ok, Err}
use Rattle.numbers.specs.declared.Refusal.{Refusal}
use Rattle.numbers.specs.Refusals.{refusal_number}
use Rattle.numbers.proofs.Refusals.{refused}
use Rattle.numbers.specs.Numbers.{in_range_n, number_unless, first_found}
use Rattle.numbers.proofs.First.{found_both, unless_fine}
use Rattle.text.specs.Lines.{newline}
use Rattle.writer.specs.declared.scan.Read.{Read}
use Rattle.writer.specs.Form as p1
use Rattle.writer.specs.Form.{place_of, line_one}
use Rattle.writer.specs.Parts.{below_64, read_by}
use Rattle.writer.proofs.Whole.{read_ok, read_err}
use Rattle.reused.specs.Circle.{interval_of, in_range_m, sizes_number}
use Rattle.reused.proofs.Soundness.{sizes_fine, sizes_of_lem, interval_least}
use Rattle.reused_text.specs.Types.{Scanned, Sizes}
use Rattle.reused_text.specs.Form.{head_fine, line_fine, outside, text_n, text_m, text_entries, text_number}
use Rattle.reused_text.specs.Parts.{sizes_in, passed_over, judged, within, scanned_of}

-- a number of 2^64 or more, or 0 in its place: neither is an N or an M
low_same : (x : ℕ) → x ≤ 4294967296 → below_64 x ≡ x
low_same x h = rw (le-leb x 18446744073709551615 (omega (arith, h)))

low_n : (x m : ℕ) → sizes_number (below_64 x) m ≡ sizes_number x m
low_n x m = go (dec_lt x 18446744073709551616)
  where
    go : Dec (x < 18446744073709551616) → sizes_number (below_64 x) m ≡ sizes_number x m
    go (yes h) = rw (le-leb x 18446744073709551615 (omega (arith, h)))
    go (no h) = rw (lt-leb x 18446744073709551615 (omega (arith, h)), lt-leb x 16 (omega (arith, h)), and-false (leb 1 x))

-- with one process at least, 0 is no M
none_m : (n : ℕ) → in_range_n n ≡ true → in_range_m n 0 ≡ false
none_m n e =
    let some : 1 ≤ n = leb-true 1 n ((and-eq-true_iff (leb 1 n) (leb n 16)).0 e).0 in
    let least : 1 * 3 ≤ (2 * n + 2) * interval_of n = mul-le-mul {n₁ = 1} {m₁ = 3} {n₂ = 2 * n + 2} {m₂ = interval_of n} (omega arith) (interval_least n some) in
    rw (lt-leb ((2 * n + 2) * interval_of n) 0 (omega (arith, least)))

low_m_lem : (n y : ℕ) → sizes_number n (below_64 y) ≡ sizes_number n y
low_m_lem n y = go (dec_lt y 18446744073709551616)
  where
    large : (t : Bool) → in_range_n n ≡ t → in_range_m n y ≡ false
        → first_found (number_unless t 16) (number_unless (in_range_m n 0) 24) ≡ first_found (number_unless t 16) (number_unless (in_range_m n y) 24)
    large false e f = refl
    large true e f = rw (f, none_m n e)

    go : Dec (y < 18446744073709551616) → sizes_number n (below_64 y) ≡ sizes_number n y
    go (yes h) = rw (le-leb y 18446744073709551615 (omega (arith, h)))
    go (no h) =
        let f : in_range_m n y ≡ false = rw (lt-leb y 4294967296 (omega (arith, h)), and-false (leb ((2 * n + 2) * interval_of n) y)) in
        rw (lt-leb y 18446744073709551615 (omega (arith, h))) (large (in_range_n n) refl f)

module _ (text : List ℕ) where
  scanned_outside : (line : ℕ) → outside text ≡ line → (line ≡ 0 → ⊥) → scanned_of text ≡ passed_over 25 line
  unfolding scanned_of text_number
  scanned_outside line e h = rw (e, ne_eqb line 0 h)

  pub scanned_refused : (text_number text ≡ 0 → ⊥) → scanned_of text ≡ passed_over (text_number text) (outside text)
  unfolding scanned_of
  scanned_refused h = rw (ne_eqb (text_number text) 0 h)

  pub scanned_accepted : text_number text ≡ 0 → scanned_of text ≡ within text
  unfolding scanned_of
  scanned_accepted h = rw h

  pub scanned_number : (scanned_of text).number ≡ text_number text
  unfolding scanned_of
  scanned_number = go (text_number text) (dec_lt 0 (text_number text))
    where
      which : ℕ → Scanned
      which n = cond (eqb n 0) (within text) (passed_over n (outside text))

      go : (n : ℕ) → Dec (0 < n) → (which n).number ≡ n
      go n (yes h) = rw (ne_eqb n 0 (λ q. omega (arith, h, q)))
      go n (no h) =
          let z : n ≡ 0 = omega (arith, h) in
          rw z

  -- no number refuses a text: it is within the form, N and M are in range, and the log can count its entries
  pub number_parts : text_number text ≡ 0 → (outside text ≡ 0) × (sizes_number (text_n text) (text_m text) ≡ 0) × (length (text_entries text) ≤ 4294967295)
  unfolding text_number
  number_parts h =
      let few = leb (length (text_entries text)) 4294967295 in
      let form = found_both (number_unless (eqb (outside text) 0) 25) (first_found (sizes_number (text_n text) (text_m text)) (number_unless few 26)) h in
      let two = found_both (sizes_number (text_n text) (text_m text)) (number_unless few 26) form.1 in (
        eqb-true (outside text) 0 (unless_fine (eqb (outside text) 0) 25 (omega arith) form.0),
        two.0,
        leb-true (length (text_entries text)) 4294967295 (unless_fine few 26 (omega arith) two.1),
      )

  -- its first line outside the form
  pub scanned_form : (line : ℕ) → Err line ≡ read_by head_fine sizes_in line_fine text → passed_over 25 line ≡ scanned_of text
  scanned_form line e =
      let p = read_err head_fine sizes_in line_fine text line e in
      sym (scanned_outside line p.0 p.1)

  -- or none
  module _ (e : outside text ≡ 0) where
    abbrev n : ℕ
    n = below_64 (text_n text)

    abbrev m : ℕ
    m = below_64 (text_m text)

    sizes_same : sizes_number n m ≡ sizes_number (text_n text) (text_m text)
    sizes_same = low_n (text_n text) m ∙ low_m_lem (text_n text) (text_m text)

    in_range_lem : sizes_number (text_n text) (text_m text) ≡ 0 → (n ≡ text_n text) × (m ≡ text_m text)
    in_range_lem z =
        let s = sizes_of_lem (text_n text) (text_m text) (sizes_fine (text_n text) (text_m text) z) in
        (low_same (text_n text) (omega (arith, s.few)), low_same (text_m text) s.high)

    abbrev which : ℕ → ℕ → ℕ → Scanned
    which number a b =
        cond (eqb number 0) (record { number = 0; line = 0; from = place_of newline text + 1; entries = length (text_entries text); n = a; m = b })
        (passed_over number 0)

    judged_text : judged (sizes_in (line_one text)) (place_of newline text + 1) (length (text_entries text)) ≡ scanned_of text
    unfolding scanned_of text_number judged
    judged_text = rw (e, sizes_same) (go (dec_lt 0 number))
      where
        few : ℕ
        few = number_unless (leb (length (text_entries text)) 4294967295) 26

        number : ℕ
        number = first_found (sizes_number (text_n text) (text_m text)) few

        go : Dec (0 < number) → which number n m ≡ which number (text_n text) (text_m text)
        go (yes l) = rw (ne_eqb number 0 (λ q. omega (arith, l, q)))
        go (no l) =
            let z : number ≡ 0 = omega (arith, l) in
            let same = in_range_lem (found_both (sizes_number (text_n text) (text_m text)) few z).0 in
            ap (λ (a : ℕ). which number a m) same.0 ∙ ap (which number (text_n text)) same.1

  pub scanned_judged : (read : Read Sizes) → Ok read ≡ read_by head_fine sizes_in line_fine text
      → judged read.opening read.from read.entries ≡ scanned_of text
  scanned_judged read e =
      let p = read_ok head_fine sizes_in line_fine text read e in
      let count : length (p1.text_entries text) ≡ length (text_entries text) = rw length-map in
      rw (p.1, count) (judged_text p.0)

-- what is judged: sizes out of range, too many entries, and neither
module _ (s : Sizes) (from entries : ℕ) where
  pub judged_out : (e : Refusal) → refusal_number e ≡ sizes_number s.n s.m → passed_over (refusal_number e) 0 ≡ judged s from entries
  unfolding judged
  judged_out e h =
      let not : refusal_number e ≡ 0 → ⊥ = λ q. omega (arith, q, refused e) in
      rw (← h, ne_eqb (refusal_number e) 0 not, ne_eqb (refusal_number e) 0 not)

  pub judged_many : sizes_number s.n s.m ≡ 0 → 4294967295 < entries → passed_over 26 0 ≡ judged s from entries
  unfolding judged
  judged_many h k = rw (h, lt-leb entries 4294967295 k)

  pub judged_few : sizes_number s.n s.m ≡ 0 → entries ≤ 4294967295
      → record { number = 0; line = 0; from = from; entries = entries; n = s.n; m = s.m } ≡ judged s from entries
  unfolding judged
  judged_few h k = rw (h, le-leb entries 4294967295 k)
