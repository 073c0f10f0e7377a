-- A text that is made of a start and entries is in the form, and says that start and those entries.
-- Assumes nothing.
use Prim.Native.Nat.{ℕ, suc, ◌+◌, ◌<◌}
use mathlib.Core.Path.{◌≡◌, refl}
use mathlib.Core.Bool.{true, cond}
use mathlib.Core.List.{List, [], ◌∷◌, ◌++◌, append_assoc}
use native.Mathlib.Omega.{arith}
use borrow.Author.Tests.{lt-leb}
use lib.ListN.{length}
use Rattle.text.specs.Decimal.{decimal_of}
use Rattle.text.specs.Lines.{space, newline}
use Rattle.text.proofs.Digits.{decimal_said}
use Rattle.writer.specs.Types.{Entry}
use Rattle.writer.specs.Form.{place_of, behind, parts, fields, field_n, field_s, field_v, head_fine, line_fine, entry_in, line_one, further, first_outside, outside, entries_in, text_n, text_s, text_v, text_entries, first_outside_by, outside_by}
use Rattle.writer.specs.Made.{start_line, entry_lines, text_made}
use Rattle.writer.proofs.Small.{AllSmall}
use Rattle.writer.proofs.Apart.{Lacks, place_within, before_it, behind_it, parts_next, some_part}
use Rattle.writer.proofs.Numerals.{decimal_numeral, decimal_up_to, decimal_lacks, field_before, field_behind, field_lacks}
use Rattle.writer.proofs.EntryLines.{bare, line_ended, bare_lacks, line_fine_lem, line_entry}

-- one line more before the parts of a text
outside_next : (k : ℕ) (line rest : List ℕ)
    → first_outside k (line ∷ parts newline rest) ≡ cond (line_fine line) (first_outside (k + 1) (parts newline rest)) k
unfolding first_outside_by
outside_next k line rest =
    some_part newline (λ ls. first_outside k (line ∷ ls) ≡ cond (line_fine line) (first_outside (k + 1) ls) k) (λ part more. refl) rest

entries_next : (line rest : List ℕ) → entries_in (line ∷ parts newline rest) ≡ entry_in line ∷ entries_in (parts newline rest)
unfolding entries_in
entries_next line rest = some_part newline (λ ls. entries_in (line ∷ ls) ≡ entry_in line ∷ entries_in ls) (λ part more. refl) rest

-- the further lines
lines_next : (e : Entry) (es : List Entry) → parts newline (entry_lines (e ∷ es)) ≡ bare e ∷ parts newline (entry_lines es)
unfolding entry_lines
lines_next e es = rw (line_ended e (entry_lines es)) (parts_next newline (bare e) (entry_lines es) (bare_lacks e))

lines_fine : (k : ℕ) (es : List Entry) → AllSmall es → first_outside k (parts newline (entry_lines es)) ≡ 0
unfolding entry_lines parts first_outside_by
lines_fine k [] h = refl
lines_fine k (e ∷ es) h =
    rw (lines_next e es, outside_next k (bare e) (entry_lines es), line_fine_lem e (h 0)) (lines_fine (k + 1) es (λ j. h (suc j)))

lines_entries : (es : List Entry) → AllSmall es → entries_in (parts newline (entry_lines es)) ≡ es
unfolding entry_lines parts entries_in
lines_entries [] h = refl
lines_entries (e ∷ es) h =
    rw (lines_next e es, entries_next (bare e) (entry_lines es), line_entry e (h 0), lines_entries es (λ j. h (suc j)))

-- line one without its newline, and its three fields
module _ (n s v : ℕ) where
  abbrev bare_start : List ℕ
  bare_start = 72 ∷ space ∷ (decimal_of n ++ space ∷ (decimal_of s ++ space ∷ decimal_of v))

  start_lacks : Lacks newline bare_start
  start_lacks =
      let two : Lacks newline (decimal_of s ++ space ∷ decimal_of v) = field_lacks s (decimal_of v) (decimal_lacks newline (omega arith) v) in
      (refl, (refl, field_lacks n (decimal_of s ++ space ∷ decimal_of v) two))

  start_n_lem : field_n bare_start ≡ decimal_of n
  start_n_lem = field_before n (decimal_of s ++ space ∷ decimal_of v)

  start_behind : behind space (fields bare_start) ≡ decimal_of s ++ space ∷ decimal_of v
  start_behind = field_behind n (decimal_of s ++ space ∷ decimal_of v)

  start_s_lem : field_s bare_start ≡ decimal_of s
  start_s_lem = rw start_behind (field_before s (decimal_of v))

  start_v_lem : field_v bare_start ≡ decimal_of v
  start_v_lem = rw start_behind (field_behind s (decimal_of v))

  -- the text, as line one and the further lines
  module _ (es : List Entry) where
    text_parted : text_made n s v es ≡ bare_start ++ newline ∷ entry_lines es
    unfolding text_made start_line
    text_parted = simp append_assoc

    line_one_lem : line_one (text_made n s v es) ≡ bare_start
    line_one_lem = rw text_parted (before_it newline bare_start (entry_lines es) start_lacks)

    further_lines : further (text_made n s v es) ≡ parts newline (entry_lines es)
    further_lines = rw (text_parted, behind_it newline bare_start (entry_lines es) start_lacks)

    start_ended : place_of newline (text_made n s v es) < length (text_made n s v es)
    start_ended = rw text_parted (place_within newline bare_start (entry_lines es) start_lacks)

    -- a text that is made of numbers below 2^64 and of entries that fit their bytes
    module _ (hn : n < 18446744073709551616) (hs : s < 18446744073709551616) (hv : v < 18446744073709551616) (small : AllSmall es) where
      start_fine : head_fine bare_start ≡ true
      unfolding head_fine
      start_fine =
          rw (
            start_n_lem,
            start_s_lem,
            start_v_lem,
            decimal_numeral n (omega (arith, hn)),
            decimal_numeral s (omega (arith, hs)),
            decimal_up_to 18446744073709551615 v (omega arith) (omega (arith, hv)),
          )

      pub text_outside : outside (text_made n s v es) ≡ 0
      unfolding outside_by
      text_outside =
          rw (lt-leb (length (text_made n s v es)) (place_of newline (text_made n s v es)) start_ended, line_one_lem, start_fine, further_lines)
          (lines_fine 2 es small)

      pub text_n_lem : text_n (text_made n s v es) ≡ n
      text_n_lem = rw (line_one_lem, start_n_lem) (decimal_said n (omega (arith, hn)))

      pub text_s_lem : text_s (text_made n s v es) ≡ s
      text_s_lem = rw (line_one_lem, start_s_lem) (decimal_said s (omega (arith, hs)))

      pub text_v_lem : text_v (text_made n s v es) ≡ v
      text_v_lem = rw (line_one_lem, start_v_lem) (decimal_said v (omega (arith, hv)))

      pub text_entries_lem : text_entries (text_made n s v es) ≡ es
      text_entries_lem = rw further_lines (lines_entries es small)
