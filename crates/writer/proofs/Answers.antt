-- What the writer answers, by what a scan of the text says.
-- Assumes nothing.
use Prim.Native.Nat.{ℕ, ◌+◌, ◌*◌, ◌≤◌, ◌<◌}
use mathlib.Core.Path.{◌≡◌, refl, sym, ap, ◌∙◌}
use mathlib.Core.Bool.{Bool, true, false, cond}
use mathlib.Core.List.{List}
use native.Mathlib.Decide.{dec_lt}
use native.Mathlib.Omega.{arith}
use borrow.Author.Tests.{le-leb, lt-leb, ne_eqb}
use lib.Dec.{eqb, leb}
use lib.ListN.{length, drop}
use Rattle.std.specs.Prelude.{Result, Ok, Err}
use Rattle.numbers.specs.Numbers.{in_range_n, in_range_s, number_unless, first_found}
use Rattle.numbers.specs.Refusals.{refusal_number}
use Rattle.numbers.proofs.Refusals.{refused, same_refusal}
use Rattle.run_log.specs.Log.{laid}
use Rattle.run_log.proofs.Laws.{laid_short}
use Rattle.writer.specs.Types.{TextRefusal, Scanned, Written}
use Rattle.writer.specs.Form.{outside, text_n, text_s, text_v, text_entries, head_fine, line_fine}
use Rattle.writer.specs.Made.{blocks_for, file_made}
use Rattle.writer.specs.Parts.{InForm, entries_left, within, scanned_as, scanned_of}
use Rattle.writer.specs.Writer.{text_number, text_file, turned, written_as, written_of, written_in}
use Rattle.writer.proofs.MadeRead.{made_length}
use Rattle.writer.proofs.Whole.{newline_there, further_fine, scanned_number, scanned_refused, scanned_accepted}
use Rattle.writer.proofs.Within.{number_parts}

-- what a scan says of an accepted text
pub record Accepted (text : List ℕ) (told : Scanned) : Type 0 where
  pub fine : text_number text ≡ 0
  pub within : told.from ≤ length text
  pub form : InForm line_fine (drop told.from text)
  pub count : told.entries ≡ length (entries_left (drop told.from text))
  pub few : told.entries ≤ 5334
  pub file : file_made told.n told.s told.v (entries_left (drop told.from text)) ≡ text_file text
  pub size : length (text_file text) ≡ 512 + 512 * blocks_for told.entries

pub accepted_scan : (text : List ℕ) (told : Scanned) → told ≡ scanned_of text → told.number ≡ 0 → Accepted text told
unfolding entries_left InForm
accepted_scan text told e h = rw (e ∙ scanned_accepted text fine) known
  where
    fine : text_number text ≡ 0
    fine = sym (scanned_number text) ∙ ap (λ (r : Scanned). r.number) (sym e) ∙ h

    known : Accepted text (within text)
    known =
        record {
          fine = fine;
          within = omega (arith, newline_there head_fine line_fine text (number_parts text fine).0);
          form = further_fine head_fine line_fine text (number_parts text fine).0;
          count = refl;
          few = (number_parts text fine).1.1;
          file = refl;
          size = made_length (text_n text) (text_s text) (text_v text) (text_entries text) ∙ omega arith;
        }

module _ (text out : List ℕ) where
  pub written_refused : (e : TextRefusal) → scanned_as (Err e) ≡ scanned_of text
      → (written_as (Err e) ≡ written_of text out) × (out ≡ written_in text out)
  unfolding written_of written_in
  written_refused e h =
      let number : refusal_number e.refusal ≡ text_number text = ap (λ (t : Scanned). t.number) h ∙ scanned_number text in
      let not : text_number text ≡ 0 → ⊥ = λ q. omega (arith, q, number, refused e.refusal) in
      let line : e.line ≡ outside text = ap (λ (t : Scanned). t.line) (h ∙ scanned_refused text not) in
      rw (ne_eqb (text_number text) 0 not, ← number, ← line) (refl, refl)

  module _ (told : Scanned) (known : Accepted text told) where
    pub written_short : length out < 512 + 512 * blocks_for told.entries → (turned 27 0 ≡ written_of text out) × (out ≡ written_in text out)
    unfolding written_of written_in
    written_short h =
        let short : length out < length (text_file text) = omega (arith, known.size, h) in
        rw (known.fine, lt-leb (length (text_file text)) (length out) short) (refl, sym (laid_short (text_file text) out short))

    pub written_whole : 512 + 512 * blocks_for told.entries ≤ length out → {after : List ℕ}
        → after ≡ laid (file_made told.n told.s told.v (entries_left (drop told.from text))) out
        → (record { number = 0; line = 0; length = 512 + 512 * blocks_for told.entries } ≡ written_of text out) × (after ≡ written_in text out)
    unfolding written_of written_in
    written_whole h {after} k =
        rw (known.fine, le-leb (length (text_file text)) (length out) (omega (arith, known.size, h)), known.size) (refl, k ∙ rw known.file)

-- the number and the length are small
pub number_most : (text : List ℕ) → text_number text ≤ 26
unfolding text_number
number_most text = go (eqb (outside text) 0) (in_range_n (text_n text)) (in_range_s (record { 0 = text_s text })) (leb (length (text_entries text)) 5334)
  where
    go : (t n s u : Bool)
        → first_found (number_unless t 25) (first_found (first_found (number_unless n 16) (number_unless s 17)) (number_unless u 26)) ≤ 26
    go false n s u = omega arith
    go true false s u = omega arith
    go true true false u = omega arith
    go true true true false = omega arith
    go true true true true = omega arith

pub written_low : (text out : List ℕ) → ((written_of text out).number ≤ 27) × ((written_of text out).length ≤ 65536)
unfolding written_of
written_low text out = go (dec_lt 0 (text_number text))
  where
    which : Bool → Written
    which t = cond t (record { number = 0; line = 0; length = length (text_file text) }) (turned 27 0)

    room : length (text_file text) ≤ 65536 → (t : Bool) → ((which t).number ≤ 27) × ((which t).length ≤ 65536)
    room h true = (omega arith, h)
    room h false = (omega arith, omega arith)

    go : Dec (0 < text_number text) → ((written_of text out).number ≤ 27) × ((written_of text out).length ≤ 65536)
    go (yes h) = rw (ne_eqb (text_number text) 0 (λ q. omega (arith, h, q))) (omega (arith, number_most text), omega arith)
    go (no h) =
        let fine : text_number text ≡ 0 = omega (arith, h) in
        let few = (number_parts text fine).1.1 in
        let size = made_length (text_n text) (text_s text) (text_v text) (text_entries text) in
        rw fine (room (omega (arith, size, few)) (leb (length (text_file text)) (length out)))

-- a refusal with its line is both together
pub same_fields : (d e : TextRefusal) → d.refusal ≡ e.refusal → d.line ≡ e.line → d ≡ e
same_fields d e h k = λ i. record { refusal = h i; line = k i }

-- no two answers tell the same
pub same_written : (x y : Result ℕ TextRefusal) → written_as x ≡ written_as y → x ≡ y
same_written (Ok m) (Ok n) h = ap (λ (k : ℕ). Ok k) (ap (λ (w : Written). w.length) h)
same_written (Ok m) (Err e) h = absurd (omega (arith, ap (λ (w : Written). w.number) h, refused e.refusal))
same_written (Err d) (Ok n) h = absurd (omega (arith, ap (λ (w : Written). w.number) h, refused d.refusal))
same_written (Err d) (Err e) h =
    let refusal = same_refusal d.refusal e.refusal (ap (λ (w : Written). w.number) h) in
    let line : d.line ≡ e.line = ap (λ (w : Written). w.line) h in
    ap (λ (e : TextRefusal). Err e) (same_fields d e refusal line)

-- a file that was written fits the lent output
written_fits : (text out : List ℕ) → (written_of text out).length ≤ length out
unfolding written_of
written_fits text out = grind arith

pub written_within : (text out : List ℕ) (size : ℕ) → written_as (Ok size) ≡ written_of text out → size ≤ length out
written_within text out size e =
    let same : size ≡ (written_of text out).length = ap (λ (w : Written). w.length) e in
    rw same (written_fits text out)
