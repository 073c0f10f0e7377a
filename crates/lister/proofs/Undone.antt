-- What the writer and the lister write undo each other: with room, each writes the file or the text of its definition.
-- Assumes nothing.
use Prim.Native.Nat.{ℕ, ◌≤◌, ◌<◌}
use mathlib.Core.Path.{◌≡◌, refl, sym, ap, ◌∙◌}
use mathlib.Core.List.{List}
use native.Mathlib.Decide.{dec_lt, dec_le}
use native.Mathlib.Omega.{arith}
use borrow.Author.Tests.{le-leb, lt-leb, ne_eqb}
use lib.ListN.{length, get_or, take, drop}
use lib.Seq.{take_at}
use Rattle.run_log.specs.Log.{laid}
use Rattle.run_log.proofs.Laws.{laid_fits}
use Rattle.schedule.specs.File.{reading}
use Rattle.writer.specs.Form.{text_n, text_s, text_v, text_entries}
use Rattle.writer.specs.Made.{listing}
use Rattle.writer.specs.Writer.{text_number, text_file, written_of, written_in}
use Rattle.writer.specs.RoundTrip.{listed_text}
use Rattle.writer.proofs.RoundTrip.{round_trip}
use Rattle.lister.specs.Types.{Accepted}
use Rattle.lister.specs.Lister.{listed_of, listed_in}
use Rattle.lister.specs.Undone.{file_from, text_from, WrittenAgain, ListedAgain, Undone}

-- bytes laid in a part that has room for them, taken out again
laid_taken : (bytes part : List ℕ) → length bytes ≤ length part → take (length bytes) (laid bytes part) ≡ bytes
laid_taken bytes part h = ap (take (length bytes)) (laid_fits bytes part h) ∙ take_at bytes (drop (length bytes) part) (length bytes) refl

-- a text is written where it is not refused and the output has room, and only there
module _ (text out : List ℕ) where
  pub written_if : text_number text ≡ 0 → length (text_file text) ≤ length out → ((written_of text out).number ≡ 0) × (file_from text out ≡ text_file text)
  unfolding written_of written_in
  written_if h fits = rw (h, le-leb (length (text_file text)) (length out) fits) (refl, laid_taken (text_file text) out fits)

  pub written_only : (written_of text out).number ≡ 0 → (text_number text ≡ 0) × (length (text_file text) ≤ length out)
  unfolding written_of
  written_only e = go (dec_lt 0 (text_number text)) (dec_le (length (text_file text)) (length out))
    where
      go : Dec (0 < text_number text) → Dec (length (text_file text) ≤ length out) → (text_number text ≡ 0) × (length (text_file text) ≤ length out)
      go (yes h) d = absurd (omega (arith, h, rw (ne_eqb (text_number text) 0 (λ q. omega (arith, h, q))) at e))
      go (no h) (yes l) = (omega (arith, h), l)
      go (no h) (no g) =
          let fine : text_number text ≡ 0 = omega (arith, h) in
          let short : ◌≡◌ {A = ℕ} 27 0 = rw (fine, lt-leb (length (text_file text)) (length out) (omega (arith, g))) at e in
          absurd (omega (arith, short))

-- so too a file
module _ (f lent : List ℕ) (n s v c : ℕ) (is : reading f ≡ Accepted n s v c) where
  pub listed_if : length (listing f n s v) ≤ length lent → ((listed_of f lent).number ≡ 0) × (text_from f lent ≡ listing f n s v)
  unfolding listed_of listed_in
  listed_if fits = rw (is, le-leb (length (listing f n s v)) (length lent) fits) (refl, laid_taken (listing f n s v) lent fits)

  pub listed_only : (listed_of f lent).number ≡ 0 → length (listing f n s v) ≤ length lent
  unfolding listed_of
  listed_only e = go (dec_le (length (listing f n s v)) (length lent))
    where
      go : Dec (length (listing f n s v) ≤ length lent) → length (listing f n s v) ≤ length lent
      go (yes l) = l
      go (no g) =
          let short : ◌≡◌ {A = ℕ} 27 0 = rw (is, lt-leb (length (listing f n s v)) (length lent) (omega (arith, g))) at e in
          absurd (omega (arith, short))

module _ (text out lent : List ℕ) (e : (written_of text out).number ≡ 0) (k : (listed_of (file_from text out) lent).number ≡ 0) where
  known : (text_number text ≡ 0) × (length (text_file text) ≤ length out)
  known = written_only text out e

  file : file_from text out ≡ text_file text
  file = (written_if text out known.0 known.1).1

  told : text_from (file_from text out) lent ≡ listed_text text
  told =
      let is = (round_trip.read_back text known.0).start in
      rw file
      (listed_if (text_file text) lent (text_n text) (text_s text) (text_v text) (length (text_entries text)) is
      (listed_only (text_file text) lent (text_n text) (text_s text) (text_v text) (length (text_entries text)) is (rw file at k))).1

  written_again : WrittenAgain text out lent
  written_again =
      let back = round_trip.written_again text known.0 in
      let fits : length (text_file (listed_text text)) ≤ length out = rw back.same known.1 in
      let both = written_if (listed_text text) out back.accepted fits in
      record { taken = rw told both.0; same = rw told (both.1 ∙ back.same ∙ sym file) }

listed_again : (f lent out : List ℕ) → ((i : ℕ) → get_or f i 0 < 256) → (n s v c : ℕ) → reading f ≡ Accepted n s v c → (listed_of f lent).number ≡ 0
    → (written_of (text_from f lent) out).number ≡ 0 → ListedAgain f lent out n s v c
listed_again f lent out bytes n s v c is k e =
    let text : text_from f lent ≡ listing f n s v = (listed_if f lent n s v c is (listed_only f lent n s v c is k)).1 in
    let back = round_trip.listed f bytes n s v c is in
    let only = written_only (listing f n s v) out (rw text at e) in
    let file = (written_if (listing f n s v) out only.0 only.1).1 in
    record { start = rw (text, file) back.start; entries = rw (text, file) back.kept }

pub undone : Undone
undone = record { written = written_again; listed = listed_again }
