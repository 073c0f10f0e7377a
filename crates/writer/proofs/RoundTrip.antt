-- The round trip: a file says what the text says that it was made of, and the text of an accepted file says what the file says.
-- Assumes nothing.
use Prim.Native.Nat.{ℕ, ◌≤◌, ◌<◌}
use mathlib.Core.Path.{◌≡◌}
use mathlib.Core.Bool.{true}
use mathlib.Core.List.{List}
use native.Mathlib.Omega.{arith}
use lib.ListN.{length}
use Rattle.numbers.specs.Numbers.{in_range}
use Rattle.numbers.proofs.Range.{range_of}
use Rattle.schedule.specs.File.{reading, file_entries}
use Rattle.schedule.proofs.AcceptedFile.{accepted_answer, accepted_start, accepted_bound}
use Rattle.writer.specs.Types.{Entry, Accepted}
use Rattle.writer.specs.Form.{outside, further, text_n, text_s, text_v, text_entries}
use Rattle.writer.specs.Made.{file_made, text_made}
use Rattle.writer.specs.Writer.{text_number, text_file}
use Rattle.writer.specs.RoundTrip.{ReadBack, Filled, WrittenAgain, TextOfFile, RoundTrip}
use Rattle.writer.proofs.Small.{AllSmall}
use Rattle.writer.proofs.TextSaid.{text_outside, text_n_lem, text_s_lem, text_v_lem, text_entries_lem}
use Rattle.writer.proofs.Within.{entries_small, value_small, number_parts, number_zero}
use Rattle.writer.proofs.MadeRead.{made_read, made_entries, made_length, made_full, made_last}
use Rattle.writer.proofs.FileSmall.{Bytes, file_entries_small, file_value_small}

-- a start and entries that a file has room for
record Held (n s v : ℕ) (es : List Entry) : Type 0 where
  range : in_range n (record { 0 = s }) ≡ true
  value : v < 18446744073709551616
  few : length es ≤ 5334
  small : AllSmall es

-- their file says them, and so does their text; the text is accepted, and its file is their file
module _ {n s v : ℕ} {es : List Entry} (held : Held n s v es) where
  file_start : reading (file_made n s v es) ≡ Accepted n s v (length es)
  file_start = made_read n s v es held.range held.value held.few held.small

  file_entries_lem : file_entries (file_made n s v es) ≡ es
  file_entries_lem = made_entries n s v es held.range held.value held.few held.small

  below_n : n < 18446744073709551616
  below_n = omega (arith, (range_of n (record { 0 = s }) held.range).few)

  below_s : s < 18446744073709551616
  below_s = omega (arith, (range_of n (record { 0 = s }) held.range).last)

  says_n : text_n (text_made n s v es) ≡ n
  says_n = text_n_lem n s v es below_n below_s held.value held.small

  says_s : text_s (text_made n s v es) ≡ s
  says_s = text_s_lem n s v es below_n below_s held.value held.small

  says_v : text_v (text_made n s v es) ≡ v
  says_v = text_v_lem n s v es below_n below_s held.value held.small

  says_entries : text_entries (text_made n s v es) ≡ es
  says_entries = text_entries_lem n s v es below_n below_s held.value held.small

  text_accepted : text_number (text_made n s v es) ≡ 0
  text_accepted =
      let within : outside (text_made n s v es) ≡ 0 = text_outside n s v es below_n below_s held.value held.small in
      number_zero (text_made n s v es) within (rw (says_n, says_s) held.range) (rw says_entries held.few)

  text_file_lem : text_file (text_made n s v es) ≡ file_made n s v es
  text_file_lem = rw (says_n, says_s, says_v, says_entries)

-- a file has room for what an accepted text says, and for what an accepted file of bytes says
text_held : (text : List ℕ) → text_number text ≡ 0 → Held (text_n text) (text_s text) (text_v text) (text_entries text)
text_held text ok =
    let facts = number_parts text ok in
    record { range = facts.1.0; value = value_small text facts.0; few = facts.1.1; small = entries_small (further text) }

file_held : (f : List ℕ) → Bytes f → (n s v c : ℕ) → reading f ≡ Accepted n s v c → Held n s v (file_entries f)
file_held f bytes n s v c e =
    let answer = accepted_answer f e in
    record {
      range = rw (answer.1.0, answer.1.1.0) (accepted_start f answer.0).0;
      value = rw answer.1.1.1.0 (file_value_small f bytes);
      few = accepted_bound f answer.0;
      small = file_entries_small f bytes;
    }

-- an accepted text
module _ (text : List ℕ) (ok : text_number text ≡ 0) where
  held : Held (text_n text) (text_s text) (text_v text) (text_entries text)
  held = text_held text ok

  read_back : ReadBack text
  read_back = record { start = file_start held; entries = file_entries_lem held }

  filled : Filled text
  filled =
      record {
        full = made_full (text_n text) (text_s text) (text_v text) (text_entries text);
        last = made_last (text_n text) (text_s text) (text_v text) (text_entries text);
        none = λ e. rw (made_length (text_n text) (text_s text) (text_v text) (text_entries text), e);
      }

  written_again : WrittenAgain text
  written_again =
      record { accepted = rw read_back.entries (text_accepted held); same = rw read_back.entries (text_file_lem held) }

-- an accepted file
listed : (f : List ℕ) → Bytes f → (n s v c : ℕ) → reading f ≡ Accepted n s v c → TextOfFile f n s v c
listed f bytes n s v c e =
    let held = file_held f bytes n s v c e in
    record {
      accepted = text_accepted held;
      first = says_n held;
      second = says_s held;
      third = says_v held;
      entries = says_entries held;
      start = rw (text_file_lem held, file_start held, (accepted_answer f e).1.1.1.1);
      kept = rw (text_file_lem held) (file_entries_lem held);
    }

pub round_trip : RoundTrip
round_trip = record { read_back = read_back; filled = filled; written_again = written_again; listed = listed }
