-- All that is printed of the log of some entries is the head line and the line of each entry, whatever lies behind the log.
-- Assumes nothing.
use Prim.Native.Nat.{ℕ, ◌+◌, ◌^◌, ◌<◌}
use mathlib.Core.Path.{◌≡◌, refl}
use mathlib.Core.List.{List, [], ◌∷◌, ◌++◌}
use lib.ListN.{length, length-append}
use lib.Seq.{append_snoc}
use Rattle.run_log.specs.Found.{log_of}
use Rattle.text.specs.Types.{Note}
use Rattle.run_log.proofs.Back.{head_read, note_among}
use Rattle.text.specs.Lines.{head_line, lines_from, lines_of, text_of}

-- "Values are 0 to 2^64 - 1."
abbrev pub ValuesFit : List Note → Type 0
ValuesFit [] = Unit
ValuesFit (note ∷ notes) = (note.value < 2 ^ 64) × ValuesFit notes

module _ (changes n : ℕ) (rest : List ℕ) where
  lines_of_lem : (done left : List Note) → ValuesFit left
      → lines_from (log_of changes n (done ++ left) ++ rest) (length done) (length left) ≡ lines_of (length done) left
  unfolding lines_from lines_of
  lines_of_lem done [] h = refl
  lines_of_lem done (note ∷ left) h =
      let place : length (done ++ (note ∷ [])) ≡ length done + 1 = length-append done (note ∷ []) in
      let later : lines_from (log_of changes n (done ++ note ∷ left) ++ rest) (length done + 1) (length left) ≡ lines_of (length done + 1) left =
      rw (← append_snoc done note left, ← place) (lines_of_lem (done ++ (note ∷ [])) left h.1) in
      rw (note_among changes n rest done left note h.0, later)

  pub text_of_lem : (notes : List Note) → length notes < 2 ^ 32 → changes < 2 ^ 32 → ValuesFit notes
      → text_of (log_of changes n notes ++ rest) ≡ head_line (length notes) changes n ++ lines_of 0 notes
  unfolding text_of
  text_of_lem notes h k r = rw (head_read changes n rest notes h k, lines_of_lem [] notes r)
