-- What the lines of the log left behind say is what is printed of the text: `text` prints a log line by line, whatever lies behind it.
-- Assumes nothing.
use Prim.Native.Nat.{ℕ, ◌^◌, ◌≤◌, ◌<◌}
use mathlib.Core.Path.{◌≡◌, ◌∙◌}
use mathlib.Core.Bool.{Bool, true, false}
use mathlib.Core.List.{List, [], ◌∷◌, ◌++◌, map}
use native.Mathlib.Omega.{arith}
use lib.ListN.{length, drop, length-map}
use Rattle.run_log.specs.Log.{log_length}
use Rattle.run_log.proofs.Laws.{laid_fits}
use Rattle.text.specs.Lines.{text_of}
use Rattle.text.proofs.Whole.{ValuesFit, text_of_lem}
use Rattle.reused.specs.Run.{EntryNote, change_count}
use Rattle.reused.proofs.RunLaws.{notes_length, count_most}
use Rattle.reused_text.specs.Form.{text_n, text_entries, text_number}
use Rattle.reused_text.specs.Played.{bit_number, in_log, text_notes, text_log, log_after, reuse_text}
use Rattle.reused_text.proofs.Wholes.{few_entries, text_log_length}

values_fit : (ws : List EntryNote) → ValuesFit (map in_log ws)
values_fit [] = tt
values_fit (w ∷ ws) = (go w.stored.bit, values_fit ws)
  where
    go : (b : Bool) → bit_number b < 2 ^ 64
    go true = omega arith
    go false = omega arith

module _ (text : List ℕ) (z : text_number text ≡ 0) where
  count_is : length (text_notes text) ≡ length (text_entries text)
  unfolding text_notes
  count_is = notes_length _ (text_entries text)

  long : length (map in_log (text_notes text)) < 2 ^ 32
  long = rw (length-map, count_is) (omega (arith, few_entries text z))

  changes_few : change_count (text_notes text) < 2 ^ 32
  changes_few = omega (arith, count_most (text_notes text), count_is, few_entries text z)

  log_printed : (rest : List ℕ) → text_of (text_log text ++ rest) ≡ reuse_text text
  unfolding text_log reuse_text
  log_printed rest =
      text_of_lem (change_count (text_notes text)) (text_n text) rest (map in_log (text_notes text)) long changes_few (values_fit (text_notes text))
      ∙ rw (z, length-map)

  pub printed_is : (log : List ℕ) → log_length (length (text_entries text)) ≤ length log → text_of (log_after text log) ≡ reuse_text text
  unfolding log_after
  printed_is log room = rw (z, laid_fits (text_log text) log (rw (text_log_length text z) room)) (log_printed (drop (length (text_log text)) log))
