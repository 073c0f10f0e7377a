-- Demand 3 of every file and its log: the log's bytes read back are the notes of the file's run, which starts from a start in range.
-- Assumes nothing.
use Prim.Native.Nat.{ℕ, zero, suc, ◌^◌, ◌≤◌, ◌<◌}
use mathlib.Core.Path.{◌≡◌, refl, sym, ap, ◌∙◌, subst₂}
use mathlib.Core.Bool.{false}
use mathlib.Core.List.{List, [], ◌∷◌, ◌++◌, map, append_assoc}
use native.Mathlib.Omega.{arith}
use lib.ListN.{take, length-append, length, get_or, drop, length-map}
use lib.Seq.{take_at}
use borrow.Author.Tests.{le-leb}
use Rattle.machine.specs.Run.{EntryNote, notes, change_count}
use Rattle.machine.specs.State.{first_state}
use Rattle.machine.proofs.RunLaws.{notes_length, count_most}
use Rattle.machine.proofs.Values.{values_below}
use Rattle.schedule.specs.File.{reading, file_entries}
use Rattle.linear.specs.Types.{Accepted, Head}
use Rattle.schedule.proofs.AcceptedFile.{accepted_answer}
use Rattle.run_log.specs.Log.{head_of, records_of, log_length, head_in, notes_in}
use Rattle.run_log.specs.Found.{log_of}
use Rattle.run_log.specs.declared.Note as log
use Rattle.run_log.proofs.Laws.{head_length, log_length_lem}
use Rattle.run_log.proofs.Back.{head_in_lem, notes_back}
use Rattle.bench.specs.Bench.{in_log, notes_of, log_after}
use Rattle.bench.proofs.WholeRun.{range, start_is, entry_count, few_entries}
use Rattle.word.specs.Word.{first, Every}
use Rattle.word.specs.Calls.{no_calls}
use Rattle.linear.specs.Demand3.{calls_in, Demand3}
use Rattle.linear.specs.TrueOfWord.{AllTrueOfWord, word_from, SameWord}
use Rattle.linear.specs.OfFile.{LogOfFile, Demand3OfFile}
use Rattle.linear.proofs.Demand3.{demand_3, true_of_word, same_word}
use Rattle.linear.proofs.Values.{entries_small, first_small}

-- the record of an entry, by its note
record_at_lem : (ws : List EntryNote) (i : ℕ) (d : EntryNote) (none : log.Note) → i < length ws → get_or (map in_log ws) i none ≡ in_log (get_or ws i d)
record_at_lem [] i d none l = absurd (omega (arith, l))
record_at_lem (w ∷ ws) zero d none l = refl
record_at_lem (w ∷ ws) (suc i) d none l = record_at_lem ws i d none (omega (arith, l))

module _ (f : List ℕ) (bytes : Every (λ b. b < 256) f) (n s v c : ℕ) (is : reading f ≡ Accepted n s v c) (lent : List ℕ) (room : log_length c ≤ length lent) where
  -- the notes of the run, and what lies behind their records
  abbrev ws : List EntryNote
  ws = notes (first_state n (record { 0 = s }) v) (file_entries f)

  abbrev rest : List ℕ
  rest = drop (log_length (length (notes (first_state n (record { 0 = s }) v) (file_entries f)))) lent

  as_many : length ws ≡ c
  as_many = notes_length (first_state n (record { 0 = s }) v) (file_entries f) ∙ sym (entry_count f n s v c is)

  records_long : length (map in_log ws) ≡ length ws
  records_long = length-map ws in_log

  log_is : log_after f lent ≡ log_of (change_count ws) n (map in_log ws) ++ rest
  unfolding log_after notes_of log_of
  log_is =
      rw (is, le-leb (log_length c) (length lent) room, start_is f n s v c is, records_long)
      (sym (append_assoc (head_of (length ws) (change_count ws) n) (records_of (map in_log ws)) rest))

  -- its first twelve bytes
  front_is : take 12 (log_of (change_count ws) n (map in_log ws) ++ rest) ≡ head_of c (change_count ws) n
  unfolding log_of
  front_is =
      rw (append_assoc (head_of (length (map in_log ws)) (change_count ws) n) (records_of (map in_log ws)) rest, records_long, as_many)
      (take_at (head_of c (change_count ws) n) _ 12 (head_length c (change_count ws) n))

  few : length (map in_log ws) < 2 ^ 32
  few = omega (arith, records_long, as_many, few_entries f n s v c is)

  few_changes : change_count ws < 2 ^ 32
  few_changes = omega (arith, count_most ws, as_many, few_entries f n s v c is)

  values : (i : ℕ) (none : log.Note) → i < length (map in_log ws) → (get_or (map in_log ws) i none).value < 2 ^ 64
  values i none l =
      let there : i < length ws = omega (arith, l, records_long) in
      rw (record_at_lem ws i no_note none there)
      (values_below (2 ^ 64) (omega arith) n (record { 0 = s }) v (range f n s v c is) (rw (accepted_answer f is).1.1.1.0 (first_small f bytes)) (file_entries f) (entries_small f bytes) i no_note there)
    where
      no_note : EntryNote
      no_note = record { outcome = 0; process = 0; steps = 0; mark = 0; value = 0; changed = false }

  head_is : head_in (log_after f lent) ≡ record { entries = length (map in_log ws); changes = change_count ws; n = n }
  head_is = ap head_in log_is ∙ head_in_lem (change_count ws) n rest (map in_log ws) few few_changes

  notes_are : notes_in (log_after f lent) ≡ map in_log ws
  notes_are = ap notes_in log_is ∙ notes_back (change_count ws) n (map in_log ws) rest few few_changes values

  -- what the notes meet, the records that are read back meet
  abbrev Met : ℕ → List log.Note → Type 0
  Met k ws =
      (calls : Demand3 n v k (file_entries f) ws) × AllTrueOfWord no_calls (first v 0) (file_entries f) ws
      × SameWord n v (calls_in (file_entries f) ws) calls.one_order.in_order.order (word_from no_calls (first v 0) (file_entries f) ws)

  met : Met (head_in (log_after f lent)).changes (notes_in (log_after f lent))
  met =
      let start = range f n s v c is in
      subst₂ Met (sym (ap (λ (h : Head). h.changes) head_is)) (sym notes_are) (
        demand_3 n (record { 0 = s }) v start (file_entries f),
        true_of_word n (record { 0 = s }) v start (file_entries f),
        same_word n (record { 0 = s }) v start (file_entries f),
      )

  of_file : LogOfFile n v c f (log_after f lent)
  of_file =
      record {
        head = rw (head_is, log_is, front_is);
        long = rw (log_is, length-append, log_length_lem (change_count ws) n (map in_log ws), records_long, as_many) (omega arith);
        calls = met.0;
        of_word = met.1;
        at_the_end = met.2;
      }

pub demand_3_of_files : (f : List ℕ) → Demand3OfFile f
demand_3_of_files f bytes n s v c is log room = of_file f bytes n s v c is log room
