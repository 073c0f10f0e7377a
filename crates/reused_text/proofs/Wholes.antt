-- The whole run of a text that nothing refuses: its start is ready, its count fits, and head, records and the rest of the log come together.
-- Assumes nothing.
use Prim.Native.Nat.{ℕ, ◌+◌, ◌-◌, ◌*◌, ◌≤◌, ◌<◌}
use mathlib.Core.Path.{◌≡◌, refl, sym, ap, ◌∙◌}
use mathlib.Core.List.{List, ◌++◌, map, append_assoc}
use native.Mathlib.Omega.{arith}
use borrow.Author.Tests.{le-leb, lt-leb, ne_eqb}
use Rattle.std.specs.Prelude.{Result, Ok, Err}
use Rattle.numbers.specs.Refusals.{refusal_number}
use Rattle.numbers.proofs.Refusals.{refused, same_refusal}
use Rattle.writer.proofs.Answers.{same_fields}
use lib.ListN.{length, take, drop, length-append, length-drop, length-map}
use lib.Seq.{drop_at, drop-drop, length-take-le}
use Rattle.run_log.specs.Log.{laid, head_of, records_of, log_length}
use Rattle.run_log.specs.Found.{log_of}
use Rattle.run_log.proofs.Laws.{head_length, log_length_lem, laid_fits, laid_short, laid_past, tail_given, tail_back}
use Rattle.text.specs.Lines.{newline}
use Rattle.writer.specs.Form.{place_of}
use Rattle.writer.specs.Parts.{InForm, entries_left}
use Rattle.writer.proofs.Whole.{newline_there, further_fine}
use Rattle.reused.specs.State.{StartGiven, start_of}
use Rattle.reused.specs.Frame.{Ready}
use Rattle.reused.specs.Run.{notes, change_count}
use Rattle.reused.proofs.Soundness.{sizes_fine, sizes_of_lem}
use Rattle.reused.proofs.RunLaws.{ready_start, notes_length}
use Rattle.reused_text.specs.Types.{State, Entry, Version, Note, TextRefusal, Ran, Scanned, Sizes, Read}
use Rattle.reused_text.specs.Form.{head_fine, line_fine, outside, text_n, text_m, text_entries, text_number}
use Rattle.reused_text.specs.Parts.{bit_entries_left, told_as, scanned_as, within, scanned_of}
use Rattle.reused_text.specs.Played.{in_log, text_notes, text_log, ran_not, ran_as, ran_of, log_after, changes_from, records_from}
use Rattle.reused_text.proofs.Texts.{number_parts, scanned_refused, scanned_accepted, scanned_number}

-- Head, records and the rest of the log.
module _ (st : State) (es : List Entry) (n c : ℕ) (long : c ≡ length es) (log : List ℕ) (room : log_length c ≤ length log) where
  -- the head that is laid first, before anything is counted: the log stays as long
  pub first_room : (first : List ℕ) → first ≡ laid (head_of c 0 n) log → log_length c ≤ length first
  first_room first lays =
      rw (lays, laid_fits (head_of c 0 n) log (rw head_length (omega (arith, room))), length-append, length-drop, head_length) (omega (arith, room))

  pub rest_there : 12 * c ≤ length log - 12
  rest_there = omega (arith, room)

  front : length (take 12 log) ≡ 12
  front = length-take-le 12 log (omega (arith, room))

  abbrev ns : List Note
  ns = map in_log (notes st es)

  abbrev behind : List ℕ
  behind = records_of ns ++ drop (12 + 12 * length es) log

  count_is : length ns ≡ length es
  count_is = rw (length-map, notes_length)

  module _ (changes : Version) (counts : changes ≡ changes_from st es) (back : List ℕ) (writes : back ≡ records_from st es (take (length log - 12) (drop 12 log))) where
    records_there : take 12 log ++ (back ++ drop (length log - 12) (drop 12 log)) ≡ take 12 log ++ behind
    unfolding records_from
    records_there = tail_back log back 12 ∙ rw (writes, tail_given, drop-drop)

    changes_is : changes.0 ≡ change_count (notes st es)
    unfolding changes_from
    changes_is = rw counts

    split : (changed : ℕ) → log_of changed n ns ≡ head_of (length ns) changed n ++ records_of ns
    unfolding log_of
    split changed = refl

    whole : laid (log_of changes.0 n ns) log ≡ head_of c changes.0 n ++ behind
    whole =
        let fits : length (log_of changes.0 n ns) ≤ length log = rw (log_length_lem changes.0 n ns, count_is, ← long) room in
        laid_fits (log_of changes.0 n ns) log fits
        ∙ rw (log_length_lem changes.0 n ns, split changes.0, append_assoc (head_of (length ns) changes.0 n) (records_of ns) (drop (log_length (length ns)) log), count_is, long)

    pub log_is : (last : List ℕ) → last ≡ laid (head_of c changes.0 n) (take 12 log ++ (back ++ drop (length log - 12) (drop 12 log)))
        → last ≡ laid (log_of (change_count (notes st es)) n ns) log
    log_is last lays-last =
        lays-last
        ∙ rw records_there
        (laid_fits (head_of c changes.0 n) (take 12 log ++ behind) (rw (length-append, front, head_length c changes.0 n) (omega arith))
        ∙ rw (head_length c changes.0 n, drop_at (take 12 log) behind 12 front) (sym whole ∙ rw changes_is))

-- A text that nothing refuses.
module _ (text : List ℕ) (z : text_number text ≡ 0) where
  pub few_n_lem : text_n text ≤ 16
  few_n_lem = (sizes_of_lem (text_n text) (text_m text) (sizes_fine (text_n text) (text_m text) (number_parts text z).1)).few

  pub few_entries : length (text_entries text) ≤ 4294967295
  few_entries = (number_parts text z).2

  pub begins : place_of newline text + 1 ≤ length text
  begins = omega (arith, newline_there head_fine line_fine text (number_parts text z).0)

  pub lines_fine : InForm line_fine (drop (place_of newline text + 1) text)
  lines_fine = further_fine head_fine line_fine text (number_parts text z).0

  -- its entries are those of the lines behind line one
  pub entries_are : bit_entries_left (drop (place_of newline text + 1) text) ≡ text_entries text
  unfolding entries_left
  entries_are = refl

  ready : Ready (start_of (text_n text) (text_m text)).state
  unfolding start_of
  ready = rw (number_parts text z).1 (ready_start (text_n text) (text_m text) (number_parts text z).1)

  pub start_ready : (started : StartGiven) → started ≡ start_of (text_n text) (text_m text) → Ready started.state
  start_ready started begun = rw begun ready

  pub text_log_lem : laid (log_of (change_count (notes (start_of (text_n text) (text_m text)).state (text_entries text))) (text_n text) (map in_log (notes (start_of (text_n text) (text_m text)).state (text_entries text))))
      ≡ laid (text_log text)
  unfolding text_log text_notes
  text_log_lem = refl

  pub text_log_length : length (text_log text) ≡ log_length (length (text_entries text))
  unfolding text_log text_notes
  text_log_length = log_length_lem _ _ _ ∙ rw (length-map, notes_length)

  -- with no room for its log, and with room
  module _ (log : List ℕ) where
    pub ran_short : length log < log_length (length (text_entries text)) → (ran_not 27 0 ≡ ran_of text log) × (log ≡ log_after text log)
    unfolding ran_of log_after
    ran_short h =
        (rw (z, lt-leb (log_length (length (text_entries text))) (length log) h), rw z (sym (laid_short (text_log text) log (rw text_log_length h))))

    pub ran_done : log_length (length (text_entries text)) ≤ length log → (entries : ℕ) → entries ≡ length (text_entries text)
        → (last : List ℕ) → last ≡ laid (text_log text) log
        → (record { number = 0; line = 0; entries = entries } ≡ ran_of text log) × (last ≡ log_after text log)
    unfolding ran_of log_after
    ran_done h entries is last lays = (rw (z, le-leb (log_length (length (text_entries text))) (length log) h, is), rw z lays)

-- The same, said of what a scan told of the text.
module _ (text : List ℕ) (z : text_number text ≡ 0) (told : Scanned) (w : told ≡ within text) where
  pub told_small : (told.n ≤ 16) × (told.entries ≤ 4294967295)
  told_small = rw w (few_n_lem text z, few_entries text z)

  pub told_begins : told.from ≤ length text
  told_begins = rw w (begins text z)

  pub told_entries : told.entries ≡ length (text_entries text)
  told_entries = rw w

  module _ (started : StartGiven) (begun : started ≡ start_of told.n told.m) (log : List ℕ) (room : log_length told.entries ≤ length log) where
    entries_long : told.entries ≡ length (bit_entries_left (drop told.from text))
    entries_long = rw (w, entries_are text z)

    start_is : started ≡ start_of (text_n text) (text_m text)
    start_is = rw w at begun

    pub told_room : (first : List ℕ) → first ≡ laid (head_of told.entries 0 told.n) log → log_length told.entries ≤ length first
    told_room = first_room started.state (bit_entries_left (drop told.from text)) told.n told.entries entries_long log room

    -- the log of the run stands over that first head as over what the log held
    pub over_first : (first : List ℕ) → first ≡ laid (head_of told.entries 0 told.n) log → laid (text_log text) first ≡ laid (text_log text) log
    over_first first lays =
        rw lays
        (laid_past (head_of told.entries 0 told.n) (text_log text) log (rw (head_length, text_log_length text) (omega arith))
        (rw (text_log_length text, ← told_entries) room))

    pub lines_given : (Ready started.state) × InForm line_fine (drop told.from text) × (told.entries ≡ length (bit_entries_left (drop told.from text)))
        × (12 * told.entries ≤ length (take (length log - 12) (drop 12 log))) × (told.entries ≤ 4294967295)
    lines_given = (
      start_ready text z started start_is,
      rw w (lines_fine text z),
      entries_long,
      rw (tail_given, length-drop) (rest_there started.state (bit_entries_left (drop told.from text)) told.n told.entries entries_long log room),
      told_small.1,
    )

    pub log_done : (changes : Version) → changes ≡ changes_from started.state (bit_entries_left (drop told.from text))
        → (back : List ℕ) → back ≡ records_from started.state (bit_entries_left (drop told.from text)) (take (length log - 12) (drop 12 log))
        → (last : List ℕ) → last ≡ laid (head_of told.entries changes.0 told.n) (take 12 log ++ (back ++ drop (length log - 12) (drop 12 log)))
        → last ≡ laid (text_log text) log
    log_done changes counts back writes last lays-last =
        log_is started.state (bit_entries_left (drop told.from text)) told.n told.entries entries_long log room changes counts back writes last lays-last
        ∙ rw (start_is, w, entries_are text z) (ap (λ (f : List ℕ → List ℕ). f log) (text_log_lem text z))

-- What a scan says decides.
module _ (text : List ℕ) where
  pub ran_refused : (e : TextRefusal) → scanned_as (Err e) ≡ scanned_of text → (log : List ℕ) → (ran_as (Err e) ≡ ran_of text log) × (log ≡ log_after text log)
  unfolding ran_of log_after
  ran_refused e is log =
      let number : refusal_number e.refusal ≡ text_number text = ap (λ (t : Scanned). t.number) is ∙ scanned_number text in
      let not : text_number text ≡ 0 → ⊥ = λ q. omega (arith, q, number, refused e.refusal) in
      let line : e.line ≡ outside text = ap (λ (t : Scanned). t.line) (is ∙ scanned_refused text not) in
      (rw (ne_eqb (text_number text) 0 not, ← number, ← line), rw (ne_eqb (text_number text) 0 not))

  pub accepted : (told : Read Sizes) → told_as told ≡ scanned_of text → (text_number text ≡ 0) × (told_as told ≡ within text)
  accepted told is =
      let z : text_number text ≡ 0 = sym (scanned_number text) ∙ ap (λ (t : Scanned). t.number) (sym is) in
      (z, is ∙ scanned_accepted text z)

-- no two answers tell the same
pub same_ran : (x y : Result ℕ TextRefusal) → ran_as x ≡ ran_as y → x ≡ y
same_ran (Ok m) (Ok n) h = ap (λ (k : ℕ). Ok k) (ap (λ (w : Ran). w.entries) h)
same_ran (Ok m) (Err e) h = absurd (omega (arith, ap (λ (w : Ran). w.number) h, refused e.refusal))
same_ran (Err d) (Ok n) h = absurd (omega (arith, ap (λ (w : Ran). w.number) h, refused d.refusal))
same_ran (Err d) (Err e) h =
    ap (λ (e : TextRefusal). Err e) (same_fields d e (same_refusal d.refusal e.refusal (ap (λ (w : Ran). w.number) h)) (ap (λ (w : Ran). w.line) h))
