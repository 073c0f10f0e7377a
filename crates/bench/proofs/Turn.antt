-- One turn of the loop over a block's entries: what the loop keeps, and why a turn keeps it.
use Prim.Native.Nat.{ℕ, ◌+◌, ◌-◌, ◌*◌, ◌/◌, ◌≤◌, ◌<◌}
use mathlib.Core.Path.{◌≡◌, refl, sym, ap, ◌∙◌}
use mathlib.Core.Bool.{Bool, true, false, cond, not}
use mathlib.Core.List.{List, [], ◌∷◌, ◌++◌, map, map-append, append_assoc, append-nil}
use native.Mathlib.Omega.{arith}
use lib.Dec.{eqb, ltb}
use lib.ListN.{length, get_or, take, drop, length-append, length-drop, length-map, take-append-drop, drop_of_length-le}
use lib.Seq.{length-take-le, take_at, drop_at, drop-drop}
use borrow.Author.Tests.{ltb-true, le-leb}
use Rattle.std.specs.Simd.{first_chunks}
use Rattle.bench.specs.Types.{Process, Version, Tag, Place, Record, Outcome, Entry, Fields, Kind, Ask, Step, Stepped, State, Answer}
use Rattle.step.specs.Steps.{same_tag, told_of, reached, own_steps}
use Rattle.numbers.proofs.Range.{range_of}
use Rattle.machine.specs.State.{row_at, record_at}
use Rattle.machine.specs.Entry.{with_entry}
use Rattle.machine.specs.Parts.{seat_of, played_parts, request_by, kind_by, steps_ahead}
use Rattle.machine.specs.Frame.{Ready}
use Rattle.machine.specs.Run.{EntryNote, played, note_of, notes, after, change_count, turned_away, steps_by, mark_by}
use Rattle.machine.proofs.Soundness.{sure}
use Rattle.machine.proofs.Writers.{record_same}
use Rattle.machine.proofs.RunLaws.{ready_after, after_append, notes_append, count_append, notes_length, count_most}
use Rattle.machine.proofs.PartsOfRun.{seat, reach, played_by_parts, seat_within, reach_within}
use Rattle.schedule.specs.Direct.{entry_at, fields_of, fields_at, part_entries}
use Rattle.schedule.proofs.Laws.{chunk_read}
use Rattle.schedule.proofs.Entries.{part_more, part_count}
use Rattle.run_log.specs.Log.{laid, record_of, records_of}
use Rattle.run_log.specs.declared.Note as log
use Rattle.run_log.proofs.Laws.{record_length, records_length, records_more, laid_fits}
use Rattle.bench.specs.Play.{record_from}
use Rattle.bench.specs.Bench.{in_log}

-- The steps that the log says are those that were counted before the entry, and none where it was turned away.
steps_ahead_lem : (place : Place) (code v : ℕ) (outcome : Outcome) → steps_by place (kind_by code v) outcome ≡ cond (turned_away outcome) 0 (steps_ahead place code)
steps_ahead_lem place code v outcome = go (eqb code 4)
  where
    none : (t : Bool) → ◌≡◌ {A = ℕ} 0 (cond t 0 0)
    none true = refl
    none false = refl

    go : (b : Bool) → steps_by place (cond b Step (Ask (request_by code v))) outcome ≡ cond (turned_away outcome) 0 (cond b (own_steps place) 0)
    go true = refl
    go false = none (turned_away outcome)

-- The record that is written is the note of the run: where the process is not there, no steps are counted whatever the place, and no mark is
-- given whatever the tags.
module _ (st : State) (e : Entry) (h : Ready st) where
  abbrev left : Stepped
  left = played_parts st.n st.s e.process st.x (record_at st (seat st e).0) (row_at st (reach st e).0) e.kind

  steps_same : (b : Bool) (kind : Kind) → ltb e.process.0 st.n ≡ b
      → steps_by (record_at st (cond {A = Process} b e.process (record { 0 = 0 })).0).place kind (played_parts st.n st.s e.process st.x (record_at st (cond {A = Process} b e.process (record { 0 = 0 })).0) (row_at st (reach st e).0) kind).outcome
      ≡ steps_by (record_at st e.process.0).place kind (played_parts st.n st.s e.process st.x (record_at st (cond {A = Process} b e.process (record { 0 = 0 })).0) (row_at st (reach st e).0) kind).outcome
  unfolding played_parts
  steps_same true kind t = refl
  steps_same false (Ask request) t = refl
  steps_same false Step t = rw t

  -- where an entry leads
  pub state_left : (played st e).state ≡ with_entry st (seat st e) (reach st e) left
  state_left = ap (λ (a : Answer). a.state) (played_by_parts st e h)

  -- 11 has no mark, whatever the tags
  no_mark : ltb e.process.0 st.n ≡ false → (x x' kept kept' : Tag) → mark_by (told_of left.outcome).number x kept ≡ mark_by (told_of left.outcome).number x' kept'
  unfolding played_parts
  no_mark t x x' kept kept' = rw t

  -- the mark goes by the kept tag of the record that is written back
  mark_same : mark_by (told_of left.outcome).number left.x (record_at (with_entry st (seat st e) (reach st e) left) e.process.0).kept
      ≡ mark_by (told_of left.outcome).number left.x left.own.kept
  mark_same = go (ltb e.process.0 st.n) refl
    where
      go : (b : Bool) → ltb e.process.0 st.n ≡ b
          → mark_by (told_of left.outcome).number left.x (record_at (with_entry st (cond b e.process (record { 0 = 0 })) (reach st e) left) e.process.0).kept
          ≡ mark_by (told_of left.outcome).number left.x left.own.kept
      go true t =
          ap (λ (r : Record). mark_by (told_of left.outcome).number left.x r.kept)
          (record_same st e.process (reach st e) left
          (omega (arith, ltb-true e.process.0 st.n t, (range_of st.n st.s (sure h).range).few, h.full.records)))
      go false t = no_mark t left.x left.x _ left.own.kept

  pub note_written : (ahead : ℕ) → steps_by (record_at st (seat st e).0).place e.kind left.outcome ≡ cond (turned_away left.outcome) 0 ahead
      → in_log (note_of st e) ≡ record_from e.process.0 ahead left.outcome left.x left.own.kept
  note_written ahead taken =
      ap said (played_by_parts st e h)
      ∙ ap (λ (k : ℕ). counted k (mark_by (told_of left.outcome).number left.x (record_at (with_entry st (seat st e) (reach st e) left) e.process.0).kept))
      (sym (steps_same (ltb e.process.0 st.n) e.kind refl) ∙ taken)
      ∙ ap (counted _) mark_same
    where
      said : Answer → log.Note
      said a =
          record {
            outcome = (told_of a.outcome).number;
            process = e.process.0;
            steps = steps_by (record_at st e.process.0).place e.kind a.outcome;
            mark = mark_by (told_of a.outcome).number a.state.x (record_at a.state e.process.0).kept;
            value = (told_of a.outcome).value;
          }

      counted : ℕ → ℕ → log.Note
      counted steps mark =
          record {
            outcome = (told_of left.outcome).number;
            process = e.process.0;
            steps = steps;
            mark = mark;
            value = (told_of left.outcome).value;
          }

  pub change_counted : change_count (note_of st e ∷ []) ≡ cond (not (same_tag st.x left.x)) 1 0
  unfolding change_count
  change_counted = ap (λ (after : State). cond (not (same_tag st.x after.x)) 1 0) state_left

-- the entry that the fields of its bytes ask for
abbrev pub asked : Fields → Entry
asked e = record { process = record { 0 = e.process }; kind = kind_by e.kind e.value }

-- Twelve bytes laid in the next twelve of the log: they stand behind those so far, and what lies past them stays.
grown : (done bytes part now left : List ℕ) (at : ℕ) → length done ≡ at → length bytes ≡ 12 → at + 12 ≤ length part → now ≡ done ++ drop at part
    → left ≡ laid bytes (take (at + 12 - at) (drop at now))
    → take at now ++ (left ++ drop (at + 12 - at) (drop at now)) ≡ (done ++ bytes) ++ drop (at + length bytes) part
grown done bytes part now left at e size fits so_far lays =
    let width : at + 12 - at ≡ length bytes = omega (arith, size) in
    let there : length (take (length bytes) (drop at part)) ≡ length bytes =
    length-take-le (length bytes) (drop at part) (rw length-drop (omega (arith, size, fits))) in
    let full : laid bytes (take (length bytes) (drop at part)) ≡ bytes =
    laid_fits bytes (take (length bytes) (drop at part)) (omega (arith, there))
    ∙ ap (λ (xs : List ℕ). bytes ++ xs) (drop_of_length-le (take (length bytes) (drop at part)) (omega (arith, there)))
    ∙ append-nil bytes in
    rw (lays, width, so_far, take_at done (drop at part) at e, drop_at done (drop at part) at e, full, drop-drop, append_assoc)

-- the fields of chunk j of a part are those of its entry j
pub chunk_fields : (part : List ℕ) (cs : List (List ℕ)) (j : ℕ) (d : List ℕ) → cs ≡ first_chunks 12 (length part / 12) part → j < length part / 12
    → fields_of (get_or cs j d) ≡ fields_at part j
unfolding fields_at
chunk_fields part cs j d e l = rw (chunk_read 12 part cs j d e l, le-leb (12 * j + 12) (length part) (omega (arith, l)))

-- What the loop over a block's entries keeps. The block began at entry i₁ of the file, with this state, count and log; after j turns all three
-- are those of the run of the block's first j entries from there.
pub record Turn (part rest₁ : List ℕ) (end i₁ : ℕ) (st₁ : State) (changes₁ : Version) (rest : List ℕ) (st : State) (changes : Version) (i j : ℕ) : Type 0 where
  pub ready : Ready st₁
  pub read : (k : ℕ) → k < end → entry_at part k ≡ asked (fields_at part k)
  pub low : i₁ + end ≤ 5334
  pub room : 12 * (i₁ + end) ≤ length rest₁
  pub few : changes₁.0 + end < 4294967295
  pub within : j ≤ end
  pub place : i ≡ i₁ + j
  pub state : st ≡ after st₁ (part_entries part j)
  pub count : changes.0 ≡ changes₁.0 + change_count (notes st₁ (part_entries part j))
  pub log : rest ≡ (take (12 * i₁) rest₁ ++ records_of (map in_log (notes st₁ (part_entries part j)))) ++ drop (12 * i) rest₁

pub turn_start : (part rest₁ : List ℕ) (end i₁ : ℕ) (st₁ : State) (changes₁ : Version) → Ready st₁
    → ((k : ℕ) → k < end → entry_at part k ≡ asked (fields_at part k)) → i₁ + end ≤ 5334 → 12 * (i₁ + end) ≤ length rest₁ → changes₁.0 + end < 4294967295
    → Turn part rest₁ end i₁ st₁ changes₁ rest₁ st₁ changes₁ i₁ 0
unfolding part_entries after notes change_count records_of
turn_start part rest₁ end i₁ st₁ changes₁ h read low room few =
    record {
      ready = h;
      read = read;
      low = low;
      room = room;
      few = few;
      within = omega arith;
      place = omega arith;
      state = refl;
      count = omega arith;
      log = sym (append_assoc (take (12 * i₁) rest₁) [] (drop (12 * i₁) rest₁) ∙ take-append-drop (12 * i₁) rest₁);
    }

-- The notes of one entry more.
module _ (part : List ℕ) (st₁ : State) (j : ℕ) where
  abbrev es : List Entry
  es = part_entries part j

  abbrev next : Entry
  next = entry_at part j

  after_more : after st₁ (part_entries part (j + 1)) ≡ (played (after st₁ es) next).state
  unfolding after
  after_more = rw (part_more part j) (after_append st₁ es (next ∷ []))

  notes_more : notes st₁ (part_entries part (j + 1)) ≡ notes st₁ es ++ (note_of (after st₁ es) next ∷ [])
  unfolding notes
  notes_more = rw (part_more part j) (notes_append st₁ es (next ∷ []))

  records_so_far : length (records_of (map in_log (notes st₁ es))) ≡ 12 * j
  records_so_far = rw (records_length, length-map, notes_length, part_count)

module _ {part rest₁ : List ℕ} {end i₁ : ℕ} {st₁ : State} {changes₁ : Version} {rest : List ℕ} {st : State} {changes : Version} {i j : ℕ}
    (h : Turn part rest₁ end i₁ st₁ changes₁ rest st changes i j) where
  ready_now : Ready st
  ready_now = rw h.state (ready_after st₁ (part_entries part j) h.ready)

  abbrev so_far : List ℕ
  so_far = take (12 * i₁) rest₁ ++ records_of (map in_log (notes st₁ (part_entries part j)))

  written_so_far : length so_far ≡ 12 * i
  written_so_far =
      rw (length-append, length-take-le (12 * i₁) rest₁ (omega (arith, h.room)), records_so_far part st₁ j, h.place) (omega arith)

  -- The turn itself, said of what the loop's calls gave: the entry's fields, its seat and record, the steps ahead of it, its row, what it left,
  -- its record in the log, the count, the log.
  pub turn_next : j < end
      → (e : Fields) → e ≡ fields_at part j
      → (a : Process) → a ≡ seat_of st.n (record { 0 = e.process })
      → (own : Record) → own ≡ record_at st a.0
      → (ahead : ℕ) → ahead ≡ steps_ahead own.place e.kind
      → (q : Process) → q ≡ reached a own
      → (m : Stepped) → m ≡ played_parts st.n st.s (record { 0 = e.process }) st.x own (row_at st q.0) (kind_by e.kind e.value)
      → (note : log.Note) → note ≡ record_from e.process ahead m.outcome m.x m.own.kept
      → (changes' : Version) → changes'.0 ≡ changes.0 + cond (not (same_tag st.x m.x)) 1 0
      → (back : List ℕ) → back ≡ laid (record_of note) (take (12 * i + 12 - 12 * i) (drop (12 * i) rest))
      → Turn part rest₁ end i₁ st₁ changes₁ (take (12 * i) rest ++ (back ++ drop (12 * i + 12 - 12 * i) (drop (12 * i) rest))) (with_entry st a q m) changes' (i + 1) (j + 1)
  turn_next l e is a at own found ahead counts q row m goes note says changes' total back lays =
      record {
        ready = h.ready;
        read = h.read;
        low = h.low;
        room = h.room;
        few = h.few;
        within = omega arith;
        place = omega (arith, h.place);
        state = rw (left_is, row_is, seat_is) (sym (now_after ∙ state_left st (asked e) ready_now));
        count = omega (arith, total, h.count, more_changes);
        log =
            grown so_far (record_of note) rest₁ rest back (12 * i) written_so_far (record_length note) (omega (arith, h.room, h.place)) h.log lays
            ∙ rw (record_length note, place, append_assoc (take (12 * i₁) rest₁) (records_of (map in_log (notes st₁ (part_entries part j)))) (record_of note), more);
      }
    where
      seat_is : a ≡ seat st (asked e)
      seat_is = at

      row_is : q ≡ reach st (asked e)
      row_is = rw (row, found, seat_is)

      left_is : m ≡ played_parts st.n st.s (asked e).process st.x (record_at st (seat st (asked e)).0) (row_at st (reach st (asked e)).0) (asked e).kind
      left_is = cc (goes, found, seat_is, row_is)

      entry_is : entry_at part j ≡ asked e
      entry_is = h.read j l ∙ ap asked (sym is)

      now_after : after st₁ (part_entries part (j + 1)) ≡ (played st (asked e)).state
      now_after = after_more part st₁ j ∙ rw (h.state, entry_is)

      note_now : note_of (after st₁ (part_entries part j)) (entry_at part j) ≡ note_of st (asked e)
      note_now = rw (h.state, entry_is)

      more_changes : change_count (notes st₁ (part_entries part (j + 1))) ≡ change_count (notes st₁ (part_entries part j)) + cond (not (same_tag st.x m.x)) 1 0
      more_changes =
          rw (notes_more part st₁ j, count_append, note_now, left_is)
          (ap (λ (k : ℕ). change_count (notes st₁ (part_entries part j)) + k) (change_counted st (asked e) ready_now))

      place_is : own.place ≡ (record_at st (seat st (asked e)).0).place
      place_is = rw (found, seat_is)

      taken : steps_by (record_at st (seat st (asked e)).0).place (asked e).kind m.outcome ≡ cond (turned_away m.outcome) 0 ahead
      taken = rw (counts, place_is) (steps_ahead_lem (record_at st (seat st (asked e)).0).place e.kind e.value m.outcome)

      note_is : note ≡ in_log (note_of st (asked e))
      note_is = says ∙ rw left_is (sym (note_written st (asked e) ready_now ahead (rw (← left_is) taken)))

      more : records_of (map in_log (notes st₁ (part_entries part j))) ++ record_of note ≡ records_of (map in_log (notes st₁ (part_entries part (j + 1))))
      more =
          rw (notes_more part st₁ j, map-append, records_more, note_is)
          (ap (λ (w : EntryNote). records_of (map in_log (notes st₁ (part_entries part j))) ++ record_of (in_log w)) (sym note_now))

      place : 12 * i + 12 ≡ 12 * (i + 1)
      place = omega arith

  -- seat and row are within the 16, and the count within its type
  pub seat_there : (e : Fields) (a : Process) → a ≡ seat_of st.n (record { 0 = e.process }) → a.0 < 16
  seat_there e a at = rw at (seat_within st (asked e) ready_now)

  pub row_there : (e : Fields) (a : Process) → a ≡ seat_of st.n (record { 0 = e.process })
      → (own : Record) → own ≡ record_at st a.0 → (q : Process) → q ≡ reached a own → q.0 < 16
  row_there e a at own found q row = rw (row, found, at) (reach_within st (asked e) ready_now)

  pub count_low : j < end → changes.0 < 4294967295
  count_low l =
      let most = count_most (notes st₁ (part_entries part j)) in
      let long = notes_length st₁ (part_entries part j) in
      let short = part_count part j in
      omega (arith, most, long, short, h.count, h.few, l)

  -- the log is as long as it was lent
  pub log_length_lem : length rest ≡ length rest₁
  log_length_lem = rw (h.log, length-append, written_so_far, length-drop) (omega (arith, h.room, h.within, h.place))
