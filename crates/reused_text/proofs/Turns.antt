-- One turn of the loop over a text's entries: what the loop keeps, and why a turn keeps it.
-- Assumes nothing.
use Prim.Native.Nat.{ℕ, zero, suc, ◌+◌, ◌-◌, ◌*◌, ◌≤◌, ◌<◌}
use mathlib.Core.Path.{◌≡◌, refl, sym, ap, ◌∙◌}
use mathlib.Core.Bool.{cond, not}
use mathlib.Core.List.{List, [], ◌∷◌, ◌++◌, map, map-append}
use native.Mathlib.Numerals.{add-one}
use native.Mathlib.Omega.{arith}
use lib.ListN.{length, take, drop, length-append, length-drop, length-map}
use lib.Seq.{length-take-le, take-length}
use Rattle.run_log.specs.Log.{laid, record_of, records_of}
use Rattle.run_log.proofs.Laws.{record_length, records_length, records_more, grown}
use Rattle.reused.specs.Steps.{same_triple, told_of}
use Rattle.reused.specs.State.{row_at}
use Rattle.reused.specs.Called.{looked_at, with_entry}
use Rattle.reused.specs.Parts.{played_parts}
use Rattle.reused.specs.Frame.{Ready}
use Rattle.reused.specs.Run.{played, note_of, notes, after, change_count}
use Rattle.reused.proofs.RunLaws.{ready_after, after_append, notes_append, count_append, size_kept, notes_length, count_most}
use Rattle.reused_text.specs.Types.{Process, Version, State, Entry, Stepped, Note}
use Rattle.writer.specs.Parts.{InForm}
use Rattle.reused_text.specs.Form.{line_fine}
use Rattle.reused_text.specs.Parts.{bit_entries_left}
use Rattle.reused_text.specs.Played.{in_log, seat_of, record_from, changes_from, records_from}
use Rattle.reused_text.proofs.Entries.{seat, left, state_left, note_written, change_counted, seat_within, search_within, stored_small}

-- one more of a list's elements
taken_next : {A : Type 0} (l : List A) (j : ℕ) (e : A) (more : List A) → drop j l ≡ e ∷ more
    → (take (suc j) l ≡ take j l ++ (e ∷ [])) × (drop (suc j) l ≡ more)
taken_next [] zero e more h = absurd (omega (arith, ap length h))
taken_next [] (suc j) e more h = absurd (omega (arith, ap length h))
taken_next (x ∷ l) zero e more h = (ap (take 1) h, ap (drop 1) h)
taken_next (x ∷ l) (suc j) e more h =
    let rest = taken_next l j e more h in
    (ap (λ xs. x ∷ xs) rest.0, rest.1)

-- What the loop keeps: after j turns it stands where the run of the first j entries does, and at the line of the next one.
pub record Turn (lines : List ℕ) (rest₀ : List ℕ) (st₀ : State) (end n m : ℕ) (rest : List ℕ) (st : State) (changes : Version) (behind : List ℕ) (j : ℕ) : Type 0 where
  pub within : j ≤ end
  pub size : st₀.n ≡ n
  pub round : st₀.m ≡ m
  pub ready : Ready st₀
  pub long : end ≡ length (bit_entries_left lines)
  pub room : 12 * end ≤ length rest₀
  pub few : end ≤ 4294967295
  pub form : InForm line_fine behind
  pub coming : drop j (bit_entries_left lines) ≡ bit_entries_left behind
  pub state : st ≡ after st₀ (take j (bit_entries_left lines))
  pub count : changes.0 ≡ change_count (notes st₀ (take j (bit_entries_left lines)))
  pub log : rest ≡ records_of (map in_log (notes st₀ (take j (bit_entries_left lines)))) ++ drop (12 * j) rest₀

pub turn_start : (lines : List ℕ) (rest₀ : List ℕ) (st₀ : State) (end : ℕ) → Ready st₀ → InForm line_fine lines
    → end ≡ length (bit_entries_left lines) → 12 * end ≤ length rest₀ → end ≤ 4294967295
    → Turn lines rest₀ st₀ end st₀.n st₀.m rest₀ st₀ (record { 0 = 0 }) lines 0
unfolding after notes change_count records_of
turn_start lines rest₀ st₀ end h form long room few =
    record {
      within = omega arith;
      size = refl;
      round = refl;
      ready = h;
      long = long;
      room = room;
      few = few;
      form = form;
      coming = refl;
      state = refl;
      count = refl;
      log = refl;
    }

module _ {lines : List ℕ} {rest₀ : List ℕ} {st₀ : State} {end n m : ℕ} {rest : List ℕ} {st : State} {changes : Version} {behind : List ℕ} {j : ℕ}
    (h : Turn lines rest₀ st₀ end n m rest st changes behind j) where
  abbrev es : List Entry
  es = bit_entries_left lines

  ready_now : Ready st
  ready_now = rw h.state (ready_after st₀ (take j es) h.ready)

  size_now : st.n ≡ n
  size_now = rw h.state ((size_kept st₀ (take j es)).0 ∙ h.size)

  round_now : st.m ≡ m
  round_now = rw h.state ((size_kept st₀ (take j es)).1 ∙ h.round)

  taken_count : length (take j es) ≡ j
  taken_count = length-take-le j es (omega (arith, h.within, h.long))

  records_so_far : length (records_of (map in_log (notes st₀ (take j es)))) ≡ 12 * j
  records_so_far = rw (records_length, length-map, notes_length, taken_count)

  -- the run of one entry more
  after_more : (done : List Entry) (e : Entry) {fs : List Entry} → fs ≡ done ++ (e ∷ []) → after st₀ fs ≡ (played (after st₀ done) e).state
  unfolding after
  after_more done e is = rw is (after_append st₀ done (e ∷ []))

  notes_more : (done : List Entry) (e : Entry) {fs : List Entry} → fs ≡ done ++ (e ∷ []) → notes st₀ fs ≡ notes st₀ done ++ (note_of (after st₀ done) e ∷ [])
  unfolding notes
  notes_more done e is = rw is (notes_append st₀ done (e ∷ []))

  -- there is an entry to come
  pub some_coming : j < end → 0 < length (bit_entries_left behind)
  some_coming l = rw (← h.coming, length-drop) (omega (arith, h.long, l))

  -- The turn itself, said of what the loop's calls gave: the entry and the lines behind it, its seat, what it left, its record, the
  -- count, the log.
  pub turn_next : j < end
      → (e : Entry) (behind' : List ℕ) → bit_entries_left behind ≡ e ∷ bit_entries_left behind' → InForm line_fine behind'
      → (i : Process) → i ≡ seat_of n e.process
      → (r : Stepped) → r ≡ played_parts n m e.process st.x (row_at st i.0) (looked_at st (row_at st i.0)) e.kind
      → (note : Note) → note ≡ record_from e.process.0 e.kind (row_at st i.0).place r.outcome
      → (changes' : Version) → changes'.0 ≡ changes.0 + cond (not (same_triple st.x r.x)) 1 0
      → (back : List ℕ) → back ≡ laid (record_of note) (take (length rest - 12 * j) (drop (12 * j) rest))
      → Turn lines rest₀ st₀ end n m (take (12 * j) rest ++ (back ++ drop (length rest - 12 * j) (drop (12 * j) rest))) (with_entry st i r) changes' behind' (j + 1)
  turn_next l e behind' next form' i at r goes note says changes' counts back laid' =
      record {
        within = omega (arith, l);
        size = h.size;
        round = h.round;
        ready = h.ready;
        long = h.long;
        room = h.room;
        few = h.few;
        form = form';
        coming = rw (add-one j) two.1;
        state = rw (left_is, seat_is) (sym (now_after ∙ state_left st e ready_now));
        count = omega (arith, counts, h.count, total);
        log = grown done (record_of note) rest₀ rest back (12 * j) records_so_far (omega (arith, record_length note, h.room, l)) h.log laid' ∙ rw (record_length note, spot, more);
      }
    where
      two : (take (suc j) es ≡ take j es ++ (e ∷ [])) × (drop (suc j) es ≡ bit_entries_left behind')
      two = taken_next es j e (bit_entries_left behind') (h.coming ∙ next)

      seat_is : i ≡ seat st e
      seat_is = rw size_now at

      left_is : r ≡ left st e ready_now
      left_is = cc (goes, size_now, round_now, seat_is)

      done : List ℕ
      done = records_of (map in_log (notes st₀ (take j es)))

      now_after : after st₀ (take (j + 1) es) ≡ (played st e).state
      now_after = rw h.state (after_more (take j es) e (rw (add-one j) two.0))

      notes_now : notes st₀ (take (j + 1) es) ≡ notes st₀ (take j es) ++ (note_of st e ∷ [])
      notes_now = rw h.state (notes_more (take j es) e (rw (add-one j) two.0))

      total : change_count (notes st₀ (take (j + 1) es)) ≡ change_count (notes st₀ (take j es)) + cond (not (same_triple st.x r.x)) 1 0
      total =
          rw (notes_now, count_append, left_is)
          (ap (λ (k : ℕ). change_count (notes st₀ (take j es)) + k) (change_counted st e ready_now))

      note_is : note ≡ in_log (note_of st e)
      note_is = cc (says, note_written st e ready_now, seat_is, left_is)

      more : done ++ record_of note ≡ records_of (map in_log (notes st₀ (take (j + 1) es)))
      more = rw (notes_now, map-append, records_more, note_is)

      spot : 12 * j + 12 ≡ 12 * (j + 1)
      spot = omega arith

  -- seat and search place are within the 16, the answer's process within its byte, and the count within its type
  pub seat_there : (e : Entry) (i : Process) → i ≡ seat_of n e.process → i.0 < 16
  seat_there e i at = rw (at, ← size_now) (seat_within st e ready_now)

  pub search_there : (e : Entry) (i : Process) → i ≡ seat_of n e.process → (row_at st i.0).search.0 < 16
  search_there e i at = rw (at, ← size_now) (search_within st e ready_now)

  pub answer_small : (e : Entry) (i : Process) → i ≡ seat_of n e.process
      → (r : Stepped) → r ≡ played_parts n m e.process st.x (row_at st i.0) (looked_at st (row_at st i.0)) e.kind
      → (told_of r.outcome).value.process.0 < 256
  answer_small e i at r goes = rw (goes, at, ← size_now, ← round_now) (stored_small st e ready_now)

  pub count_low : j < end → changes.0 < 4294967295
  count_low l = omega (arith, count_most (notes st₀ (take j es)), notes_length st₀ (take j es), taken_count, h.count, h.few, l)

  -- the log is as long as it was lent
  pub log_length_lem : length rest ≡ length rest₀
  log_length_lem = rw (h.log, length-append, records_so_far, length-drop) (omega (arith, h.room, h.within))

  -- after the last turn
  pub turn_end : end ≤ j → (changes ≡ changes_from st₀ es) × (rest ≡ records_from st₀ es rest₀)
  unfolding changes_from records_from
  turn_end l = (λ k. record { 0 = counted k }, rw h.log (ap (λ (ls : List Entry). records_of (map in_log (notes st₀ ls)) ++ drop (12 * j) rest₀) all ∙ ap (λ (k : ℕ). records_of (map in_log (notes st₀ es)) ++ drop (12 * k) rest₀) top))
    where
      top : j ≡ length es
      top = omega (arith, h.within, h.long, l)

      all : take j es ≡ es
      all = ap (λ (k : ℕ). take k es) top ∙ take-length es

      counted : changes.0 ≡ change_count (notes st₀ es)
      counted = h.count ∙ ap (λ (ls : List Entry). change_count (notes st₀ ls)) all
