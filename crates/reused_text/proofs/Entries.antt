-- One entry of a run: the row that it is given, what it leaves, and its record.
-- Assumes nothing.
use Prim.Native.Nat.{ℕ, ◌≤◌, ◌<◌}
use mathlib.Core.Path.{◌≡◌, refl, sym, ap, ◌∙◌}
use mathlib.Core.Bool.{Bool, true, false, cond, not, and-eq-true_iff}
use mathlib.Core.List.{List, [], ◌∷◌}
use native.Mathlib.Omega.{arith}
use borrow.Author.Tests.{ltb-true}
use lib.Dec.{ltb}
use lib.Seq.{set-get_or}
use Rattle.writer.specs.Form as p1
use Rattle.writer.proofs.Within.{entry_small}
use Rattle.reused.specs.Steps.{same_triple, all_equal, stored_of, told_of, step_at, idle, goes_on, answered, at, first_place}
use Rattle.reused.specs.State.{row_at, sound_point, sound_kept}
use Rattle.reused.specs.Called.{with_entry, answer_with, looked_at, parts_after}
use Rattle.reused.specs.Parts.{played_parts}
use Rattle.reused.specs.Frame.{Ready}
use Rattle.reused.specs.Run.{played, note_of, steps_by, change_count}
use Rattle.reused.proofs.Soundness.{sure, sizes}
use Rattle.reused.proofs.RunLaws.{played_ready}
use Rattle.reused.proofs.PartsOfRun.{parts_sound, called_by_parts}
use Rattle.reused_text.specs.Types.{Process, Triple, Option, Own, None, Some, Place, Idle, Load1, Load2, Load3, Store1, Store2, Check1, Kind, Ask, Step, Outcome, Stepped, State, Entry, Note, NotDone, Yes, No, NoProcess, CallOpen, Taken, Requested, Answer, Announced}
use Rattle.reused_text.specs.Form.{line_fine, entry_in}
use Rattle.reused_text.specs.Parts.{bit_entry_in, bit_line_of}
use Rattle.reused_text.specs.Played.{bit_number, in_log, seat_of, record_from}

-- what is read of a line that is in the form
pub bit_line_read : (line : List ℕ) → line_fine line ≡ true → bit_line_of line ≡ Some (bit_entry_in line)
unfolding bit_line_of
bit_line_read line h = rw h

-- the process of an entry fits its byte
pub entry_seat : (line : List ℕ) → (entry_in (p1.entry_in line)).process.0 < 256
entry_seat line = (entry_small line).seat

-- The seat of an entry is a process that is there, and what the entry leaves of its row, put back, is the state after it.
abbrev pub seat : State → Entry → Process
seat st e = seat_of st.n e.process

module _ (st : State) (e : Entry) (h : Ready st) where
  abbrev pub left : Stepped
  left = played_parts st.n st.m e.process st.x (row_at st (seat st e).0) (looked_at st (row_at st (seat st e).0)) e.kind

  pub seat_below : (seat st e).0 < st.n
  seat_below = go (ltb e.process.0 st.n) refl
    where
      go : (b : Bool) → ltb e.process.0 st.n ≡ b → (cond {A = Process} b e.process (record { 0 = 0 })).0 < st.n
      go true t = ltb-true e.process.0 st.n t
      go false t = omega (arith, (sizes (sure h)).some)

  pub seat_within : (seat st e).0 < 16
  seat_within = omega (arith, seat_below, (sizes (sure h)).few)

  pub search_within : (row_at st (seat st e).0).search.0 < 16
  search_within = omega (arith, ((sure h).each (seat st e).0 seat_below).search, (sizes (sure h)).few)

  pub played_by_seat : played st e ≡ answer_with st (seat st e) left
  unfolding played_parts
  played_by_seat = go (ltb e.process.0 st.n) refl
    where
      spot : Bool → Process
      spot b = cond b e.process (record { 0 = 0 })

      go : (b : Bool) → ltb e.process.0 st.n ≡ b
          → played st e ≡ answer_with st (spot b) (played_parts st.n st.m e.process st.x (row_at st (spot b).0) (looked_at st (row_at st (spot b).0)) e.kind)
      go true t = called_by_parts st e.process e.kind h (ltb-true e.process.0 st.n t)
      go false t = played_ready st e h ∙ rw (t, parts_sound st (record { 0 = 0 }) (sure h) (omega (arith, (sizes (sure h)).some)), set-get_or)

  pub state_left : (played st e).state ≡ with_entry st (seat st e) left
  state_left = ap (λ (a : Answer). a.state) played_by_seat

  -- where the process is not there, no steps are counted whatever the place
  steps_same : (b : Bool) (kind : Kind) → ltb e.process.0 st.n ≡ b
      → steps_by (row_at st (cond {A = Process} b e.process (record { 0 = 0 })).0).place kind (played st (record { process = e.process; kind = kind })).outcome
      ≡ steps_by (row_at st e.process.0).place kind (played st (record { process = e.process; kind = kind })).outcome
  steps_same true kind t = refl
  steps_same false (Ask request) t = refl
  steps_same false Step t = rw (played_ready st (record { process = e.process; kind = Step }) h, t)

  pub note_written : in_log (note_of st e) ≡ record_from e.process.0 e.kind (row_at st (seat st e).0).place left.outcome
  note_written =
      ap (λ (k : ℕ). counted k (played st e).outcome) (sym (steps_same (ltb e.process.0 st.n) e.kind refl))
      ∙ ap (λ (a : Answer). record_from e.process.0 e.kind (row_at st (seat st e).0).place a.outcome) played_by_seat
    where
      counted : ℕ → Outcome → Note
      counted steps outcome =
          record {
            outcome = (told_of outcome).number;
            process = e.process.0;
            steps = steps;
            mark = (told_of outcome).value.process.0;
            value = bit_number (told_of outcome).value.bit;
          }

  pub change_counted : change_count (note_of st e ∷ []) ≡ cond (not (same_triple st.x left.x)) 1 0
  unfolding change_count
  change_counted = ap (λ (after : State). cond (not (same_triple st.x after.x)) 1 0) state_left

-- A load's answer names a process that is there; any other outcome names 0.
module _ (n m : ℕ) (some : 1 ≤ n) where
  kept_below : (old : Option Triple) → sound_kept n m old ≡ true → (stored_of old).process.0 < n
  kept_below None e = some
  kept_below (Some w) e = ltb-true w.process.0 n ((and-eq-true_iff (sound_point m w.tag) (ltb w.process.0 n)).0 e).1

  module _ (p : Process) (x : Triple) (own : Own) (looked : Option Announced) (e : sound_kept n m own.old ≡ true) where
    answer_below : (place : Place) → (told_of (step_at n m p x own looked place).outcome).value.process.0 < n
    answer_below Idle = some
    answer_below Load1 = some
    answer_below Load2 = some
    answer_below Load3 = kept_below own.old e
    answer_below (Store1 bit) = go (all_equal x own)
      where
        go : (t : Bool)
            → (told_of (cond {A = Stepped} t (goes_on (record { tag = own.tag; process = p; bit = bit }) (at own Store2)) (answered x own NotDone)).outcome).value.process.0 < n
        go true = some
        go false = some
    answer_below Store2 = some
    answer_below Check1 = go (all_equal x own)
      where
        go : (t : Bool) → (told_of (cond t Yes No)).value.process.0 < n
        go true = some
        go false = some

    asked_below : (kind : Kind) → (told_of (parts_after n m p x own looked kind).outcome).value.process.0 < n
    asked_below Step = answer_below own.place
    asked_below (Ask request) = go (idle own.place)
      where
        go : (t : Bool) → (told_of (cond {A = Requested} t (record { own = at own (first_place request); outcome = Taken }) (record { own = own; outcome = CallOpen })).outcome).value.process.0 < n
        go true = some
        go false = some

pub stored_small : (st : State) (e : Entry) → (h : Ready st) → (told_of (left st e h).outcome).value.process.0 < 256
unfolding played_parts
stored_small st e h =
    rw (parts_sound st (seat st e) (sure h) (seat_below st e h)) (go (ltb e.process.0 st.n))
  where
    own : Own
    own = row_at st (seat st e).0

    some : 1 ≤ st.n
    some = (sizes (sure h)).some

    go : (t : Bool) → (told_of (cond {A = Stepped} t (parts_after st.n st.m e.process st.x own (looked_at st own) e.kind) (record { x = st.x; own = own; outcome = NoProcess })).outcome).value.process.0 < 256
    go true =
        let below = asked_below st.n st.m some e.process st.x own (looked_at st own) ((sure h).each (seat st e).0 (seat_below st e h)).old e.kind in
        omega (arith, below, (sizes (sure h)).few)
    go false = omega arith
