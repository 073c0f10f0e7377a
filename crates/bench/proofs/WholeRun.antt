-- The whole run of an accepted file: its start is ready, its count fits, and head, records and the rest of the log come together.
use Prim.Native.Nat.{ℕ, ◌+◌, ◌-◌, ◌*◌, ◌≤◌}
use mathlib.Core.Path.{◌≡◌, sym, ap, ◌∙◌}
use mathlib.Core.Bool.{true}
use mathlib.Core.List.{List, ◌++◌, map}
use native.Mathlib.Omega.{arith}
use lib.ListN.{length, take, drop, length-append, length-drop}
use lib.Seq.{drop_at, drop-drop, length-take-le}
use Rattle.numbers.specs.Numbers.{in_range}
use Rattle.numbers.proofs.First.{range_zero}
use Rattle.machine.specs.State.{StartGiven, first_state, start_of, started_as}
use Rattle.machine.specs.Frame.{Ready}
use Rattle.machine.specs.Run.{EntryNote, notes, change_count}
use Rattle.bench.specs.Types.{Started, Accepted, Played}
use Rattle.machine.proofs.RunLaws.{ready_start, notes_length, count_most}
use Rattle.schedule.specs.File.{file_entries, reading}
use Rattle.schedule.specs.Direct.{is_accepted}
use Rattle.schedule.proofs.AcceptedFile.{accepted_answer, accepted_bound, accepted_start}
use Rattle.run_log.specs.Log.{laid, head_of, records_of, log_length}
use Rattle.run_log.proofs.Laws.{head_length, laid_fits, laid_behind, tail_given, tail_back}
use Rattle.bench.specs.Play.{played_from, records_from}
use Rattle.bench.specs.Bench.{in_log}
use Rattle.bench.specs.Bench.{start_state, notes_of, last_state, written}

module _ (f : List ℕ) (n s v c : ℕ) (is : reading f ≡ Accepted n s v c) where
  pub accepted : is_accepted (reading f) ≡ true
  accepted = (accepted_answer f is).0

  pub entry_count : c ≡ length (file_entries f)
  entry_count = (accepted_answer f is).1.1.1.1

  pub few_entries : c ≤ 5334
  few_entries = rw entry_count (accepted_bound f accepted)

  -- block 0 was tried for the range that a start asks
  pub range : in_range n (record { 0 = s }) ≡ true
  range =
      let a = accepted_answer f is in
      rw (a.1.0, a.1.1.0) (accepted_start f accepted).0

  -- so the start is taken
  pub start_is : start_state n s v ≡ first_state n (record { 0 = s }) v
  unfolding start_of
  start_is = rw (start_state, range_zero n (record { 0 = s }) range)

  ready : Ready (start_state n s v)
  ready = rw start_is (ready_start n (record { 0 = s }) v range)

  -- what the records' writer is given
  module _ (started : Started) (begun : started_as started ≡ start_of n (record { 0 = s }) v) where
    began : started.state ≡ start_state n s v
    began = ap (λ (g : StartGiven). g.state) begun

    pub start_ready : Ready started.state
    start_ready = rw began ready

    -- the count stays within four bytes
    abbrev from : Played
    from = record { state = started.state; changes = record { 0 = 0 } }

    pub count_fits : (played : Played) → played ≡ played_from from (file_entries f) → played.changes.0 ≤ 5334
    unfolding played_from
    count_fits played goes =
        let most = count_most (notes started.state (file_entries f)) in
        let long = notes_length started.state (file_entries f) in
        rw goes (omega (arith, most, long, entry_count, few_entries))

    module _ (log : List ℕ) (room : log_length c ≤ length log) where
      -- the head that is laid first, before anything is counted: the log stays as long, and what is behind the head as it was
      pub first_room : (first : List ℕ) → first ≡ laid (head_of c 0 n) log → log_length c ≤ length first
      first_room first lays =
          rw (lays, laid_fits (head_of c 0 n) log (rw head_length (omega (arith, room))), length-append, length-drop, head_length) (omega (arith, room))

      -- and the log of the run stands over that head as over what the log held
      pub over_first : (first : List ℕ) → first ≡ laid (head_of c 0 n) log → written (notes_of f n s v) n first ≡ written (notes_of f n s v) n log
      over_first first lays =
          rw (lays, laid_behind (head_of c 0 n) log (log_length (length (notes_of f n s v))) (rw head_length (omega (arith, room))) (rw head_length (omega arith)))

      pub rest_there : 12 * length (file_entries f) ≤ length log - 12
      rest_there = omega (arith, room, entry_count)

      module _ (played : Played) (goes : played ≡ played_from from (file_entries f)) (back : List ℕ)
          (writes : back ≡ records_from from (file_entries f) (take (length log - 12) (drop 12 log))) where
        pub last_is : played.state ≡ last_state f n s v
        unfolding played_from last_state
        last_is = rw (goes, began)

        abbrev behind : List ℕ
        behind = records_of (map in_log (notes_of f n s v)) ++ drop (12 + 12 * length (file_entries f)) log

        records_there : take 12 log ++ (back ++ drop (length log - 12) (drop 12 log)) ≡ take 12 log ++ behind
        unfolding records_from notes_of
        records_there = tail_back log back 12 ∙ rw (writes, tail_given, drop-drop, began)

        front : length (take 12 log) ≡ 12
        front = length-take-le 12 log (omega (arith, room))

        pub log_is : (last : List ℕ) → last ≡ laid (head_of c played.changes.0 n) (take 12 log ++ (back ++ drop (length log - 12) (drop 12 log)))
            → last ≡ written (notes_of f n s v) n log
        unfolding played_from notes_of
        log_is last lays-last =
            lays-last
            ∙ rw records_there
            (laid_fits head (take 12 log ++ behind) (rw (length-append, front, head_length c played.changes.0 n) (omega arith))
            ∙ rw (head_length c played.changes.0 n, drop_at (take 12 log) behind 12 front) (rw (counted, count_is, long)))
          where
            head : List ℕ
            head = head_of c played.changes.0 n

            ws : List EntryNote
            ws = notes_of f n s v

            long : length ws ≡ length (file_entries f)
            long = notes_length (start_state n s v) (file_entries f)

            counted : c ≡ length ws
            counted = entry_count ∙ sym long

            none : 0 + change_count ws ≡ change_count ws
            none = omega arith

            count_is : played.changes.0 ≡ change_count ws
            count_is = rw (goes, began) none
