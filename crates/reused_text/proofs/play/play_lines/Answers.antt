-- The loop keeps `Turn`: after j turns state, count and log are those of the run of the first j entries. Each turn is `turn_next`.
use Rattle.reused.proofs.PartsOfRun.{row_place}
use Rattle.reused_text.proofs.Turns.{turn_start, turn_next, turn_end, seat_there, search_there, answer_small, count_low}
use Rattle.reused_text.proofs.play.play_lines.Goals as goal

pub loop-j-init : goal.loop-j-init
loop-j-init c =
    let h = c.requires in
    turn_start _ _ _ _ h.ready h.form h.count h.room h.few

pub bounds-st-seat : goal.bounds-st-seat
bounds-st-seat c = seat_there c.loop-j.invariant c.next_entry.result.0 _ c.seat-seat.ensures

pub offset_bounds-st-own : goal.offset_bounds-st-own
offset_bounds-st-own c = row_place _ (search_there c.loop-j.invariant c.next_entry.result.0 _ c.seat-seat.ensures)

pub bounds-st-own : goal.bounds-st-own
bounds-st-own c = search_there c.loop-j.invariant c.next_entry.result.0 _ c.seat-seat.ensures

pub bounds-st-seat-in-loop-j : goal.bounds-st-seat-in-loop-j
bounds-st-seat-in-loop-j c = seat_there c.loop-j.invariant c.next_entry.result.0 _ c.seat-seat.ensures

pub note_of-note-requires : goal.note_of-note-requires
note_of-note-requires c = answer_small c.loop-j.invariant c.next_entry.result.0 _ c.seat-seat.ensures _ c.play-left.ensures

pub count-changes-requires : goal.count-changes-requires
count-changes-requires c = count_low c.loop-j.invariant c.loop-j-test.true

pub loop-j-preserved : goal.loop-j-preserved
loop-j-preserved c =
    turn_next c.loop-j.invariant c.loop-j-test.true
    _ _ c.next_entry.ensures.entry c.next_entry.ensures.form
    _ c.seat-seat.ensures
    _ c.play-left.ensures
    _ c.note_of-note.ensures
    _ c.count-changes.ensures
    _ c.write_record.ensures

pub returns : goal.returns
returns c = turn_end c.loop-j.invariant c.loop-j-test.false
