-- Each turn of the inner loop is `turn_next`, and where that loop ends, one block more is done (`walk_next`).
use Rattle.std.proofs.Common.{◌≡◌, ◌+◌, ◌-◌, ◌/◌, ◌<◌, ◌≤◌, length, refl, ap, ◌∙◌, arith}
use Rattle.schedule.specs.File.{block_at}
use Rattle.schedule.specs.Direct.{used_part}
use Rattle.schedule.proofs.AcceptedFile.{accepted_length}
use Rattle.bench.proofs.Turn.{chunk_fields, turn_next, seat_there, row_there, count_low}
use Rattle.bench.proofs.Walk.{walk_start, walk_next, walk_end, block_start}
use Rattle.bench.proofs.entries.play_entries.Goals.{After-reached_row-reached}
use Rattle.bench.proofs.entries.play_entries.Goals as goal

pub loop-k-init : goal.loop-k-init
loop-k-init c = walk_start _ _ _ _ c.requires.0 c.requires.1 c.requires.2 c.requires.3

pub loop-bytes-init : goal.loop-bytes-init
loop-bytes-init c =
    let b = block_at c.args.file.now c.loop-k.k in
    let this : c.loop-k.k - 1 + 1 ≡ c.loop-k.k = omega (arith, c.loop-k.auto.k) in
    block_start c.loop-k.invariant (omega (arith, c.loop-k.auto.k, c.loop-k-test.true)) b (used_part b) (rw this) refl

-- the row that is reached is one of the 16
reach : (c : After-reached_row-reached) → c.reached_row-reached.result.0 < 16
reach c = row_there c.loop-bytes.invariant c.read_fields-entry.result _ c.seat-seat.ensures _ c.fresh-own.ensures _ c.reached_row-reached.ensures

pub bounds-records-seat : goal.bounds-records-seat
bounds-records-seat c = seat_there c.loop-bytes.invariant c.read_fields-entry.result _ c.seat-seat.ensures

pub bounds-records-seat-in-loop-bytes : goal.bounds-records-seat-in-loop-bytes
bounds-records-seat-in-loop-bytes c = seat_there c.loop-bytes.invariant c.read_fields-entry.result _ c.seat-seat.ensures

pub bounds-rows-reached : goal.bounds-rows-reached
bounds-rows-reached c = reach (goal.at.bounds-rows-reached c).After-reached_row-reached

pub offset_bounds-rows-reached : goal.offset_bounds-rows-reached
offset_bounds-rows-reached c = omega (arith, reach (goal.at.offset_bounds-rows-reached c).After-reached_row-reached)

pub bounds-rows-reached-in-loop-bytes : goal.bounds-rows-reached-in-loop-bytes
bounds-rows-reached-in-loop-bytes c = reach (goal.at.bounds-rows-reached-in-loop-bytes c).After-reached_row-reached

pub offset_bounds-rows-reached-in-loop-bytes : goal.offset_bounds-rows-reached-in-loop-bytes
offset_bounds-rows-reached-in-loop-bytes c = omega (arith, reach (goal.at.offset_bounds-rows-reached-in-loop-bytes c).After-reached_row-reached)

pub count-changes-requires : goal.count-changes-requires
count-changes-requires c =
    let part : c.used_entries.result.now ≡ used_part (block_at c.args.file.now c.loop-k.k) = c.used_entries.ensures ∙ ap used_part c.block_of.ensures in
    count_low c.loop-bytes.invariant (rw (← part) (omega (arith, c.loop-bytes-test.true, c.as_chunks.ensures.front_len)))

pub loop-bytes-preserved : goal.loop-bytes-preserved
loop-bytes-preserved c =
    let part : c.used_entries.result.now ≡ used_part (block_at c.args.file.now c.loop-k.k) = c.used_entries.ensures ∙ ap used_part c.block_of.ensures in
    let there : c.loop-bytes.bytes-index < length (used_part (block_at c.args.file.now c.loop-k.k)) / 12 =
    rw (← part) (omega (arith, c.loop-bytes-test.true, c.as_chunks.ensures.front_len)) in
    turn_next c.loop-bytes.invariant there
    _ (c.read_fields-entry.ensures ∙ chunk_fields _ _ _ _ (c.as_chunks.ensures.front ∙ rw part) there)
    _ c.seat-seat.ensures
    _ c.fresh-own.ensures
    _ c.steps_ahead-ahead.ensures
    _ c.reached_row-reached.ensures
    _ c.play_coded-left.ensures
    _ c.note_of-note.ensures
    _ c.count-changes.ensures
    _ c.write_record.ensures

pub loop-k-preserved : goal.loop-k-preserved
loop-k-preserved c =
    let b = block_at c.args.file.now c.loop-k.k in
    let part : c.used_entries.result.now ≡ used_part b = c.used_entries.ensures ∙ ap used_part c.block_of.ensures in
    let this : c.loop-k.k - 1 + 1 ≡ c.loop-k.k = omega (arith, c.loop-k.auto.k) in
    let next : c.loop-k.k + 1 - 1 ≡ c.loop-k.k - 1 + 1 = omega (arith, c.loop-k.auto.k) in
    let all : length (used_part b) / 12 ≤ c.loop-bytes.bytes-index = rw (← part) (omega (arith, c.loop-bytes-test.false, c.as_chunks.ensures.front_len)) in
    rw next
    (walk_next c.loop-k.invariant (omega (arith, c.loop-k.auto.k, c.loop-k-test.true)) b (used_part b) (rw this) refl c.loop-bytes.invariant all)

pub returns : goal.returns
returns c = walk_end c.loop-k.invariant (omega (arith, c.loop-k.auto.k-end, c.loop-k-test.false, (accepted_length _ c.requires.0).0))
