-- The start is ready, so the entries can be played; head, records and what lies past them make the log.
use Rattle.std.proofs.Common.{arith, ◌∙◌}
use Rattle.reused_text.specs.Parts.{told_as}
use Rattle.writer.proofs.Further.{part_from}
use Rattle.reused_text.proofs.Wholes.{told_small, told_begins, told_room, over_first, lines_given, log_done}
use Rattle.reused_text.proofs.whole.run_entries.Goals as goal

pub overflow_cast-few : goal.overflow_cast-few
overflow_cast-few c = omega (arith, (told_small c.args.text.now c.requires.0 (told_as c.args.told) c.requires.1).0)

pub overflow_cast-count : goal.overflow_cast-count
overflow_cast-count c = omega (arith, (told_small c.args.text.now c.requires.0 (told_as c.args.told) c.requires.1).1)

pub slice_bounds-play_lines-count : goal.slice_bounds-play_lines-count
slice_bounds-play_lines-count c = told_begins c.args.text.now c.requires.0 (told_as c.args.told) c.requires.1

pub slice_bounds-play_lines-start : goal.slice_bounds-play_lines-start
slice_bounds-play_lines-start c = told_begins c.args.text.now c.requires.0 (told_as c.args.told) c.requires.1

pub play_lines-changes-requires : goal.play_lines-changes-requires
play_lines-changes-requires c =
    let all = part_from c.args.text.now c.args.told.from in
    let room = told_room c.args.text.now c.requires.0 (told_as c.args.told) c.requires.1 _ c.start-started.ensures _ c.requires.2 _ c.lay_head.ensures in
    let given = lines_given c.args.text.now c.requires.0 (told_as c.args.told) c.requires.1 _ c.start-started.ensures _ room in
    record { ready = given.0; form = rw all given.1; count = rw all given.2; room = given.3; few = given.4 }

pub returns : goal.returns
returns c =
    let all = part_from c.args.text.now c.args.told.from in
    let room = told_room c.args.text.now c.requires.0 (told_as c.args.told) c.requires.1 _ c.start-started.ensures _ c.requires.2 _ c.lay_head.ensures in
    log_done c.args.text.now c.requires.0 (told_as c.args.told) c.requires.1 _ c.start-started.ensures _ room
    _ (rw (← all) c.play_lines-changes.ensures.0) _ (rw (← all) c.play_lines-changes.ensures.1) _ c.lay_head-2.ensures
    ∙ over_first c.args.text.now c.requires.0 (told_as c.args.told) c.requires.1 _ c.start-started.ensures _ c.requires.2 _ c.lay_head.ensures
