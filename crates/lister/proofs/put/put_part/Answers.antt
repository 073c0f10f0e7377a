use Rattle.std.proofs.Common.{◌≡◌, ◌+◌, ◌/◌, length, arith, length-append}
use Rattle.schedule.specs.Direct.{part_entries}
use Rattle.writer.specs.Made.{entry_line, entry_lines}
use Rattle.lister.proofs.Sizes.{part_lines, part_grows}
use Rattle.lister.proofs.put.put_part.Goals as goal

pub loop-j-init : goal.loop-j-init
unfolding part_entries entry_lines
loop-j-init g c = g.met.T.Taker.laws.none _

pub put_entry-requires : goal.put_entry-requires
put_entry-requires g c =
    let part = c.args.part.now in
    let j = c.loop-j.j in
    let size : length (entry_lines (part_entries part (j + 1))) ≡ length (entry_lines (part_entries part j)) + length (entry_line c.entry_at.result) =
    rw (part_lines part j, length-append, c.entry_at.ensures.0) in
    let grown = part_grows part (j + 1) (length part / 12) (omega arith) in (
      g.met.T.Taker.laws.room _ _ (entry_lines (part_entries part j)) _ _ c.loop-j.invariant c.requires (omega (arith, size, grown)),
      c.entry_at.ensures.1,
    )

pub loop-j-preserved : goal.loop-j-preserved
loop-j-preserved g c =
    rw (part_lines c.args.part.now c.loop-j.j, ← c.entry_at.ensures.0)
    (g.met.T.Taker.laws.more _ _ _ _ _ c.loop-j.invariant c.put_entry.ensures)
