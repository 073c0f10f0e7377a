use Rattle.std.proofs.Common.{◌≡◌, ◌+◌, ◌-◌, ◌/◌, ◌++◌, length, ap, ◌∙◌, arith, length-append}
use Rattle.schedule.specs.File.{blocks_after, entries_to}
use Rattle.schedule.specs.Direct.{used_part, part_entries}
use Rattle.schedule.proofs.AcceptedFile.{accepted_length}
use Rattle.writer.specs.Made.{entry_lines}
use Rattle.lister.proofs.Sizes.{block_lines, file_grows}
use Rattle.lister.proofs.put.put_entries.Goals as goal

pub loop-k-init : goal.loop-k-init
unfolding entries_to entry_lines
loop-k-init g c = g.met.T.Taker.laws.none _

pub put_part-requires : goal.put_part-requires
put_part-requires g c =
    let f = c.args.file.now in
    let done = c.loop-k.k - 1 in
    let part = c.used_entries.result.now in
    let lines : entry_lines (entries_to f c.loop-k.k) ≡ entry_lines (entries_to f done) ++ entry_lines (part_entries part (length part / 12)) =
    block_lines f c.requires.0 c.loop-k.k c.loop-k.auto.k (omega arith) ∙ rw (c.used_entries.ensures ∙ ap used_part c.block_of.ensures) in
    let size : length (entry_lines (entries_to f c.loop-k.k)) ≡ length (entry_lines (entries_to f done)) + length (entry_lines (part_entries part (length part / 12))) =
    rw (lines, length-append) in
    let grown = file_grows f c.loop-k.k (blocks_after f) (omega arith) in
    g.met.T.Taker.laws.room _ _ (entry_lines (entries_to f done)) _ _ c.loop-k.invariant c.requires.1 (omega (arith, size, grown))

pub loop-k-preserved : goal.loop-k-preserved
loop-k-preserved g c =
    let f = c.args.file.now in
    let part = c.used_entries.result.now in
    let lines : entry_lines (entries_to f c.loop-k.k) ≡ entry_lines (entries_to f (c.loop-k.k - 1)) ++ entry_lines (part_entries part (length part / 12)) =
    block_lines f c.requires.0 c.loop-k.k c.loop-k.auto.k (omega arith) ∙ rw (c.used_entries.ensures ∙ ap used_part c.block_of.ensures) in
    let this : c.loop-k.k + 1 - 1 ≡ c.loop-k.k = omega arith in
    rw (this, lines) (g.met.T.Taker.laws.more _ _ _ _ _ c.loop-k.invariant c.put_part.ensures)

pub returns : goal.returns
returns g c =
    let f = c.args.file.now in
    let all : c.loop-k.k - 1 ≡ blocks_after f = omega (arith, c.loop-k-test.false, c.loop-k.auto.k-end, (accepted_length f c.requires.0).0) in
    rw (← all) c.loop-k.invariant
