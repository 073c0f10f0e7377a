-- Block 0 at the front, and the other blocks in the rest.
use Rattle.std.proofs.Common.{◌≡◌, length, ap, ◌∙◌}
use Rattle.writer.specs.Made.{first_made, blocks_for}
use Rattle.writer.specs.Parts.{entries_left}
use Rattle.writer.proofs.Packing.{parts_laid}
use Rattle.writer.proofs.file.write_file.Goals as goal

pub returns : goal.returns
returns c =
    let a = c.args in
    let es = entries_left a.lines.now in
    let start = a.start in
    let count = c.requires.count in
    let parts = rw c.unwrap.ensures at c.split_first_chunk_mut.ensures.cases in
    let blocks : c.block_count.result ≡ blocks_for (length es) = c.block_count.ensures ∙ ap blocks_for count in
    parts_laid start.n start.s start.v es a.out.now c.first_block.new.block c.write_later.new.rest (rw (← count) c.requires.room)
    (c.first_block.ensures ∙ ap (first_made start.n start.s start.v) blocks) (rw (← count, ← parts.1) c.write_later.ensures)
