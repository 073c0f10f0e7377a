use Rattle.std.proofs.Common.{arith, ◌≡◌, ℕ, ◌+◌, ◌-◌, ◌*◌, ◌≤◌, ◌<◌, min, ◌++◌, length, take, drop, sym, ap, ◌∙◌, length-drop}
use Rattle.std.proofs.Math.Seq.{sets, length-sets}
use Rattle.writer.specs.Made.{later_made, packed}
use Rattle.writer.specs.Parts.{entries_left}
use Rattle.writer.proofs.Packing.{part_stored, share_taken, share_left, packed_step, share_length}
use Rattle.writer.proofs.file.write_later.Goals as goal

-- the bytes of the block at hand
room : (blocks k size : ℕ) → 512 * blocks ≤ size → k < blocks → 512 * k + 512 ≤ size
room blocks k size h l = omega (arith, h, l)

pub loop-k-preserved : goal.loop-k-preserved
loop-k-preserved c =
    let old = c.loop-k in
    let inv = old.invariant in
    let es = entries_left old.behind.now in
    let made = c.later_block-behind.ensures in
    let share : c.min-share.result ≡ min (length es) 42 = c.min-share.ensures ∙ rw inv.count in
    let taken : take c.min-share.result es ≡ take 42 es = rw share (share_taken es) in
    let left : drop c.min-share.result es ≡ drop 42 es = rw share (share_left es) in
    let fits : 512 * old.k + 512 ≤ length old.rest =
    room c.block_count-k-end.result old.k (length old.rest) (rw (c.block_count-k-end.ensures, inv.long) c.requires.room) c.loop-k-test.true in
    let bytes = later_made (old.k + 1) (take 42 es) in
    let wrote : c.later_block-behind.new.block ≡ bytes = made.block ∙ ap (later_made (old.k + 1)) taken in
    let size : 512 * old.k + 512 - 512 * old.k ≡ 512 = omega arith in
    let there = part_stored old.rest bytes (512 * old.k) (512 * old.k + 512) (omega arith) fits (share_length (old.k + 1) es ∙ sym size) in
    let stored : c.split_at_mut-part.result.0.now ++ (c.later_block-behind.new.block ++ drop 512 c.split_at_mut-part.result.1.now) ≡ sets old.rest (512 * old.k) bytes =
    rw (c.split_at_mut-part.ensures.front, c.split_at_mut-part.ensures.back, wrote) (rw size at there) in
    record {
      form = made.form;
      count = rw (made.left, length-drop, inv.count);
      long = rw stored (length-sets old.rest (512 * old.k) bytes) ∙ inv.long;
      same = inv.same ∙ packed_step old.rest old.k c.block_count-k-end.result es c.loop-k-test.true ∙ rw (← stored, ← left, ← made.left);
    }

pub returns : goal.returns
unfolding packed
returns c =
    let none : c.block_count-k-end.result - c.loop-k.k ≡ 0 = omega (arith, c.loop-k-test.false) in
    rw (← c.block_count-k-end.ensures) (sym (c.loop-k.invariant.same ∙ rw none))
