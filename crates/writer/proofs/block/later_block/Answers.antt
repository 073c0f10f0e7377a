use Rattle.std.proofs.Common.{arith, ◌≡◌, ℕ, ◌+◌, ◌-◌, ◌*◌, ◌++◌, length, take, replicate, refl, sym, ap, ◌∙◌, add-one, append_assoc}
use Rattle.std.proofs.Math.Seq.{length-take-le}
use Rattle.writer.specs.Made.{entries_made, later_front, later_made, sealed}
use Rattle.writer.specs.Parts.{entries_left}
use Rattle.writer.proofs.MadeBlock.{entries_made_length}
use Rattle.writer.proofs.Stores.{low_first_8, entry_put, made_next, part_filled}
use Rattle.writer.proofs.block.later_block.Goals as goal

pub loop-j-init : goal.loop-j-init
unfolding entries_made
loop-j-init c = record {
  form = c.requires.form;
  left = refl;
  same = rw (c.copy_from_slice.ensures.after, c.to_le_bytes.ensures ∙ low_first_8 c.args.k) refl;
}

pub loop-j-preserved : goal.loop-j-preserved
loop-j-preserved c =
    let es = entries_left c.args.lines.now in
    let j = c.loop-j.j in
    let inv = c.loop-j.invariant in
    let next = c.next_entry.ensures in
    let made = entries_made_length (take j es) ∙ ap (λ (n : ℕ). 12 * n) (length-take-le j es (omega (arith, c.requires.some, c.loop-j-test.true))) in
    let more = made_next es j c.next_entry.result.0 (entries_left c.next_entry.result.1.now) (sym inv.left ∙ next.entry) in
    record {
      form = next.form;
      left = rw add-one (sym more.1);
      same = rw (inv.same, c.copy_from_slice-in-loop-j.ensures.after, c.entry_bytes.ensures, add-one j, more.0)
          (entry_put c.args.k c.args.c (entries_made (take j es)) c.next_entry.result.0 j made (omega (arith, c.requires.few, c.loop-j-test.true)));
    }

pub returns-clause-block : goal.returns-clause-block
unfolding later_made sealed
returns-clause-block c =
    let k = c.args.k in
    let few = take c.args.c (entries_left c.args.lines.now) in
    let all : c.loop-j.j ≡ c.args.c = omega (arith, c.loop-j-test.false) in
    let count : length few ≡ c.args.c = length-take-le c.args.c (entries_left c.args.lines.now) c.requires.some in
    let first = later_front k c.args.c ++ entries_made few in
    let long : length first ≡ 4 + 12 * c.args.c = rw (entries_made_length few, count) (omega arith) in
    let block : c.loop-j.block ≡ first ++ replicate (508 - 12 * c.args.c) 0 =
    rw (c.loop-j.invariant.same, all) (sym (append_assoc (later_front k c.args.c) (entries_made few) (replicate (508 - 12 * c.args.c) 0))) in
    let part = ap (take 510) block ∙ part_filled first (508 - 12 * c.args.c) (omega (arith, long, c.requires.few)) (omega (arith, long)) in
    rw (c.seal.ensures, part, count) refl
