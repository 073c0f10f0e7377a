-- Nothing stands behind the last two bytes.
use Rattle.std.proofs.Common.{arith, ◌≡◌, ℕ, ◌≤◌, [], drop, length, refl, ◌∙◌}
use Rattle.std.proofs.Math.Seq.{drop-drop}
use Rattle.std.proofs.Math.ListN.{drop_of_length-le}
use Rattle.writer.proofs.block.seal.Goals as goal

pub returns : goal.returns
returns c =
    let block = c.args.block.now in
    let long : length block ≤ 512 = omega arith in
    let none : drop {A = ℕ} 2 (drop 510 block) ≡ [] = drop-drop 2 510 block ∙ drop_of_length-le block long in
    rw (c.copy_from_slice.ensures.after, c.to_le_bytes.ensures, none, c.check_of-check.ensures) refl
