-- The word stands in the place of as many bytes of the part.
use Rattle.std.proofs.Common.{arith, ◌+◌, length, refl, sym, append_assoc, take, drop}
use lib.Seq.{sets-eq}
use borrow.Rule.Slice.PartMut.{Post-is}
use Rattle.text.proofs.put.put_word.Goals as goal

pub returns : goal.returns
returns c =
    let a = c.args in
    let end = a.at + length a.word.now in (
      refl,
      rw (c.copy_from_slice.ensures.after, Post-is a.at end a.out.now (omega arith), sets-eq a.word.now a.out.now a.at c.requires)
          (sym (append_assoc (take a.at a.out.now) a.word.now (drop end a.out.now))),
    )
