use Rattle.std.proofs.Common.{refl, ◌∙◌}
use Rattle.writer.specs.Made.{first_made, sealed}
use Rattle.writer.proofs.Stores.{low_first_8}
use Rattle.writer.proofs.block.first_block.Goals as goal

pub returns : goal.returns
unfolding first_made sealed
returns c =
    rw (
      c.seal.ensures,
      c.copy_from_slice-3.ensures.after,
      c.copy_from_slice-2.ensures.after,
      c.copy_from_slice.ensures.after,
      c.to_le_bytes-3.ensures ∙ low_first_8 c.args.after,
      c.to_le_bytes-2.ensures ∙ low_first_8 c.args.start.v,
      c.to_le_bytes.ensures ∙ low_first_8 c.args.start.s,
    ) refl
