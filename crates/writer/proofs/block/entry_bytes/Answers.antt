use mathlib.Core.List.{append-nil}
use Rattle.std.proofs.Common.{refl}
use Rattle.writer.specs.Made.{entry_made}
use Rattle.writer.proofs.Stores.{low_first_8}
use Rattle.writer.proofs.block.entry_bytes.Goals as goal

pub returns : goal.returns
unfolding entry_made
returns c =
    let fields = c.kind_fields-kind.ensures in
    rw (append-nil, c.copy_from_slice.ensures.after, c.to_le_bytes.ensures, low_first_8, fields.byte, fields.value) refl
