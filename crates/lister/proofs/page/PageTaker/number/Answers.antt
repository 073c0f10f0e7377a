use Rattle.std.proofs.Common.{refl}
use Rattle.text.specs.Lines.{field}
use Rattle.lister.proofs.Pieces.{stored_piece}
use Rattle.lister.proofs.page.PageTaker.number.Goals as goal

pub returns : goal.returns
returns c =
    let put = stored_piece (field c.args.n c.args.end) _ _ c.requires c.write_field-self.ensures in
    record { place = put.place; bytes = put.bytes; lent = refl }
