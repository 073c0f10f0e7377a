-- A piece more, of those that all have room; and all of them make the line.
use Rattle.std.proofs.Common.{arith}
use Rattle.std.proofs.lemmas.List.Folds.{length-flat_map-take}
use Rattle.text.specs.Pieces.{text_of_piece}
use Rattle.text.proofs.Fits.{pieces_fit}
use Rattle.text.proofs.Pieces.{no_piece, put_another, row_printed}
use Rattle.text.proofs.line.write_pieces.Goals as goal

pub put_piece-at-requires : goal.put_piece-at-requires
put_piece-at-requires c =
    let more = length-flat_map-take text_of_piece c.args.pieces.now c.loop-piece.piece-index no_piece c.loop-piece-test.true in
    omega (arith, more, pieces_fit c.args.pieces.now)

pub loop-piece-preserved : goal.loop-piece-preserved
loop-piece-preserved c =
    put_another c.args.pieces.now c.loop-piece.piece-index no_piece c.loop-piece-test.true c.loop-piece.invariant c.put_piece-at.ensures

pub returns-after-loop-piece : goal.returns-after-loop-piece
returns-after-loop-piece c =
    row_printed c.args.pieces.now c.loop-piece.piece-index c.args.out.now c.if-out-ge-ROOM.true (omega (arith, pieces_fit c.args.pieces.now)) c.loop-piece-test.false
    c.loop-piece.invariant
