use Rattle.std.proofs.Common.{[], ◌∷◌, ◌++◌, length}
use Rattle.text.specs.Lines.{field}
use Rattle.writer.specs.Made.{start_line}
use Rattle.lister.proofs.Takers.{first_fits, then_fits}
use Rattle.lister.proofs.put.put_start.Goals as goal

pub letter-requires : goal.letter-requires
unfolding start_line
letter-requires g c = first_fits g.met.T.Taker.laws (72 ∷ 32 ∷ []) (field c.args.start.n 32 ++ (field c.args.start.s 32 ++ field c.args.start.v 10)) c.requires

pub number-requires : goal.number-requires
unfolding start_line
number-requires g c =
    let laws = g.met.T.Taker.laws in
    let fits : g.T.Taker.fits c.letter.new.self (length (field c.from.result 32)) =
    rw c.from.ensures (first_fits laws (field c.args.start.n 32) (field c.args.start.s 32 ++ field c.args.start.v 10) (then_fits laws (72 ∷ 32 ∷ []) _ c.letter.ensures c.requires)) in
    fits

pub number-requires-2 : goal.number-requires-2
unfolding start_line
number-requires-2 g c =
    let laws = g.met.T.Taker.laws in
    first_fits laws (field c.args.start.s 32) (field c.args.start.v 10)
    (then_fits laws (field c.args.start.n 32) _ (rw c.from.ensures at c.number.ensures) (then_fits laws (72 ∷ 32 ∷ []) _ c.letter.ensures c.requires))

pub number-requires-3 : goal.number-requires-3
unfolding start_line
number-requires-3 g c =
    let laws = g.met.T.Taker.laws in
    then_fits laws (field c.args.start.s 32) (field c.args.start.v 10) c.number-2.ensures
    (then_fits laws (field c.args.start.n 32) _ (rw c.from.ensures at c.number.ensures) (then_fits laws (72 ∷ 32 ∷ []) _ c.letter.ensures c.requires))

pub returns : goal.returns
unfolding start_line
returns g c =
    let laws = g.met.T.Taker.laws in
    laws.more _ _ _ (72 ∷ 32 ∷ []) _ c.letter.ensures
    (laws.more _ _ _ (field c.args.start.n 32) _ (rw c.from.ensures at c.number.ensures) (laws.more _ _ _ (field c.args.start.s 32) (field c.args.start.v 10) c.number-2.ensures c.number-3.ensures))
