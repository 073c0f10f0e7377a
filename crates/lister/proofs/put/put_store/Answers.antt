use Rattle.std.proofs.Common.{[], ◌∷◌, ◌++◌}
use Rattle.text.specs.Lines.{field}
use Rattle.lister.proofs.Takers.{first_fits, then_fits}
use Rattle.lister.proofs.put.put_store.Goals as goal

pub letter-requires : goal.letter-requires
letter-requires g c = first_fits g.met.T.Taker.laws (83 ∷ 32 ∷ []) (field c.args.p 32 ++ field c.args.value 10) c.requires

pub number-requires : goal.number-requires
number-requires g c =
    let laws = g.met.T.Taker.laws in
    first_fits laws (field c.args.p 32) (field c.args.value 10) (then_fits laws (83 ∷ 32 ∷ []) _ c.letter.ensures c.requires)

pub number-requires-2 : goal.number-requires-2
number-requires-2 g c =
    let laws = g.met.T.Taker.laws in
    then_fits laws (field c.args.p 32) (field c.args.value 10) c.number.ensures (then_fits laws (83 ∷ 32 ∷ []) _ c.letter.ensures c.requires)

pub returns : goal.returns
returns g c =
    let laws = g.met.T.Taker.laws in
    laws.more _ _ _ (83 ∷ 32 ∷ []) _ c.letter.ensures (laws.more _ _ _ (field c.args.p 32) (field c.args.value 10) c.number.ensures c.number-2.ensures)
