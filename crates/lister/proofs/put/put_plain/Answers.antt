use Rattle.std.proofs.Common.{[], ◌∷◌}
use Rattle.text.specs.Lines.{field}
use Rattle.lister.proofs.Takers.{first_fits}
use Rattle.lister.proofs.put.put_plain.Goals as goal

pub letter-requires : goal.letter-requires
letter-requires g c = first_fits g.met.T.Taker.laws (c.args.letter ∷ 32 ∷ []) (field c.args.p 10) c.requires

pub returns : goal.returns
returns g c = g.met.T.Taker.laws.more _ _ _ (c.args.letter ∷ 32 ∷ []) (field c.args.p 10) c.letter.ensures c.number.ensures
