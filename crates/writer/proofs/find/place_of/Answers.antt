-- The search in what stands from the place on; behind the end the byte stands nowhere.
use Rattle.std.proofs.Common.{rules, tests, arith, ◌≡◌, ◌≤◌, length, drop, eqb, refl, ◌∙◌}
use Rattle.std.specs.List.{position}
use Rattle.std.proofs.lemmas.Iterator.{YieldsList-from_slice}
use Rattle.std.proofs.lemmas.Iterator.Search.{position_from_yields_List}
use Rattle.std.proofs.lemmas.Slice.{between_to_end}
use Rattle.writer.proofs.Places.{place_end, place_found, place_missed}
use Rattle.writer.proofs.find.place_of.Goals as goal
use Rattle.writer.proofs.find.place_of.Goals.{After-position}

pub returns-in_default : goal.returns-in_default
returns-in_default c =
    let out : length c.args.b.now ≤ c.args.at = omega (arith, c.in_default.ensures.lookup) in
    omega (arith, place_end c.args.c c.args.b.now c.args.at out)

-- what the search says of the rest
searched : (c : After-position) → c.position.result ≡ position (λ x. eqb x c.args.c) c.in-Some.rest.now
searched c = position_from_yields_List (λ x. eqb x c.args.c) _ _ c.position.result c.position.ensures.ran (YieldsList-from_slice c.in-Some.rest.now (cc)) (λ x b q k. search (rules, tests))

rest : (c : After-position) → c.in-Some.rest.now ≡ drop c.args.at c.args.b.now
rest c = c.in-Some.ensures.lookup.0.2 ∙ between_to_end c.args.b.now c.args.at (length c.args.b.now) (omega arith)

pub returns-in-Some-position : goal.returns-in-Some-position
returns-in-Some-position c =
    let d = (goal.at.returns-in-Some-position c).After-position in
    let e = place_found c.args.c c.in-Some.rest.now (searched d) c.in-Some-position.place c.in-Some-position.is in
    rw (← rest d, e) refl

pub returns-in-None : goal.returns-in-None
returns-in-None c =
    let d = (goal.at.returns-in-None c).After-position in
    let e = place_missed c.args.c c.in-Some.rest.now (searched d) c.in-None.is in
    rw (← rest d, e) (omega (arith, c.in-Some.ensures.lookup.0.3))
