use Rattle.std.proofs.Common.{rules, tests, ◌≡◌, sym}
use Rattle.std.specs.Char.{is_ascii_digit}
use Rattle.std.proofs.lemmas.Iterator.{YieldsList-from_slice}
use Rattle.std.proofs.lemmas.Iterator.Search.{all_from_yields_List}
use Rattle.writer.specs.Form.{all_digits}
use Rattle.writer.proofs.Digits.{digits_all}
use Rattle.writer.proofs.decimal.larger.Goals as goal
use Rattle.writer.proofs.decimal.larger.Goals.{After-all}

-- what the test of all tells
tested : (c : After-all) → all_digits c.args.rest.now ≡ c.all.result
tested c =
    rw digits_all
    (sym (all_from_yields_List is_ascii_digit _ _ c.all.result c.all.ensures.ran (YieldsList-from_slice c.args.rest.now (cc)) (λ x b q k. search (rules, tests))))

pub returns-then-all : goal.returns-then-all
returns-then-all c = rw (tested ((goal.at.returns-then-all c).After-all), c.if-all.true)

pub returns-else-all : goal.returns-else-all
returns-else-all c = rw (tested ((goal.at.returns-else-all c).After-all), c.if-all.false)
