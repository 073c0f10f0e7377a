-- The equality that the code's `==` computes of two tags is "X equals p's kept tag".
use mathlib.Core.Path.{◌≡◌, refl}
use Rattle.step.specs.Steps.{same_tag}
use Rattle.step.specs.Types.{Tag}
use Rattle.step.specs.contracts.TagPartialEq.TheImpl.{ghosts}

pub equal_tags : (a b : Tag) → ghosts.eq a b ≡ same_tag a b
equal_tags a b = refl
