-- The chain looks at each number below N.
use Rattle.std.proofs.Common.{rules, ◌∙◌}
use Rattle.std.proofs.lemmas.Iterator.{YieldsList-from_range}
use Rattle.std.proofs.lemmas.Iterator.Search.{all_from_yields_List}
use borrow.Author.Tests.{tests}
use mathlib.Core.Path.{refl}
use native.Mathlib.Omega.{arith}
use Rattle.machine.specs.State.{sound_process}
use Rattle.machine.proofs.Tests.{all_of_range}
use Rattle.machine.proofs.State.processes_are_sound.Goals as goal

pub returns : goal.returns
returns c =
    let test = sound_process c.args.self in
    all_from_yields_List test _ _ c.all.result c.all.ensures.ran (YieldsList-from_range 0 c.args.self.n c.args.self.n refl (omega arith))
    (λ x b q k. search (rules, tests))
    ∙ all_of_range c.args.self.n test
