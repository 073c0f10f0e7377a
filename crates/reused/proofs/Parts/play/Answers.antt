-- What an entry is given is sound.
use Rattle.std.proofs.Common.{sym, ◌∙◌}
use Rattle.reused.proofs.PartsOfRun.{parts_given}
use Rattle.reused.proofs.Parts.play.Goals as goal

pub invariant_of-turn-2 : goal.invariant_of-turn-2
invariant_of-turn-2 c =
    let a = c.args in
    let given = parts_given a.n a.m a.self.x a.self.own a.self.looked (sym c.are_sound.ensures ∙ c.if-not-are_sound.false) in
    record { own_sound = given.1; looked_sound = given.2 }
