-- The loop keeps `Turn`: after j turns state, count and log are those of the run of the first j entries. Each turn is `turn_next`.
use Rattle.reused_text.proofs.Turns.{Turn}
use Rattle.reused_text.proofs.play.play_lines.Given as goal

abbrev pub invariant-loop-j : goal.invariant-loop-j
invariant-loop-j l = Turn l.lines l.fn.rest l.initial.st l.end l.n l.m l.rest l.st l.changes l.behind l.j
