-- The words that were passed are written.
use Rattle.std.proofs.Common.{take}
use Rattle.std.specs.Io.KnownBytes.{Appends}
use Rattle.filter.specs.Words.{joined}
use Rattle.filter.proofs.trouble.write_words.Given as goal

abbrev pub invariant-loop-word : goal.invariant-loop-word
invariant-loop-word g l = Appends (g.W.Write.contents l.initial.output) (g.W.Write.contents l.output) (joined (take l.word-index l.words))
