-- The words that were passed stand at the front.
use Rattle.std.proofs.Common.{length, ◌≤◌, ◌≡◌, take}
use Rattle.filter.specs.Words.{joined}
use Rattle.filter.proofs.trouble.lay_words.Given as goal

abbrev pub invariant-loop-word : goal.invariant-loop-word
invariant-loop-word l =
    (length l.line ≡ length l.initial.line) × (l.at ≤ length l.line) × (take l.at l.line ≡ joined (take l.word-index l.words))
