-- What is told of a text in the documents' words: numbers, and 0 where nothing refuses.
use Rattle.std.specs.Prelude.{ℕ}

-- what came of a text: 0 or what turned it away, the line that 25 names, and how many entries were played
pub record Ran : Type 0 where
  pub number : ℕ
  pub line : ℕ
  pub entries : ℕ

-- what a text says: the number that refuses it and the line that 25 names, or where its further lines begin, how many entries they ask
-- for, N and M
pub record Scanned : Type 0 where
  pub number : ℕ
  pub line : ℕ
  pub from : ℕ
  pub entries : ℕ
  pub n : ℕ
  pub m : ℕ
