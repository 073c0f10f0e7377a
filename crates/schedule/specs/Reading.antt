-- What a file says, and each of its blocks, in the numbers of documents 01 and 02.
use Rattle.std.specs.Prelude.{ℕ}

-- block 0: the number that refuses it, with the place of the first stray byte or 0, or N, S and V
pub data FirstBlock : Type 0 where
  FirstRefused : ℕ → ℕ → FirstBlock
  Start : ℕ → ℕ → ℕ → FirstBlock

-- a later block: the number that refuses it, or how many entries it has
pub data Block : Type 0 where
  BlockRefused : ℕ → Block
  Entries : ℕ → Block

-- a whole file: the number that refuses it, with the block where it was found and the place of the first stray byte or 0, or N, S, V and
-- how many entries it has
pub data Reading : Type 0 where
  Refused : ℕ → ℕ → ℕ → Reading
  Accepted : ℕ → ℕ → ℕ → ℕ → Reading
