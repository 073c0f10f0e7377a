-- What a shared register can hold.
use Rattle.std.specs.Prelude.{ℕ, ℤ}
use Rattle.step.specs.Types.{Tag}

-- X a tag; a slot and an old value a value; an old number an integer
pub data Content : Type 0 where
  a_tag : Tag → Content
  a_value : ℕ → Content
  a_number : ℤ → Content
