-- What fits the bytes of an entry.
-- Assumes nothing.
use Prim.Native.Nat.{ℕ, ◌<◌}
use mathlib.Core.Path.{◌≡◌, refl}
use mathlib.Core.Bool.{Bool, true, false, cond}
use mathlib.Core.List.{List}
use native.Mathlib.Omega.{arith}
use lib.ListN.{get_or}
use Rattle.schedule.specs.File.{no_entry}
use Rattle.writer.specs.Types.{Entry}
use Rattle.writer.specs.Made.{kind_value}

-- an entry that fits its twelve bytes
pub record Small (e : Entry) : Type 0 where
  pub seat : e.process.0 < 256
  pub stored : kind_value e.kind < 18446744073709551616

-- where no entry stands
pub none_small : Small no_entry
none_small = record { seat = omega arith; stored = omega arith }

-- one of two entries, by a test
pub small_cond : (t : Bool) {e d : Entry} → Small e → (t ≡ false → Small d) → Small (cond t e d)
small_cond true h k = h
small_cond false h k = k refl

-- entries that all do
abbrev pub AllSmall : List Entry → Type 0
AllSmall es = (j : ℕ) → Small (get_or es j no_entry)
