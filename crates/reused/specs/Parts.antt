-- An entry over the parts that it can reach, for a run that keeps the state itself: `called_by_parts` in proofs/ says that on a sound
-- state it is the entry. By themselves the parts may be anything, so they are tested too.
use Rattle.std.specs.Prelude.{ℕ, Bool, ◌&&◌, cond, ltb}
use Rattle.reused.specs.Types.{Process, Triple, Option, Own, Kind, Stepped, NoProcess, Unsound, Announced}
use Rattle.reused.specs.Steps.{as_was}
use Rattle.reused.specs.State.{sound_sizes, sound_triple, sound_named, sound_row}
use Rattle.reused.specs.Called.{parts_after}

unfoldable pub sound_parts : ℕ → ℕ → Triple → Own → Option Announced → Bool
sound_parts n m x own looked = sound_sizes n m && (sound_triple n m x && (sound_row n m own && sound_named n m looked))

unfoldable pub played_parts : ℕ → ℕ → Process → Triple → Own → Option Announced → Kind → Stepped
played_parts n m p x own looked kind =
    cond (sound_parts n m x own looked) (cond (ltb p.0 n) (parts_after n m p x own looked kind) (as_was x own NoProcess)) (as_was x own Unsound)
