-- On the state of a run, an entry over the parts that it can reach is the entry: what it leaves, put back, is the state after it.
use Prim.Native.Nat.{ℕ, ◌*◌, ◌<◌}
use mathlib.Core.Path.{◌≡◌}
use mathlib.Core.Bool.{Bool, true, ◌&&◌}
use native.Mathlib.Omega.{arith}
use mir.Syntax.{w64}
use mir.Val.{Fits}
use borrow.Author.Tests.{lt-ltb}
use Rattle.std.proofs.Common.{rules}
use Rattle.reused.specs.Types.{Process, Triple, Option, Own, Kind, State, Announced}
use Rattle.reused.specs.State.{sound_triple, sound_named, sound_row, sound_sizes, sound, row_at}
use Rattle.reused.specs.Called.{looked_at, answer_with, entered, called}
use Rattle.reused.specs.Parts.{sound_parts, played_parts}
use Rattle.reused.specs.Frame.{Ready}
use Rattle.reused.proofs.Soundness.{Sound, sound_of, sizes, sure, row_back}

-- What an entry of a process below N is given in a sound state is sound.
given : (st : State) (p : Process) → Sound st → p.0 < st.n
    → (sound_sizes st.n st.m ≡ true) × (sound_row st.n st.m (row_at st p.0) ≡ true) × (sound_named st.n st.m (looked_at st (row_at st p.0)) ≡ true)
given st p h below = (
  h.range,
  row_back st.n st.m (row_at st p.0) (h.each p.0 below),
  (h.each (row_at st p.0).search.0 (h.each p.0 below).search).named,
)

pub parts_sound : (st : State) (p : Process) → Sound st → p.0 < st.n
    → sound_parts st.n st.m st.x (row_at st p.0) (looked_at st (row_at st p.0)) ≡ true
unfolding sound_parts
parts_sound st p h below =
    let (range, own, looked) = given st p h below in
    rw (range, h.word, own, looked)

pub entry_given : (st : State) (p : Process) → sound st ≡ true → p.0 < st.n
    → (sound_sizes st.n st.m ≡ true) × (sound_row st.n st.m (row_at st p.0) ≡ true) × (sound_named st.n st.m (looked_at st (row_at st p.0)) ≡ true)
entry_given st p e = given st p (sound_of st e)

-- The parts that pass the test are sound.
of_four : (a b c d : Bool) → (a && (b && (c && d))) ≡ true → (a ≡ true) × (c ≡ true) × (d ≡ true)
of_four a b c d e = (search rules, search rules, search rules)

pub parts_given : (n m : ℕ) (x : Triple) (own : Own) (looked : Option Announced) → sound_parts n m x own looked ≡ true
    → (sound_sizes n m ≡ true) × (sound_row n m own ≡ true) × (sound_named n m looked ≡ true)
unfolding sound_parts
parts_given n m x own looked = of_four (sound_sizes n m) (sound_triple n m x) (sound_row n m own) (sound_named n m looked)

-- In a sound state a process below N and its search place have rows ..
pub process_there : (st : State) (p : Process) → sound st ≡ true → p.0 < st.n → p.0 < 16
process_there st p e below = omega (arith, below, (sizes (sound_of st e)).few)

pub search_there : (st : State) (p : Process) → sound st ≡ true → p.0 < st.n → (row_at st p.0).search.0 < 16
search_there st p e below =
    let h = sound_of st e in
    omega (arith, (h.each p.0 below).search, (sizes h).few)

pub row_place : (j : ℕ) → j < 16 → Fits w64 (j * 120)
row_place j h = record { fits = omega (arith, h) }

pub called_by_parts : (st : State) (p : Process) (kind : Kind) → Ready st → p.0 < st.n
    → called st p kind ≡ answer_with st p (played_parts st.n st.m p st.x (row_at st p.0) (looked_at st (row_at st p.0)) kind)
unfolding called entered played_parts
called_by_parts st p kind h below = rw (h.tested, lt-ltb p.0 st.n below, parts_sound st p (sure h) below)
