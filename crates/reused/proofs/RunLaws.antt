-- Laws of a whole run, for the floors above: what holds after each entry holds after all of them.
use Prim.Native.Nat.{ℕ, suc, ◌+◌, ◌≤◌}
use mathlib.Core.Path.{◌≡◌, refl, ap, ◌∙◌}
use mathlib.Core.Bool.{Bool, true, false, cond}
use mathlib.Core.List.{List, [], ◌∷◌, ◌++◌}
use native.Mathlib.Omega.{arith}
use lib.Dec.{ltb}
use lib.ListN.{length}
use Rattle.reused.specs.Types.{NoProcess, Entry, State}
use Rattle.reused.specs.Circle.{sizes_number}
use Rattle.reused.specs.State.{row_at, first_state, start_of}
use Rattle.reused.specs.Called.{refused, entered, called}
use Rattle.reused.specs.Frame.{Ready}
use Rattle.reused.specs.Run.{EntryNote, played, note_of, after, notes, change_count}
use Rattle.reused.proofs.Soundness.{sound_back, sure}
use Rattle.reused.proofs.Untouched as untouched
use Rattle.reused.proofs.SoundKept.{sound_kept_lem, start_sound}
-- an entry changes X and its own process's row at the most
pub use Rattle.reused.proofs.Untouched.{frame, above_kept}

-- a start that is taken is the first state
pub start_first : (n m : ℕ) → sizes_number n m ≡ 0 → start_of n m ≡ record { state = first_state n m; number = 0 }
unfolding start_of
start_first n m e = rw e

pub ready_start : (n m : ℕ) → sizes_number n m ≡ 0 → Ready (first_state n m)
ready_start n m e = record { tested = sound_back (first_state n m) (start_sound n m e); full = refl }

pub ready_played : (st : State) (e : Entry) → Ready st → Ready (played st e).state
ready_played st e h =
    record {
      tested = sound_back (played st e).state (sound_kept_lem st e.process e.kind (sure h) h.full);
      full = untouched.full_kept st e.process e.kind h.full;
    }

pub ready_after : (st : State) (es : List Entry) → Ready st → Ready (after st es)
unfolding after
ready_after st [] h = h
ready_after st (e ∷ es) h = ready_after (played st e).state es (ready_played st e h)

-- On such a state an entry is not looked at for soundness any more.
pub played_ready : (st : State) (e : Entry) → Ready st
    → played st e ≡ cond (ltb e.process.0 st.n) (entered st e.process e.kind) (refused st NoProcess)
unfolding called
played_ready st e h = rw h.tested

-- A run in two parts.
pub after_append : (st : State) (es fs : List Entry) → after st (es ++ fs) ≡ after (after st es) fs
unfolding after
after_append st [] fs = refl
after_append st (e ∷ es) fs = after_append (played st e).state es fs

pub notes_append : (st : State) (es fs : List Entry) → notes st (es ++ fs) ≡ notes st es ++ notes (after st es) fs
unfolding after notes
notes_append st [] fs = refl
notes_append st (e ∷ es) fs = ap (λ (ws : List EntryNote). note_of st e ∷ ws) (notes_append (played st e).state es fs)

pub notes_length : (st : State) (es : List Entry) → length (notes st es) ≡ length es
unfolding notes
notes_length st [] = refl
notes_length st (e ∷ es) = ap suc (notes_length (played st e).state es)

pub count_append : (vs ws : List EntryNote) → change_count (vs ++ ws) ≡ change_count vs + change_count ws
unfolding change_count
count_append [] ws = omega arith
count_append (v ∷ vs) ws = go v.changed (count_append vs ws)
  where
    go : (b : Bool) → change_count (vs ++ ws) ≡ change_count vs + change_count ws
        → cond b (suc (change_count (vs ++ ws))) (change_count (vs ++ ws)) ≡ cond b (suc (change_count vs)) (change_count vs) + change_count ws
    go true e = omega (arith, e)
    go false e = e

pub count_most : (ws : List EntryNote) → change_count ws ≤ length ws
unfolding change_count
count_most [] = omega arith
count_most (w ∷ ws) = go w.changed (count_most ws)
  where
    go : (b : Bool) → change_count ws ≤ length ws → cond b (suc (change_count ws)) (change_count ws) ≤ suc (length ws)
    go true l = omega (arith, l)
    go false l = omega (arith, l)

-- N, M, and what stands at N and above, stay for the whole run.
pub size_kept : (st : State) (es : List Entry) → ((after st es).n ≡ st.n) × ((after st es).m ≡ st.m)
unfolding after
size_kept st [] = (refl, refl)
size_kept st (e ∷ es) =
    let f = frame st e.process e.kind in
    let rest = size_kept (played st e).state es in
    (rest.0 ∙ f.n, rest.1 ∙ f.m)

pub above_kept_after : (st : State) (es : List Entry) (j : ℕ) → st.n ≤ j → row_at (after st es) j ≡ row_at st j
unfolding after
above_kept_after st [] j l = refl
above_kept_after st (e ∷ es) j l =
    let f = frame st e.process e.kind in
    above_kept_after (played st e).state es j (omega (arith, f.n, l)) ∙ above_kept st e.process e.kind j l
