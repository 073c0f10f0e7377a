-- Laws of a whole run, for the floors above: what holds after each entry holds after all of them.
use Prim.Native.Nat.{ℕ, suc, ◌+◌, ◌≤◌}
use mathlib.Core.Path.{◌≡◌, refl, ap, ◌∙◌}
use mathlib.Core.Bool.{Bool, true, false, cond}
use mathlib.Core.List.{List, [], ◌∷◌, ◌++◌}
use native.Mathlib.Omega.{arith}
use lib.Dec.{ltb}
use lib.ListN.{length}
use Rattle.machine.specs.Types.{Sequence, NoProcess, Entry, State}
use Rattle.numbers.specs.Numbers.{in_range}
use Rattle.machine.specs.State.{row_at, record_at, first_state}
use Rattle.machine.specs.Entry.{refused, entered, called}
use Rattle.machine.specs.Frame.{Ready}
use Rattle.machine.specs.Run.{EntryNote, played, note_of, after, notes, change_count}
use Rattle.machine.proofs.Soundness.{sound_back, sure}
use Rattle.machine.proofs.Frame.{full_kept, above_kept, frame}
use Rattle.machine.proofs.SoundKept.{sound_kept_lem, start_sound, start_full}

pub ready_start : (n : ℕ) (s : Sequence) (v : ℕ) → in_range n s ≡ true → Ready (first_state n s v)
ready_start n s v e = record { tested = sound_back (first_state n s v) (start_sound n s v e); full = start_full n s v }

pub ready_played : (st : State) (e : Entry) → Ready st → Ready (played st e).state
ready_played st e h =
    record {
      tested = sound_back (played st e).state (sound_kept_lem st e.process e.kind (sure h) h.full);
      full = full_kept st e.process e.kind h.full;
    }

pub ready_after : (st : State) (es : List Entry) → Ready st → Ready (after st es)
unfolding after
ready_after st [] h = h
ready_after st (e ∷ es) h = ready_after (played st e).state es (ready_played st e h)

-- On such a state an entry is not looked at for soundness any more.
pub played_ready : (st : State) (e : Entry) → Ready st
    → played st e ≡ cond (ltb e.process.0 st.n) (entered st e.process e.kind) (refused st NoProcess)
unfolding called
played_ready st e h = rw h.tested

-- A run in two parts.
pub after_append : (st : State) (es fs : List Entry) → after st (es ++ fs) ≡ after (after st es) fs
unfolding after
after_append st [] fs = refl
after_append st (e ∷ es) fs = after_append (played st e).state es fs

pub notes_append : (st : State) (es fs : List Entry) → notes st (es ++ fs) ≡ notes st es ++ notes (after st es) fs
unfolding after notes
notes_append st [] fs = refl
notes_append st (e ∷ es) fs = ap (λ (ws : List EntryNote). note_of st e ∷ ws) (notes_append (played st e).state es fs)

pub notes_length : (st : State) (es : List Entry) → length (notes st es) ≡ length es
unfolding notes
notes_length st [] = refl
notes_length st (e ∷ es) = ap suc (notes_length (played st e).state es)

pub count_append : (vs ws : List EntryNote) → change_count (vs ++ ws) ≡ change_count vs + change_count ws
unfolding change_count
count_append [] ws = omega arith
count_append (v ∷ vs) ws = go v.changed (count_append vs ws)
  where
    go : (b : Bool) → change_count (vs ++ ws) ≡ change_count vs + change_count ws
        → cond b (suc (change_count (vs ++ ws))) (change_count (vs ++ ws)) ≡ cond b (suc (change_count vs)) (change_count vs) + change_count ws
    go true e = omega (arith, e)
    go false e = e

pub count_most : (ws : List EntryNote) → change_count ws ≤ length ws
unfolding change_count
count_most [] = omega arith
count_most (w ∷ ws) = go w.changed (count_most ws)
  where
    go : (b : Bool) → change_count ws ≤ length ws → cond b (suc (change_count ws)) (change_count ws) ≤ suc (length ws)
    go true l = omega (arith, l)
    go false l = omega (arith, l)

-- N, S, and what stands at N and above, stay for the whole run.
pub size_kept : (st : State) (es : List Entry) → ((after st es).n ≡ st.n) × ((after st es).s ≡ st.s)
unfolding after
size_kept st [] = (refl, refl)
size_kept st (e ∷ es) =
    let f = frame st e.process e.kind in
    let rest = size_kept (played st e).state es in
    (rest.0 ∙ f.n, rest.1 ∙ f.s)

pub above_kept_after : (st : State) (es : List Entry) (j : ℕ) → st.n ≤ j
    → (row_at (after st es) j ≡ row_at st j) × (record_at (after st es) j ≡ record_at st j)
unfolding after
above_kept_after st [] j l = (refl, refl)
above_kept_after st (e ∷ es) j l =
    let f = frame st e.process e.kind in
    let one = above_kept st e.process e.kind j l in
    let rest = above_kept_after (played st e).state es j (omega (arith, f.n, l)) in
    (rest.0 ∙ one.0, rest.1 ∙ one.1)
