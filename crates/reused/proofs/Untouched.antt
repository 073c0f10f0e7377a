-- What an entry leaves alone: everything of every other process, N, M, and all rows from N on.
use Prim.Native.Nat.{ℕ, ◌≤◌, ◌<◌}
use mathlib.Core.Path.{◌≡◌, refl}
use mathlib.Core.Bool.{Bool, true, false, cond}
use native.Mathlib.Omega.{arith}
use lib.Dec.{ltb}
use lib.ListN.{length, length-set}
use borrow.Author.Tests.{ltb-true}
use Rattle.reused.specs.Types.{Process, Kind, Stepped, Outcome, NoProcess, Unsound, State, Answer}
use Rattle.reused.specs.State.{sound, row_at}
use Rattle.reused.specs.Called.{looked_at, parts_after, refused, entered, called}
use Rattle.reused.specs.Frame.{Frame}
use Rattle.reused.proofs.Writers.{row_other}

-- A call is turned away, or it is an entry of a process below N of a sound state: what holds of these holds of it.
module _ (P : Answer → Type 0) (st : State) (p : Process) (kind : Kind) where
  pub by_call : ((outcome : Outcome) → P (refused st outcome)) → (sound st ≡ true → p.0 < st.n → P (entered st p kind)) → P (called st p kind)
  unfolding called
  by_call away enters = outer (sound st) refl
    where
      inner : (b : Bool) → ltb p.0 st.n ≡ b → sound st ≡ true → P (cond b (entered st p kind) (refused st NoProcess))
      inner true t e = enters e (ltb-true p.0 st.n t)
      inner false t e = away NoProcess

      outer : (b : Bool) → sound st ≡ b → P (cond b (cond (ltb p.0 st.n) (entered st p kind) (refused st NoProcess)) (refused st Unsound))
      outer true e = inner (ltb p.0 st.n) refl e
      outer false e = away Unsound

module _ (st : State) (p : Process) (kind : Kind) where
  -- what an entry of p leaves of X and of p's row
  abbrev pub left : Stepped
  left = parts_after st.n st.m p st.x (row_at st p.0) (looked_at st (row_at st p.0)) kind

  frame_entered : Frame p.0 st (entered st p kind).state
  unfolding entered
  frame_entered = record { n = refl; m = refl; rows = λ j ne. row_other st p left j ne }

  full_entered : length st.rows ≡ 16 → length (entered st p kind).state.rows ≡ 16
  unfolding entered
  full_entered f = rw length-set f

frame_refl : (p : ℕ) (st : State) → Frame p st st
frame_refl p st = record { n = refl; m = refl; rows = λ j ne. refl }

pub frame : (st : State) (p : Process) (kind : Kind) → Frame p.0 st (called st p kind).state
frame st p kind = by_call (λ a. Frame p.0 st a.state) st p kind (λ outcome. frame_refl p.0 st) (λ e h. frame_entered st p kind)

-- "Rows at N and above are never used and never change."
pub above_kept : (st : State) (p : Process) (kind : Kind) (j : ℕ) → st.n ≤ j → row_at (called st p kind).state j ≡ row_at st j
above_kept st p kind j l =
    by_call (λ a. row_at a.state j ≡ row_at st j) st p kind
    (λ outcome. refl)
    (λ e h. (frame_entered st p kind).rows j (λ e. omega (arith, e, h, l)))

pub full_kept : (st : State) (p : Process) (kind : Kind) → length st.rows ≡ 16 → length (called st p kind).state.rows ≡ 16
full_kept st p kind f = by_call (λ a. length a.state.rows ≡ 16) st p kind (λ outcome. f) (λ e h. full_entered st p kind f)
