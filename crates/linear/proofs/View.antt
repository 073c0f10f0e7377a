-- The machine as the invariants see it: N, X, and a row and a record for each process. How a state keeps them does not show from here on.
-- Assumes nothing.
use Prim.Native.Nat.{ℕ}
use mathlib.Core.Path.{◌≡◌}
use mathlib.Core.Logic.{◌≢◌}
use Rattle.linear.specs.Types.{Tag, Row, Record, State}
use Rattle.machine.specs.State as machine
use Rattle.machine.specs.Frame as machine-frame

pub record View : Type 0 where
  pub n : ℕ
  pub x : Tag
  pub row : ℕ → Row
  pub own : ℕ → Record

abbrev pub row_at : View → ℕ → Row
row_at vw q = vw.row q

abbrev pub record_at : View → ℕ → Record
record_at vw q = vw.own q

abbrev pub view_of : State → View
view_of st = record { n = st.n; x = st.x; row = λ q. machine.row_at st q; own = λ q. machine.record_at st q }

-- vw' differs from vw in X, and in the row and the record of p, at the most
pub record Frame (p : ℕ) (vw vw' : View) : Type 0 where
  pub n : vw'.n ≡ vw.n
  pub rows : (j : ℕ) → j ≢ p → row_at vw' j ≡ row_at vw j
  pub records : (j : ℕ) → j ≢ p → record_at vw' j ≡ record_at vw j

pub frame_of : {p : ℕ} (st st' : State) → machine-frame.Frame p st st' → Frame p (view_of st) (view_of st')
frame_of st st' f = record { n = f.n; rows = f.rows; records = f.records }

-- p's row is r' and p's record is o', and of the others nothing has changed
pub record Moved (p : ℕ) (vw vw' : View) (r' : Row) (o' : Record) : Type 0 where
  pub frame : Frame p vw vw'
  pub row : row_at vw' p ≡ r'
  pub own : record_at vw' p ≡ o'
