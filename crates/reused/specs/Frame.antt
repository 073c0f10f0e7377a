-- What an entry leaves alone, and from which states a run can go on.
use Rattle.std.specs.Prelude.{ℕ, ◌≡◌, true, ◌≢◌, length}
use Rattle.reused.specs.State.{sound, row_at}
use Rattle.reused.specs.Types.{State}

-- st' differs from st in X, and in the row of p, at the most
pub record Frame (p : ℕ) (st st' : State) : Type 0 where
  pub n : st'.n ≡ st.n
  pub m : st'.m ≡ st.m
  pub rows : (j : ℕ) → j ≢ p → row_at st' j ≡ row_at st j

-- a state that a run can go on from: sound, with "a row of registers for each of the 16 processes"
pub record Ready (st : State) : Type 0 where
  pub tested : sound st ≡ true
  pub full : length st.rows ≡ 16
