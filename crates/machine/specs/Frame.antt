-- What an entry leaves alone, and from which states a run can go on.
use Rattle.std.specs.Prelude.{ℕ, ◌<◌, ◌≡◌, true, ◌≢◌, length}
use Rattle.machine.specs.State.{sound, row_at, record_at}
use Rattle.machine.specs.Types.{State}

-- st' differs from st in X, and in the row and the record of p, at the most
pub record Frame (p : ℕ) (st st' : State) : Type 0 where
  pub n : st'.n ≡ st.n
  pub s : st'.s ≡ st.s
  pub rows : (j : ℕ) → j ≢ p → row_at st' j ≡ row_at st j
  pub records : (j : ℕ) → j ≢ p → record_at st' j ≡ record_at st j

-- "a row of registers for each of the 16 processes", with two slots each, and the 16 records
pub record Full (st : State) : Type 0 where
  pub rows : length st.rows ≡ 16
  pub records : length st.records ≡ 16
  pub slots : (j : ℕ) → j < 16 → length (row_at st j).slots ≡ 2

-- a state that a run can go on from
pub record Ready (st : State) : Type 0 where
  pub tested : sound st ≡ true
  pub full : Full st
