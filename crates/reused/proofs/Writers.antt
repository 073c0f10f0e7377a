-- Reading a state after an entry was put back. Other proofs use these laws, and not how rows are kept.
use Prim.Native.Nat.{ℕ, ◌<◌}
use mathlib.Core.Path.{◌≡◌}
use mathlib.Core.Logic.{◌≢◌}
use native.Mathlib.Decide.{ℕ_discrete}
use lib.ListN.{length}
use lib.Seq.{get_or-set_same, get_or-set_other, set-get_or}
use Rattle.reused.specs.Types.{Process, Own, Stepped, State}
use Rattle.reused.specs.State.{row_at, no_row}
use Rattle.reused.specs.Called.{with_entry}

module _ (st : State) (p : Process) (r : Stepped) where
  pub row_same : p.0 < length st.rows → row_at (with_entry st p r) p.0 ≡ r.own
  row_same l = get_or-set_same st.rows p.0 r.own no_row l

  pub row_other : (j : ℕ) → j ≢ p.0 → row_at (with_entry st p r) j ≡ row_at st j
  row_other j ne = get_or-set_other st.rows p.0 j r.own no_row ne

  -- all parts handed back as they were
  pub all_kept : r.x ≡ st.x → r.own ≡ row_at st p.0 → with_entry st p r ≡ st
  all_kept x own = rw (x, own, set-get_or)

  -- what holds of the new row and of the old one holds of the row at any place
  pub row_by : (P : Own → Type 0) → P r.own → (j : ℕ) → P (row_at st j) → p.0 < length st.rows → P (row_at (with_entry st p r) j)
  row_by P new j same l = go (ℕ_discrete j p.0)
    where
      go : Dec (j ≡ p.0) → P (row_at (with_entry st p r) j)
      go (yes e) = rw (e, row_same l) new
      go (no ne) = rw (row_other j ne) same
