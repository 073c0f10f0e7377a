-- Reading a state after an entry was put back. Other proofs use these laws, and not how rows and records are kept.
use Prim.Native.Nat.{ℕ, ◌<◌}
use mathlib.Core.Path.{◌≡◌}
use mathlib.Core.Logic.{◌≢◌}
use native.Mathlib.Decide.{ℕ_discrete}
use lib.ListN.{length}
use lib.Seq.{get_or-set_same, get_or-set_other, set-get_or}
use Rattle.machine.specs.Types.{Process, Row, Record, Stepped, State}
use Rattle.machine.specs.State.{row_at, record_at, no_row, no_record}
use Rattle.machine.specs.Entry.{with_entry}

module _ (st : State) (p q : Process) (m : Stepped) where
  pub row_same : q.0 < length st.rows → row_at (with_entry st p q m) q.0 ≡ m.row
  row_same l = get_or-set_same st.rows q.0 m.row no_row l

  pub row_other : (j : ℕ) → j ≢ q.0 → row_at (with_entry st p q m) j ≡ row_at st j
  row_other j ne = get_or-set_other st.rows q.0 j m.row no_row ne

  pub record_same : p.0 < length st.records → record_at (with_entry st p q m) p.0 ≡ m.own
  record_same l = get_or-set_same st.records p.0 m.own no_record l

  pub record_other : (j : ℕ) → j ≢ p.0 → record_at (with_entry st p q m) j ≡ record_at st j
  record_other j ne = get_or-set_other st.records p.0 j m.own no_record ne

  -- a row that was handed back as it was
  pub row_kept : m.row ≡ row_at st q.0 → (j : ℕ) → row_at (with_entry st p q m) j ≡ row_at st j
  row_kept e j = rw (e, set-get_or)

  -- all parts handed back as they were
  pub all_kept : m.x ≡ st.x → m.own ≡ record_at st p.0 → m.row ≡ row_at st q.0 → with_entry st p q m ≡ st
  all_kept x own row = rw (x, own, row, set-get_or, set-get_or)

  -- what holds of the new row and of the old one holds of the row at any place; so of records
  pub row_by : (P : Row → Type 0) → P m.row → (j : ℕ) → P (row_at st j) → q.0 < length st.rows → P (row_at (with_entry st p q m) j)
  row_by P new j same l = go (ℕ_discrete j q.0)
    where
      go : Dec (j ≡ q.0) → P (row_at (with_entry st p q m) j)
      go (yes e) = rw (e, row_same l) new
      go (no ne) = rw (row_other j ne) same

  pub record_by : (P : Record → Type 0) → P m.own → (j : ℕ) → P (record_at st j) → p.0 < length st.records → P (record_at (with_entry st p q m) j)
  record_by P new j same l = go (ℕ_discrete j p.0)
    where
      go : Dec (j ≡ p.0) → P (record_at (with_entry st p q m) j)
      go (yes e) = rw (e, record_same l) new
      go (no ne) = rw (record_other j ne) same
