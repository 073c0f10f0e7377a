-- What holds of every run of the machine from a start, whatever its entries. Proved: `every_run` in proofs/.
use Rattle.std.specs.Prelude.{ℕ, ◌≤◌, ◌≡◌, ◌≢◌, true}
use mathlib.Core.List.{List, Memᴰ}
use Rattle.reused.specs.Types.{Entry}
use Rattle.reused.specs.State.{row_at, first_state}
use Rattle.reused.specs.Frame.{Ready}
use Rattle.reused.specs.Run.{EntryNote, turned_away, played, after, notes}

pub record EveryRun (n m : ℕ) (es : List Entry) : Type 0 where
  -- it ends in a sound state with 16 rows, N and M as they were
  pub ready : Ready (after (first_state n m) es)
  pub n_same : (after (first_state n m) es).n ≡ n
  pub m_same : (after (first_state n m) es).m ≡ m
  -- it never meets 15
  pub never_15 : (w : EntryNote) → Memᴰ w (notes (first_state n m) es) → w.outcome ≢ 15
  -- "Rows at N and above are never used and never change."
  pub above_same : (j : ℕ) → n ≤ j → row_at (after (first_state n m) es) j ≡ row_at (first_state n m) j
  -- a further entry that is refused leaves the state as it was
  pub refused_same : (e : Entry) → turned_away (played (after (first_state n m) es) e).outcome ≡ true
      → (played (after (first_state n m) es) e).state ≡ after (first_state n m) es
