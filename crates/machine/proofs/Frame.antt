-- What an entry leaves alone: everything of every other process, N, S, and all rows and records from N on.
use Prim.Native.Nat.{ℕ, ◌≤◌, ◌<◌}
use mathlib.Core.Path.{◌≡◌, refl, ap, ◌∙◌}
use mathlib.Core.Logic.{◌≢◌}
use mathlib.Core.Bool.{Bool, true, false, cond}
use native.Mathlib.Omega.{arith}
use native.Mathlib.Decide.{ℕ_discrete}
use lib.Dec.{ltb}
use lib.ListN.{length, length-set}
use borrow.Author.Tests.{ltb-true}
use Rattle.machine.specs.Types.{Process, Sequence, Tag, Row, Record, Kind, Ask, Step, Stepped, Outcome, NoProcess, Unsound, State, Answer}
use Rattle.step.proofs.Reach.{others_row_kept, slots_kept}
use Rattle.machine.specs.State.{sound, row_at, record_at}
use Rattle.machine.specs.Entry.{row_given, parts_after, with_entry, refused, entered, called}
use Rattle.machine.specs.Frame.{Frame, Full}
use Rattle.machine.proofs.Writers.{row_other, row_kept, row_by, record_other}

-- A call is turned away, or it is an entry of a process below N of a sound state: what holds of these holds of it.
module _ (P : Answer → Type 0) (st : State) (p : Process) (kind : Kind) where
  pub by_call : ((outcome : Outcome) → P (refused st outcome)) → (sound st ≡ true → p.0 < st.n → P (entered st p kind)) → P (called st p kind)
  unfolding called
  by_call away enters = outer (sound st) refl
    where
      inner : (b : Bool) → ltb p.0 st.n ≡ b → sound st ≡ true → P (cond b (entered st p kind) (refused st NoProcess))
      inner true t e = enters e (ltb-true p.0 st.n t)
      inner false t e = away NoProcess

      outer : (b : Bool) → sound st ≡ b → P (cond b (cond (ltb p.0 st.n) (entered st p kind) (refused st NoProcess)) (refused st Unsound))
      outer true e = inner (ltb p.0 st.n) refl e
      outer false e = away Unsound

-- A row that is not p's own is handed back as it was, and a row keeps its two slots.
module _ (s : Sequence) (p : Process) (x : Tag) (own : Record) (row : Row) where
  pub others_kept : (kind : Kind) → (row_given p own kind ≡ p → ⊥) → (parts_after s p x own row kind).row ≡ row
  others_kept (Ask request) ne = refl
  others_kept Step ne = others_row_kept p x own row ne

  parts_slots : (kind : Kind) → length (parts_after s p x own row kind).row.slots ≡ length row.slots
  parts_slots (Ask request) = refl
  parts_slots Step = slots_kept p x own row

-- what an entry of p is given, and what it leaves
module _ (st : State) (p : Process) (kind : Kind) where
  abbrev pub given : Process
  given = row_given p (record_at st p.0) kind

  abbrev pub left : Stepped
  left = parts_after st.s p st.x (record_at st p.0) (row_at st (row_given p (record_at st p.0) kind).0) kind

  -- The row that is written back is p's own, or it is as it was.
  frame_entered : Frame p.0 st (entered st p kind).state
  unfolding entered
  frame_entered = record { n = refl; s = refl; rows = λ j ne. go j ne (ℕ_discrete given.0 p.0); records = λ j ne. record_other st p given left j ne }
    where
      go : (j : ℕ) → j ≢ p.0 → Dec (given.0 ≡ p.0) → row_at (with_entry st p given left) j ≡ row_at st j
      go j ne (yes e) = row_other st p given left j (λ h. ne (h ∙ e))
      go j ne (no d) =
          row_kept st p given left (others_kept st.s p st.x (record_at st p.0) (row_at st given.0) kind (λ e. d (ap (λ (r : Process). r.0) e))) j

  full_entered : Full st → Full (entered st p kind).state
  unfolding entered
  full_entered f =
      record {
        rows = simp length-set f.rows;
        records = simp length-set f.records;
        slots = λ j h. go j h (ℕ_discrete j given.0);
      }
    where
      go : (j : ℕ) → j < 16 → Dec (j ≡ given.0) → length (row_at (with_entry st p given left) j).slots ≡ 2
      go j h (yes e) =
          row_by st p given left (λ r. length r.slots ≡ 2)
          (parts_slots st.s p st.x (record_at st p.0) (row_at st given.0) kind ∙ f.slots given.0 (omega (arith, e, h)))
          j (f.slots j h) (omega (arith, e, h, f.rows))
      go j h (no ne) = rw (row_other st p given left j ne) (f.slots j h)

frame_refl : (p : ℕ) (st : State) → Frame p st st
frame_refl p st = record { n = refl; s = refl; rows = λ j ne. refl; records = λ j ne. refl }

pub frame : (st : State) (p : Process) (kind : Kind) → Frame p.0 st (called st p kind).state
frame st p kind = by_call (λ a. Frame p.0 st a.state) st p kind (λ outcome. frame_refl p.0 st) (λ e h. frame_entered st p kind)

-- "Rows at N and above are never used and never change", nor do the records there.
pub above_kept : (st : State) (p : Process) (kind : Kind) (j : ℕ) → st.n ≤ j
    → (row_at (called st p kind).state j ≡ row_at st j) × (record_at (called st p kind).state j ≡ record_at st j)
above_kept st p kind j l =
    by_call (λ a. (row_at a.state j ≡ row_at st j) × (record_at a.state j ≡ record_at st j)) st p kind
    (λ outcome. (refl, refl))
    (λ e h.
    let f = frame_entered st p kind in
    (f.rows j (λ e. omega (arith, e, h, l)), f.records j (λ e. omega (arith, e, h, l))))

pub full_kept : (st : State) (p : Process) (kind : Kind) → Full st → Full (called st p kind).state
full_kept st p kind f = by_call (λ a. Full a.state) st p kind (λ outcome. f) (λ e h. full_entered st p kind f)
