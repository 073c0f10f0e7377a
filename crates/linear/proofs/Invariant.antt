-- What holds of the machine after each entry of a run, with the changes so far and, for each process, the place of the change that its
-- latest step 1 has seen. The numbers in brackets are document 001's.
-- Assumes nothing.
use Prim.Native.Nat.{ℕ, suc, ◌+◌, ◌%◌, ◌≤◌, ◌<◌}
use mathlib.Core.Path.{◌≡◌}
use mathlib.Core.List.{List}
use lib.ListN.{length, get_or}
use Rattle.linear.specs.Types.{Tag, Row, Record, Place, Idle, Load1, Load2, Load3, Load5, Store7, Store8, Store9, Store10, Check14}
use Rattle.linear.proofs.View.{View, row_at, record_at}
use Rattle.word.specs.Word.{Link, none, at}
use Rattle.linear.proofs.Lift.{lift}
use Rattle.linear.proofs.History.{Change, At, Sorted, Held}

-- How far the next number is ahead of the old number plus one: by 2 from a store's step 8 to its step 10, else by 1.
abbrev pub gap : Place → ℕ
gap Idle = 1
gap Load1 = 1
gap Load2 = 1
gap (Load3 v) = 1
gap Load5 = 1
gap (Store7 v) = 1
gap Store8 = 1
gap Store9 = 2
gap Store10 = 2
gap Check14 = 1

-- How far the old value is ahead of the old number: by 1 between a store's steps 9 and 10.
abbrev pub ext : Place → ℕ
ext Idle = 0
ext Load1 = 0
ext Load2 = 0
ext (Load3 v) = 0
ext Load5 = 0
ext (Store7 v) = 0
ext Store8 = 0
ext Store9 = 0
ext Store10 = 1
ext Check14 = 0

-- the value in the slot that a number uses
abbrev pub slot_of : Row → ℕ → ℕ
slot_of r k = get_or r.slots (k % 2) 0

-- a row's old number plus one, and that of each process
abbrev pub old_up : Row → ℕ
old_up r = lift r.old_number

abbrev pub olds : View → ℕ → ℕ
olds st q = old_up (row_at st q)

-- [23, 26] The kept tag is the change that was seen, and before the first step 1 it is no change at all.
abbrev pub KeptTag : List Change → Tag → Link → Type 0
KeptTag h tag none = tag.number.0 ≡ 0
KeptTag h tag (at i) = (u : ℕ) × At h i tag.process.0 tag.number.0 u

-- Between the steps of a load, with [q, k] its kept tag and `up q` q's old number plus one:
abbrev pub Stage : (ℕ → ℕ) → List Change → Tag → Link → Place → Type 0
Stage up h tag sn Idle = Unit {0}
Stage up h tag sn Load1 = Unit {0}
-- a change has been seen;
Stage up h tag sn Load2 = (i : ℕ) × (sn ≡ at i)
-- [29, 30] if q's old number is below k now, the value read is that of the change [q, k];
Stage up h tag sn (Load3 v) = (i : ℕ) × (sn ≡ at i) × (up tag.process.0 ≤ tag.number.0 → At h i tag.process.0 tag.number.0 v)
-- [25, 10] q's old number is not below k any more.
Stage up h tag sn Load5 = (i : ℕ) × (sn ≡ at i) × (tag.number.0 < up tag.process.0)
Stage up h tag sn (Store7 v) = Unit {0}
Stage up h tag sn Store8 = Unit {0}
Stage up h tag sn Store9 = Unit {0}
Stage up h tag sn Store10 = Unit {0}
Stage up h tag sn Check14 = Unit {0}

-- Of one process p, with its row r, kept tag, next number and place, and the place sn of the change it has seen.
pub record One (up : ℕ → ℕ) (h : List Change) (p : ℕ) (r : Row) (tag : Tag) (next : ℕ) (place : Place) (sn : Link) : Type 0 where
  -- [08, 12] all its changes have numbers from 1 to below next
  pub below : (i k v : ℕ) → At h i p k v → (1 ≤ k) × (k < next)
  -- [07, 07a] old number and next number
  pub number : old_up r + gap place ≡ next
  -- [15] the slot of the number before next holds that change's value;
  pub last : (j : ℕ) → 1 ≤ j → suc j ≡ next → Held h p j (slot_of r j)
  -- [16] between steps 8 and 10 the other slot holds the value of the change before it;
  pub spare : (j : ℕ) → 1 ≤ j → suc (suc j) ≡ next → gap place ≡ 2 → Held h p j (slot_of r j)
  -- [17, 18] and the old value is that of the old number's change, between steps 9 and 10 that of the change after it.
  pub oldv : (j : ℕ) → 1 ≤ j → suc j ≡ old_up r + ext place → Held h p j r.old_value
  pub kept : KeptTag h tag sn
  pub stage : Stage up h tag sn place

-- The same of process q of a state.
abbrev pub OneAt : View → List Change → ℕ → Row → Record → Link → Type 0
OneAt st h q r own sn = One (olds st) h q r own.kept own.next.0 own.place sn

-- Of the whole state; t is the number of changes since the start, and so the place of the newest.
pub record Inv (st : View) (t : ℕ) (h : List Change) (seen : ℕ → Link) : Type 0 where
  pub size : length h ≡ suc t
  -- [14] X is the newest change
  pub newest : (v : ℕ) × At h t st.x.process.0 st.x.number.0 v
  -- [04] and its process's next number is the one after X's
  pub following : (record_at st st.x.process.0).next.0 ≡ suc st.x.number.0
  pub some : 1 ≤ st.x.number.0
  pub sorted : Sorted h
  pub each : (q : ℕ) → q < st.n → OneAt st h q (row_at st q) (record_at st q) (seen q)
