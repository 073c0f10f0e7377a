-- The shared registers of the machine by name, and which of them the next step of a process reads or writes.
use Rattle.std.specs.Prelude.{ℕ, ◌%◌, ◌≡◌, get_or}
use mathlib.Core.List.{List, [], ◌∷◌, Memᴰ}
use Rattle.step.specs.Registers.{Content, a_tag, a_value, a_number}
use Rattle.machine.specs.Types.{Record, Place, Idle, Load1, Load2, Load3, Load5, Store7, Store8, Store9, Store10, Check14, State, Answer}
use Rattle.machine.specs.State.{row_at, record_at}

-- X; and of each process two slots, an old value and an old number
pub data Register : Type 0 where
  the_x : Register
  slot_of : (q i : ℕ) → Register
  old_value_of : (q : ℕ) → Register
  old_number_of : (q : ℕ) → Register

abbrev pub holds : State → Register → Content
holds st the_x = a_tag st.x
holds st (slot_of q i) = a_value (get_or (row_at st q).slots i 0)
holds st (old_value_of q) = a_value (row_at st q).old_value
holds st (old_number_of q) = a_number (row_at st q).old_number

-- Steps 1, 8 and 14 are on X; 2, 3 and 5 on a register of q, the process in the kept tag; 7 and 10 on one of p's own; "Step 9 .. Only
-- this step is on two registers, both p's own."
abbrev pub registers_at : ℕ → Record → Place → List Register
registers_at p own Idle = []
registers_at p own Load1 = the_x ∷ []
registers_at p own Load2 = slot_of own.kept.process.0 (own.kept.number.0 % 2) ∷ []
registers_at p own (Load3 v) = old_number_of own.kept.process.0 ∷ []
registers_at p own Load5 = old_value_of own.kept.process.0 ∷ []
registers_at p own (Store7 v) = slot_of p (own.next.0 % 2) ∷ []
registers_at p own Store8 = the_x ∷ []
registers_at p own Store9 = slot_of p (own.next.0 % 2) ∷ old_value_of p ∷ []
registers_at p own Store10 = old_number_of p ∷ []
registers_at p own Check14 = the_x ∷ []

-- the registers that p's next step is on
abbrev pub step_is_on : State → ℕ → List Register
step_is_on st p = registers_at p (record_at st p) (record_at st p).place

-- Two states hold the same in these registers.
abbrev pub AgreeOn : List Register → State → State → Type 0
AgreeOn these st st' = (r : Register) → Memᴰ r these → holds st r ≡ holds st' r

-- Two answers of steps of p say the same: the outcome, p's record, and what these registers hold.
pub record SameStep (p : ℕ) (these : List Register) (a a' : Answer) : Type 0 where
  pub outcome : a.outcome ≡ a'.outcome
  pub own : record_at a.state p ≡ record_at a'.state p
  pub contents : AgreeOn these a.state a'.state
