-- The shared registers of the machine by name, and which of them the next step of a process reads or writes.
use Rattle.std.specs.Prelude.{ℕ, ◌≡◌}
use mathlib.Core.List.{List, [], ◌∷◌, Memᴰ}
use Rattle.reused.specs.Types.{Triple, Option, None, Own, Place, Idle, Load1, Load2, Load3, Store1, Store2, Check1, State, Answer, Announced}
use Rattle.reused.specs.State.{row_at}

-- X, and each process's place of A
pub data Register : Type 0 where
  the_x : Register
  place_of : (q : ℕ) → Register

-- what a register can hold
pub data Content : Type 0 where
  a_triple : Triple → Content
  a_named : Option Announced → Content

abbrev pub holds : State → Register → Content
holds st the_x = a_triple st.x
holds st (place_of q) = a_named (row_at st q).named

-- "read X as old; announce old's process and tag in one's own place of A; read X as check"; a store's first step is on X, its second is
-- "reading one place of A", the one at the search place; "VL says whether X .."
abbrev pub registers_at : ℕ → Own → Place → List Register
registers_at p own Idle = []
registers_at p own Load1 = the_x ∷ []
registers_at p own Load2 = place_of p ∷ []
registers_at p own Load3 = the_x ∷ []
registers_at p own (Store1 bit) = the_x ∷ []
registers_at p own Store2 = place_of own.search.0 ∷ []
registers_at p own Check1 = the_x ∷ []

-- the registers that p's next step is on
abbrev pub step_is_on : State → ℕ → List Register
step_is_on st p = registers_at p (row_at st p) (row_at st p).place

-- what of a row is private to its process: all but its place of A
abbrev pub private_of : Own → Own
private_of own =
    record { named = None; old = own.old; check = own.check; tag = own.tag; start = own.start; search = own.search; place = own.place }

-- Two states hold the same in these registers.
abbrev pub AgreeOn : List Register → State → State → Type 0
AgreeOn these st st' = (r : Register) → Memᴰ r these → holds st r ≡ holds st' r

-- Two answers of steps of p say the same: the outcome, what is private to p, and what these registers hold.
pub record SameStep (p : ℕ) (these : List Register) (a a' : Answer) : Type 0 where
  pub outcome : a.outcome ≡ a'.outcome
  pub own : private_of (row_at a.state p) ≡ private_of (row_at a'.state p)
  pub contents : AgreeOn these a.state a'.state
