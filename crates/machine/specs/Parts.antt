-- An entry over the parts that it can reach, for a run that keeps the state itself and knows it sound: `played_by_parts` in proofs/ says
-- that it is the entry.
use Rattle.std.specs.Prelude.{ℕ, cond, eqb, ltb}
use Rattle.machine.specs.Types.{Process, Sequence, Tag, Row, Record, Place, Kind, Ask, Step, Request, Load, Store, Check, Stepped, NoProcess}
use Rattle.step.specs.Steps.{as_was, own_steps}
use Rattle.machine.specs.Entry.{parts_after}
-- a process that is not there is given the first record, and 11
pub use Rattle.numbers.specs.Numbers.{seat_of}

unfoldable pub played_parts : ℕ → Sequence → Process → Tag → Record → Row → Kind → Stepped
played_parts n s p x own row kind = cond (ltb p.0 n) (parts_after s p x own row kind) (as_was x own row NoProcess)

-- what a kind byte that is not 4, and the value beside it, ask
abbrev pub request_by : ℕ → ℕ → Request
request_by code v = cond (eqb code 1) Load (cond (eqb code 2) (Store v) Check)

-- "byte 0 the kind (1 LL, 2 SC, 3 VL request, 4 step), .. 4 to 11 the value for SC": what such a byte and such a value ask. A file with
-- any other byte there is refused, so no run comes to one.
abbrev pub kind_by : ℕ → ℕ → Kind
kind_by code v = cond (eqb code 4) Step (Ask (request_by code v))

-- "own steps of this call so far with this one (0 for a request ..)": what an entry has of them if it is not turned away, by the place
-- before it
abbrev pub steps_ahead : Place → ℕ → ℕ
steps_ahead place code = cond (eqb code 4) (own_steps place) 0
