-- Document 01, "The steps": each step, a request, and what the log says of each outcome. A step of process p sees X, p's own record and
-- one row of registers, and says what it leaves of each. An old number is an integer, from -1; every other number is a natural number.
use Rattle.std.specs.Prelude.{ℕ, ◌+◌, ◌%◌, true, Bool, false, ◌&&◌, ◌||◌, cond, eqb, leb, ℤ, pos, negsuc, ◌-ℤ◌, get_or, set}
use Rattle.std.specs.Int.Signed.{le_z}
use Rattle.step.specs.Types.{Tag, Row, Process, Sequence, Place, Idle, Load1, Load2, Load3, Load5, Store7, Store8, Store9, Store10, Check14, Record, Outcome, GoesOn, Value, Done, NotDone, Yes, No, NoCall, Unsound, Stepped, Taken, CallOpen, UsedUp, Request, Load, Store, Check, Requested, NoProcess, Told}

-- whether two integers are equal
abbrev pub eq_z : ℤ → ℤ → Bool
eq_z (pos a) (pos b) = eqb a b
eq_z (pos a) (negsuc b) = false
eq_z (negsuc a) (pos b) = false
eq_z (negsuc a) (negsuc b) = eqb a b

-- "If it is k - 2 or k - 1": step 3's test of the old number o
abbrev pub is_near : ℤ → ℕ → Bool
is_near o k = eq_z o (pos k -ℤ pos 2) || eq_z o (pos k -ℤ pos 1)

-- "an old number outside -1 to S" is unsound
abbrev pub is_old : ℤ → ℕ → Bool
is_old o s = le_z (negsuc 0) o && le_z o (pos s)

-- "p's old number becomes .."
abbrev pub with_old : Row → ℤ → Row
with_old r o = record { slots = r.slots; old_value = r.old_value; old_number = o }

-- "X equals p's kept tag": the same process and the same sequence number
abbrev pub same_tag : Tag → Tag → Bool
same_tag a b = eqb a.process.0 b.process.0 && eqb a.number.0 b.number.0

-- the record with another call place
abbrev pub at : Record → Place → Record
at own place = record { kept = own.kept; next = own.next; place = place }

-- "slot k mod 2": the slot that a sequence number uses
abbrev pub slot : Row → Sequence → ℕ
slot row k = get_or row.slots (k.0 % 2) 0

-- "p's slot (next number mod 2) becomes v"
abbrev pub with_slot : Row → Sequence → ℕ → Row
with_slot row k v = record { slots = set row.slots (k.0 % 2) v; old_value = row.old_value; old_number = row.old_number }

-- "p's old value becomes .."
abbrev pub with_old_value : Row → ℕ → Row
with_old_value row v = record { slots = row.slots; old_value = v; old_number = row.old_number }

-- "step taken, call goes on"
abbrev pub goes_on : Tag → Record → Row → Stepped
goes_on x own row = record { x = x; own = own; row = row; outcome = GoesOn }

-- "An answered call leaves its process idle."
abbrev pub answered : Tag → Record → Row → Outcome → Stepped
answered x own row outcome = record { x = x; own = at own Idle; row = row; outcome = outcome }

-- a refused step: "state the same"
abbrev pub as_was : Tag → Record → Row → Outcome → Stepped
as_was x own row outcome = record { x = x; own = own; row = row; outcome = outcome }

-- "Step 1: kept tag becomes X; call it [q, k]."
abbrev pub step1 : Tag → Record → Row → Stepped
step1 x own row = goes_on x (record { kept = x; next = own.next; place = Load2 }) row

-- "Step 2: read q's slot k mod 2." The row is q's.
abbrev pub step2 : Tag → Record → Row → Stepped
step2 x own row = goes_on x (at own (Load3 (slot row own.kept.number))) row

-- "Step 3: read q's old number. If it is k - 2 or k - 1, the call is answered with the value from step 2. Otherwise it goes on."
abbrev pub step3 : Tag → Record → Row → ℕ → Stepped
step3 x own row v = cond (is_near row.old_number own.kept.number.0) (answered x own row (Value v)) (goes_on x (at own Load5) row)

-- "Step 5: read q's old value. It is the answer."
abbrev pub step5 : Tag → Record → Row → Stepped
step5 x own row = answered x own row (Value row.old_value)

-- "Step 7: p's slot (next number mod 2) becomes v." The row is p's.
abbrev pub step7 : Tag → Record → Row → ℕ → Stepped
step7 x own row v = goes_on x (at own Store8) (with_slot row own.next v)

-- "Step 8: if X equals p's kept tag, X becomes [p, next number], the next number grows by 1, and the call goes on. Otherwise
-- nothing changes and the call is answered "not done"."
abbrev pub step8 : Process → Tag → Record → Row → Stepped
step8 p x own row =
    cond (same_tag x own.kept)
    (goes_on (record { process = p; number = own.next }) (record { kept = own.kept; next = record { 0 = own.next.0 + 1 }; place = Store9 }) row)
    (answered x own row NotDone)

-- "Step 9: p's old value becomes p's slot (next number mod 2)."
abbrev pub step9 : Tag → Record → Row → Stepped
step9 x own row = goes_on x (at own Store10) (with_old_value row (slot row own.next))

-- "Step 10: p's old number becomes next number - 2. Answered "done"."
abbrev pub step10 : Tag → Record → Row → Stepped
step10 x own row = answered x own (with_old row (pos own.next.0 -ℤ pos 2)) Done

-- "Check (VL), step 14: answered "yes" if X equals the kept tag, otherwise "no"."
abbrev pub step14 : Tag → Record → Row → Stepped
step14 x own row = answered x own row (cond (same_tag x own.kept) Yes No)

-- "A step entry then runs the next step of the named process"; 14 is for a step of an idle process.
abbrev pub step_at : Process → Tag → Record → Row → Place → Stepped
step_at p x own row Idle = as_was x own row NoCall
step_at p x own row Load1 = step1 x own row
step_at p x own row Load2 = step2 x own row
step_at p x own row (Load3 v) = step3 x own row v
step_at p x own row Load5 = step5 x own row
step_at p x own row (Store7 v) = step7 x own row v
step_at p x own row Store8 = step8 p x own row
step_at p x own row Store9 = step9 x own row
step_at p x own row Store10 = step10 x own row
step_at p x own row Check14 = step14 x own row

-- No sound state has a next number above 4,294,967,296, the largest S + 1. A lone record may: its step is turned away as unsound.
abbrev pub largest_next : ℕ
largest_next = 4294967296

unfoldable pub step_of : Process → Tag → Record → Row → Stepped
step_of p x own row = cond (leb own.next.0 largest_next) (step_at p x own row own.place) (as_was x own row Unsound)

-- About each call place: the rank of the step that is taken next, 0 where no call is open; whether the process is "between its SC request
-- and step 8"; and whether that step reads a register of q, the process in the kept tag.
pub record About : Type 0 where
  pub rank : ℕ
  pub storing : Bool
  pub reads_other : Bool

abbrev pub placed : ℕ → Bool → Bool → About
placed rank storing reads_other = record { rank = rank; storing = storing; reads_other = reads_other }

abbrev pub about : Place → About
about Idle = placed 0 false false
about Load1 = placed 1 false false
about Load2 = placed 2 false true
about (Load3 v) = placed 3 false true
about Load5 = placed 4 false true
about (Store7 v) = placed 1 true false
about Store8 = placed 2 true false
about Store9 = placed 3 false false
about Store10 = placed 4 false false
about Check14 = placed 1 false false

-- "own steps of this call so far with this one"; and whether a process stands in no call
abbrev pub own_steps : Place → ℕ
own_steps place = (about place).rank

abbrev pub idle : Place → Bool
idle place = eqb (about place).rank 0

abbrev pub storing : Place → Bool
storing place = (about place).storing

-- Which process's row a step is given. Steps 2, 3 and 5 reach the row of q, and steps 7, 9 and 10 p's own. The others reach no row: they
-- are given p's own and hand it back as it was.
abbrev pub reached_at : Process → Tag → Place → Process
reached_at p kept place = cond (about place).reads_other kept.process p

abbrev pub reached : Process → Record → Process
reached p own = reached_at p own.kept own.place

-- a refused request: "state the same"
abbrev pub not_taken : Record → Outcome → Requested
not_taken own outcome = record { own = own; outcome = outcome }

-- the call starts at its first step
abbrev pub begun : Record → Place → Requested
begun own place = record { own = at own place; outcome = Taken }

-- 13: "SC request when the next number is above S"
abbrev pub when_idle : Sequence → Record → Request → Requested
when_idle last own Load = begun own Load1
when_idle last own (Store v) = cond (leb own.next.0 last.0) (begun own (Store7 v)) (not_taken own UsedUp)
when_idle last own Check = begun own Check14

-- 12: "request to a process that has a call open"; then 13
unfoldable pub request_of : Sequence → Record → Request → Requested
request_of last own request = cond (idle own.place) (when_idle last own request) (not_taken own CallOpen)

abbrev pub says : ℕ → ℕ → Told
says number value = record { number = number; value = value }

-- Number and value. (The mark is no part of a step's answer: the bench looks at X for it, by `mark_by` in machine/specs/Run.antt.)
-- "Outcomes: 0 request taken; 1 step taken, call goes on; 2 LL answered; 3 SC done; 4 SC not done; 5 VL yes; 6 VL no. A refused
-- entry's outcome is its number below."
-- "Value: the LL's answer, else 0."
abbrev pub told_of : Outcome → Told
told_of Taken = says 0 0
told_of GoesOn = says 1 0
told_of (Value v) = says 2 v
told_of Done = says 3 0
told_of NotDone = says 4 0
told_of Yes = says 5 0
told_of No = says 6 0
told_of NoProcess = says 11 0
told_of CallOpen = says 12 0
told_of UsedUp = says 13 0
told_of NoCall = says 14 0
told_of Unsound = says 15 0
