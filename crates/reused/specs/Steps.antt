-- Document 02, P9: each step, a request, and the number of each outcome. A step of process p sees X, p's own row and, where it chooses a
-- tag, one place of A; it says what it leaves of X and of p's row.
use Rattle.std.specs.Prelude.{ℕ, ◌+◌, Bool, false, ◌&&◌, cond, not, eqb, ltb}
use Rattle.reused.specs.Types.{Process, Triple, Option, None, Some, Place, Idle, Load1, Load2, Load3, Store1, Store2, Check1, Own, Stored, Outcome, Taken, GoesOn, Value, Done, NotDone, Yes, No, NoProcess, CallOpen, NoCall, Unsound, Request, Load, Store, Check, Requested, Stepped, Told, Announced}
use Rattle.reused.specs.Circle.{interval_of, ahead, arc}

-- "X and the kept values are [tag, process, bit]": equal if all three are
abbrev pub same_bit : Bool → Bool → Bool
same_bit a b = cond a b (not b)

abbrev pub same_triple : Triple → Triple → Bool
same_triple a b = eqb a.tag.0 b.tag.0 && (eqb a.process.0 b.process.0 && same_bit a.bit b.bit)

-- None never equals anything: "Without a load VL is no and a store isn't done."
abbrev pub is_kept : Option Triple → Triple → Bool
is_kept None x = false
is_kept (Some w) x = same_triple w x

abbrev pub both_keep : Option Triple → Option Triple → Bool
both_keep None check = false
both_keep (Some w) check = is_kept check w

-- "if old equals check and X equals old"; "VL says whether X, old and check are equal"
abbrev pub all_equal : Triple → Own → Bool
all_equal x own = both_keep own.old own.check && is_kept own.old x

-- what of a row is changed
abbrev pub at : Own → Place → Own
at own place =
    record { named = own.named; old = own.old; check = own.check; tag = own.tag; start = own.start; search = own.search; place = place }

abbrev pub with_kept : Own → Option Announced → Option Triple → Option Triple → Place → Own
with_kept own named old check place =
    record { named = named; old = old; check = check; tag = own.tag; start = own.start; search = own.search; place = place }

-- "step taken, call goes on"; an answered call leaves its process idle; a refused entry leaves everything
abbrev pub goes_on : Triple → Own → Stepped
goes_on x own = record { x = x; own = own; outcome = GoesOn }

abbrev pub answered : Triple → Own → Outcome → Stepped
answered x own outcome = record { x = x; own = at own Idle; outcome = outcome }

abbrev pub as_was : Triple → Own → Outcome → Stepped
as_was x own outcome = record { x = x; own = own; outcome = outcome }

-- "Load: read X as old;"
abbrev pub load1 : Triple → Own → Stepped
load1 x own = goes_on x (with_kept own own.named (Some x) own.check Load2)

-- ".. announce old's process and tag in one's own place of A;" (with no old, which no sound row has there, nobody is named)
abbrev pub announced_of : Option Triple → Option Announced
announced_of None = None
announced_of (Some w) = Some (record { process = w.process; tag = w.tag })

abbrev pub load2 : Triple → Own → Stepped
load2 x own = goes_on x (with_kept own (announced_of own.old) own.old own.check Load3)

-- ".. read X as check; answer old's process and bit." (with no old: the word's first value)
abbrev pub none_stored : Stored
none_stored = record { process = record { 0 = 0 }; bit = false }

abbrev pub stored_of : Option Triple → Stored
stored_of None = none_stored
stored_of (Some w) = record { process = w.process; bit = w.bit }

abbrev pub load3 : Triple → Own → Stepped
load3 x own = record { x = x; own = with_kept own own.named own.old (Some x) Idle; outcome = Value (stored_of own.old) }

-- "Store, first step: if old equals check and X equals old, X becomes [tag, p, bit] and the call goes on; else not done."
abbrev pub store1 : Process → Triple → Own → Bool → Stepped
store1 p x own bit =
    cond (all_equal x own) (goes_on (record { tag = own.tag; process = p; bit = bit }) (at own Store2)) (answered x own NotDone)

-- "Second step: choose the next tag, reading one place of A; done." "The choice is figure 10's". Its line 11: what A names there is p, by
-- a tag of the interval that p is looking at.
abbrev pub hits : ℕ → ℕ → Process → Own → Option Announced → Bool
hits n m p own None = false
hits n m p own (Some a) = eqb a.process.0 p.0 && arc a.tag.0 own.start.0 (interval_of n) m

abbrev pub with_choice : Own → ℕ → ℕ → ℕ → Own
with_choice own tag start search =
    record {
      named = own.named;
      old = own.old;
      check = own.check;
      tag = record { 0 = tag };
      start = record { 0 = start };
      search = record { 0 = search };
      place = own.place;
    }

-- Lines 12, 13 and 16: a hit. The search begins again, one interval further; the tag is the next of the running interval.
abbrev pub hit : ℕ → ℕ → Own → Own
hit n m own = with_choice own (ahead m own.tag.0 1) (ahead m own.start.0 (interval_of n)) 0

-- Lines 14 and 16: nothing there, and there are places to look at yet.
abbrev pub passed : ℕ → Own → Own
passed m own = with_choice own (ahead m own.tag.0 1) own.start.0 (own.search.0 + 1)

-- Lines 14 and 17 to 19: nothing there, and all places are looked at. The interval looked at is the running one now.
abbrev pub renewed : ℕ → ℕ → Own → Own
renewed n m own = with_choice own own.start.0 (ahead m own.start.0 (interval_of n)) 0

unfoldable pub chosen : ℕ → ℕ → Process → Own → Option Announced → Own
chosen n m p own looked =
    cond (hits n m p own looked) (hit n m own) (cond (ltb (own.search.0 + 1) n) (passed m own) (renewed n m own))

abbrev pub store2 : ℕ → ℕ → Process → Triple → Own → Option Announced → Stepped
store2 n m p x own looked = answered x (chosen n m p own looked) Done

-- "VL says whether X, old and check are equal."
abbrev pub check1 : Triple → Own → Stepped
check1 x own = answered x own (cond (all_equal x own) Yes No)

-- the next step of process p; 14 is for a step of an idle process
abbrev pub step_at : ℕ → ℕ → Process → Triple → Own → Option Announced → Place → Stepped
step_at n m p x own looked Idle = as_was x own NoCall
step_at n m p x own looked Load1 = load1 x own
step_at n m p x own looked Load2 = load2 x own
step_at n m p x own looked Load3 = load3 x own
step_at n m p x own looked (Store1 bit) = store1 p x own bit
step_at n m p x own looked Store2 = store2 n m p x own looked
step_at n m p x own looked Check1 = check1 x own

abbrev pub step_of : ℕ → ℕ → Process → Triple → Own → Option Announced → Stepped
step_of n m p x own looked = step_at n m p x own looked own.place

-- The rank of the step that is taken next, 0 where no call is open: "own steps of this call so far with this one".
abbrev pub own_steps : Place → ℕ
own_steps Idle = 0
own_steps Load1 = 1
own_steps Load2 = 2
own_steps Load3 = 3
own_steps (Store1 bit) = 1
own_steps Store2 = 2
own_steps Check1 = 1

abbrev pub idle : Place → Bool
idle place = eqb (own_steps place) 0

-- a request starts a call at its first step
abbrev pub first_place : Request → Place
first_place Load = Load1
first_place (Store bit) = Store1 bit
first_place Check = Check1

-- 12: "request to a process that has a call open"
abbrev pub request_of : Own → Request → Requested
request_of own request =
    cond (idle own.place) (record { own = at own (first_place request); outcome = Taken }) (record { own = own; outcome = CallOpen })

-- "0 request taken; 1 step taken, call goes on; 2 LL answered; 3 SC done; 4 SC not done; 5 VL yes; 6 VL no. A refused entry's outcome is its
-- number below"; and a load's answer, a process and a bit, 0 and 0 where there is none.
abbrev pub says : ℕ → Told
says number = record { number = number; value = none_stored }

abbrev pub told_of : Outcome → Told
told_of Taken = says 0
told_of GoesOn = says 1
told_of (Value v) = record { number = 2; value = v }
told_of Done = says 3
told_of NotDone = says 4
told_of Yes = says 5
told_of No = says 6
told_of NoProcess = says 11
told_of CallOpen = says 12
told_of NoCall = says 14
told_of Unsound = says 15
