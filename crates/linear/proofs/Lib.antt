-- Demand 3 for every run of the machine. Which file says what, bottom up; the facts on the machine (to Cases) and the theorems on the
-- word (crate word) meet only in Known, Side, Join and Simulated.
--     Agree         the definitions of the calls at document 01's runs
--     Silly         logs that have to fall
--     Lift          old numbers as natural numbers; the only place that opens step 3's test (guard_low, guard_high)
--     History       the changes so far and their places (At, Sorted)
--     View          the machine as the invariants see it (View, view_of, Moved)
--     Invariant     what holds of the machine after each entry (One, Inv), with document 001's numbers
--     Consequences  what follows with no step taken (number_low, current, not_top, old_place, tag_test)
--     Start         the invariants at the start
--     Moved         what an entry leaves of a state: X, its process's row and record (Left)
--     Kept          every step keeps the invariants: the frame, the calm steps, and 7, 8, 9, 10
--     Cases         what an entry can come to, case by case (Cases, by_cases)
--     Noted         an entry's record by its outcome, and the item that it tells
--     Known         own steps and replies: the second induction, by the stage at each place (stage_of)
--     Side          the simulation relation (Sim), and how it goes on for those that take no step
--     Join          how it goes on by a request, a quiet step, a load, a call at the end, a change
--     Simulated     it holds at the start and goes on by every entry
--     Demand3       the theorem: demand_3; with it when X changes (changes_decide), what each record says of the word (true_of_word), and the
--                   word at the end (same_word)
--     Facts         the old number is never below k - 2; at step 5 X is not the kept tag
--     Values        V and the stored values of a file fit eight bytes
--     OfFile        demand 3 of every list of bytes that the reader accepts and of its log: demand_3_of_files
pub mod Agree
pub mod Cases
pub mod Consequences
pub mod Demand3
pub mod Facts
pub mod History
pub mod Invariant
pub mod Join
pub mod Kept
pub mod Known
pub mod Lift
pub mod Moved
pub mod Noted
pub mod OfFile
pub mod Side
pub mod Silly
pub mod Simulated
pub mod Start
pub mod Values
pub mod View
