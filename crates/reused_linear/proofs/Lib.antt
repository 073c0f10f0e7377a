-- The theorems on every run of the machine with reused numbers. Which file says what, bottom up:
--     Circle    the way round the circle; arcs as intervals of ways (way_ahead, in_window, before_window, in_arc, arc_way)
--     Lists     what is in a list of numbers, and how many
--     Held      the tags of a process that are held: in X, announced, or read and not announced yet; at most 2N (held_few)
--     Inv       the invariants, split by whose data they read (Shape, Nums, AtX, Pair, Inv); one process has moved (at_all)
--     Owners    the owner's half of a step: a hit, a pass, a new interval, a store (hit_tag and pass_tag are (W9))
--     Readers   the reader's half: a load's three steps, and all that is outside a load (pair_calm)
--     Kept      every entry keeps the invariants (kept_step, kept_request)
--     Start     they hold at the start
--     Theorems  they hold in every run (steady_after); (W1), (W9), (W4short) (claims_of_runs)
--     Side      what a process has seen of the word's changes; the link theorem (test_link); the simulation relation (Sim)
--     Join      each step carries it on, by the three ways of word/proofs/Good.antt
--     Entries   every entry: order, replies, records, and whether X changes (next_step, next_request, next_away; fresh_tag)
--     Demand3   demand 3 of every run (demand_3)
--     Silly     records and states that the statements exclude; a run that closed arcs do not fit (linked_to_the_end)
pub mod Circle
pub mod Lists
pub mod Held
pub mod Inv
pub mod Owners
pub mod Readers
pub mod Kept
pub mod Start
pub mod Theorems
pub mod Side
pub mod Join
pub mod Entries
pub mod Demand3
pub mod Silly
