-- The theorems on atomic linked words, for any number of words and any type of values. Which file says what, bottom up:
--     Agree     the definitions at document 01's runs; an order holds exactly the calls given (stands, given)
--     Silly     records that have to fall, whatever a machine's rules are
--     Lists     facts on every element of a list, with no word in them
--     Put       a function changed at one place, and at two (change_comm)
--     Play      the end of play (after); a list played in two parts
--     Changes   the changes of a word in a list (changed, total, value_after), and count and value at the end of play
--     From      the place before change n + 1 of a word (place), and facts on all that stands from there on (From)
--     Relink    a link set earlier than it was: nobody but its process notices (plays_relink, after_relink)
--     Insert    a load put in before change n + 1 of its word (ins, ins_plays, ins_after, ins_in_time)
--     RealTime  "stands first" by places of the order (stands_first)
--     Good      an order of the calls decided so far, and the three ways in which it goes on
--     Told      replies and played calls, and how they go on; done_on: an item adds to the stores done exactly if it decides one
--     Stages    steps and replies by the stage of each process's call (Stage, Known), and how they go on with each item
--     Aside     a process that takes no step while the order goes on (Aside): its open call, and its link
--     Ordered   an order and what is known of the replies make demand 3's OneOrder (one_order_lem)
--     Items     an entry that is turned away tells nothing (item_away)
--     Decide    playing and real time decided by computing
-- A machine's proof needs this of them:
--     the order      good_start, good_tick, good_append, good_load; at the end one_order_lem, with the Told of the replies
--     the replies    the stage at each place of the machine; known_start; an entry by known_away, known_asks, known_goes, known_stored,
--                    known_done, known_answers or known_answered, and known_put; decides_at: whether it decides a store; `told` is that Told
--     the others     aside_same, aside_snoc, aside_load, and with them undecided_on, loading_on
--     a request      own_new makes its Undecided
--     a load's step  late_new at its first makes its LateFor; with late_later and `own` that makes the MayLoad of good_load
--     totals         good_count, good_value; total_snoc, total_quiet, total_ins; value_snoc, value_new, value_ins
--     what is quiet  writes_nothing, writes_other; what a store writes: writes_own
--     links          link_snoc, link_load; on other words good_load_after with other_word, after_snoc with link_kept
pub mod Agree
pub mod Aside
pub mod Changes
pub mod Decide
pub mod From
pub mod Good
pub mod Insert
pub mod Items
pub mod Lists
pub mod Ordered
pub mod Play
pub mod Put
pub mod RealTime
pub mod Relink
pub mod Silly
pub mod Stages
pub mod Told
