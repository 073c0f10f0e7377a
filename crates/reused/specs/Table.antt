-- Runs of the machine worked by hand: each line is an entry and what must be said of it; and, where it tells, what X or a row must be at
-- the end. "LL1" is the request and all steps.
use Rattle.std.specs.Prelude.{ℕ, zero, suc, ◌≡◌, Bool, true, false, List, [], ◌∷◌, ◌++◌, map}
use Rattle.reused.specs.Types.{Triple, Own, Entry, Kind, Ask, Step, Request, Load, Store, Check, Stored}
use Rattle.reused.specs.Steps.{none_stored}
use Rattle.reused.specs.State.{row_at, first_state, zero_state, start_of}
use Rattle.reused.specs.Run.{EntryNote, after, notes}

pub record Line : Type 0 where
  pub entry : Entry
  pub said : EntryNote

-- process, kind; outcome, steps, the load's answer, whether X changed
abbrev pub line : ℕ → Kind → ℕ → ℕ → Stored → Bool → Line
line p kind outcome steps stored changed =
    record {
      entry = record { process = record { 0 = p }; kind = kind };
      said = record { outcome = outcome; process = p; steps = steps; stored = stored; changed = changed };
    }

-- a request that is taken; a step after which the call goes on; the first step of a store that changes X
abbrev pub request_taken : ℕ → Request → Line
request_taken p request = line p (Ask request) 0 0 none_stored false

abbrev pub step_taken : ℕ → ℕ → Line
step_taken p steps = line p Step 1 steps none_stored false

abbrev pub changes_x : ℕ → Line
changes_x p = line p Step 1 1 none_stored true

-- a load's answer [q, bit]; a store's two answers; a check's two; an entry that is turned away
abbrev pub answers_ll : ℕ → ℕ → Bool → Line
answers_ll p q bit = line p Step 2 3 (record { process = record { 0 = q }; bit = bit }) false

abbrev pub done_sc : ℕ → Line
done_sc p = line p Step 3 2 none_stored false

abbrev pub not_done_sc : ℕ → Line
not_done_sc p = line p Step 4 1 none_stored false

abbrev pub says_yes_vl : ℕ → Line
says_yes_vl p = line p Step 5 1 none_stored false

abbrev pub says_no_vl : ℕ → Line
says_no_vl p = line p Step 6 1 none_stored false

abbrev pub entry_refused : ℕ → Kind → ℕ → Line
entry_refused p kind number = line p kind number 0 none_stored false

-- whole calls: a load that gives [q, bit], a store that is done, a store that is not, a check
abbrev pub LL : ℕ → ℕ → Bool → List Line
LL p q bit = request_taken p Load ∷ step_taken p 1 ∷ step_taken p 2 ∷ answers_ll p q bit ∷ []

abbrev pub SC : ℕ → Bool → List Line
SC p bit = request_taken p (Store bit) ∷ changes_x p ∷ done_sc p ∷ []

abbrev pub SCfails : ℕ → Bool → List Line
SCfails p bit = request_taken p (Store bit) ∷ not_done_sc p ∷ []

abbrev pub VLyes : ℕ → List Line
VLyes p = request_taken p Check ∷ says_yes_vl p ∷ []

abbrev pub VLno : ℕ → List Line
VLno p = request_taken p Check ∷ says_no_vl p ∷ []

-- a load and a store of process 0, where the last store was its own or is the start's
abbrev pub pair : List Line
pair = LL 0 0 false ++ SC 0 false

-- what is said of these entries, from the start of n and m, is what the lines say
abbrev pub Right : ℕ → ℕ → List Line → Type 0
Right n m lines = notes (start_of n m).state (map (λ l. l.entry) lines) ≡ map (λ l. l.said) lines

-- X, and p's row, after them
abbrev pub x_after : ℕ → ℕ → List Line → Triple
x_after n m lines = (after (start_of n m).state (map (λ l. l.entry) lines)).x

abbrev pub row_after : ℕ → ℕ → List Line → ℕ → Own
row_after n m lines p = row_at (after (start_of n m).state (map (λ l. l.entry) lines)) p

-- of a row: its next tag, its next start and its search place
abbrev pub choice_in : Own → List ℕ
choice_in own = own.tag.0 ∷ own.start.0 ∷ own.search.0 ∷ []

-- [tag, process, bit]
abbrev pub triple : ℕ → ℕ → Bool → Triple
triple tag process bit = record { tag = record { 0 = tag }; process = record { 0 = process }; bit = bit }

-- the tags of X after no pair, after one, and so on
abbrev pub tags_of_pairs : ℕ → ℕ → List (List Line) → List ℕ
tags_of_pairs n m runs = map (λ lines. (x_after n m lines).tag.0) runs

abbrev pub joined : List (List Line) → List Line
joined [] = []
joined (ls ∷ more) = ls ++ joined more

abbrev pub pairs : ℕ → List Line
pairs zero = []
pairs (suc k) = pair ++ pairs k

-- N 2, M 60: D is 10. Process 0 stores tag 1; process 1 loads it, and holds it announced.
abbrev pub held : List Line
held = pair ++ LL 1 0 false

-- Process 0 stores on while processes 1 and 2 are slow with their loads.
abbrev pub slow_readers : List Line
slow_readers =
    joined
    ((LL 0 0 false ++ (request_taken 1 Load ∷ step_taken 1 1 ∷ SC 0 false))
    ∷ pairs 6
    ∷ (LL 0 0 false ++ (step_taken 1 2 ∷ answers_ll 1 0 false ∷ request_taken 2 Load ∷ step_taken 2 1 ∷ SC 0 false))
    ∷ pairs 5
    ∷ (LL 0 0 false ++ (step_taken 2 2 ∷ answers_ll 2 0 false ∷ request_taken 2 Load ∷ step_taken 2 1 ∷ SC 0 false))
    ∷ pairs 5
    ∷ (LL 0 0 false ++ (request_taken 1 Load ∷ step_taken 1 1 ∷ SC 0 false))
    ∷ pairs 10
    ∷ (LL 0 0 false ++ (request_taken 0 (Store false) ∷ changes_x 0 ∷ step_taken 1 2 ∷ step_taken 2 2 ∷ done_sc 0 ∷ []))
    ∷ pairs 10
    ∷ VLno 0
    ∷ [])

-- the start is taken, or turned away with this number
abbrev pub StartTaken : ℕ → ℕ → Type 0
StartTaken n m = start_of n m ≡ record { state = first_state n m; number = 0 }

abbrev pub StartRefused : ℕ → ℕ → ℕ → Type 0
StartRefused n m number = start_of n m ≡ record { state = zero_state; number = number }

pub record Runs : Type 0 where
  -- a load gives the start's value, and a store after it is done
  pub A : Right 1 12 (LL 0 0 false ++ (VLyes 0 ++ (SC 0 true ++ LL 0 0 true)))
  pub A-x : x_after 1 12 (LL 0 0 false ++ SC 0 true) ≡ triple 1 0 true
  -- without a load
  pub B : Right 2 60 (SCfails 1 true)
  pub C : Right 2 60 (VLno 0)
  -- another process's store comes between
  pub D : Right 2 60 (LL 1 0 false ++ (LL 0 0 false ++ (SC 0 true ++ (VLno 1 ++ (SCfails 1 true ++ LL 1 0 true)))))
  -- and between the two reads of X of a load, which then answers the old value and serves for no store
  pub E : Right 2 60 (request_taken 1 Load ∷ step_taken 1 1 ∷ (LL 0 0 false ++ (SC 0 true ++ (step_taken 1 2 ∷ answers_ll 1 0 false ∷ SCfails 1 true))))
  -- turned away: a process that is not there, a request to a process that has a call open, a step of an idle process
  pub F : Right 2 60 (entry_refused 2 Step 11 ∷ entry_refused 2 (Ask Load) 11 ∷ request_taken 0 Load ∷ entry_refused 0 (Ask Check) 12 ∷ entry_refused 1 Step 14 ∷ [])
  -- N 1, M 12: D is 3. The tags come round: the fifth store has the start's tag again, the sixth that of the second.
  pub G : Right 1 12 (pairs 6)
  pub G-tags : tags_of_pairs 1 12 (pairs 0 ∷ pairs 1 ∷ pairs 2 ∷ pairs 3 ∷ pairs 4 ∷ pairs 5 ∷ pairs 6 ∷ []) ≡ 0 ∷ 1 ∷ 3 ∷ 6 ∷ 9 ∷ 0 ∷ 3 ∷ []
  -- Process 0's twelfth store looks at process 1's place of A for a tag from 0 to 9, and comes upon tag 1: the search begins again at
  -- place 0, for tags from 10 on, and the next tag is one up. Where process 1 announces nothing, the tags from 0 on are taken.
  pub H : Right 2 60 (held ++ pairs 11)
  pub H-before : choice_in (row_after 2 60 (held ++ pairs 10) 0) ≡ 51 ∷ 0 ∷ 1 ∷ []
  pub H-after : choice_in (row_after 2 60 (held ++ pairs 11) 0) ≡ 52 ∷ 10 ∷ 0 ∷ []
  pub H-else : choice_in (row_after 2 60 (pairs 12) 0) ≡ 0 ∷ 10 ∷ 0 ∷ []
  -- Process 1 has read X, and not announced it; by thirteen stores of process 0 the start's tag, process and bit stand in X once more.
  -- The load cannot tell that from a word that nobody stored into, and need not: it takes effect at its last step, and its process is
  -- linked.
  pub I : Right 2 60 (request_taken 1 Load ∷ step_taken 1 1 ∷ (pairs 13 ++ (step_taken 1 2 ∷ answers_ll 1 0 false ∷ VLyes 1)))
  -- N 3, M 168: D is 21. Process 0 stores, and its check without a new load says no. With figure 10's interval closed, as it is printed,
  -- two slow readers make eight jumps in one search; the interval is used up, the last two stores have one tag, and this check says yes.
  pub J : Right 3 168 slow_readers
  -- As I, but process 1's load ends one store earlier: its two reads differ, so that it serves for no check and no store, though X is old
  -- again.
  pub K : Right 2 60 (request_taken 1 Load ∷ step_taken 1 1 ∷ (pairs 12 ++ (step_taken 1 2 ∷ answers_ll 1 0 false ∷ (pair ++ (VLno 1 ++ SCfails 1 true)))))
  -- As I, but process 1 has announced what it read: process 0 comes upon it, and the start's tag does not come again.
  pub L : Right 2 60 (request_taken 1 Load ∷ step_taken 1 1 ∷ step_taken 1 2 ∷ (pairs 13 ++ (answers_ll 1 0 false ∷ VLno 1)))
  -- the edges of N and M
  pub least : StartTaken 1 12
  pub most : StartTaken 16 4294967296
  pub no_process : StartRefused 0 60 16
  pub many_processes : StartRefused 17 4294967296 16
  pub small_circle : StartRefused 2 59 24
  pub smallest_circle : StartTaken 2 60
  pub large_circle : StartRefused 2 4294967297 24
  pub both_out : StartRefused 17 0 16
