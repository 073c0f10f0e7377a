-- Document 01, "Runs beside each edge", A to L, with document 02's mark (P3: "Run F becomes mark 2. Runs G, H, I .. stay."): each line is an
-- entry and what the log must say of it. "LL1" is the request and all steps.
use Rattle.std.specs.Prelude.{ℕ, ◌≡◌, Bool, true, false, List, [], ◌∷◌, ◌++◌, map}
use Rattle.machine.specs.State.{start_of}
use Rattle.machine.specs.Run.{EntryNote, notes}
use Rattle.machine.specs.Types.{Entry, Kind, Ask, Step, Request, Load, Store, Check}

pub record Line : Type 0 where
  pub entry : Entry
  pub logged : EntryNote

-- process, kind; outcome, steps, mark, value, whether X changed
abbrev pub line : ℕ → Kind → ℕ → ℕ → ℕ → ℕ → Bool → Line
line p kind outcome steps mark value changed =
    record {
      entry = record { process = record { 0 = p }; kind = kind };
      logged = record { outcome = outcome; process = p; steps = steps; mark = mark; value = value; changed = changed };
    }

-- a request that is taken; a step after which the call goes on; the step 8 that changes X
abbrev pub request_taken : ℕ → Request → Line
request_taken p request = line p (Ask request) 0 0 0 0 false

abbrev pub step_taken : ℕ → ℕ → Line
step_taken p steps = line p Step 1 steps 0 0 false

abbrev pub changes_x : ℕ → Line
changes_x p = line p Step 1 2 0 0 true

-- an LL's answer: steps, mark, value; a store's two answers; a check's "no"; an entry that is turned away
abbrev pub answers_ll : ℕ → ℕ → ℕ → ℕ → Line
answers_ll p steps mark value = line p Step 2 steps mark value false

abbrev pub done_sc : ℕ → Line
done_sc p = line p Step 3 4 0 0 false

abbrev pub not_done_sc : ℕ → Line
not_done_sc p = line p Step 4 2 0 0 false

abbrev pub says_no_vl : ℕ → Line
says_no_vl p = line p Step 6 1 0 0 false

abbrev pub entry_refused : ℕ → Kind → ℕ → Line
entry_refused p kind number = line p kind number 0 0 0 false

-- whole calls: a load of three steps with mark 1, a store that is done, its first two steps, a store that is not done
abbrev pub LL : ℕ → ℕ → List Line
LL p v = request_taken p Load ∷ step_taken p 1 ∷ step_taken p 2 ∷ answers_ll p 3 1 v ∷ []

abbrev pub SCtwo : ℕ → ℕ → List Line
SCtwo p v = request_taken p (Store v) ∷ step_taken p 1 ∷ changes_x p ∷ []

abbrev pub SC : ℕ → ℕ → List Line
SC p v = SCtwo p v ++ (step_taken p 3 ∷ done_sc p ∷ [])

abbrev pub SCfails : ℕ → ℕ → List Line
SCfails p v = request_taken p (Store v) ∷ step_taken p 1 ∷ not_done_sc p ∷ []

-- a load of process 1 stands after its step 1, and process 0 stores 20
abbrev pub behind : List Line
behind = request_taken 1 Load ∷ step_taken 1 1 ∷ (LL 0 7 ++ (SC 0 20 ++ LL 0 20))

-- the log of these entries from the start of n, s and v says what the lines say
abbrev pub Right : ℕ → ℕ → ℕ → List Line → Type 0
Right n s v lines = notes (start_of n (record { 0 = s }) v).state (map (λ l. l.entry) lines) ≡ map (λ l. l.logged) lines

-- "V is 7, S 9, N 2 unless said."
pub record RunsAToL : Type 0 where
  pub A : Right 1 9 7 (LL 0 7)
  pub B : Right 2 9 7 (SCfails 1 40)
  pub C : Right 2 9 7 (request_taken 0 Check ∷ says_no_vl 0 ∷ [])
  pub D : Right 2 9 7 (LL 1 7 ++ (SC 1 40 ++ SCfails 1 41))
  pub E : Right 2 9 7 (LL 1 7 ++ (LL 0 7 ++ (SC 0 20 ++ (LL 0 20 ++ (SC 0 7 ++ SCfails 1 99)))))
  pub F : Right 2 9 7 (request_taken 1 Load ∷ step_taken 1 1 ∷ (LL 0 7 ++ (SCtwo 0 20 ++ (step_taken 1 2 ∷ answers_ll 1 3 2 7 ∷ []))))
  pub G : Right 2 9 7 (LL 0 7 ++ (SCtwo 0 20 ++ LL 1 20))
  pub H : Right 2 9 7 (behind ++ (request_taken 0 (Store 30) ∷ step_taken 0 1 ∷ step_taken 1 2 ∷ step_taken 1 3 ∷ answers_ll 1 4 2 7 ∷ []))
  pub I : Right 2 9 7 (behind ++ (SC 0 30 ++ (step_taken 1 2 ∷ step_taken 1 3 ∷ answers_ll 1 4 2 20 ∷ [])))
  pub J : Right 1 2 7 (LL 0 7 ++ (SC 0 5 ++ (LL 0 5 ++ (entry_refused 0 (Ask (Store 6)) 13 ∷ []))))
  pub K : Right 2 9 7 (request_taken 0 Load ∷ entry_refused 0 (Ask Load) 12 ∷ [])
  pub L : Right 2 9 7 (entry_refused 2 Step 11 ∷ entry_refused 1 Step 14 ∷ [])
