-- What the definitions of the calls come to at document 01's runs (machine/specs/Table.antt, which says what the log says of each entry).
-- These are facts that an edit of a definition breaks.
-- Assumes nothing.
use Prim.Native.Nat.{ℕ}
use mathlib.Core.Path.{◌≡◌, refl}
use mathlib.Core.List.{List, [], ◌∷◌, ◌++◌, map}
use Rattle.linear.specs.Types.{Ask, Step, Load, Store, Check}
use Rattle.machine.specs.Table.{Line, request_taken, step_taken, answers_ll, says_no_vl, entry_refused, LL, SCtwo, SC, SCfails, behind}
use Rattle.bench.specs.Bench.{in_log}
use Rattle.word.specs.Word.{Op, load, store, check, Answer, value, done, not_done, says_no, Call}
use Rattle.word.specs.Calls.{Reply, calls_from}
use Rattle.linear.specs.Demand3.{calls_in}

-- a call of process p, by places; a reply to one
abbrev pub call : ℕ → ℕ → ℕ → Op ℕ → Answer ℕ → Call ℕ
call asked decided p o a = record { asked = asked; decided = decided; process = p; word = 0; op = o; answer = a }

abbrev pub reply : ℕ → ℕ → ℕ → Op ℕ → ℕ → Answer ℕ → Reply ℕ
reply place asked p o steps a = record { place = place; asked = asked; process = p; word = 0; op = o; steps = steps; answer = a }

abbrev pub Reads : List Line → List (Call ℕ) → List (Reply ℕ) → Type 0
Reads lines played replies =
    ((calls_in (map (λ l. l.entry) lines) (map (λ l. in_log l.logged) lines)).played ≡ played)
    × ((calls_in (map (λ l. l.entry) lines) (map (λ l. in_log l.logged) lines)).replies ≡ replies)

pub record CallsOfRuns : Type 0 where
  -- "C: VL0 at the start: no."
  pub C : Reads (request_taken 0 Check ∷ says_no_vl 0 ∷ []) (call 0 1 0 check says_no ∷ []) (reply 1 0 0 check 1 says_no ∷ [])
  -- D: done, decided at step 8; then not done
  pub D : Reads (LL 1 7 ++ (SC 1 40 ++ SCfails 1 41))
      (call 0 3 1 load (value 7) ∷ call 4 6 1 (store 40) done ∷ call 9 11 1 (store 41) not_done ∷ [])
      (reply 3 0 1 load 3 (value 7) ∷ reply 8 4 1 (store 40) 4 done ∷ reply 11 9 1 (store 41) 2 not_done ∷ [])
  -- G: the store is not answered, and is played
  pub G : Reads (LL 0 7 ++ (SCtwo 0 20 ++ LL 1 20))
      (call 0 3 0 load (value 7) ∷ call 4 6 0 (store 20) done ∷ call 7 10 1 load (value 20) ∷ [])
      (reply 3 0 0 load 3 (value 7) ∷ reply 10 7 1 load 3 (value 20) ∷ [])
  -- H: the first request is answered last; the store of 30 is neither answered nor past its step 8, and is not played
  pub H : Reads (behind ++ (request_taken 0 (Store 30) ∷ step_taken 0 1 ∷ step_taken 1 2 ∷ step_taken 1 3 ∷ answers_ll 1 4 2 7 ∷ []))
      (call 2 5 0 load (value 7) ∷ call 6 8 0 (store 20) done ∷ call 11 14 0 load (value 20) ∷ call 0 19 1 load (value 7) ∷ [])
      (reply 5 2 0 load 3 (value 7) ∷ reply 10 6 0 (store 20) 4 done ∷ reply 14 11 0 load 3 (value 20) ∷ reply 19 0 1 load 4 (value 7) ∷ [])
  -- K and L: refused entries are no calls, nor do they count
  pub K : Reads (request_taken 0 Check ∷ entry_refused 0 (Ask Load) 12 ∷ entry_refused 2 Step 11 ∷ says_no_vl 0 ∷ [])
      (call 0 3 0 check says_no ∷ []) (reply 3 0 0 check 1 says_no ∷ [])

pub runs_read : CallsOfRuns
unfolding calls_from
runs_read = record { C = (refl, refl); D = (refl, refl); G = (refl, refl); H = (refl, refl); K = (refl, refl) }
