-- Document 001, figure 13: the variables that say which tags a process is using up. The machine has none of them; they are stepped along
-- with it.
use Rattle.std.specs.Prelude.{ℕ, suc, ◌+◌, cond, List, [], ◌∷◌, ltb}
use Rattle.word.specs.Word.{put}
use Rattle.reused.specs.Circle.{interval_of, ahead}
use Rattle.reused.specs.Steps.{hits}
use Rattle.reused.specs.State.{row_at}
use Rattle.reused.specs.Called.{looked_at}
use Rattle.reused.specs.Run.{played}
use Rattle.reused_linear.specs.Types.{Process, Option, Own, Kind, Ask, Step, Place, Idle, Load1, Load2, Load3, Store1, Store2, Check1, State, Entry, Announced}

-- startSafe, "the beginning .. of the current safe interval"; jump, "the number of jumps in the search for the next safe interval"
pub record Safe : Type 0 where
  pub start : ℕ
  pub jump : ℕ

-- endSafe, "the end of the current safe interval"
abbrev pub end_safe : ℕ → ℕ → Safe → ℕ
end_safe n m s = ahead m s.start (interval_of n)

-- "Each process p starts with a safe interval [0, Δ)."
abbrev pub first_safe : ℕ → Safe
first_safe p = record { start = 0; jump = 0 }

-- Line 7. A hit: "jump ++". All places looked at: "jump := 0; startSafe := tag", which has just become nextStart.
abbrev pub safe_chosen : ℕ → ℕ → Process → Own → Option Announced → Safe → Safe
safe_chosen n m p own looked s =
    cond (hits n m p own looked) (record { start = s.start; jump = suc s.jump })
    (cond (ltb (own.search.0 + 1) n) s (record { start = own.start.0; jump = 0 }))

-- the other lines leave them
abbrev pub safe_step : ℕ → ℕ → Process → Own → Option Announced → Safe → Place → Safe
safe_step n m p own looked s Idle = s
safe_step n m p own looked s Load1 = s
safe_step n m p own looked s Load2 = s
safe_step n m p own looked s Load3 = s
safe_step n m p own looked s (Store1 bit) = s
safe_step n m p own looked s Store2 = safe_chosen n m p own looked s
safe_step n m p own looked s Check1 = s

abbrev pub safe_by : State → Process → Kind → (ℕ → Safe) → ℕ → Safe
safe_by st p (Ask request) safe = safe
safe_by st p Step safe =
    let own = row_at st p.0 in
    put p.0 (safe_step st.n st.m p own (looked_at st own) (safe p.0) own.place) safe

-- an entry of a process that is not there is refused
abbrev pub safe_on : State → Entry → (ℕ → Safe) → ℕ → Safe
safe_on st e safe = cond (ltb e.process.0 st.n) (safe_by st e.process e.kind safe) safe

-- after a list of entries
unfoldable pub safe_after : State → (ℕ → Safe) → List Entry → ℕ → Safe
safe_after st safe [] = safe
safe_after st safe (e ∷ es) = safe_after (played st e).state (safe_on st e safe) es
