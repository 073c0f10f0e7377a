-- Document 02, P9: the state, what is unsound, and how everything starts.
use Rattle.std.specs.Prelude.{ℕ, Bool, true, false, ◌&&◌, cond, ◌∷◌, eqb, ltb, get_or, replicate}
use Rattle.numbers.specs.Numbers.{in_range_n, all_below}
use Rattle.numbers.specs.Refusals.{number_in}
use Rattle.reused.specs.Types.{Point, Triple, Option, None, Some, Place, Idle, Load1, Load2, Load3, Store1, Store2, Check1, Own, State, Started, Announced}
use Rattle.reused.specs.Circle.{interval_of, in_range_m, sizes_number}

-- a row of the start: "A names nobody; the next start is D, the search place 0, old and check none", with this next tag
abbrev pub first_row : ℕ → ℕ → Own
first_row tag start =
    record {
      named = None;
      old = None;
      check = None;
      tag = record { 0 = tag };
      start = record { 0 = start };
      search = record { 0 = 0 };
      place = Idle;
    }

-- past the 16th there is no row; this stands for it
abbrev pub no_row : Own
no_row = first_row 0 0

abbrev pub row_at : State → ℕ → Own
row_at st p = get_or st.rows p no_row

-- "a tag or next start is not below M"
abbrev pub sound_point : ℕ → Point → Bool
sound_point m t = ltb t.0 m

-- ".. a process .. is not below N": X's, old's and check's
abbrev pub sound_triple : ℕ → ℕ → Triple → Bool
sound_triple n m w = sound_point m w.tag && ltb w.process.0 n

abbrev pub sound_kept : ℕ → ℕ → Option Triple → Bool
sound_kept n m None = true
sound_kept n m (Some w) = sound_triple n m w

-- the announced ones
abbrev pub sound_named : ℕ → ℕ → Option Announced → Bool
sound_named n m None = true
sound_named n m (Some a) = sound_point m a.tag && ltb a.process.0 n

-- "a load past its first step has no old": it waits for step 2 or 3
abbrev pub holds_any : Option Triple → Bool
holds_any None = false
holds_any (Some w) = true

abbrev pub sound_load : Option Triple → Place → Bool
sound_load old Idle = true
sound_load old Load1 = true
sound_load old Load2 = holds_any old
sound_load old Load3 = holds_any old
sound_load old (Store1 bit) = true
sound_load old Store2 = true
sound_load old Check1 = true

-- what is tested of one process; "a .. search place is not below N"
abbrev pub sound_row : ℕ → ℕ → Own → Bool
sound_row n m own =
    sound_named n m own.named
    && (sound_kept n m own.old
    && (sound_kept n m own.check
    && (sound_point m own.tag && (sound_point m own.start && (ltb own.search.0 n && sound_load own.old own.place)))))

-- "A state is unsound for it when N or M is out of range, a tag or next start is not below M, a process or search place is not below N, or a
-- load past its first step has no old": of X and of the processes below N
unfoldable pub sound_sizes : ℕ → ℕ → Bool
sound_sizes n m = in_range_n n && in_range_m n m

unfoldable pub sound : State → Bool
sound st =
    sound_sizes st.n st.m
    && (sound_triple st.n st.m st.x && all_below st.n (λ p. sound_row st.n st.m (row_at st p)))

-- "X starts as tag 0, process 0, bit 0; next tag is 1 for process 0 and 0 for others"
abbrev pub first_triple : Triple
first_triple = record { tag = record { 0 = 0 }; process = record { 0 = 0 }; bit = false }

abbrev pub first_state : ℕ → ℕ → State
first_state n m =
    record {
      n = n;
      m = m;
      x = first_triple;
      rows = first_row 1 (interval_of n) ∷ replicate 15 (first_row 0 (interval_of n));
    }

-- "a start's state then all zeros": nobody and none are the zero
abbrev pub zero_state : State
zero_state = record { n = 0; m = 0; x = first_triple; rows = replicate 16 no_row }

-- a start's state, and 0 or the number that turns it away
pub record StartGiven : Type 0 where
  pub state : State
  pub number : ℕ

unfoldable pub start_of : ℕ → ℕ → StartGiven
start_of n m =
    cond (eqb (sizes_number n m) 0) (record { state = first_state n m; number = 0 }) (record { state = zero_state; number = sizes_number n m })

-- what the code's start says, in the documents' numbers
abbrev pub started_as : Started → StartGiven
started_as r = record { state = r.state; number = number_in r.start }
