-- Document 01, "Registers and records": the state, its rows and records, what is unsound, and how everything starts.
use Rattle.std.specs.Prelude.{ℕ, ◌+◌, Bool, not, ◌&&◌, ◌||◌, cond, [], ◌∷◌, eqb, leb, ltb, pos, ℤ, negsuc, get_or, replicate}
use Rattle.numbers.specs.Numbers.{in_range, range_number, all_below}
use Rattle.step.specs.Steps.{is_old, storing}
use Rattle.numbers.specs.Refusals.{number_in}
use Rattle.machine.specs.Types.{Sequence, Tag, Row, Record, Idle, State, Started}

-- past the 16th there is no row and no record; these stand for them
abbrev pub no_tag : Tag
no_tag = record { process = record { 0 = 0 }; number = record { 0 = 0 } }

abbrev pub no_row : Row
no_row = record { slots = []; old_value = 0; old_number = pos 0 }

abbrev pub no_record : Record
no_record = record { kept = no_tag; next = record { 0 = 0 }; place = Idle }

-- "For each of the 16 process numbers p": p's row of registers, and p's private record
abbrev pub row_at : State → ℕ → Row
row_at st p = get_or st.rows p no_row

abbrev pub record_at : State → ℕ → Record
record_at st p = get_or st.records p no_record

-- "a tag whose process is not below N or whose number is above S" is unsound
abbrev pub sound_tag : ℕ → Sequence → Tag → Bool
sound_tag n s tag = ltb tag.process.0 n && leb tag.number.0 s.0

-- "a next number outside 1 to S + 1" is unsound
abbrev pub sound_next : Sequence → Sequence → Bool
sound_next s next = leb 1 next.0 && leb next.0 (s.0 + 1)

-- "a process between its SC request and step 8 with a next number above S" is unsound
abbrev pub sound_store : Sequence → Record → Bool
sound_store s own = not (storing own.place) || leb own.next.0 s.0

abbrev pub sound_record : ℕ → Sequence → Record → Bool
sound_record n s own = sound_tag n s own.kept && (sound_next s own.next && sound_store s own)

-- what is tested of one process: its record, and "an old number outside -1 to S" in its row
abbrev pub sound_parts : ℕ → Sequence → Record → Row → Bool
sound_parts n s own row = sound_record n s own && is_old row.old_number s.0

abbrev pub sound_process : State → ℕ → Bool
sound_process st p = sound_parts st.n st.s (record_at st p) (row_at st p)

-- "Unsound: N or S out of range; or, for X or a process below N: .."
unfoldable pub sound : State → Bool
sound st = in_range st.n st.s && (sound_tag st.n st.s st.x && all_below st.n (sound_process st))

-- "two value slots, 0 and 1, and an old value, all V at first; an old number"
abbrev pub first_row : ℕ → ℤ → Row
first_row v o = record { slots = v ∷ v ∷ []; old_value = v; old_number = o }

-- "a kept tag, [0, 0] at first; a next number"; "It starts idle."
abbrev pub first_record : ℕ → Record
first_record k = record { kept = no_tag; next = record { 0 = k }; place = Idle }

-- X "starts as [0, 1]"; the old number is "0 for process 0 and -1 for the others"; the next number is "2 for process 0 and 1 for
-- the others".
abbrev pub first_state : ℕ → Sequence → ℕ → State
first_state n s v =
    record {
      n = n;
      s = s;
      x = record { process = record { 0 = 0 }; number = record { 0 = 1 } };
      rows = first_row v (pos 0) ∷ replicate 15 (first_row v (negsuc 0));
      records = first_record 2 ∷ replicate 15 (first_record 1);
    }

-- "a state of zeros, all idle"
abbrev pub zero_state : State
zero_state =
    record {
      n = 0;
      s = record { 0 = 0 };
      x = no_tag;
      rows = replicate 16 (first_row 0 (pos 0));
      records = replicate 16 (first_record 0);
    }

-- What a start gives: a state, and the number that turns it away, or 0
pub record StartGiven : Type 0 where
  pub state : State
  pub number : ℕ

-- Document 02, P2: "A direct start gives 16 or 17", and document 01: ".. and a state of zeros, all idle"
unfoldable pub start_of : ℕ → Sequence → ℕ → StartGiven
start_of n s v =
    cond (eqb (range_number n s) 0) (record { state = first_state n s v; number = 0 })
    (record { state = zero_state; number = range_number n s })

-- what the code's start says, in the documents' numbers
abbrev pub started_as : Started → StartGiven
started_as r = record { state = r.state; number = number_in r.start }
