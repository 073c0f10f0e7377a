-- A text with all kinds of line and what is printed of it, and texts that are refused: what the definitions say of them.
use Rattle.std.specs.Prelude.{ℕ, ◌≡◌, List, [], ◌++◌, replicate}
use Prim.Native.String.{String}
use Rattle.text.specs.Lines.{bytes_in}
use Rattle.reused_text.specs.Form.{outside, text_number}
use Rattle.reused_text.specs.Played.{ran_not, ran_of, reuse_text}

-- Process 1 loads [0, 0] and stores a 0; process 0 loads it, [1, 0], and after its load process 1's check says no. A process that is not
-- there, a step of no call, and a request to an open call are turned away.
abbrev pub typed_reuse : List ℕ
typed_reuse =
    bytes_in "H 2 60\n"
    ++ (bytes_in "L 1\nT 1\nT 1\nT 1\n"
    ++ (bytes_in "S 1 0\nT 1\nT 1\n" ++ (bytes_in "L 0\nT 0\nT 0\nT 0\n" ++ (bytes_in "V 1\nT 1\n" ++ bytes_in "T 2\nT 1\nS 0 0\nL 0\n"))))

abbrev pub printed_reuse : List ℕ
printed_reuse =
    bytes_in "entries 17 changes 1 processes 2\n"
    ++ (bytes_in "0 1 0 0 0 0\n1 1 1 1 0 0\n2 1 1 2 0 0\n3 1 2 3 0 0\n"
    ++ (bytes_in "4 1 0 0 0 0\n5 1 1 1 0 0\n6 1 3 2 0 0\n"
    ++ (bytes_in "7 0 0 0 0 0\n8 0 1 1 0 0\n9 0 1 2 0 0\n10 0 2 3 1 0\n"
    ++ (bytes_in "11 1 0 0 0 0\n12 1 6 1 0 0\n" ++ bytes_in "13 2 11 0 0 0\n14 1 14 0 0 0\n15 0 0 0 0 0\n16 0 12 0 0 0\n"))))

-- the numbers that two texts beside an edge get
abbrev pub Beside : String → ℕ → String → ℕ → Type 0
Beside one a other b = (text_number (bytes_in one) ≡ a) × (text_number (bytes_in other) ≡ b)

pub record ReuseRun : Type 0 where
  pub accepted : text_number typed_reuse ≡ 0
  pub printed : reuse_text typed_reuse ≡ printed_reuse
  -- "refused 25 line K"; "line 1 for empty input"; a bit of 2; four numbers in line one; a last line without its newline
  pub none : ran_of [] [] ≡ ran_not 25 1
  pub no_bit : reuse_text (bytes_in "H 2 60\nL 1\nS 1 2\n") ≡ bytes_in "refused 25 line 3\n"
  pub longer : outside (bytes_in "H 2 60 7\n") ≡ 1
  pub unended : outside (bytes_in "H 2 60\nL 1\nT 1") ≡ 3
  -- 25 before 16, 16 before 24, however many digits they have; and then 27
  pub form_first : text_number (bytes_in "H 0 60\nS 1\n") ≡ 25
  pub both : reuse_text (bytes_in "H 17 1\nL 1\n") ≡ bytes_in "refused 16\n"
  pub long_n : text_number (bytes_in "H 18446744073709551618 60\n") ≡ 16
  pub long_m : reuse_text (bytes_in "H 2 100000000000000000000060\n") ≡ bytes_in "refused 24\n"
  pub short : ran_of (bytes_in "H 2 60\nL 1\n") (replicate 23 1) ≡ ran_not 27 0
  pub just : ran_of (bytes_in "H 2 60\nL 1\n") (replicate 24 1) ≡ record { number = 0; line = 0; entries = 1 }
  -- beside each edge: processes, bits, zeros, N, and M at both ends
  pub processes : Beside "H 2 60\nT 255\n" 0 "H 2 60\nT 256\n" 25
  pub bits : Beside "H 2 60\nS 1 1\n" 0 "H 2 60\nS 1 01\n" 25
  pub zeros : Beside "H 2 60\nS 0 0\n" 0 "H 2 060\n" 25
  pub few_n : Beside "H 1 12\n" 0 "H 0 12\n" 16
  pub many_n : Beside "H 16 17952\n" 0 "H 17 21420\n" 16
  pub low_m : Beside "H 2 60\n" 0 "H 2 59\n" 24
  pub high_m : Beside "H 2 4294967296\n" 0 "H 2 4294967297\n" 24
