-- Document 01, "The player and one full run": the log of the worked run, and what is printed of it.
use Rattle.std.specs.Prelude.{ℕ, ◌≡◌, List, [], ◌∷◌, ◌++◌}
use Rattle.run_log.specs.Found.{log_of}
use Rattle.text.specs.Types.{Note}
use Rattle.text.specs.Lines.{bytes_in, text_of, refused_line, refused_text_line}

-- process, outcome, steps, mark, value
abbrev pub entry : ℕ → ℕ → ℕ → ℕ → ℕ → Note
entry process outcome steps mark value = record { outcome = outcome; process = process; steps = steps; mark = mark; value = value }

-- "LL by 1, three steps of 1, SC 40 by 1, four steps of 1, VL by 0, one step of 0"; N is 2, and X changes once
abbrev pub worked_log : List ℕ
worked_log =
    log_of 1 2
    (entry 1 0 0 0 0
    ∷ entry 1 1 1 0 0
    ∷ entry 1 1 2 0 0
    ∷ entry 1 2 3 1 7
    ∷ entry 1 0 0 0 0
    ∷ entry 1 1 1 0 0
    ∷ entry 1 1 2 0 0
    ∷ entry 1 1 3 0 0
    ∷ entry 1 3 4 0 0
    ∷ entry 0 0 0 0 0
    ∷ entry 0 6 1 0 0
    ∷ [])

-- "Output:"
abbrev pub worked_text : List ℕ
worked_text =
    bytes_in "entries 11 changes 1 processes 2\n"
    ++ (bytes_in "0 1 0 0 0 0\n"
    ++ (bytes_in "1 1 1 1 0 0\n"
    ++ (bytes_in "2 1 1 2 0 0\n"
    ++ (bytes_in "3 1 2 3 1 7\n"
    ++ (bytes_in "4 1 0 0 0 0\n"
    ++ (bytes_in "5 1 1 1 0 0\n"
    ++ (bytes_in "6 1 1 2 0 0\n"
    ++ (bytes_in "7 1 1 3 0 0\n"
    ++ (bytes_in "8 1 3 4 0 0\n" ++ (bytes_in "9 0 0 0 0 0\n" ++ bytes_in "10 0 6 1 0 0\n"))))))))))

pub record WorkedRun : Type 0 where
  pub whole : text_of worked_log ≡ worked_text
  pub refusal : refused_line 2 0 0 ≡ bytes_in "refused 2 block 0\n"
  pub placed : refused_line 19 0 18 ≡ bytes_in "refused 19 block 0 place 18\n"
  pub text_refusal : refused_text_line 25 3 ≡ bytes_in "refused 25 line 3\n"
  pub lineless : refused_text_line 16 0 ≡ bytes_in "refused 16\n"
