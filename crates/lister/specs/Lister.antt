-- Document 02, P1: what the lister answers, and what every byte of a lent output then is. The refusals of a file are the reader's own, with
-- block and place; then 27 for an output that is too short for the text.
use Rattle.std.specs.Prelude.{ℕ, cond, List, leb, length}
use Rattle.run_log.specs.Log.{laid}
use Rattle.schedule.specs.File.{reading}
use Rattle.writer.specs.Made.{listing}
use Rattle.lister.specs.Types.{Reading, Refused, Accepted, Listed}

abbrev pub listed_by : List ℕ → List ℕ → Reading → Listed
listed_by f out (Refused number block place) = record { number = number; block = block; place = place; length = 0 }
listed_by f out (Accepted n s v c) =
    cond (leb (length (listing f n s v)) (length out)) (record { number = 0; block = 0; place = 0; length = length (listing f n s v) })
    (record { number = 27; block = 0; place = 0; length = 0 })

abbrev pub listed_in_by : List ℕ → List ℕ → Reading → List ℕ
listed_in_by f out (Refused number block place) = out
listed_in_by f out (Accepted n s v c) = laid (listing f n s v) out

unfoldable pub listed_of : List ℕ → List ℕ → Listed
listed_of f out = listed_by f out (reading f)

unfoldable pub listed_in : List ℕ → List ℕ → List ℕ
listed_in f out = listed_in_by f out (reading f)
