-- The round trip, of what the functions themselves write: as many bytes of a lent output as they say.
use Rattle.std.specs.Prelude.{ℕ, ◌<◌, ◌≡◌, List, get_or, take}
use Rattle.schedule.specs.File.{reading, file_entries}
use Rattle.writer.specs.Writer.{written_of, written_in}
use Rattle.lister.specs.Types.{Accepted}
use Rattle.lister.specs.Lister.{listed_of, listed_in}

-- the file that is written of a text into a lent output, and the text that is listed of a file
abbrev pub file_from : List ℕ → List ℕ → List ℕ
file_from text out = take (written_of text out).length (written_in text out)

abbrev pub text_from : List ℕ → List ℕ → List ℕ
text_from f out = take (listed_of f out).length (listed_in f out)

-- Where a text is written and its file listed, the listed text is written into an output of the same length, and gives the same bytes.
pub record WrittenAgain (text out lent : List ℕ) : Type 0 where
  pub taken : (written_of (text_from (file_from text out) lent) out).number ≡ 0
  pub same : file_from (text_from (file_from text out) lent) out ≡ file_from text out

-- Where a file is listed and its text written, the written file is accepted, with the same start and entries.
pub record ListedAgain (f lent out : List ℕ) (n s v c : ℕ) : Type 0 where
  pub start : reading (file_from (text_from f lent) out) ≡ Accepted n s v c
  pub entries : file_entries (file_from (text_from f lent) out) ≡ file_entries f

pub record Undone : Type 0 where
  pub written : (text out lent : List ℕ) → (written_of text out).number ≡ 0 → (listed_of (file_from text out) lent).number ≡ 0 → WrittenAgain text out lent
  pub listed : (f lent out : List ℕ) → ((i : ℕ) → get_or f i 0 < 256) → (n s v c : ℕ) → reading f ≡ Accepted n s v c → (listed_of f lent).number ≡ 0
      → (written_of (text_from f lent) out).number ≡ 0 → ListedAgain f lent out n s v c
