-- Demand 3 of every accepted file and its log.
-- Assumes nothing.
use Rattle.std.specs.Prelude.{ℕ, ◌≤◌, ◌<◌, ◌≡◌, List, take, length}
use Rattle.linear.specs.Types.{Accepted}
use Rattle.word.specs.Word.{first, Every}
use Rattle.word.specs.Calls.{no_calls}
use Rattle.schedule.specs.File.{reading, file_entries}
use Rattle.run_log.specs.Log.{head_of, log_length, head_in, notes_in}
use Rattle.bench.specs.Bench.{log_after}
use Rattle.linear.specs.Demand3.{calls_in, Demand3}
use Rattle.linear.specs.TrueOfWord.{AllTrueOfWord, word_from, SameWord}

-- What people hold in their hands: a file of N n and first value v with c entries, and the log of its run. The log's first twelve bytes are
-- a head of c entries, its changes and n; its records, read back from its bytes, are those of the file's entries; they and the head's
-- count of changes meet demand 3; each record's mark and answer are true of the word as the steps leave it; and at the end that word agrees
-- with the one that demand 3's order leaves.
pub record LogOfFile (n v c : ℕ) (file log : List ℕ) : Type 0 where
  pub head : take 12 log ≡ head_of c (head_in log).changes n
  pub long : log_length c ≤ length log
  pub calls : Demand3 n v (head_in log).changes (file_entries file) (notes_in log)
  pub of_word : AllTrueOfWord no_calls (first v 0) (file_entries file) (notes_in log)
  pub at_the_end : SameWord n v (calls_in (file_entries file) (notes_in log)) calls.one_order.in_order.order (word_from no_calls (first v 0) (file_entries file) (notes_in log))

-- "The answered calls of every accepted file": for every list of bytes that the reader accepts, and every lent log that is long enough,
-- whatever it held.
abbrev pub Demand3OfFile : List ℕ → Type 0
Demand3OfFile f =
    Every (λ b. b < 256) f → (n s v c : ℕ) → reading f ≡ Accepted n s v c → (log : List ℕ) → log_length c ≤ length log → LogOfFile n v c f (log_after f log)
