-- What is proved of the writer and the lister together, for every text and every file: statements over the definitions.
use Rattle.std.specs.Prelude.{ℕ, ◌<◌, ◌≡◌, List, [], length, get_or}
use Rattle.schedule.specs.File.{reading, file_entries, block_at, blocks_after, count}
use Rattle.writer.specs.Types.{Accepted}
use Rattle.writer.specs.Form.{text_n, text_s, text_v, text_entries}
use Rattle.writer.specs.Made.{listing}
use Rattle.writer.specs.Writer.{text_number, text_file}

-- "Reading the written file gives the same start and entries"
pub record ReadBack (text : List ℕ) : Type 0 where
  pub start : reading (text_file text) ≡ Accepted (text_n text) (text_s text) (text_v text) (length (text_entries text))
  pub entries : file_entries (text_file text) ≡ text_entries text

-- "It fills each block with 42 entries before it opens the next, and with no entries it writes block 0 only."
pub record Filled (text : List ℕ) : Type 0 where
  pub full : (k : ℕ) → 0 < k → k < blocks_after (text_file text) → count (block_at (text_file text) k) ≡ 42
  pub last : 0 < blocks_after (text_file text) → 0 < count (block_at (text_file text) (blocks_after (text_file text)))
  pub none : text_entries text ≡ [] → length (text_file text) ≡ 512

-- the text of the file of a text
abbrev pub listed_text : List ℕ → List ℕ
listed_text text = listing (text_file text) (text_n text) (text_s text) (text_v text)

-- "writing out the entries of a written file gives the same bytes"
pub record WrittenAgain (text : List ℕ) : Type 0 where
  pub accepted : text_number (listed_text text) ≡ 0
  pub same : text_file (listed_text text) ≡ text_file text

-- The text of an accepted file, whatever its packing, is accepted, and says the file's start and entries; and so does the file of it.
pub record TextOfFile (f : List ℕ) (n s v c : ℕ) : Type 0 where
  pub accepted : text_number (listing f n s v) ≡ 0
  pub first : text_n (listing f n s v) ≡ n
  pub second : text_s (listing f n s v) ≡ s
  pub third : text_v (listing f n s v) ≡ v
  pub entries : text_entries (listing f n s v) ≡ file_entries f
  pub start : reading (text_file (listing f n s v)) ≡ Accepted n s v c
  pub kept : file_entries (text_file (listing f n s v)) ≡ file_entries f

-- for every text that is not refused (any list of numbers: one that is no byte stands in no line of the form), and every accepted file,
-- which is a list of bytes
pub record RoundTrip : Type 0 where
  pub read_back : (text : List ℕ) → text_number text ≡ 0 → ReadBack text
  pub filled : (text : List ℕ) → text_number text ≡ 0 → Filled text
  pub written_again : (text : List ℕ) → text_number text ≡ 0 → WrittenAgain text
  pub listed : (f : List ℕ) → ((i : ℕ) → get_or f i 0 < 256) → (n s v c : ℕ) → reading f ≡ Accepted n s v c → TextOfFile f n s v c
