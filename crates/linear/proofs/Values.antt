-- Every value that an accepted file's log says fits eight bytes: V and the stored values are read from eight bytes, and the machine makes
-- no others.
-- Assumes nothing.
use Prim.Native.Nat.{ℕ, zero, suc, ◌+◌, ◌*◌, ◌^◌, ◌≤◌, ◌<◌}
use mathlib.Core.Bool.{Bool, true, false, cond}
use mathlib.Core.List.{List, [], ◌∷◌, ◌++◌}
use native.Mathlib.Omega.{arith}
use native.Mathlib.Decide.{dec_lt}
use lib.Dec.{eqb}
use lib.ListN.{length, get_or, take, drop, length-take, get_or-eq_default}
use lib.Seq.{get_or-take, get_or-drop}
use Rattle.numbers.specs.Numbers.{list_below}
use Rattle.numbers.proofs.Bytes.{number_below}
use Rattle.linear.specs.Types.{Entry, Ask, Step, Load, Store, Check}
use Rattle.machine.proofs.Values.{SmallKind, SmallEntries}
use Rattle.schedule.specs.File.{start_v, kind, process, value, entry_by, no_entry, meant, count, entry_bytes, block_entries, block_at, entries_to, file_entries, blocks_after}
use Rattle.word.specs.Word.{Every}

-- a list of bytes, place by place; past its end stand zeros
bytes_at : (f : List ℕ) → Every (λ b. b < 256) f → (i : ℕ) → get_or f i 0 < 256
bytes_at [] h i = omega arith
bytes_at (b ∷ f) h zero = h.0
bytes_at (b ∷ f) h (suc i) = bytes_at f h.1 i

-- a part of it
part_at : (f : List ℕ) → ((i : ℕ) → get_or f i 0 < 256) → (n k i : ℕ) → get_or (take n (drop k f)) i 0 < 256
part_at f h n k i = go (dec_lt i n)
  where
    go : Dec (i < n) → get_or (take n (drop k f)) i 0 < 256
    go (yes l) = rw (get_or-take, get_or-drop) (h (k + i))
    go (no g) =
        let past : length (take n (drop k f)) ≤ i = rw (length-take n (drop k f)) (omega (arith, g)) in
        rw (get_or-eq_default (take n (drop k f)) 0 past) (omega arith)

-- the entries of a file
small_append : (B : ℕ) (es fs : List Entry) → SmallEntries B es → SmallEntries B fs → SmallEntries B (es ++ fs)
small_append B [] fs h k = k
small_append B (e ∷ es) fs h k = (h.0, small_append B es fs h.1 k)

small_below : (B n : ℕ) (g : ℕ → Entry) → ((j : ℕ) → SmallKind B (g j).kind) → SmallEntries B (list_below n g)
small_below B zero g h = tt
small_below B (suc n) g h = small_append B (list_below n g) (g n ∷ []) (small_below B n g h) (h n, tt)

small_meant : (e : List ℕ) → ((i : ℕ) → get_or e i 0 < 256) → SmallKind (2 ^ 64) (meant e).kind
unfolding meant
small_meant e h = go (eqb (kind e) 1) (eqb (kind e) 2) (eqb (kind e) 3) (eqb (kind e) 4)
  where
    go : (a b c d : Bool)
        → SmallKind (2 ^ 64)
        (cond a (entry_by (process e) (Ask Load)) (cond b (entry_by (process e) (Ask (Store (value e)))) (cond c (entry_by (process e) (Ask Check)) (cond d (entry_by (process e) Step) no_entry)))).kind
    go true b c d = tt
    go false true c d = number_below e h 4 8
    go false false true d = tt
    go false false false true = tt
    go false false false false = tt

module _ (f : List ℕ) (bytes : Every (λ b. b < 256) f) where
  block_bytes : (k i : ℕ) → get_or (block_at f k) i 0 < 256
  block_bytes k i = part_at f (bytes_at f bytes) 512 (512 * k) i

  small_to : (n : ℕ) → SmallEntries (2 ^ 64) (entries_to f n)
  unfolding entries_to block_entries
  small_to zero = tt
  small_to (suc n) =
      let b = block_at f (suc n) in
      small_append (2 ^ 64) (entries_to f n) (block_entries b) (small_to n)
      (small_below (2 ^ 64) (count b) (λ j. meant (entry_bytes b j)) (λ j. small_meant (entry_bytes b j) (part_at b (block_bytes (suc n)) 12 (4 + 12 * j))))

  pub entries_small : SmallEntries (2 ^ 64) (file_entries f)
  entries_small = small_to (blocks_after f)

  pub first_small : start_v (block_at f 0) < 2 ^ 64
  first_small = number_below (block_at f 0) (block_bytes 0) 8 8
