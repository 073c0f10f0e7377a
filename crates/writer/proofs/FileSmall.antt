-- What a file of bytes says is small: V and every entry fit the bytes that they are read from.
-- Assumes nothing.
use Prim.Native.Nat.{ℕ, zero, suc, ◌+◌, ◌*◌, ◌<◌}
use mathlib.Core.List.{List, [], ◌∷◌, ◌++◌}
use native.Mathlib.Omega.{arith}
use lib.Dec.{eqb}
use lib.ListN.{get_or, take, drop}
use lib.Seq.{get_or-drop}
use Rattle.numbers.specs.Numbers.{list_below}
use Rattle.numbers.proofs.Bytes.{number_below}
use Rattle.schedule.specs.File.{start_v, kind, meant, count, entry_bytes, block_entries, block_at, entries_to, file_entries, blocks_after}
use Rattle.writer.specs.Types.{Entry}
use Rattle.writer.proofs.Small.{Small, AllSmall, none_small, small_cond}

-- a list of bytes, and a part of it
abbrev pub Bytes : List ℕ → Type 0
Bytes l = (i : ℕ) → get_or l i 0 < 256

bytes_take : (n : ℕ) (l : List ℕ) → Bytes l → Bytes (take n l)
bytes_take zero l h i = omega arith
bytes_take (suc n) [] h i = omega arith
bytes_take (suc n) (b ∷ l) h zero = h 0
bytes_take (suc n) (b ∷ l) h (suc i) = bytes_take n l (λ i. h (suc i)) i

bytes_part : (at n : ℕ) (l : List ℕ) → Bytes l → Bytes (take n (drop at l))
bytes_part at n l h = bytes_take n (drop at l) (λ i. rw (get_or-drop at l i 0) (h (at + i)))

-- what twelve bytes mean
meant_small : (e : List ℕ) → Bytes e → Small (meant e)
unfolding meant
meant_small e h =
    small_cond (eqb (kind e) 1) (record { seat = h 1; stored = omega arith })
    (λ a. small_cond (eqb (kind e) 2) (record { seat = h 1; stored = number_below e h 4 8 })
    (λ b. small_cond (eqb (kind e) 3) (record { seat = h 1; stored = omega arith })
    (λ c. small_cond (eqb (kind e) 4) (record { seat = h 1; stored = omega arith })
    (λ d. none_small))))

-- the entries of two lists, and those that a function gives
small_append : (es fs : List Entry) → AllSmall es → AllSmall fs → AllSmall (es ++ fs)
small_append [] fs h k j = k j
small_append (e ∷ es) fs h k zero = h 0
small_append (e ∷ es) fs h k (suc j) = small_append es fs (λ i. h (suc i)) k j

small_below : (n : ℕ) (g : ℕ → Entry) → ((j : ℕ) → Small (g j)) → AllSmall (list_below n g)
small_below zero g h j = none_small
small_below (suc n) g h j = small_append (list_below n g) (g n ∷ []) (small_below n g h) one j
  where
    one : AllSmall (g n ∷ [])
    one zero = h n
    one (suc i) = none_small

-- the entries of a file, and V
module _ (f : List ℕ) (bytes : Bytes f) where
  block_bytes : (k : ℕ) → Bytes (block_at f k)
  block_bytes k = bytes_part (512 * k) 512 f bytes

  small_to : (n : ℕ) → AllSmall (entries_to f n)
  unfolding entries_to block_entries
  small_to zero = λ j. none_small
  small_to (suc n) =
      let b = block_at f (suc n) in
      small_append (entries_to f n) (block_entries b) (small_to n)
      (small_below (count b) (λ j. meant (entry_bytes b j)) (λ j. meant_small (entry_bytes b j) (bytes_part (4 + 12 * j) 12 b (block_bytes (suc n)))))

  pub file_entries_small : AllSmall (file_entries f)
  file_entries_small = small_to (blocks_after f)

  pub file_value_small : start_v (block_at f 0) < 18446744073709551616
  file_value_small = number_below (block_at f 0) (block_bytes 0) 8 8
