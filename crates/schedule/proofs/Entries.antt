-- Where entries stand: in a block, in the part of it that is handed back, and in the file.
-- Assumes nothing.
use mathlib.Core.Path.{◌≡◌, refl, sym, ap, ◌∙◌}
use mathlib.Core.Bool.{Bool, true, false, cond}
use mathlib.Core.List.{List, [], ◌∷◌, ◌++◌}
use Prim.Native.Nat.{ℕ, zero, suc, ◌+◌, ◌-◌, ◌*◌, ◌/◌, ◌≤◌, ◌<◌}
use native.Mathlib.Nat.{add-zero}
use native.Mathlib.Decide.{dec_lt}
use native.Mathlib.Numerals.{add-one}
use native.Mathlib.Omega.{arith}
use borrow.Author.Tests.{le-leb, lt-leb, leb-true}
use lib.ListN.{length, get_or, take, drop, length-append, get_or-append, get_or-eq_default}
use lib.Seq.{take-take, drop-drop, get_or-append-add}
use lib.Dec.{eqb, leb}
use Rattle.std.specs.Simd.{first_chunks}
use Rattle.numbers.proofs.Below.{listed_length, listed_at, same_below}
use Rattle.schedule.specs.File.{count, entry_bytes, no_entry, meant, later_number, block_entries, block_at, entries_to}
use Rattle.schedule.specs.Direct.{used_part, accepted_part, entry_at, fields_of, fields_at, part_entries}
use Rattle.schedule.proofs.Laws.{part_length, chunk_read}

-- a part of a part is a part of the whole
pub part_of_part : (l : List ℕ) (m n k : ℕ) → m + n ≤ k → take n (drop m (take k l)) ≡ take n (drop m l)
part_of_part l zero n k h = take-take n k l (omega arith)
part_of_part l (suc m) n zero h = absurd (omega arith)
part_of_part [] (suc m) n (suc k) h = refl
part_of_part (x ∷ l) (suc m) n (suc k) h = part_of_part l m n k (omega arith)

-- a block has as many entries as its count says, and entry j is what its twelve bytes mean
pub block_entries_lem : (b : List ℕ) → length (block_entries b) ≡ count b
unfolding block_entries
block_entries_lem b = listed_length (count b) (λ j. meant (entry_bytes b j))

pub block_entry : (b : List ℕ) (j : ℕ) → j < count b → get_or (block_entries b) j no_entry ≡ meant (entry_bytes b j)
unfolding block_entries
block_entry b j h = listed_at (count b) (λ j. meant (entry_bytes b j)) no_entry j h

-- the part that the count names, and the entries that are read out of it
module _ (b : List ℕ) (room : 4 + 12 * count b ≤ length b) where
  pub used_is : used_part b ≡ take (12 * count b) (drop 4 b)
  unfolding used_part
  used_is = rw (le-leb (4 + 12 * count b) (length b) room)

  pub used_length : length (used_part b) ≡ 12 * count b
  used_length = rw used_is (part_length b 4 (12 * count b) room)

  pub used_entry : (j : ℕ) → entry_at (used_part b) j ≡ get_or (block_entries b) j no_entry
  unfolding entry_at
  used_entry j = go (dec_lt j (count b))
    where
      go : Dec (j < count b) → entry_at (used_part b) j ≡ get_or (block_entries b) j no_entry
      go (yes l) =
          rw (used_length, le-leb (12 * j + 12) (12 * count b) (omega arith), used_is, block_entry b j l)
          (ap meant (part_of_part (drop 4 b) (12 * j) 12 (12 * count b) (omega arith) ∙ ap (take 12) (drop-drop (12 * j) 4 b)))
      go (no l) =
          let past : count b ≤ j = omega (arith, l) in
          rw (used_length, lt-leb (12 * j + 12) (12 * count b) (omega arith))
          (sym (get_or-eq_default (block_entries b) no_entry (rw (block_entries_lem b) past)))

  pub used_fields : (j : ℕ) → j < count b → fields_at (used_part b) j ≡ fields_of (entry_bytes b j)
  unfolding fields_at
  used_fields j l =
      rw (used_length, le-leb (12 * j + 12) (12 * count b) (omega arith), used_is)
      (ap fields_of (part_of_part (drop 4 b) (12 * j) 12 (12 * count b) (omega arith) ∙ ap (take 12) (drop-drop (12 * j) 4 b)))

-- the first n entries of a block, cut into chunks
module _ (b : List ℕ) (n : ℕ) (room : 4 + 12 * n ≤ length b) where
  part_is : take (4 + 12 * n - 4) (drop 4 b) ≡ take (12 * n) (drop 4 b)
  part_is =
      let whole : 4 + 12 * n - 4 ≡ 12 * n = omega arith in
      rw whole

  pub chunk_count : length (take (4 + 12 * n - 4) (drop 4 b)) / 12 ≡ n
  chunk_count = rw (part_is, part_length b 4 (12 * n) room) (omega arith)

  pub chunk_entry : (cs : List (List ℕ)) (j : ℕ) (d : List ℕ)
      → cs ≡ first_chunks 12 (length (take (4 + 12 * n - 4) (drop 4 b)) / 12) (take (4 + 12 * n - 4) (drop 4 b)) → j < n
      → get_or cs j d ≡ entry_bytes b j
  chunk_entry cs j d e l =
      chunk_read 12 (take (4 + 12 * n - 4) (drop 4 b)) cs j d e (rw chunk_count l)
      ∙ rw part_is (part_of_part (drop 4 b) (12 * j) 12 (12 * n) (omega arith) ∙ ap (take 12) (drop-drop (12 * j) 4 b))

-- the entries of no block, and of one block more
pub entries_none : (f : List ℕ) → entries_to f 0 ≡ []
unfolding entries_to
entries_none f = refl

pub entries_next : (f : List ℕ) (n : ℕ) → entries_to f (n + 1) ≡ entries_to f n ++ block_entries (block_at f (n + 1))
unfolding entries_to
entries_next f n = rw (add-one n)

pub entries_more : (f : List ℕ) (n : ℕ) → length (entries_to f (n + 1)) ≡ length (entries_to f n) + count (block_at f (n + 1))
entries_more f n = rw (entries_next f n, length-append, block_entries_lem (block_at f (n + 1)))

-- entry j of block k + 1 stands in the file's entries behind those of the blocks before
module _ (f : List ℕ) (k : ℕ) where
  within : (n j : ℕ) → j < count (block_at f (k + 1)) → length (entries_to f k) + j < length (entries_to f (k + 1 + n))
  within zero j h = rw (add-zero (k + 1), entries_more f k) (omega arith)
  within (suc n) j h =
      let e : k + 1 + suc n ≡ k + 1 + n + 1 = omega arith in
      rw (e, entries_more f (k + 1 + n)) (omega (arith, within n j h))

  stands : (n j : ℕ) → j < count (block_at f (k + 1))
      → get_or (entries_to f (k + 1 + n)) (length (entries_to f k) + j) no_entry ≡ get_or (block_entries (block_at f (k + 1))) j no_entry
  stands zero j h = rw (add-zero (k + 1), entries_next f k) (get_or-append-add (entries_to f k) (block_entries (block_at f (k + 1))) j no_entry)
  stands (suc n) j h =
      let e : k + 1 + suc n ≡ k + 1 + n + 1 = omega arith in
      rw (e, entries_next f (k + 1 + n))
      (get_or-append (entries_to f (k + 1 + n)) (block_entries (block_at f (k + 1 + n + 1))) no_entry (length (entries_to f k) + j) (within n j h)
      ∙ stands n j h)

  pub entry_within : (n j : ℕ) → k < n → j < count (block_at f (k + 1)) → length (entries_to f k) + j < length (entries_to f n)
  entry_within n j l h =
      let e : k + 1 + (n - (k + 1)) ≡ n = omega arith in
      rw e at (within (n - (k + 1)) j h)

  pub entry_stands : (n j : ℕ) → k < n → j < count (block_at f (k + 1))
      → get_or (entries_to f n) (length (entries_to f k) + j) no_entry ≡ get_or (block_entries (block_at f (k + 1))) j no_entry
  entry_stands n j l h =
      let e : k + 1 + (n - (k + 1)) ≡ n = omega arith in
      rw e at (stands (n - (k + 1)) j h)

-- where the bytes of a block's entry stand in the file, and those of the part that its count names
pub entry_bytes_lem : (f : List ℕ) (k j : ℕ) → j < 42 → entry_bytes (block_at f k) j ≡ take 12 (drop (512 * k + (4 + 12 * j)) f)
entry_bytes_lem f k j h =
    part_of_part (drop (512 * k) f) (4 + 12 * j) 12 512 (omega arith) ∙ ap (take 12) (drop-drop (4 + 12 * j) (512 * k) f)

pub part_bytes : (f : List ℕ) (k n : ℕ) → 4 + n ≤ 512 → take n (drop 4 (block_at f k)) ≡ take n (drop (512 * k + 4) f)
part_bytes f k n h = part_of_part (drop (512 * k) f) 4 n 512 h ∙ ap (take n) (drop-drop 4 (512 * k) f)

-- The entries that stand in a part: one more, how many, and of a block's used part the block's.
pub part_more : (part : List ℕ) (j : ℕ) → part_entries part (j + 1) ≡ part_entries part j ++ (entry_at part j ∷ [])
unfolding part_entries
part_more part j = rw add-one

pub part_count : (part : List ℕ) (j : ℕ) → length (part_entries part j) ≡ j
unfolding part_entries
part_count part j = listed_length j (λ j. entry_at part j)

pub part_entries_lem : (b : List ℕ) → 4 + 12 * count b ≤ length b → part_entries (used_part b) (length (used_part b) / 12) ≡ block_entries b
unfolding part_entries block_entries
part_entries_lem b room =
    rw whole
    (same_below (count b) (λ j. entry_at (used_part b) j) (λ j. meant (entry_bytes b j)) (λ j l. used_entry b room j ∙ block_entry b j l))
  where
    whole : length (used_part b) / 12 ≡ count b
    whole = rw (used_length b room) (omega arith)

-- a part that is handed back lies within the block, from byte 4 on, whatever the block is
abbrev pub Inside : List ℕ → List ℕ → Type 0
Inside b p = (p ≡ take (length p) (drop 4 b)) × (length p ≤ length b - 4)

inside_cond : (t : Bool) (b p : List ℕ) → (t ≡ true → Inside b p) → Inside b (cond t p [])
inside_cond true b p h = h refl
inside_cond false b p h = (refl, omega arith)

pub used_inside : (b : List ℕ) → Inside b (used_part b)
unfolding used_part
used_inside b = inside_cond (leb (4 + 12 * count b) (length b)) b (take (12 * count b) (drop 4 b)) there
  where
    there : leb (4 + 12 * count b) (length b) ≡ true → Inside b (take (12 * count b) (drop 4 b))
    there t =
        let room : 4 + 12 * count b ≤ length b = leb-true (4 + 12 * count b) (length b) t in
        let e : length (take (12 * count b) (drop 4 b)) ≡ 12 * count b = part_length b 4 (12 * count b) room in
        (rw e, omega arith)

pub accepted_inside : (b : List ℕ) (k : ℕ) → Inside b (accepted_part b k)
unfolding accepted_part
accepted_inside b k =
    inside_cond (eqb (length b) 512) b (cond (eqb (later_number b k) 0) (used_part b) [])
    (λ t. inside_cond (eqb (later_number b k) 0) b (used_part b) (λ u. used_inside b))
