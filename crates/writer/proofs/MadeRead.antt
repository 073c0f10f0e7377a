-- A schedule file that is made of a start and entries is accepted, says that start and those entries, and its blocks are filled in order.
-- Assumes nothing.
use Prim.Native.Nat.{ℕ, zero, suc, ◌+◌, ◌-◌, ◌*◌, ◌%◌, ◌<◌, ◌≤◌}
use mathlib.Core.Path.{◌≡◌, refl, ◌∙◌}
use mathlib.Core.Bool.{true}
use mathlib.Core.List.{List}
use native.Mathlib.Nat.{add-zero}
use native.Mathlib.Omega.{arith}
use borrow.Author.Tests.{eq-eqb, le-leb}
use lib.ListN.{length, get_or, take, drop, length-append, length-take, length-drop}
use lib.Seq.{take_at, take_all, take-add, drop-append-add, drop-drop, get_or-take, get_or-drop}
use Rattle.numbers.specs.Numbers.{in_range}
use Rattle.numbers.proofs.Range.{range_of}
use Rattle.schedule.specs.File.{no_entry, count, block_at, blocks_after, entries_to, file_entries, later_number, length_fine, reading}
use Rattle.schedule.proofs.AcceptedFile.{accepted_if}
use Rattle.writer.specs.Types.{Entry, Accepted}
use Rattle.writer.specs.Made.{kind_value, first_made, later_made, packed, blocks_for, file_made}
use Rattle.writer.proofs.Small.{AllSmall}
use Rattle.writer.proofs.MadeBlock.{first_length, first_n, first_s, first_v, first_fine, later_length, later_count, later_entries, later_fine_lem}

-- the entries of a block that comes after k full ones
abbrev entries_from : List Entry → ℕ → List Entry
entries_from es k = take 42 (drop (42 * k) es)

few : (es : List Entry) (k : ℕ) → length (entries_from es k) ≤ 42
few es k = rw (length-take 42 (drop (42 * k) es)) (omega arith)

-- The later blocks: 512 bytes each, and each with its entries.
pub packed_length : (more k : ℕ) (es : List Entry) → length (packed more k es) ≡ 512 * more
unfolding packed
packed_length zero k es = refl
packed_length (suc more) k es =
    rw (length-append, later_length k (take 42 es) (few es 0), packed_length more (k + 1) (drop 42 es)) (omega arith)

packed_at : (more k : ℕ) (es : List Entry) (j : ℕ) → j < more → block_at (packed more k es) j ≡ later_made (k + j) (entries_from es j)
unfolding packed
packed_at zero k es j l = absurd (omega arith)
packed_at (suc more) k es zero l =
    rw (add-zero k) (take_at (later_made k (take 42 es)) (packed more (k + 1) (drop 42 es)) 512 (later_length k (take 42 es) (few es 0)))
packed_at (suc more) k es (suc j) l =
    let block = later_made k (take 42 es) in
    let behind : 512 * suc j ≡ length block + 512 * j = rw (later_length k (take 42 es) (few es 0)) (omega arith) in
    let place : k + 1 + j ≡ k + suc j = omega arith in
    let from : 42 + 42 * j ≡ 42 * suc j = omega arith in
    rw (behind, drop-append-add block (packed more (k + 1) (drop 42 es)) (512 * j))
    (rw (place, drop-drop (42 * j) 42 es, from) at (packed_at more (k + 1) (drop 42 es) j (omega arith)))

-- The whole file: its length, its blocks, and how full they are.
module _ (n s v : ℕ) (es : List Entry) where
  pub made_length : length (file_made n s v es) ≡ 512 * (blocks_for (length es) + 1)
  unfolding file_made
  made_length = rw (length-append, first_length, packed_length) (omega arith)

  pub made_after : blocks_after (file_made n s v es) ≡ blocks_for (length es)
  made_after = rw made_length (omega arith)

  made_first : block_at (file_made n s v es) 0 ≡ first_made n s v (blocks_for (length es))
  unfolding file_made
  made_first =
      let after = blocks_for (length es) in
      take_at (first_made n s v after) (packed after 1 es) 512 (first_length n s v after)

  made_block : (k : ℕ) → k < blocks_for (length es) → block_at (file_made n s v es) (suc k) ≡ later_made (suc k) (entries_from es k)
  unfolding file_made
  made_block k l =
      let after = blocks_for (length es) in
      let first = first_made n s v after in
      let behind : 512 * suc k ≡ length first + 512 * k = rw (first_length n s v after) (omega arith) in
      let place : 1 + k ≡ suc k = omega arith in
      rw (behind, drop-append-add first (packed after 1 es) (512 * k)) (rw place at (packed_at after 1 es k l))

  made_count : (k : ℕ) → k < blocks_for (length es) → count (block_at (file_made n s v es) (suc k)) ≡ length (entries_from es k)
  made_count k l = rw (made_block k l) (later_count (suc k) (entries_from es k) (few es k))

  -- "It fills each block with 42 entries before it opens the next", so that there is none without an entry
  pub made_full : (k : ℕ) → 0 < k → k < blocks_after (file_made n s v es) → count (block_at (file_made n s v es) k) ≡ 42
  made_full zero l h = absurd (omega arith)
  made_full (suc k) l h =
      rw (made_count k (omega (arith, made_after)), length-take, length-drop) (omega (arith, made_after))

  pub made_last : 0 < blocks_after (file_made n s v es) → 0 < count (block_at (file_made n s v es) (blocks_after (file_made n s v es)))
  made_last h =
      let full = blocks_for (length es) - 1 in
      let there : blocks_after (file_made n s v es) ≡ suc full = omega (arith, made_after) in
      rw (there, made_count full (omega (arith, made_after)), length-take, length-drop) (omega (arith, made_after))

  -- the entries of the blocks 1 to m are the first 42 times m
  made_to : AllSmall es → (m : ℕ) → m ≤ blocks_for (length es)
      → entries_to (file_made n s v es) m ≡ take (42 * m) es
  unfolding entries_to
  made_to small zero l = refl
  made_to small (suc m) l =
      let part = entries_from es m in
      let stored : (j : ℕ) → j < length part → kind_value (get_or part j no_entry).kind < 18446744073709551616 =
      λ j h. rw (get_or-take 42 (drop (42 * m) es) j no_entry (omega (arith, h, few es m)), get_or-drop) (small (42 * m + j)).stored in
      let end : 42 * suc m ≡ 42 * m + 42 = omega arith in
      rw (
        made_to small m (omega arith),
        made_block m l,
        later_entries (suc m) part (few es m) stored,
        end,
        take-add (42 * m) 42 es,
      )

-- Reading the file gives the start and the entries that it was made of.
module _ (n s v : ℕ) (es : List Entry) (ranged : in_range n (record { 0 = s }) ≡ true) (fits : v < 18446744073709551616)
    (most : length es ≤ 5334) (small : AllSmall es) where
  pub made_entries : file_entries (file_made n s v es) ≡ es
  made_entries =
      let after = blocks_for (length es) in
      rw (made_after n s v es) (made_to n s v es small after (omega arith) ∙ take_all (42 * after) es (omega arith))

  length_fine_lem : length_fine (length (file_made n s v es)) ≡ true
  length_fine_lem =
      let all = 512 * (blocks_for (length es) + 1) in
      rw (made_length n s v es, eq-eqb (all % 512) 0 (omega arith), le-leb 512 all (omega arith), le-leb all 65536 (omega arith))

  blocks_fine : (k : ℕ) → 0 < k → k ≤ blocks_after (file_made n s v es) → later_number (block_at (file_made n s v es) k) k ≡ 0
  blocks_fine zero l h = absurd (omega arith)
  blocks_fine (suc k) l h =
      rw (made_block n s v es k (omega (arith, made_after n s v es)))
      (later_fine_lem (suc k) (entries_from es k) (few es k) (omega (arith, made_after n s v es)))

  pub made_read : reading (file_made n s v es) ≡ Accepted n s v (length es)
  made_read =
      let after = blocks_for (length es) in
      let s-fits : s < 4294967296 = omega (arith, (range_of n (record { 0 = s }) ranged).last) in
      accepted_if (file_made n s v es) length_fine_lem
      (rw (made_first n s v es, made_after n s v es) (first_fine n s v after ranged (omega arith)))
      blocks_fine
      ∙ rw (made_first n s v es, first_n n s v after, first_s n s v after s-fits, first_v n s v after fits, made_entries)
