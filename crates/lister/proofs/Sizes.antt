-- The lines of entries: how long they are, and how they grow entry by entry and block by block.
-- Assumes nothing.
use Prim.Native.Nat.{ℕ, zero, suc, ◌+◌, ◌-◌, ◌*◌, ◌/◌, ◌≤◌, ◌<◌}
use mathlib.Core.Path.{◌≡◌, refl, ap, ◌∙◌}
use mathlib.Core.Bool.{true}
use mathlib.Core.List.{List, [], ◌∷◌, ◌++◌, append_assoc, append-nil}
use native.Mathlib.Decide.{dec_le}
use native.Mathlib.Numerals.{add-one}
use native.Mathlib.Omega.{arith}
use lib.ListN.{length, length-append}
use Rattle.step.specs.Types.{Entry}
use Rattle.step.specs.Types.{Kind}
use Rattle.requests.specs.declared.Kind.TheVariants.{Ask, Step}
use Rattle.requests.specs.declared.Request.TheVariants.{Load, Store, Check}
use Rattle.text.specs.Decimal.{decimal_of}
use Rattle.text.proofs.Digits.{decimal_length}
use Rattle.schedule.specs.File.{reading, block_at, blocks_after, entries_to}
use Rattle.schedule.specs.Direct.{is_accepted, entry_at, used_part, part_entries}
use Rattle.schedule.proofs.AcceptedFile.{accepted_count, accepted_room}
use Rattle.schedule.proofs.Entries.{used_length, part_more, part_entries_lem, entries_next}
use Rattle.writer.specs.Made.{kind_line, entry_line, entry_lines, start_line}

-- a line with one number, with two, and line one
pub plain_size : (p : ℕ) → length (decimal_of p) + 3 ≡ length (kind_line Step p)
plain_size p = rw (length-append (decimal_of p) (10 ∷ [])) (omega arith)

pub store_size : (p v : ℕ) → length (kind_line Step p) + length (decimal_of v) + 1 ≡ length (kind_line (Ask (Store v)) p)
store_size p v =
    rw (length-append (decimal_of p ++ (32 ∷ [])) (decimal_of v ++ (10 ∷ [])), length-append (decimal_of p) (32 ∷ []), length-append (decimal_of v) (10 ∷ []), length-append (decimal_of p) (10 ∷ []))
    (omega arith)

pub start_size : (n s v : ℕ) → length (decimal_of n) + length (decimal_of s) + length (decimal_of v) + 5 ≡ length (start_line n s v)
unfolding start_line
start_size n s v = simp length-append (omega arith)

-- no line is longer than 44 bytes, and line one is not longer than 65
kind_most : (kind : Kind) (p : ℕ) → length (kind_line kind p) ≤ 44
kind_most (Ask Load) p = simp length-append (omega (arith, decimal_length p))
kind_most (Ask (Store v)) p = simp length-append (omega (arith, decimal_length p, decimal_length v))
kind_most (Ask Check) p = simp length-append (omega (arith, decimal_length p))
kind_most Step p = simp length-append (omega (arith, decimal_length p))

pub line_most : (e : Entry) → length (entry_line e) ≤ 44
unfolding entry_line
line_most e = kind_most e.kind e.process.0

pub start_most : (n s v : ℕ) → length (start_line n s v) ≤ 65
unfolding start_line
start_most n s v = simp length-append (omega (arith, decimal_length n, decimal_length s, decimal_length v))

-- one line more, and the lines of more entries
pub lines_append : (es fs : List Entry) → entry_lines (es ++ fs) ≡ entry_lines es ++ entry_lines fs
unfolding entry_lines
lines_append [] fs = refl
lines_append (e ∷ es) fs = rw (lines_append es fs, append_assoc)

pub part_lines : (part : List ℕ) (j : ℕ) → entry_lines (part_entries part (j + 1)) ≡ entry_lines (part_entries part j) ++ entry_line (entry_at part j)
unfolding entry_lines
part_lines part j = rw (part_more part j, lines_append) (rw append-nil)

-- the lines of the entries up to block k, where there is a block k
pub block_lines : (f : List ℕ) → is_accepted (reading f) ≡ true → (k : ℕ) → 1 ≤ k → k ≤ blocks_after f
    → entry_lines (entries_to f k) ≡ entry_lines (entries_to f (k - 1)) ++ entry_lines (part_entries (used_part (block_at f k)) (length (used_part (block_at f k)) / 12))
block_lines f ok k low high =
    let this : k ≡ k - 1 + 1 = omega arith in
    ap (λ (j : ℕ). entry_lines (entries_to f j)) this
    ∙ rw (entries_next f (k - 1), lines_append, ← this, part_entries_lem (block_at f k) (accepted_room f ok k low high))

-- the part of a later block with its entries is no longer than 42 entries are
module _ (f : List ℕ) (ok : is_accepted (reading f) ≡ true) (done : ℕ) (h : done < blocks_after f) where
  abbrev pub block_part : List ℕ
  block_part = used_part (block_at f (done + 1))

  pub block_part_lem : length block_part ≤ 504
  block_part_lem =
      rw (used_length (block_at f (done + 1)) (accepted_room f ok (done + 1) (omega arith) (omega (arith, h))))
      (omega (arith, accepted_count f ok (done + 1) (omega arith) (omega (arith, h))))

-- what grows at each step has grown at every later one
pub grows : (g : ℕ → ℕ) → ((k : ℕ) → g k ≤ g (k + 1)) → (j m : ℕ) → j ≤ m → g j ≤ g m
grows g f j zero l =
    let e : j ≡ 0 = omega (arith, l) in
    rw e (omega arith)
grows g f j (suc m) l = go (dec_le j m) (λ h. grows g f j m h)
  where
    next : g m ≤ g (suc m)
    next = rw (add-one m) at (f m)

    go : Dec (j ≤ m) → (j ≤ m → g j ≤ g m) → g j ≤ g (suc m)
    go (yes h) below = omega (arith, below h, next)
    go (no n) below =
        let e : j ≡ suc m = omega (arith, n, l) in
        rw e (omega arith)

pub part_grows : (part : List ℕ) (j m : ℕ) → j ≤ m → length (entry_lines (part_entries part j)) ≤ length (entry_lines (part_entries part m))
part_grows part =
    grows (λ k. length (entry_lines (part_entries part k)))
    (λ k. rw (part_lines part k, length-append) (omega arith))

pub file_grows : (f : List ℕ) (j m : ℕ) → j ≤ m → length (entry_lines (entries_to f j)) ≤ length (entry_lines (entries_to f m))
file_grows f =
    grows (λ k. length (entry_lines (entries_to f k)))
    (λ k. rw (entries_next f k, lines_append, length-append) (omega arith))

-- the lines of so many entries
pub lines_most : (es : List Entry) → length (entry_lines es) ≤ 44 * length es
unfolding entry_lines
lines_most [] = omega arith
lines_most (e ∷ es) = rw (length-append (entry_line e) (entry_lines es)) (omega (arith, line_most e, lines_most es))
