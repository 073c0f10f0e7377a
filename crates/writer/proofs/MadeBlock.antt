-- The blocks of a schedule file that is made are read back: the start in block 0, the count and the entries of a later one.
-- Assumes nothing.
use Prim.Native.Nat.{ℕ, zero, suc, ◌+◌, ◌-◌, ◌*◌, ◌<◌, ◌≤◌}
use mathlib.Core.Path.{◌≡◌, refl, ap, ◌∙◌}
use mathlib.Core.Bool.{true}
use mathlib.Core.List.{List, [], ◌∷◌, ◌++◌, append_assoc}
use native.Mathlib.Nat.{mod-eq_of_lt}
use native.Mathlib.Omega.{arith}
use borrow.Author.Tests.{eq-eqb, le-leb}
use lib.ListN.{length, get_or, take, drop, replicate, length-append}
use lib.Seq.{take_at, drop-append-add}
use Rattle.numbers.specs.Numbers.{bytes_of, in_range, number_unless}
use Rattle.numbers.proofs.Below.{all_intro, same_below, listed_all}
use Rattle.numbers.proofs.Bytes.{number_back}
use Rattle.numbers.proofs.First.{range_zero}
use Rattle.numbers.proofs.Range.{range_of}
use Rattle.schedule.specs.File.{zeros_of, check_of, start_n, start_s, start_v, later_blocks, first_clear, first_rest, first_number, entry_fine, entry_by, no_entry, meant, count, entry_bytes, entries_fine, rest_clear, later_fine, later_number, block_entries}
use Rattle.writer.specs.Types.{Entry, Kind, Ask, Step, Load, Store, Check}
use Rattle.writer.specs.Made.{kind_byte, kind_value, entry_made, entries_made, filled, sealed, first_front, first_made, later_front, later_made}
use Rattle.writer.proofs.Sealed.{sealed_length, sealed_at, sealed_zeros, sealed_fine, sealed_back}

-- An entry: its twelve bytes are as they should be, and mean it.
entry_fine_lem : (e : Entry) → entry_fine (entry_made e) ≡ true
unfolding entry_made zeros_of
entry_fine_lem e = go e.process.0 e.kind
  where
    go : (p : ℕ) (kind : Kind) → entry_fine (kind_byte kind ∷ p ∷ 0 ∷ 0 ∷ bytes_of 8 (kind_value kind)) ≡ true
    go p (Ask Load) = refl
    go p (Ask (Store v)) = refl
    go p (Ask Check) = refl
    go p Step = refl

entry_back : (e : Entry) → kind_value e.kind < 18446744073709551616 → meant (entry_made e) ≡ e
unfolding entry_made meant
entry_back e = go e.process.0 e.kind
  where
    go : (p : ℕ) (kind : Kind) → kind_value kind < 18446744073709551616
        → meant (kind_byte kind ∷ p ∷ 0 ∷ 0 ∷ bytes_of 8 (kind_value kind)) ≡ entry_by p kind
    go p (Ask Load) h = refl
    go p (Ask (Store v)) h = ap (λ (n : ℕ). entry_by p (Ask (Store n))) (number_back (2 ∷ p ∷ 0 ∷ 0 ∷ []) [] 8 v ∙ mod-eq_of_lt h)
    go p (Ask Check) h = refl
    go p Step h = refl

-- Entries: twelve bytes each, in order.
pub entry_made_length : (e : Entry) → length (entry_made e) ≡ 12
unfolding entry_made
entry_made_length e = refl

pub entries_made_length : (es : List Entry) → length (entries_made es) ≡ 12 * length es
unfolding entries_made
entries_made_length [] = refl
entries_made_length (e ∷ es) = rw (length-append, entry_made_length, entries_made_length es) (omega arith)

entry_at : (es : List Entry) (behind : List ℕ) (j : ℕ) → j < length es
    → take 12 (drop (12 * j) (entries_made es ++ behind)) ≡ entry_made (get_or es j no_entry)
unfolding entries_made
entry_at [] behind j l = absurd (omega arith)
entry_at (e ∷ es) behind zero l =
    rw (append_assoc (entry_made e) (entries_made es) behind) (take_at (entry_made e) (entries_made es ++ behind) 12 (entry_made_length e))
entry_at (e ∷ es) behind (suc j) l =
    let place : 12 * suc j ≡ length (entry_made e) + 12 * j = rw (entry_made_length e) (omega arith) in
    rw (append_assoc (entry_made e) (entries_made es) behind, place, drop-append-add (entry_made e) (entries_made es ++ behind) (12 * j))
    (entry_at es behind j (omega arith))

-- Block 0: the start that it was made of, and no number refuses it.
module _ (n s v after : ℕ) where
  pub first_length : length (first_made n s v after) ≡ 512
  unfolding first_made
  first_length = sealed_length (first_front n s v after) (omega arith)

  pub first_n : start_n (first_made n s v after) ≡ n
  unfolding first_made
  first_n = sealed_at (first_front n s v after) (omega arith) 2 (omega arith)

  pub first_s : s < 4294967296 → start_s (first_made n s v after) ≡ s
  unfolding first_made
  first_s = sealed_back (bytes_of 2 0 ++ (n ∷ 0 ∷ [])) (bytes_of 8 v ++ bytes_of 2 after) 4 s (omega arith)

  pub first_v : v < 18446744073709551616 → start_v (first_made n s v after) ≡ v
  unfolding first_made
  first_v = sealed_back (bytes_of 2 0 ++ (n ∷ 0 ∷ bytes_of 4 s)) (bytes_of 2 after) 8 v (omega arith)

  first_after : after < 65536 → later_blocks (first_made n s v after) ≡ after
  unfolding first_made
  first_after = sealed_back (bytes_of 2 0 ++ (n ∷ 0 ∷ (bytes_of 4 s ++ bytes_of 8 v))) [] 2 after (omega arith)

  first_clear_lem : first_clear (first_made n s v after) ≡ true
  unfolding first_made
  first_clear_lem =
      let front = first_front n s v after in
      rw (sealed_at front (omega arith) 3 (omega arith), sealed_zeros front (omega arith) 18 492 (omega arith) (omega arith))

  pub first_fine : in_range n (record { 0 = s }) ≡ true → after < 65536 → first_number (first_made n s v after) after ≡ 0
  unfolding first_number first_made
  first_fine ranged h =
      let small : s < 4294967296 = omega (arith, (range_of n (record { 0 = s }) ranged).last) in
      sealed_fine (first_front n s v after) (omega arith) 0 (first_rest (first_made n s v after) after) refl
      (rw (first_n, first_s small, range_zero n (record { 0 = s }) ranged, eq-eqb _ after (first_after h), first_clear_lem))

-- A later block of at most 42 entries: its count, its entries, and no number refuses it.
module _ (k : ℕ) (es : List Entry) (few : length es ≤ 42) where
  abbrev front : List ℕ
  front = later_front k (length es) ++ entries_made es

  front_length : length front ≡ 4 + 12 * length es
  front_length = rw (length-append, entries_made_length es)

  room : length front ≤ 510
  room = rw front_length (omega arith)

  pub later_length : length (later_made k es) ≡ 512
  unfolding later_made
  later_length = sealed_length front room

  pub later_count : count (later_made k es) ≡ length es
  unfolding later_made
  later_count = sealed_at front room 2 (omega arith)

  later_entry : (j : ℕ) → j < length es → entry_bytes (later_made k es) j ≡ entry_made (get_or es j no_entry)
  unfolding later_made sealed
  later_entry j l =
      let head = later_front k (length es) in
      let zeros : List ℕ = replicate (510 - length front) 0 in
      let check = bytes_of 2 (check_of (filled front)) in
      let behind = zeros ++ check in
      rw (
        append_assoc front zeros check,
        append_assoc head (entries_made es) behind,
        drop-append-add head (entries_made es ++ behind) (12 * j),
      )
      (entry_at es behind j l)

  pub later_entries : ((j : ℕ) → j < length es → kind_value (get_or es j no_entry).kind < 18446744073709551616)
      → block_entries (later_made k es) ≡ es
  unfolding block_entries
  later_entries small =
      rw later_count
      (same_below (length es) (λ j. meant (entry_bytes (later_made k es) j)) (λ j. get_or es j no_entry)
      (λ j l. ap meant (later_entry j l) ∙ entry_back (get_or es j no_entry) (small j l))
      ∙ listed_all es no_entry)

  entries_fine_lem : entries_fine (later_made k es) (length es) ≡ true
  entries_fine_lem =
      all_intro (length es) (λ j. entry_fine (entry_bytes (later_made k es) j)) (λ j l. rw (later_entry j l) (entry_fine_lem (get_or es j no_entry)))

  rest_clear_lem : rest_clear (later_made k es) ≡ true
  unfolding later_made
  rest_clear_lem =
      rw (sealed_at front room 3 (omega arith), later_count)
      (sealed_zeros front room (4 + 12 * length es) (510 - (4 + 12 * length es)) (omega (arith, front_length)) (omega arith))

  pub later_fine_lem : k < 65536 → later_number (later_made k es) k ≡ 0
  unfolding later_number later_made
  later_fine_lem h =
      sealed_fine front room k (number_unless (later_fine (later_made k es)) 5) (number_back [] (length es ∷ 0 ∷ entries_made es) 2 k ∙ mod-eq_of_lt h)
      (rw (rest_clear_lem, later_count, le-leb (length es) 42 few, entries_fine_lem))
