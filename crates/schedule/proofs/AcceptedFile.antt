-- What is known of an accepted block and of an accepted file, and when a file is accepted.
-- Assumes nothing.
use mathlib.Core.Path.{◌≡◌, refl, sym, ap, ◌∙◌}
use mathlib.Core.Bool.{Bool, true, false, cond, not, ◌&&◌, false≢true, and-eq-true_iff}
use mathlib.Core.List.{List, []}
use Prim.Native.Nat.{ℕ, zero, suc, ◌+◌, ◌-◌, ◌*◌, ◌/◌, ◌%◌, ◌≤◌, ◌<◌}
use native.Mathlib.Nat.{add-zero}
use native.Mathlib.Omega.{arith}
use borrow.Author.Tests.{eqb-true, leb-true, eq-eqb, ne_eqb}
use lib.ListN.{length, get_or, take, drop, length-append}
use lib.Dec.{eqb, leb}
use Rattle.numbers.specs.Numbers.{in_range, number_unless, first_found, range_number}
use Rattle.numbers.proofs.Below.{all_at}
use Rattle.numbers.proofs.First.{found_both, unless_fine, range_in}
use Rattle.schedule.specs.Types.{Ask, Step, Load, Store, Check, FirstBlock, FirstRefused, Start, Reading, Refused, Accepted}
use Rattle.schedule.specs.File.{number, check_of, check_fine, place_fine, block_number, start_n, start_s, start_v, later_blocks, first_clear, first_rest, first_number, place_with, kind, process, value, kind_fine, entry_clear, entry_fine, entry_by, no_entry, meant, count, entry_bytes, entries_fine, rest_clear, later_fine, later_number, length_fine, block_at, blocks_after, entries_to, file_entries, found, found_in_first, in_turn, accepted_as, reading}
use Rattle.schedule.specs.Direct.{is_accepted, first_refused, first_of, used_part, accepted_part, entry_at}
use Rattle.schedule.proofs.Laws.{part_length}
use Rattle.schedule.proofs.Entries.{block_entries_lem, block_entry, entry_stands, entry_bytes_lem, part_bytes, used_is, used_entry}

-- a block that no number refuses passes all three tests
pub block_fine : (b : List ℕ) (k rest : ℕ) → block_number b k rest ≡ 0 → (check_fine b ≡ true) × ((place_fine b k ≡ true) × (rest ≡ 0))
block_fine b k rest h =
    let place = number_unless (place_fine b k) 3 in
    let one = found_both (number_unless (check_fine b) 2) (first_found place rest) h in
    let two = found_both place rest one.1 in
    (unless_fine (check_fine b) 2 (omega arith) one.0, (unless_fine (place_fine b k) 3 (omega arith) two.0, two.1))

-- a block whose check and place are right is refused as its rest is, and one where they aren't by them
pub frame_right : (b : List ℕ) (k rest : ℕ) → block_number b k 0 ≡ 0 → block_number b k rest ≡ rest
frame_right b k rest h =
    let fine = block_fine b k 0 h in
    rw (fine.0, fine.1.0)

pub frame_wrong : (b : List ℕ) (k rest : ℕ) → (block_number b k 0 ≡ 0 → ⊥) → block_number b k rest ≡ block_number b k 0
frame_wrong b k rest = go (check_fine b) (place_fine b k)
  where
    go : (t u : Bool) → (first_found (number_unless t 2) (first_found (number_unless u 3) 0) ≡ 0 → ⊥)
        → first_found (number_unless t 2) (first_found (number_unless u 3) rest) ≡ first_found (number_unless t 2) (first_found (number_unless u 3) 0)
    go true true h = absurd (h refl)
    go true false h = refl
    go false u h = refl

-- an entry of a kind that there is asks something of the process that its byte names
pub meant_process : (e : List ℕ) → kind_fine e ≡ true → (meant e).process.0 ≡ process e
unfolding meant
meant_process e fine =
    let ends = (and-eq-true_iff (leb 1 (kind e)) (leb (kind e) 4)).0 fine in
    go (kind e) (leb-true 1 (kind e) ends.0) (leb-true (kind e) 4 ends.1)
  where
    go : (k : ℕ) → 1 ≤ k → k ≤ 4
        → (cond (eqb k 1) (entry_by (process e) (Ask Load)) (cond (eqb k 2) (entry_by (process e) (Ask (Store (value e)))) (cond (eqb k 3) (entry_by (process e) (Ask Check)) (cond (eqb k 4) (entry_by (process e) Step) no_entry)))).process.0 ≡ process e
    go zero l m = absurd (omega arith)
    go (suc zero) l m = refl
    go (suc (suc zero)) l m = refl
    go (suc (suc (suc zero))) l m = refl
    go (suc (suc (suc (suc zero)))) l m = refl
    go (suc (suc (suc (suc (suc k))))) l m = absurd (omega arith)

-- an accepted later block: its count, and each of its entries
module _ (b : List ℕ) (k : ℕ) (ok : later_number b k ≡ 0) where
  later_fine_lem : later_fine b ≡ true
  unfolding later_number
  later_fine_lem = unless_fine (later_fine b) 5 (omega arith) (block_fine b k (number_unless (later_fine b) 5) ok).1.1

  pub later_frame : (number 510 511 b ≡ check_of b) × (number 0 1 b ≡ k)
  unfolding later_number
  later_frame =
      let fine = block_fine b k (number_unless (later_fine b) 5) ok in
      (eqb-true (number 510 511 b) (check_of b) fine.0, eqb-true (number 0 1 b) k fine.1.0)

  pub later_count : count b ≤ 42
  later_count = leb-true (count b) 42 ((and-eq-true_iff (leb (count b) 42) (entries_fine b (count b) && rest_clear b)).0 later_fine_lem).0

  pub later_entry : (j : ℕ) → j < count b → entry_fine (entry_bytes b j) ≡ true
  later_entry j l =
      all_at (count b) (λ j. entry_fine (entry_bytes b j))
      ((and-eq-true_iff (entries_fine b (count b)) (rest_clear b)).0 ((and-eq-true_iff (leb (count b) 42) (entries_fine b (count b) && rest_clear b)).0 later_fine_lem).1).0
      j l

  pub later_kind : (j : ℕ) → j < count b → kind_fine (entry_bytes b j) ≡ true
  later_kind j l = ((and-eq-true_iff (kind_fine (entry_bytes b j)) (entry_clear (entry_bytes b j))).0 (later_entry j l)).0

-- of an accepted block the part that is handed back is the one that its count names, and of a refused one there is none
pub part_accepted : (b : List ℕ) (k : ℕ) → length b ≡ 512 → later_number b k ≡ 0 → accepted_part b k ≡ used_part b
unfolding accepted_part
part_accepted b k e ok = rw (e, ok)

pub part_refused : (b : List ℕ) (k : ℕ) → (later_number b k ≡ 0 → ⊥) → accepted_part b k ≡ []
unfolding accepted_part
part_refused b k bad = rw (ne_eqb (later_number b k) 0 bad) (none (eqb (length b) 512))
  where
    none : (t : Bool) → ◌≡◌ {A = List ℕ} (cond t [] []) []
    none true = refl
    none false = refl

-- a file's length says how many blocks it has
pub length_blocks : (n : ℕ) → length_fine n ≡ true → (n ≡ 512 * (n / 512 - 1 + 1)) × (n / 512 - 1 < 128)
length_blocks n h =
    let whole = (and-eq-true_iff (eqb (n % 512) 0) (leb 512 n && leb n 65536)).0 h in
    let ends = (and-eq-true_iff (leb 512 n) (leb n 65536)).0 whole.1 in
    let e : n % 512 ≡ 0 = eqb-true (n % 512) 0 whole.0 in
    let low : 512 ≤ n = leb-true 512 n ends.0 in
    let high : n ≤ 65536 = leb-true n 65536 ends.1 in
    (omega arith, omega arith)

-- what a file of a fine length says, by what its block 0 says
abbrev pub then_later : List ℕ → FirstBlock → Reading
then_later f (FirstRefused n place) = Refused n 0 place
then_later f (Start n s v) = in_turn f 1 (blocks_after f) (Accepted n s v (length (file_entries f)))

pub reading_by_first : (f : List ℕ) → length_fine (length f) ≡ true → then_later f (first_of (block_at f 0) (blocks_after f)) ≡ reading f
unfolding first_of reading
reading_by_first f fine =
    let whole : length (block_at f 0) ≡ 512 = part_length f 0 512 (omega (arith, length_blocks (length f) fine)) in
    rw (fine, whole) (go (eqb (first_number (block_at f 0) (blocks_after f)) 0))
  where
    b : List ℕ
    b = block_at f 0

    number : ℕ
    number = first_number b (blocks_after f)

    go : (t : Bool)
        → then_later f (cond t (Start (start_n b) (start_s b) (start_v b)) (first_refused number b))
        ≡ cond t (in_turn f 1 (blocks_after f) (accepted_as f)) (Refused number 0 (place_with number b))
    go true = refl
    go false = refl

-- a number that was found ends the reading
found_accepted : (n k place : ℕ) (rest : Reading) → is_accepted (found n k place rest) ≡ true → (n ≡ 0) × (is_accepted rest ≡ true)
found_accepted n k place rest = go (eqb n 0) (eqb-true n 0)
  where
    go : (t : Bool) → (t ≡ true → n ≡ 0) → is_accepted (cond t rest (Refused n k place)) ≡ true → (n ≡ 0) × (is_accepted rest ≡ true)
    go true z h = (z refl, h)
    go false z h = absurd (false≢true h)

-- the later blocks in turn: one of them is refused, or the reading goes on to the next
module _ (f : List ℕ) (k : ℕ) (rest : Reading) (number : ℕ) (is : number ≡ later_number (block_at f k) k) where
  pub turn_refused : (n : ℕ) → 0 < n → (number ≡ 0 → ⊥) → Refused number k 0 ≡ in_turn f k n rest
  unfolding in_turn
  turn_refused zero l h = absurd (omega arith)
  turn_refused (suc n) l h = rw (← is, ne_eqb number 0 h)

  pub turn_next : (n : ℕ) → 0 < n → number ≡ 0 → in_turn f k n rest ≡ in_turn f (k + 1) (n - 1) rest
  unfolding in_turn
  turn_next zero l h = absurd (omega arith)
  turn_next (suc n) l h =
      let e : suc n - 1 ≡ n = omega arith in
      rw (← is, eq-eqb number 0 h, e)

-- where no number is found, the reading comes to its end, and only there
pub turn_passed : (f : List ℕ) (k n : ℕ) (rest : Reading) → ((j : ℕ) → j < n → later_number (block_at f (k + j)) (k + j) ≡ 0)
    → in_turn f k n rest ≡ rest
unfolding in_turn
turn_passed f k zero rest h = refl
turn_passed f k (suc n) rest h =
    let none : later_number (block_at f k) k ≡ 0 = rw (add-zero k) at (h 0 (omega arith)) in
    rw none
    (turn_passed f (k + 1) n rest (λ j l. let e : k + suc j ≡ k + 1 + j = omega arith in rw e at (h (suc j) (omega arith))))

turn_accepted : (f : List ℕ) (k n : ℕ) (rest : Reading) → is_accepted (in_turn f k n rest) ≡ true
    → (j : ℕ) → j < n → later_number (block_at f (k + j)) (k + j) ≡ 0
unfolding in_turn
turn_accepted f k zero rest h j l = absurd (omega arith)
turn_accepted f k (suc n) rest h zero l =
    rw (add-zero k) (found_accepted (later_number (block_at f k) k) k 0 (in_turn f (k + 1) n rest) h).0
turn_accepted f k (suc n) rest h (suc j) l =
    let e : k + suc j ≡ k + 1 + j = omega arith in
    rw e
    (turn_accepted f (k + 1) n rest (found_accepted (later_number (block_at f k) k) k 0 (in_turn f (k + 1) n rest) h).1 j (omega arith))

-- an accepted file: its length, block 0, each later block, and what is answered
module _ (f : List ℕ) (ok : is_accepted (reading f) ≡ true) where
  opened : (length_fine (length f) ≡ true)
      × ((first_number (block_at f 0) (blocks_after f) ≡ 0) × (is_accepted (in_turn f 1 (blocks_after f) (accepted_as f)) ≡ true))
  unfolding reading
  opened = go (length_fine (length f)) ok
    where
      number : ℕ
      number = first_number (block_at f 0) (blocks_after f)

      later : Reading
      later = in_turn f 1 (blocks_after f) (accepted_as f)

      go : (t : Bool) → is_accepted (cond (not t) (Refused 1 0 0) (found_in_first (block_at f 0) number later)) ≡ true
          → (t ≡ true) × ((number ≡ 0) × (is_accepted later ≡ true))
      go true h = (refl, found_accepted number 0 (place_with number (block_at f 0)) later h)
      go false h = absurd (false≢true h)

  pub accepted_length : (length f ≡ 512 * (blocks_after f + 1)) × (blocks_after f < 128)
  accepted_length = length_blocks (length f) opened.0

  pub accepted_first : first_number (block_at f 0) (blocks_after f) ≡ 0
  accepted_first = opened.1.0

  pub accepted_block : (k : ℕ) → 0 < k → k ≤ blocks_after f → later_number (block_at f k) k ≡ 0
  accepted_block k l h =
      let e : 1 + (k - 1) ≡ k = omega arith in
      rw e at (turn_accepted f 1 (blocks_after f) (accepted_as f) opened.1.1 (k - 1) (omega arith))

  pub accepted_whole : (k : ℕ) → k ≤ blocks_after f → length (block_at f k) ≡ 512
  accepted_whole k h = part_length f (512 * k) 512 (omega (arith, accepted_length.0))

  pub accepted_count : (k : ℕ) → 0 < k → k ≤ blocks_after f → count (block_at f k) ≤ 42
  accepted_count k l h = later_count (block_at f k) k (accepted_block k l h)

  pub accepted_room : (k : ℕ) → 0 < k → k ≤ blocks_after f → 4 + 12 * count (block_at f k) ≤ length (block_at f k)
  accepted_room k l h = omega (arith, accepted_whole k h, accepted_count k l h)

  -- "at most 5,334 entries": 42 for each of at most 127 blocks
  bounded : (n : ℕ) → n ≤ blocks_after f → length (entries_to f n) ≤ 42 * n
  unfolding entries_to
  bounded zero h = omega arith
  bounded (suc n) h = rw (length-append, block_entries_lem (block_at f (suc n))) (omega (arith, bounded n (omega arith), accepted_count (suc n) (omega arith) h))

  pub accepted_bound : length (file_entries f) ≤ 5334
  accepted_bound = omega (arith, bounded (blocks_after f) (omega arith), accepted_length.1)

  -- entry j of block k + 1 is an entry of the file, with its number and its bytes
  pub accepted_entry : (k j : ℕ) → k < blocks_after f → j < count (block_at f (k + 1))
      → get_or (file_entries f) (length (entries_to f k) + j) no_entry ≡ meant (take 12 (drop (512 * (k + 1) + (4 + 12 * j)) f))
  accepted_entry k j l h =
      let few : count (block_at f (k + 1)) ≤ 42 = accepted_count (k + 1) (omega arith) (omega arith) in
      entry_stands f k (blocks_after f) j l h
      ∙ block_entry (block_at f (k + 1)) j h
      ∙ ap meant (entry_bytes_lem f (k + 1) j (omega arith))

  -- and it asks something of the process that its byte names
  pub accepted_process : (k j : ℕ) → k < blocks_after f → j < count (block_at f (k + 1))
      → (get_or (file_entries f) (length (entries_to f k) + j) no_entry).process.0 ≡ process (entry_bytes (block_at f (k + 1)) j)
  accepted_process k j l h =
      rw (entry_stands f k (blocks_after f) j l h, block_entry (block_at f (k + 1)) j h)
      (meant_process (entry_bytes (block_at f (k + 1)) j)
      (later_kind (block_at f (k + 1)) (k + 1) (accepted_block (k + 1) (omega arith) (omega arith)) j h))

  -- what is read at place j of the part that the block's count names
  pub accepted_read : (k j : ℕ) → k < blocks_after f → j < count (block_at f (k + 1))
      → entry_at (used_part (block_at f (k + 1))) j ≡ get_or (file_entries f) (length (entries_to f k) + j) no_entry
  accepted_read k j l h =
      used_entry (block_at f (k + 1)) (accepted_room (k + 1) (omega arith) (omega arith)) j
      ∙ sym (entry_stands f k (blocks_after f) j l h)

  -- of each later block the part that its count names is the part that is handed back
  pub accepted_used : (k : ℕ) → 0 < k → k ≤ blocks_after f → accepted_part (block_at f k) k ≡ used_part (block_at f k)
  accepted_used k l h = part_accepted (block_at f k) k (accepted_whole k h) (accepted_block k l h)

  -- that part, as a part of the file
  pub accepted_part_lem : (k : ℕ) → 0 < k → k ≤ blocks_after f
      → (accepted_part (block_at f k) k ≡ take (12 * count (block_at f k)) (drop (512 * k + 4) f))
      × (512 * k + 4 + 12 * count (block_at f k) ≤ length f)
  accepted_part_lem k l h =
      let few : count (block_at f k) ≤ 42 = accepted_count k l h in (
        accepted_used k l h
            ∙ used_is (block_at f k) (accepted_room k l h)
            ∙ part_bytes f k (12 * count (block_at f k)) (omega arith),
        omega (arith, accepted_length.0),
      )

-- a file whose length, block 0 and later blocks give no number is accepted, and an accepted file is answered with what it says
pub accepted_if : (f : List ℕ) → length_fine (length f) ≡ true → first_number (block_at f 0) (blocks_after f) ≡ 0
    → ((k : ℕ) → 0 < k → k ≤ blocks_after f → later_number (block_at f k) k ≡ 0) → reading f ≡ accepted_as f
unfolding reading
accepted_if f l h each = rw (l, h) (turn_passed f 1 (blocks_after f) (accepted_as f) (λ j m. each (1 + j) (omega arith) (omega arith)))

pub accepted_as_lem : (f : List ℕ) → is_accepted (reading f) ≡ true → reading f ≡ accepted_as f
accepted_as_lem f ok = accepted_if f (opened f ok).0 (accepted_first f ok) (accepted_block f ok)

-- what the answer for an accepted file tells of it
pub accepted_answer : (f : List ℕ) {n s v c : ℕ} → reading f ≡ Accepted n s v c
    → (is_accepted (reading f) ≡ true)
    × ((n ≡ start_n (block_at f 0)) × ((s ≡ start_s (block_at f 0)) × ((v ≡ start_v (block_at f 0)) × (c ≡ length (file_entries f)))))
accepted_answer f {n} {s} {v} {c} e =
    let ok : is_accepted (reading f) ≡ true = ap is_accepted e in
    let same : Accepted n s v c ≡ accepted_as f = sym e ∙ accepted_as_lem f ok in
    (ok, (cc, (cc, (cc, cc))))

-- block 0 of an accepted file: N and S are in their ranges, and it tells how many blocks come after it
pub accepted_start : (f : List ℕ) → is_accepted (reading f) ≡ true
    → (in_range (start_n (block_at f 0)) (record { 0 = start_s (block_at f 0) }) ≡ true) × (later_blocks (block_at f 0) ≡ blocks_after f)
unfolding first_number
accepted_start f ok =
    let b = block_at f 0 in
    let range = range_number (start_n b) (record { 0 = start_s b }) in
    let count = number_unless (eqb (later_blocks b) (blocks_after f)) 18 in
    let rest = (block_fine b 0 (first_rest b (blocks_after f)) (accepted_first f ok)).1.1 in
    let parts = found_both range (first_found count (number_unless (first_clear b) 19)) rest in
    let whole = found_both count (number_unless (first_clear b) 19) parts.1 in (
      range_in (start_n b) (record { 0 = start_s b }) parts.0,
      eqb-true (later_blocks b) (blocks_after f) (unless_fine (eqb (later_blocks b) (blocks_after f)) 18 (omega arith) whole.0),
    )
