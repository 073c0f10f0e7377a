-- Reading back what was written: a record and a head from their bytes, and each entry of a whole log.
-- Assumes nothing.
use Prim.Native.Nat.{ℕ, suc, ◌+◌, ◌^◌, ◌≤◌, ◌<◌}
use mathlib.Core.Path.{◌≡◌, sym, ap, ◌∙◌}
use mathlib.Core.List.{List, [], ◌∷◌, ◌++◌, append_assoc}
use native.Mathlib.Nat.{mod-eq_of_lt}
use native.Mathlib.Omega.{arith}
use borrow.Author.Tests.{le-leb}
use Rattle.std.specs.Prelude.{Some}
use lib.ListN.{length, get_or, take, drop, length-append}
use lib.Seq.{get_or-append_seam, drop_at, split_at, length-take-le}
use Rattle.numbers.specs.Numbers.{bytes_of, number_at}
use Rattle.numbers.proofs.Below.{same_below, listed_all}
use Rattle.numbers.proofs.Bytes.{number_back}
use Rattle.run_log.specs.Log.{head_of, record_of, records_of, log_length, head_in, note_in, notes_in}
use Rattle.run_log.specs.Found.{log_of}
use Rattle.run_log.specs.Found.{head_found, note_found}
use Rattle.run_log.specs.Types.{Note}
use Rattle.run_log.proofs.Laws.{head_length, records_length, records_append, log_length_lem}

pub note_back : (note : Note) (behind : List ℕ) → note.value < 2 ^ 64 → note_in (record_of note ++ behind) ≡ note
unfolding note_in record_of
note_back note behind h =
    let front = note.outcome ∷ note.process ∷ note.steps ∷ note.mark ∷ [] in
    let e : number_at (record_of note ++ behind) 4 8 ≡ note.value = number_back front behind 8 note.value ∙ mod-eq_of_lt h in
    ap (λ (v : ℕ). record { outcome = note.outcome; process = note.process; steps = note.steps; mark = note.mark; value = v }) e

pub head_back : (entries changes n : ℕ) (behind : List ℕ) → entries < 2 ^ 32 → changes < 2 ^ 32
    → head_in (head_of entries changes n ++ behind) ≡ record { entries = entries; changes = changes; n = n }
unfolding head_in head_of
head_back entries changes n behind h k =
    let tail = n ∷ 0 ∷ 0 ∷ 0 ∷ behind in
    let a : number_at (head_of entries changes n ++ behind) 0 4 ≡ entries =
    number_back [] (bytes_of 4 changes ++ tail) 4 entries ∙ mod-eq_of_lt h in
    let b : number_at (head_of entries changes n ++ behind) 4 4 ≡ changes =
    number_back (bytes_of 4 entries) tail 4 changes ∙ mod-eq_of_lt k in
    rw (a, b)

-- Two entries with the same record are the same.
pub record_one : (a b : Note) → a.value < 2 ^ 64 → b.value < 2 ^ 64 → record_of a ≡ record_of b → a ≡ b
record_one a b h k e = sym (note_back a [] h) ∙ ap (λ (bytes : List ℕ). note_in (bytes ++ [])) e ∙ note_back b [] k

-- A whole log, with anything behind it: its head and the record of each entry read back.
module _ (changes n : ℕ) (rest : List ℕ) where
  pub head_in_lem : (notes : List Note) → length notes < 2 ^ 32 → changes < 2 ^ 32
      → head_in (log_of changes n notes ++ rest) ≡ record { entries = length notes; changes = changes; n = n }
  unfolding log_of
  head_in_lem notes h k =
      rw (append_assoc (head_of (length notes) changes n) (records_of notes) rest) (head_back (length notes) changes n (records_of notes ++ rest) h k)

  pub head_read : (notes : List Note) → length notes < 2 ^ 32 → changes < 2 ^ 32
      → head_found (log_of changes n notes ++ rest) ≡ Some (record { entries = length notes; changes = changes; n = n })
  unfolding head_found
  head_read notes h k =
      let there : 12 ≤ length (log_of changes n notes ++ rest) = rw (length-append, log_length_lem) (omega arith) in
      rw (le-leb _ _ there, head_in_lem notes h k)

  among : (first then : List Note) (note : Note) → note.value < 2 ^ 64
      → note_in (drop (log_length (length first)) (log_of changes n (first ++ note ∷ then) ++ rest)) ≡ note
  unfolding log_of records_of
  among first then note h =
      let head = head_of (length (first ++ note ∷ then)) changes n in
      let front = head ++ records_of first in
      let behind = records_of then ++ rest in
      let e : (head ++ records_of (first ++ note ∷ then)) ++ rest ≡ front ++ (record_of note ++ behind) =
      rw (records_append first (note ∷ then)) (simp append_assoc) in
      let place : length front ≡ log_length (length first) = rw (length-append head (records_of first), head_length, records_length) in
      rw (e, drop_at front (record_of note ++ behind) _ place, note_back note behind h)

  pub note_in_lem : (notes : List Note) (i : ℕ) (none : Note) → i < length notes → (get_or notes i none).value < 2 ^ 64
      → note_in (drop (log_length i) (log_of changes n notes ++ rest)) ≡ get_or notes i none
  note_in_lem notes i none l h =
      let first = take i notes in
      let then = drop (suc i) notes in
      let e : length first ≡ i = length-take-le i notes (omega arith) in
      ap (λ (all : List Note). note_in (drop (log_length i) (log_of changes n all ++ rest))) (split_at notes i none l)
      ∙ ap (λ (k : ℕ). note_in (drop (log_length k) (log_of changes n (first ++ get_or notes i none ∷ then) ++ rest))) (sym e)
      ∙ among first then (get_or notes i none) h

  pub note_read : (notes : List Note) (i : ℕ) (none : Note) → i < length notes → (get_or notes i none).value < 2 ^ 64
      → note_found (log_of changes n notes ++ rest) i ≡ Some (get_or notes i none)
  unfolding note_found
  note_read notes i none l h =
      let there : log_length (i + 1) ≤ length (log_of changes n notes ++ rest) = rw (length-append, log_length_lem) (omega arith) in
      rw (le-leb _ _ there, note_in_lem notes i none l h)

  pub note_among : (first then : List Note) (note : Note) → note.value < 2 ^ 64
      → note_found (log_of changes n (first ++ note ∷ then) ++ rest) (length first) ≡ Some note
  note_among first then note h =
      let e : get_or (first ++ note ∷ then) (length first) note ≡ note = get_or-append_seam first note then note in
      let l : length first < length (first ++ note ∷ then) = rw length-append (omega arith) in
      rw e at (note_read (first ++ note ∷ then) (length first) note l (rw e h))

-- The records of a whole log are those of its entries.
pub notes_back : (changes n : ℕ) (notes : List Note) (rest : List ℕ) → length notes < 2 ^ 32 → changes < 2 ^ 32
    → ((i : ℕ) (none : Note) → i < length notes → (get_or notes i none).value < 2 ^ 64)
    → notes_in (log_of changes n notes ++ rest) ≡ notes
unfolding notes_in
notes_back changes n notes rest h k small =
    let none : Note = record { outcome = 0; process = 0; steps = 0; mark = 0; value = 0 } in
    let log = log_of changes n notes ++ rest in
    rw (head_in_lem changes n rest notes h k)
    (same_below (length notes) (λ i. note_in (drop (log_length i) log)) (λ i. get_or notes i none)
    (λ i l. note_in_lem changes n rest notes i none l (small i none l))
    ∙ listed_all notes none)
