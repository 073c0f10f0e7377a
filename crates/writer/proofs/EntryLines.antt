-- The line of an entry is in the form, and asks for that entry.
-- Assumes nothing.
use Prim.Native.Nat.{ℕ, ◌<◌}
use mathlib.Core.Path.{◌≡◌, refl}
use mathlib.Core.Bool.{true}
use mathlib.Core.List.{List, ◌∷◌, ◌++◌, append_assoc}
use native.Mathlib.Omega.{arith}
use Rattle.text.specs.Decimal.{decimal_of, said}
use Rattle.text.specs.Lines.{space, newline}
use Rattle.text.proofs.Digits.{decimal_said}
use Rattle.schedule.specs.File.{entry_by}
use Rattle.writer.specs.Types.{Entry, Kind, Ask, Step, Load, Store, Check}
use Rattle.writer.specs.Form.{is_process, is_value, line_fine, asked, entry_in}
use Rattle.writer.specs.Made.{kind_value, kind_line, entry_line}
use Rattle.writer.proofs.Small.{Small}
use Rattle.writer.proofs.Apart.{Lacks}
use Rattle.writer.proofs.Numerals.{decimal_up_to, decimal_lacks, field_before, field_behind, field_lacks}

-- the line without its newline
abbrev bare_by : Kind → ℕ → List ℕ
bare_by (Ask Load) p = 76 ∷ space ∷ decimal_of p
bare_by (Ask (Store v)) p = 83 ∷ space ∷ (decimal_of p ++ space ∷ decimal_of v)
bare_by (Ask Check) p = 86 ∷ space ∷ decimal_of p
bare_by Step p = 84 ∷ space ∷ decimal_of p

abbrev pub bare : Entry → List ℕ
bare e = bare_by e.kind e.process.0

pub line_ended : (e : Entry) (rest : List ℕ) → entry_line e ++ rest ≡ bare e ++ newline ∷ rest
unfolding entry_line
line_ended e rest = go e.kind e.process.0
  where
    go : (k : Kind) (p : ℕ) → kind_line k p ++ rest ≡ bare_by k p ++ newline ∷ rest
    go (Ask Load) p = simp append_assoc
    go (Ask (Store v)) p = simp append_assoc
    go (Ask Check) p = simp append_assoc
    go Step p = simp append_assoc

-- no newline stands in it
pub bare_lacks : (e : Entry) → Lacks newline (bare e)
bare_lacks e = go e.kind e.process.0
  where
    lack : (n : ℕ) → Lacks newline (decimal_of n)
    lack n = decimal_lacks newline (omega arith) n

    go : (k : Kind) (p : ℕ) → Lacks newline (bare_by k p)
    go (Ask Load) p = (refl, (refl, lack p))
    go (Ask (Store v)) p = (refl, (refl, field_lacks p (decimal_of v) (lack v)))
    go (Ask Check) p = (refl, (refl, lack p))
    go Step p = (refl, (refl, lack p))

-- it is in the form, and asks for the entry
fine_by : (k : Kind) (p : ℕ) → Small (entry_by p k) → line_fine (bare_by k p) ≡ true
unfolding line_fine
fine_by k p small = go k small.stored
  where
    seat : is_process (decimal_of p) ≡ true
    seat = decimal_up_to 255 p (omega arith) (omega (arith, small.seat))

    go : (k : Kind) → kind_value k < 18446744073709551616 → line_fine (bare_by k p) ≡ true
    go (Ask Load) h = rw seat
    go (Ask (Store v)) h =
        let value : is_value (decimal_of v) ≡ true = decimal_up_to 18446744073709551615 v (omega arith) (omega (arith, h)) in
        rw (field_before p (decimal_of v), field_behind p (decimal_of v), seat, value)
    go (Ask Check) h = rw seat
    go Step h = rw seat

entry_by_lem : (k : Kind) (p : ℕ) → Small (entry_by p k) → entry_in (bare_by k p) ≡ entry_by p k
unfolding entry_in
entry_by_lem k p small = rw (fine_by k p small) (go k small.stored)
  where
    seat : said (decimal_of p) ≡ p
    seat = decimal_said p (omega (arith, small.seat))

    go : (k : Kind) → kind_value k < 18446744073709551616 → asked (bare_by k p) ≡ entry_by p k
    go (Ask Load) h = rw seat
    go (Ask (Store v)) h = rw (field_before p (decimal_of v), field_behind p (decimal_of v), seat, decimal_said v (omega (arith, h)))
    go (Ask Check) h = rw seat
    go Step h = rw seat

pub line_fine_lem : (e : Entry) → Small e → line_fine (bare e) ≡ true
line_fine_lem e small = fine_by e.kind e.process.0 small

pub line_entry : (e : Entry) → Small e → entry_in (bare e) ≡ e
line_entry e small = entry_by_lem e.kind e.process.0 small
