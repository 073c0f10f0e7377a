-- What the lister answers is small.
-- Assumes nothing.
use Prim.Native.Nat.{ℕ, ◌≤◌}
use mathlib.Core.Path.{◌≡◌, refl}
use mathlib.Core.Bool.{Bool, true, false, cond}
use mathlib.Core.List.{List}
use native.Mathlib.Omega.{arith}
use lib.Dec.{leb}
use lib.ListN.{length, length-append}
use Rattle.schedule.specs.File.{reading, file_entries}
use Rattle.schedule.proofs.AcceptedFile.{accepted_bound}
use Rattle.schedule.proofs.Low.{Low, reading_low}
use Rattle.writer.specs.Made.{start_line, entry_lines, text_made, listing}
use Rattle.lister.specs.Types.{Reading, Refused, Accepted, Listed}
use Rattle.lister.specs.Lister.{listed_by, listed_of}
use Rattle.lister.proofs.Sizes.{start_most, lines_most}

pub text_most : (f : List ℕ) (n s v c : ℕ) → reading f ≡ Accepted n s v c → length (listing f n s v) ≤ 234761
unfolding text_made
text_most f n s v c e =
    rw (length-append (start_line n s v) (entry_lines (file_entries f)))
    (omega (arith, start_most n s v, lines_most (file_entries f), accepted_bound f (rw e)))

-- the bounds of an answer
pub record ListedLow (r : Listed) : Type 0 where
  pub number : r.number ≤ 27
  pub block : r.block ≤ 127
  pub place : r.place ≤ 509
  pub length : r.length ≤ 234761

pub listed_low : (f out : List ℕ) → ListedLow (listed_of f out)
unfolding listed_of
listed_low f out = by (reading f) refl (reading_low f)
  where
    room : (size : ℕ) → size ≤ 234761 → (t : Bool)
        → ListedLow (cond t (record { number = 0; block = 0; place = 0; length = size }) (record { number = 27; block = 0; place = 0; length = 0 }))
    room size h true = record { number = omega arith; block = omega arith; place = omega arith; length = h }
    room size h false = record { number = omega arith; block = omega arith; place = omega arith; length = omega arith }

    by : (r : Reading) → reading f ≡ r → Low r → ListedLow (listed_by f out r)
    by (Refused n k place) e low = record { number = omega (arith, low.0); block = low.1; place = low.2; length = omega arith }
    by (Accepted n s v c) e low =
        room (length (listing f n s v)) (text_most f n s v c e) (leb (length (listing f n s v)) (length out))
