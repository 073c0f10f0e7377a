-- What a run returns is small: number, block and place together fit the C number; and so are a line's number and a detail.
-- Assumes nothing.
use Prim.Native.Nat.{ℕ, ◌≤◌, ◌<◌}
use mathlib.Core.Bool.{Bool, true, false, cond}
use mathlib.Core.List.{List}
use native.Mathlib.Decide.{dec_lt}
use native.Mathlib.Omega.{arith}
use borrow.Author.Tests.{le-leb, lt-leb}
use lib.Dec.{eqb, leb}
use lib.ListN.{length}
use Rattle.schedule.specs.File.{reading}
use Rattle.schedule.specs.Reading.{Reading, Refused, Accepted}
use Rattle.schedule.proofs.Low.{Low, reading_low}
use Rattle.run_log.specs.Log.{log_length}
use Rattle.bench.specs.Told.{Ran}
use Rattle.bench.specs.Bench.{ran_by, ran_of, last_state, ran_not}
use Rattle.reefcapstan.specs.Door.{line_detail}

-- the bounds of what a run returns
pub record RanLow (r : Ran) : Type 0 where
  pub number : r.number ≤ 27
  pub block : r.block ≤ 127
  pub place : r.place ≤ 509

pub ran_low : (f log : List ℕ) → RanLow (ran_of f log)
unfolding ran_of
ran_low f log = by (reading f) (reading_low f)
  where
    room : (r : Ran) → RanLow r → (t : Bool) → RanLow (cond t r (ran_not 6 0 0))
    room r h true = h
    room r h false = record { number = omega arith; block = omega arith; place = omega arith }

    by : (r : Reading) → Low r → RanLow (ran_by f log r)
    by (Refused n k place) low = record { number = omega (arith, low.0); block = low.1; place = low.2 }
    by (Accepted n s v c) low =
        room (record { number = 0; block = 0; place = 0; state = last_state f n s v }) (record { number = omega arith; block = omega arith; place = omega arith })
        (leb (log_length c) (length log))

-- a line's number in 56 bits
pub line_most : (line : ℕ) → line_detail line ≤ 72057594037927935
line_most line = go (dec_lt line 72057594037927936)
  where
    go : Dec (line < 72057594037927936) → line_detail line ≤ 72057594037927935
    go (yes h) = rw (le-leb line 72057594037927935 (omega (arith, h))) (omega (arith, h))
    go (no h) = rw (lt-leb line 72057594037927935 (omega (arith, h))) (omega arith)

pub detail_most : (number length place : ℕ) → length ≤ 72057594037927935 → place ≤ 72057594037927935
    → cond (eqb number 0) length place ≤ 72057594037927935
detail_most number length place h k = go (eqb number 0)
  where
    go : (t : Bool) → cond t length place ≤ 72057594037927935
    go true = h
    go false = k
