-- No two answers of a run tell the same.
use Prim.Native.Nat.{ℕ}
use mathlib.Core.Path.{◌≡◌, refl, sym, ◌∙◌, ap}
use mathlib.Core.Bool.{cond}
use native.Mathlib.Omega.{arith}
use lib.Dec.{eqb}
use borrow.Author.Tests.{ne_eqb}
use Rattle.std.specs.Prelude.{Result, Ok, Err}
use Rattle.numbers.specs.declared.Refusal.{Refusal}
use Rattle.numbers.specs.Refusals.{refusal_number}
use Rattle.numbers.proofs.Refusals.{refusal_of, refusal_back, refused}
use Rattle.machine.specs.declared.State.{State}
use Rattle.schedule.specs.declared.FileRefusal.{FileRefusal}
use Rattle.bench.specs.declared.Ran.{Ran as RanFile}
use Rattle.bench.specs.Told.{Ran, ran_from, ran_as}

-- the answer that tells so
abbrev refused_back : ℕ → ℕ → ℕ → Result (Unit {0}) FileRefusal
refused_back n k place = cond (eqb n 0) (Ok tt) (Err (record { refusal = refusal_of n; block = k; place = place }))

abbrev ran_back : Ran → RanFile
ran_back r = record { refused = refused_back r.number r.block r.place; state = r.state }

from_same : (r : Result (Unit {0}) FileRefusal) (state : State) → ran_back (ran_from r state) ≡ record { refused = r; state = state }
from_same (Ok x) state = refl
from_same (Err e) state =
    rw (ne_eqb (refusal_number e.refusal) 0 (λ z. omega (arith, z, refused e.refusal)))
    (ap (λ (x : Refusal). record { refused = Err (record { refusal = x; block = e.block; place = e.place }); state = state }) (refusal_back e.refusal))

pub same_ran : (r s : RanFile) → ran_as r ≡ ran_as s → r ≡ s
same_ran r s h = sym (from_same r.refused r.state) ∙ (ap ran_back h ∙ from_same s.refused s.state)
