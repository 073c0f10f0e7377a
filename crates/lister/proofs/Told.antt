-- No two answers of the lister tell the same.
use Prim.Native.Nat.{ℕ}
use mathlib.Core.Path.{◌≡◌, refl, sym, ◌∙◌, ap}
use mathlib.Core.Bool.{cond}
use native.Mathlib.Omega.{arith}
use lib.Dec.{eqb}
use borrow.Author.Tests.{ne_eqb}
use Rattle.std.specs.Prelude.{Result, Ok, Err}
use Rattle.numbers.specs.declared.Refusal.{Refusal}
use Rattle.numbers.specs.Refusals.{refusal_number}
use Rattle.numbers.proofs.Refusals.{refusal_of, refusal_back, refused}
use Rattle.schedule.specs.declared.FileRefusal.{FileRefusal}
use Rattle.lister.specs.Told.{Listed, listed_as}

-- the answer that tells so
abbrev listed_back : Listed → Result ℕ FileRefusal
listed_back r = cond (eqb r.number 0) (Ok r.length) (Err (record { refusal = refusal_of r.number; block = r.block; place = r.place }))

listed_same : (r : Result ℕ FileRefusal) → listed_back (listed_as r) ≡ r
listed_same (Ok length) = refl
listed_same (Err e) =
    rw (ne_eqb (refusal_number e.refusal) 0 (λ z. omega (arith, z, refused e.refusal)))
    (ap (λ (x : Refusal). Err (record { refusal = x; block = e.block; place = e.place })) (refusal_back e.refusal))

pub same_listed : (r s : Result ℕ FileRefusal) → listed_as r ≡ listed_as s → r ≡ s
same_listed r s h = sym (listed_same r) ∙ (ap listed_back h ∙ listed_same s)
