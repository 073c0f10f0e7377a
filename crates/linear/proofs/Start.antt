-- The invariants at the start: one change, of process 0, to the first value; nobody has seen anything.
-- Assumes nothing.
use Prim.Native.Nat.{ℕ, zero, suc, ◌<◌}
use mathlib.Core.Path.{◌≡◌, refl, sym, ap, subst, subst₂}
use mathlib.Core.Bool.{true}
use mathlib.Core.Logic.{inl, inr}
use mathlib.Core.List.{[], ◌∷◌}
use native.Mathlib.Omega.{arith}
use lib.IntN.{pos, negsuc}
use lib.ListN.{get_or-replicate}
use Rattle.linear.specs.Types.{Sequence, Row, Record, Idle}
use Rattle.numbers.specs.Numbers.{in_range}
use Rattle.machine.specs.State.{row_at, record_at, no_row, no_record, first_row, first_record, first_state}
use Rattle.numbers.proofs.Range.{range_of}
use Rattle.word.specs.Word.{none}
use Rattle.linear.proofs.History.{Change, At}
use Rattle.linear.proofs.View.{view_of}
use Rattle.linear.proofs.Invariant.{slot_of, OneAt, Inv}

-- everybody is idle
pub idle_start : (n : ℕ) (s : Sequence) (v q : ℕ) → q < 16 → (record_at (first_state n s v) q).place ≡ Idle
idle_start n s v zero l = refl
idle_start n s v (suc j) l = ap (λ (o : Record). o.place) (get_or-replicate 15 j (first_record 1) no_record (omega (arith, l)))

abbrev pub first_change : ℕ → Change
first_change v = record { process = 0; number = 1; value = v }

pub inv_start : (n : ℕ) (s : Sequence) (v : ℕ) → in_range n s ≡ true → Inv (view_of (first_state n s v)) 0 (first_change v ∷ []) (λ q. none)
inv_start n s v e =
    record {
      size = refl;
      newest = (v, inl (refl, refl, refl, refl));
      following = refl;
      some = omega arith;
      sorted = (λ i k u a. absurd a, tt);
      each = λ q l. each q (omega (arith, l, (range_of n s e).few));
    }
  where
    only : (i q k u : ℕ) → At (first_change v ∷ []) i q k u → (0 ≡ q) × (1 ≡ k)
    only i q k u (inl f) = (f.1, f.2)
    only i q k u (inr a) = absurd a

    each : (q : ℕ) → q < 16 → OneAt (view_of (first_state n s v)) (first_change v ∷ []) q (row_at (first_state n s v) q) (record_at (first_state n s v) q) none
    each zero l =
        record {
          below = λ i k u a. omega (arith, only i 0 k u a);
          number = refl;
          last = λ j a b. (0, inl (refl, refl, omega (arith, b), subst (λ (i : ℕ). v ≡ slot_of (first_row v (pos 0)) i) (one j b) refl));
          spare = λ j a b c. absurd (omega (arith, c));
          oldv = λ j a b. absurd (omega (arith, a, b));
          kept = refl;
          stage = tt;
        }
      where
        one : (j : ℕ) → suc j ≡ 2 → 1 ≡ j
        one j b = omega arith
    each (suc j) l =
        subst₂ (λ (r : Row) (o : Record). OneAt (view_of (first_state n s v)) (first_change v ∷ []) (suc j) r o none)
        (sym (get_or-replicate 15 j (first_row v (negsuc 0)) no_row (omega (arith, l))))
        (sym (get_or-replicate 15 j (first_record 1) no_record (omega (arith, l))))
        (record {
          below = λ i k u a. absurd (omega (arith, only i (suc j) k u a));
          number = refl;
          last = λ i a b. absurd (omega (arith, a, b));
          spare = λ i a b c. absurd (omega (arith, c));
          oldv = λ i a b. absurd (omega (arith, a, b));
          kept = refl;
          stage = tt;
        })
