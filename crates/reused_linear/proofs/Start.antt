-- The invariants hold at the start.
-- Assumes nothing.
use Prim.Native.Nat.{ℕ, zero, suc, ◌+◌, ◌*◌, ◌≤◌, ◌<◌}
use mathlib.Core.Path.{◌≡◌, refl, sym, subst}
use mathlib.Core.Logic.{inl}
use mathlib.Core.List.{[]}
use native.Mathlib.Omega.{arith}
use Rattle.reused.specs.Circle.{interval_of}
use Rattle.reused.specs.State.{first_row, row_at, first_triple, first_state, no_row}
use Rattle.reused.proofs.SoundKept.{first_or_later}
use Rattle.reused_linear.specs.Types.{Own}
use Rattle.reused_linear.specs.Arcs.{way}
use Rattle.reused_linear.specs.Safe.{first_safe}
use Rattle.reused_linear.proofs.Circle.{way_one}
use Rattle.reused_linear.proofs.Inv.{Sizes, owner_of, Shape, Nums, AtX, Pair, Inv}
use Rattle.std.proofs.lemmas.Option.{none-some}
use Rattle.reused_linear.proofs.Owners.{some_tags, at_x_other_lem}

module _ {N D M : ℕ} (sizes : Sizes N D M) where
  -- the circle holds more than one interval
  some_room : D + D ≤ M
  some_room = omega (arith, sizes.one, sizes.all, some_tags sizes, product)
    where
      more : (n : ℕ) → N ≡ suc n → D + D ≤ (2 * N + 2) * D
      more n e = subst (λ (k : ℕ). D + D ≤ (2 * k + 2) * D) (sym e) (omega arith)

      product : D + D ≤ (2 * N + 2) * D
      product = go N refl
        where
          go : (k : ℕ) → N ≡ k → D + D ≤ (2 * N + 2) * D
          go zero e = absurd (omega (arith, e, sizes.one))
          go (suc n) e = more n e

  from_zero_lem : (a : ℕ) → a < M → way M 0 a ≡ a
  from_zero_lem a l = way_one 0 a a (omega (arith, l)) l l (inl (omega arith))

  shape_first : (t : ℕ) → Shape N M (first_row t D)
  shape_first t =
      record { named = λ a e. absurd (none-some _ e); old = λ w e. absurd (none-some _ e); loads = λ l. absurd l; shown = λ h. refl }

  nums_first : (t p : ℕ) → t ≤ 1 → Nums N D M (owner_of (first_row t D)) (first_safe p) []
  nums_first t p few = go N refl
    where
      tags : 1 ≤ D
      tags = some_tags sizes

      start : way M 0 D ≡ D
      start = from_zero_lem D (omega (arith, tags, some_room))

      tag : way M 0 t ≡ t
      tag = from_zero_lem t (omega (arith, few, tags, some_room))

      go : (k : ℕ) → N ≡ k → Nums N D M (owner_of (first_row t D)) (first_safe p) []
      go zero e = absurd (omega (arith, e, sizes.one))
      go (suc n) e =
          let all : (2 * suc n + 2) * D ≤ M = subst (λ (k : ℕ). (2 * k + 2) * D ≤ M) e sizes.all in
          let interval : D ≡ (2 * suc n + 1) * suc n = subst (λ (k : ℕ). D ≡ (2 * k + 1) * k) e sizes.interval in
          let uses : way M 0 t + suc n * (2 * n + 1) + suc n ≤ D = omega (arith, tag, few, interval) in
          record {
            tag = omega (arith, few, tags, some_room);
            start = omega (arith, tags, some_room);
            safe = omega (arith, tags, some_room);
            search = sizes.one;
            left = 2 * n + 1;
            ahead = omega (arith, start);
            jumps = omega (arith, e);
            room = omega (arith, start, all);
            looked = omega arith;
            uses = subst (λ (k : ℕ). way M 0 t + k * (2 * n + 1) + k ≤ D + 0) (sym e) (omega (arith, uses));
            few = omega arith;
          }

module _ {N M : ℕ} (sizes : Sizes N (interval_of N) M) (few : N ≤ 16) where
  pair_any : (p q : ℕ) (v : Own) (u : ℕ) → Pair (interval_of N) M (owner_of v) (first_safe p) [] p (first_row u (interval_of N)) q
  pair_any p q v u =
      record {
        named = λ a f. absurd (none-some _ f);
        read = λ w l. absurd l;
        seen = λ w l. absurd (none-some _ l.old);
        unused = λ w l. absurd (none-some _ l.old);
      }

  rows : (P : Own → Type 0) → P (first_row 1 (interval_of N)) → P (first_row 0 (interval_of N)) → (q : ℕ) → q < N → P (row_at (first_state N M) q)
  rows P one other q l = first_or_later P (first_row 1 (interval_of N)) (first_row 0 (interval_of N)) no_row one other q (omega (arith, l, few))

  x_first : (p : ℕ) → AtX (interval_of N) M first_triple (owner_of (row_at (first_state N M) p)) (first_safe p) [] p
  x_first zero =
      record {
        known = λ e l. absurd (omega (arith, l, from_zero_lem sizes 0 (omega (arith, some_tags sizes, some_room sizes)), from_zero_lem sizes (interval_of N) (omega (arith, some_tags sizes, some_room sizes)), some_tags sizes));
        last = λ e. inl (omega (arith, from_zero_lem sizes 0 (omega (arith, some_tags sizes, some_room sizes)), from_zero_lem sizes 1 (omega (arith, some_tags sizes, some_room sizes))));
      }
  x_first (suc k) = at_x_other_lem (λ e. absurd (omega (arith, e)))

  pub inv_start : Inv N (interval_of N) M first_triple (row_at (first_state N M)) first_safe (λ p. [])
  inv_start =
      record {
        x_tag = omega (arith, some_tags sizes, some_room sizes);
        x_process = sizes.one;
        shapes = rows (Shape N M) (shape_first sizes 1) (shape_first sizes 0);
        nums = λ p l.
            rows (λ o. Nums N (interval_of N) M (owner_of o) (first_safe p) []) (nums_first sizes 1 p (omega arith)) (nums_first sizes 0 p (omega arith)) p l;
        at_x = λ p l. x_first p;
        pairs = λ p l q k.
            rows (λ o. Pair (interval_of N) M (owner_of (row_at (first_state N M) p)) (first_safe p) [] p o q) (pair_any p q (row_at (first_state N M) p) 1) (pair_any p q (row_at (first_state N M) p) 0) q k;
      }
