-- What follows from the invariants, with no step taken.
-- Assumes nothing.
use Prim.Native.Nat.{ℕ, zero, suc, ◌+◌, ◌≤◌, ◌<◌}
use mathlib.Core.Path.{◌≡◌, refl, sym, ap, ◌∙◌, subst}
use mathlib.Core.Bool.{Bool, true, false, ◌&&◌}
use mathlib.Core.List.{List}
use native.Mathlib.Omega.{arith}
use native.Mathlib.Decide.{ℕ_discrete, dec_lt}
use lib.Dec.{eqb}
use borrow.Author.Tests.{eqb-true, eq-eqb, ne_eqb}
use Rattle.step.specs.Steps.{same_tag}
use Rattle.linear.specs.Types.{Tag, Row, Place, Idle, Load1, Load2, Load3, Load5, Store7, Store8, Store9, Store10, Check14}
use Rattle.machine.proofs.Tests.{and_left, and_right, and_both}
use Rattle.linear.proofs.View.{View, row_at, record_at}
use Rattle.word.specs.Word.{Link, none, at, linked}
use Rattle.linear.proofs.History.{Change, At, Sorted, Held, Same, at_below, at_order, at_value, at_same}
use Rattle.linear.proofs.Invariant.{gap, ext, slot_of, old_up, olds, KeptTag, Stage, One, OneAt, Inv}

-- the gap is 1 or 2, and the old value runs ahead only within it
pub gap_bounds : (place : Place) → (1 ≤ gap place) × (gap place ≤ 2) × (ext place < gap place)
gap_bounds Idle = omega arith
gap_bounds Load1 = omega arith
gap_bounds Load2 = omega arith
gap_bounds (Load3 v) = omega arith
gap_bounds Load5 = omega arith
gap_bounds (Store7 v) = omega arith
gap_bounds Store8 = omega arith
gap_bounds Store9 = omega arith
gap_bounds Store10 = omega arith
gap_bounds Check14 = omega arith

-- Of a process q with a change of number k.
module _ {up : ℕ → ℕ} {h : List Change} {q : ℕ} {r : Row} {tag : Tag} {next : ℕ} {place : Place} {sn : Link} (one : One up h q r tag next place sn) (i k u : ℕ) (a : At h i q k u) where
  -- [09] the old number is never below k - 2
  pub number_low : k ≤ old_up r + 1
  number_low = omega (arith, one.below i k u a, one.number, gap_bounds place)

  -- [30 to 32] As long as the old number is below k, q's slot for k holds the value of the change [q, k].
  pub current : Sorted h → old_up r ≤ k → At h i q k (slot_of r k)
  current sorted low = go (ℕ_discrete (suc k) next)
    where
      at_i : Held h q k (slot_of r k) → At h i q k (slot_of r k)
      at_i held = subst (λ (m : ℕ). At h m q k (slot_of r k)) (at_same h held.0 i q k _ u sorted held.1 a) held.1

      go : Dec (suc k ≡ next) → At h i q k (slot_of r k)
      go (yes e) = at_i (one.last k (one.below i k u a).0 e)
      go (no ne) =
          at_i
          (one.spare k (one.below i k u a).0 (omega (arith, ne, one.below i k u a, one.number, gap_bounds place))
          (omega (arith, ne, one.below i k u a, one.number, gap_bounds place)))

-- Of the whole state.
module _ {st : View} {t : ℕ} {h : List Change} {seen : ℕ → Link} (inv : Inv st t h seen) where
  -- a place of h is not above the newest
  pub place_low : (i q k u : ℕ) → At h i q k u → i ≤ t
  place_low i q k u a = omega (arith, at_below h i q k u a, inv.size)

  -- [13a to 13c] A change that is not its process's last is not the newest.
  pub not_top : (m q j u : ℕ) → At h m q j u → suc j < (record_at st q).next.0 → m < t
  not_top m q j u a lt = go (dec_lt m t)
    where
      go : Dec (m < t) → m < t
      go (yes l) = l
      go (no ge) =
          let top : m ≡ t = omega (arith, ge, place_low m q j u a) in
          let same : Same st.x.process.0 q st.x.number.0 j inv.newest.0 u = at_value h t _ q _ j _ u inv.newest.1 (subst (λ (n : ℕ). At h n q j u) top a) in
          let next : (record_at st q).next.0 ≡ suc st.x.number.0 = subst (λ (z : ℕ). (record_at st z).next.0 ≡ suc st.x.number.0) same.process inv.following in
          absurd (omega (arith, next, lt, same.number))

  -- [24] Once q's old number is not below k, q's old value is that of a change of q which is not older than [q, k], and not the newest.
  pub old_place : (i q k u : ℕ) → q < st.n → At h i q k u → k < olds st q
      → (m : ℕ) × (i ≤ m) × (m < t) × (j : ℕ) × At h m q j (row_at st q).old_value
  old_place i q k u l a low = go (old_up (row_at st q) + ext (record_at st q).place) refl
    where
      one : OneAt st h q (row_at st q) (record_at st q) (seen q)
      one = inv.each q l

      go : (n : ℕ) → old_up (row_at st q) + ext (record_at st q).place ≡ n → (m : ℕ) × (i ≤ m) × (m < t) × (j : ℕ) × At h m q j (row_at st q).old_value
      go zero e = absurd (omega (arith, e, low))
      go (suc j) e =
          let held : Held h q j (row_at st q).old_value = one.oldv j (omega (arith, one.below i k u a, e, low)) (sym e) in (
            held.0,
            at_order h i held.0 q k j u _ inv.sorted a held.1 (omega (arith, e, low)),
            not_top held.0 q j _ held.1 (omega (arith, e, one.number, gap_bounds (record_at st q).place)),
            j,
            held.1,
          )

  -- [34 to 36] X is p's kept tag exactly if the change that p has seen is the newest.
  pub tag_test : (p : ℕ) → p < st.n → same_tag st.x (record_at st p).kept ≡ linked (seen p) t
  tag_test p l = by_seen (seen p) (inv.each p l).kept
    where
      by_seen : (sn : Link) → KeptTag h (record_at st p).kept sn → same_tag st.x (record_at st p).kept ≡ linked sn t
      by_seen none e = both_false (eqb st.x.process.0 (record_at st p).kept.process.0) (ne_eqb st.x.number.0 (record_at st p).kept.number.0 (λ f. omega (arith, e, f, inv.some)))
        where
          both_false : (a : Bool) {b : Bool} → b ≡ false → (a && b) ≡ false
          both_false true e = e
          both_false false e = refl
      by_seen (at i) (u, a) = go (ℕ_discrete i t)
        where
          go : Dec (i ≡ t) → same_tag st.x (record_at st p).kept ≡ eqb i t
          go (yes e) =
              let same = at_value h t _ _ _ _ _ u inv.newest.1 (subst (λ (n : ℕ). At h n (record_at st p).kept.process.0 (record_at st p).kept.number.0 u) e a) in
              and_both _ _ (eq-eqb _ _ same.process) (eq-eqb _ _ same.number) ∙ sym (eq-eqb i t e)
          go (no ne) = apart (same_tag st.x (record_at st p).kept) refl ∙ sym (ne_eqb i t ne)
            where
              apart : (b : Bool) → same_tag st.x (record_at st p).kept ≡ b → b ≡ false
              apart false e = refl
              apart true e =
                  let process = eqb-true _ _ (and_left (eqb st.x.process.0 (record_at st p).kept.process.0) _ e) in
                  let number = eqb-true _ _ (and_right (eqb st.x.process.0 (record_at st p).kept.process.0) _ e) in
                  absurd (ne (at_same h i t _ _ u _ inv.sorted a
                  (subst (λ (k : ℕ). At h t (record_at st p).kept.process.0 k inv.newest.0) number
                  (subst (λ (q : ℕ). At h t q st.x.number.0 inv.newest.0) process inv.newest.1))))

  -- [09] Of p's kept tag [q, k]: q's old number is never below k - 2.
  pub tag_low : (p : ℕ) → p < st.n → (record_at st p).kept.process.0 < st.n → (record_at st p).kept.number.0 ≤ olds st (record_at st p).kept.process.0 + 1
  tag_low p l lq = by_seen (seen p) (inv.each p l).kept
    where
      by_seen : (sn : Link) → KeptTag h (record_at st p).kept sn → (record_at st p).kept.number.0 ≤ olds st (record_at st p).kept.process.0 + 1
      by_seen none e = omega (arith, e)
      by_seen (at i) (u, a) = number_low (inv.each (record_at st p).kept.process.0 lq) i (record_at st p).kept.number.0 u a

  -- At step 5 X is not the kept tag: k is below q's old number, so it is not the number before q's next.
  pub five_behind : (p : ℕ) → p < st.n → (record_at st p).kept.process.0 < st.n → (record_at st p).place ≡ Load5 → same_tag st.x (record_at st p).kept ≡ false
  five_behind p l lq e =
      let (i, sn, high) = subst (Stage (olds st) h (record_at st p).kept (seen p)) e (inv.each p l).stage in
      let (u, a) = subst (KeptTag h (record_at st p).kept) sn (inv.each p l).kept in
      let q = (record_at st p).kept.process.0 in
      let lt = not_top i q (record_at st p).kept.number.0 u a (omega (arith, high, (inv.each q lq).number, gap_bounds (record_at st q).place)) in
      tag_test p l ∙ ap (λ (sn : Link). linked sn t) sn ∙ ne_eqb i t (λ f. omega (arith, lt, f))
