-- Every step keeps the invariants. First the frame: of the processes that take no step nothing moves but the changes, which only grow,
-- and the old numbers, which only rise. Then the step's own process; the steps that move no number and no register of its row ("calm":
-- requests, 1, 2, 3, 5, 8 not done, 14) have one lemma; 7, 8 done, 9 and 10 are the real cases.
-- Assumes nothing.
use Prim.Native.Nat.{ℕ, suc, ◌+◌, ◌%◌, ◌≤◌, ◌<◌}
use mathlib.Core.Path.{◌≡◌, refl, sym, ap, ◌∙◌, subst, subst₂}
use mathlib.Core.Bool.{true, false}
use mathlib.Core.Logic.{◌≢◌, inl, inr}
use mathlib.Core.List.{List, ◌∷◌}
use native.Mathlib.Omega.{arith}
use lib.IntN.{pos, ◌-ℤ◌}
use lib.ListN.{get_or}
use lib.Seq.{get_or-set_other}
use Rattle.step.specs.Steps.{is_near, is_old, with_old, at, with_slot, with_old_value}
use Rattle.linear.specs.Types.{Tag, Row, Record, Place, Idle, Load1, Load2, Load3, Load5, Store7, Store8, Store9, Store10, Check14}
use Rattle.linear.proofs.View.{View, row_at, record_at, Moved}
use Rattle.word.specs.Word.{Link, none, put}
use Rattle.word.specs.Word as word
use Rattle.word.proofs.Put.{split, put_same, put_other}
use Rattle.linear.proofs.Lift.{lift, guard_high, lift_two_less}
use Rattle.linear.proofs.History.{Change, At, Held}
use Rattle.linear.proofs.Invariant.{gap, ext, slot_of, old_up, olds, KeptTag, Stage, One, OneAt, Inv}
use Rattle.linear.proofs.Consequences.{number_low, current}

kept_on : (h h' : List Change) → ((i z k v : ℕ) → At h i z k v → At h' i z k v) → (tag : Tag) (sn : Link) → KeptTag h tag sn → KeptTag h' tag sn
kept_on h h' grow tag none e = e
kept_on h h' grow tag (word.at i) (u, a) = (u, grow i tag.process.0 tag.number.0 u a)

-- The frame: h grows by changes of p at most, and old numbers only rise.
module _ (up up' : ℕ → ℕ) (h h' : List Change) (q : ℕ) (rise : (z : ℕ) → up z ≤ up' z)
    (grow : (i z k v : ℕ) → At h i z k v → At h' i z k v) (new : (i k v : ℕ) → At h' i q k v → At h i q k v) where
  stage_on : (tag : Tag) (sn : Link) (place : Place) → Stage up h tag sn place → Stage up' h' tag sn place
  stage_on tag sn Idle s = tt
  stage_on tag sn Load1 s = tt
  stage_on tag sn Load2 s = s
  stage_on tag sn (Load3 v) s =
      (s.0, s.1, λ low. grow s.0 tag.process.0 tag.number.0 v (s.2 (omega (arith, low, rise tag.process.0))))
  stage_on tag sn Load5 s = (s.0, s.1, omega (arith, s.2, rise tag.process.0))
  stage_on tag sn (Store7 v) s = tt
  stage_on tag sn Store8 s = tt
  stage_on tag sn Store9 s = tt
  stage_on tag sn Store10 s = tt
  stage_on tag sn Check14 s = tt

  held_on : (k v : ℕ) → Held h q k v → Held h' q k v
  held_on k v (i, a) = (i, grow i q k v a)

  one_on : (r : Row) (tag : Tag) (next : ℕ) (place : Place) (sn : Link) → One up h q r tag next place sn → One up' h' q r tag next place sn
  one_on r tag next place sn one =
      record {
        below = λ i k v a. one.below i k v (new i k v a);
        number = one.number;
        last = λ j a b. held_on j _ (one.last j a b);
        spare = λ j a b c. held_on j _ (one.spare j a b c);
        oldv = λ j a b. held_on j _ (one.oldv j a b);
        kept = kept_on h h' grow tag sn one.kept;
        stage = stage_on tag sn place one.stage;
      }

-- A calm step: same row, same next number, a place of the same gap and ext.
one_calm : (up up' : ℕ → ℕ) (h : List Change) (p : ℕ) (r : Row) (tag tag' : Tag) (next : ℕ) (place place' : Place) (sn sn' : Link)
    → gap place ≡ gap place' → ext place ≡ ext place' → KeptTag h tag' sn' → Stage up' h tag' sn' place'
    → One up h p r tag next place sn → One up' h p r tag' next place' sn'
one_calm up up' h p r tag tag' next place place' sn sn' same_gap same-ext kept stage one =
    record {
      below = one.below;
      number = omega (arith, one.number, same_gap);
      last = one.last;
      spare = λ j a b c. one.spare j a b (same_gap ∙ c);
      oldv = λ j a b. one.oldv j a (omega (arith, b, same-ext));
      kept = kept;
      stage = stage;
    }

-- A state after an entry of p.
module _ {p : ℕ} {st st' : View} {r' : Row} {o' : Record} (m : Moved p st st' r' o') (rise : old_up (row_at st p) ≤ old_up r') where
  pub olds_rise : (z : ℕ) → olds st z ≤ olds st' z
  olds_rise =
      split (λ z. olds st z ≤ olds st' z) p
      (subst (λ (r : Row). olds st p ≤ old_up r) (sym m.row) rise)
      (λ z ne. subst (λ (r : Row). olds st z ≤ old_up r) (sym (m.frame.rows z ne)) (omega arith))

  each_on : (h h' : List Change) (seen : ℕ → Link) (sn' : Link)
      → ((i z k v : ℕ) → At h i z k v → At h' i z k v) → ((q : ℕ) → q ≢ p → (i k v : ℕ) → At h' i q k v → At h i q k v)
      → ((q : ℕ) → q < st.n → OneAt st h q (row_at st q) (record_at st q) (seen q)) → OneAt st' h' p r' o' sn'
      → (q : ℕ) → q < st'.n → OneAt st' h' q (row_at st' q) (record_at st' q) (put p sn' seen q)
  each_on h h' seen sn' grow new each own =
      split (λ q. q < st'.n → OneAt st' h' q (row_at st' q) (record_at st' q) (put p sn' seen q)) p
      (λ l. subst (OneAt st' h' p (row_at st' p) (record_at st' p)) (sym (put_same p sn' seen))
      (subst₂ (λ (r : Row) (o : Record). OneAt st' h' p r o sn') (sym m.row) (sym m.own) own))
      (λ q ne l. subst (OneAt st' h' q (row_at st' q) (record_at st' q)) (sym (put_other p sn' seen q ne))
      (subst₂ (λ (r : Row) (o : Record). OneAt st' h' q r o (seen q)) (sym (m.frame.rows q ne)) (sym (m.frame.records q ne))
      (one_on (olds st) (olds st') h h' q olds_rise grow (new q ne) (row_at st q) (record_at st q).kept (record_at st q).next.0 (record_at st q).place (seen q)
      (each q (omega (arith, l, m.frame.n))))))

  -- X is as it was, and there is no new change.
  inv_same : {t : ℕ} {h : List Change} {seen : ℕ → Link} (sn' : Link) → Inv st t h seen → st'.x ≡ st.x → o'.next.0 ≡ (record_at st p).next.0
      → OneAt st' h p r' o' sn' → Inv st' t h (put p sn' seen)
  inv_same {t} {h} {seen} sn' inv x next own =
      record {
        size = inv.size;
        newest = subst (λ (x : Tag). (v : ℕ) × At h t x.process.0 x.number.0 v) (sym x) inv.newest;
        following =
            subst (λ (x : Tag). (record_at st' x.process.0).next.0 ≡ suc x.number.0) (sym x)
            (next_same st.x.process.0 ∙ inv.following);
        some = subst (λ (x : Tag). 1 ≤ x.number.0) (sym x) inv.some;
        sorted = inv.sorted;
        each = each_on h h seen sn' (λ i z k v a. a) (λ q ne i k v a. a) inv.each own;
      }
    where
      next_same : (q : ℕ) → (record_at st' q).next.0 ≡ (record_at st q).next.0
      next_same =
          split (λ q. (record_at st' q).next.0 ≡ (record_at st q).next.0) p
          (ap (λ (o : Record). o.next.0) m.own ∙ next)
          (λ q ne. ap (λ (o : Record). o.next.0) (m.frame.records q ne))

-- The steps of p, a process below N, whose place is known.
module _ (st : View) (p : ℕ) where
  abbrev pub own : Record
  own = record_at st p

  abbrev pub row : Row
  row = row_at st p

  -- step 8's change, with the value that step 7 wrote
  abbrev pub new_change : Change
  new_change = record { process = p; number = own.next.0; value = slot_of row own.next.0 }

  module _ {t : ℕ} {h : List Change} {seen : ℕ → Link} (inv : Inv st t h seen) (l : p < st.n) where
    pub one_at : {place : Place} → own.place ≡ place → One (olds st) h p row own.kept own.next.0 place (seen p)
    one_at e = subst (λ (place : Place). One (olds st) h p row own.kept own.next.0 place (seen p)) e (inv.each p l)

    -- what p has seen is a place of h
    pub seen_at : (i : ℕ) → seen p ≡ word.at i → (u : ℕ) × At h i own.kept.process.0 own.kept.number.0 u
    seen_at i e = subst (KeptTag h own.kept) e (inv.each p l).kept

    pub kept_calm : {st' : View} → (place place' : Place) → own.place ≡ place → gap place ≡ gap place' → ext place ≡ ext place'
        → Moved p st st' row (at own place') → st'.x ≡ st.x → Stage (olds st') h own.kept (seen p) place'
        → Inv st' t h (put p (seen p) seen)
    kept_calm {st'} place place' e same_gap same-ext m x stage =
        inv_same m (omega arith) (seen p) inv x refl
        (one_calm (olds st) (olds st') h p row own.kept own.kept own.next.0 place place' (seen p) (seen p) same_gap same-ext
        (inv.each p l).kept stage (one_at e))

    -- Step 1: the kept tag is the newest change.
    pub kept_1 : {st' : View} → own.place ≡ Load1 → Moved p st st' row (record { kept = st.x; next = own.next; place = Load2 }) → st'.x ≡ st.x
        → Inv st' t h (put p (word.at t) seen)
    kept_1 {st'} e m x =
        inv_same m (omega arith) (word.at t) inv x refl
        (one_calm (olds st) (olds st') h p row own.kept st.x own.next.0 Load1 Load2 (seen p) (word.at t) refl refl inv.newest (t, refl) (one_at e))

    -- Step 2: as long as q's old number is below k the slot holds the value of [q, k].
    pub kept_2 : {st' : View} → own.kept.process.0 < st.n → own.place ≡ Load2
        → Moved p st st' row (at own (Load3 (slot_of (row_at st own.kept.process.0) own.kept.number.0))) → st'.x ≡ st.x
        → Inv st' t h (put p (seen p) seen)
    kept_2 lq e m x =
        let (i, s) = (one_at e).stage in
        let (u, a) = seen_at i s in
        kept_calm Load2 (Load3 _) e refl refl m x (
          i,
          s,
          λ low. current (inv.each own.kept.process.0 lq) i own.kept.number.0 u a inv.sorted
              (omega (arith, low, olds_rise m (omega arith) own.kept.process.0)),
        )

    -- Step 3 that goes on: the old number is not below k - 2, and is neither that nor k - 1.
    pub kept_3 : {st' : View} → (v s : ℕ) (lq : own.kept.process.0 < st.n) → is_old (row_at st own.kept.process.0).old_number s ≡ true
        → own.place ≡ Load3 v → is_near (row_at st own.kept.process.0).old_number own.kept.number.0 ≡ false
        → Moved p st st' row (at own Load5) → st'.x ≡ st.x → Inv st' t h (put p (seen p) seen)
    kept_3 v s lq old e far m x =
        let (i, sn, low) = (one_at e).stage in
        let (u, a) = seen_at i sn in
        let high = guard_high (row_at st own.kept.process.0).old_number own.kept.number.0 s old
        (number_low (inv.each own.kept.process.0 lq) i own.kept.number.0 u a) far in
        kept_calm (Load3 v) Load5 e refl refl m x (i, sn, omega (arith, high, olds_rise m (omega arith) own.kept.process.0))

    -- Step 7 writes into the slot of the next number; the number before it uses the other slot.
    pub kept_7 : {st' : View} → (v : ℕ) → own.place ≡ Store7 v → Moved p st st' (with_slot row own.next v) (at own Store8) → st'.x ≡ st.x
        → Inv st' t h (put p (seen p) seen)
    kept_7 v e m x =
        let one = one_at e in
        inv_same m (omega arith) (seen p) inv x refl
        (record {
          below = one.below;
          number = one.number;
          last = λ j a b. subst (Held h p j) (sym (get_or-set_other row.slots (own.next.0 % 2) (j % 2) v 0 (λ f. omega (arith, b, f)))) (one.last j a b);
          spare = λ j a b c. absurd (omega (arith, c));
          oldv = one.oldv;
          kept = one.kept;
          stage = tt;
        })

    -- Step 9: the old value becomes that of the change before the newest of p, whose number uses the same slot as the next number.
    pub kept_9 : {st' : View} → own.place ≡ Store9 → Moved p st st' (with_old_value row (slot_of row own.next.0)) (at own Store10) → st'.x ≡ st.x
        → Inv st' t h (put p (seen p) seen)
    kept_9 e m x =
        let one = one_at e in
        inv_same m (omega arith) (seen p) inv x refl
        (record {
          below = one.below;
          number = one.number;
          last = one.last;
          spare = one.spare;
          oldv = λ j a b.
              let two : suc (suc j) ≡ own.next.0 = omega (arith, b, one.number) in
              let parity : j % 2 ≡ own.next.0 % 2 = omega (arith, two) in
              subst (λ (i : ℕ). Held h p j (get_or row.slots i 0)) parity (one.spare j a two refl);
          kept = one.kept;
          stage = tt;
        })

    -- Step 10: the old number rises by one, to the number of the old value.
    pub kept_10 : {st' : View} → own.place ≡ Store10 → Moved p st st' (with_old row (pos own.next.0 -ℤ pos 2)) (at own Idle) → st'.x ≡ st.x
        → Inv st' t h (put p (seen p) seen)
    kept_10 e m x =
        let one = one_at e in
        let less : suc (lift (pos own.next.0 -ℤ pos 2)) ≡ own.next.0 = lift_two_less own.next.0 (omega (arith, one.number)) in
        inv_same m (omega (arith, less, one.number)) (seen p) inv x refl
        (record {
          below = one.below;
          number = omega (arith, less);
          last = one.last;
          spare = λ j a b c. absurd (omega (arith, c));
          oldv = λ j a b. one.oldv j a (omega (arith, b, less, one.number));
          kept = one.kept;
          stage = tt;
        })

    -- Step 8 that succeeds: one more change.
    pub kept_8 : {st' : View} → own.place ≡ Store8 → st'.x ≡ record { process = record { 0 = p }; number = own.next }
        → Moved p st st' row (record { kept = own.kept; next = record { 0 = own.next.0 + 1 }; place = Store9 })
        → Inv st' (suc t) (new_change ∷ h) (put p (seen p) seen)
    kept_8 {st'} e x m =
        let one = one_at e in
        record {
          size = omega (arith, inv.size);
          newest = subst (λ (x : Tag). (v : ℕ) × At (new_change ∷ h) (suc t) x.process.0 x.number.0 v) (sym x) (new_change.value, inl (sym inv.size, refl, refl, refl));
          following =
              subst (λ (x : Tag). (record_at st' x.process.0).next.0 ≡ suc x.number.0) (sym x)
              (ap (λ (o : Record). o.next.0) m.own ∙ omega arith);
          some = subst (λ (x : Tag). 1 ≤ x.number.0) (sym x) (omega (arith, one.number));
          sorted = (λ i k v a. (one.below i k v a).1, inv.sorted);
          each = each_on m (omega arith) h (new_change ∷ h) seen (seen p) (λ i z k v a. inr a) others inv.each (after one);
        }
      where
        others : (q : ℕ) → q ≢ p → (i k v : ℕ) → At (new_change ∷ h) i q k v → At h i q k v
        others q ne i k v (inl f) = absurd (ne (sym f.1))
        others q ne i k v (inr a) = a

        older : (j : ℕ) → (v : ℕ) → Held h p j v → Held (new_change ∷ h) p j v
        older j v (i, a) = (i, inr a)

        after : One (olds st) h p row own.kept own.next.0 Store8 (seen p)
            → One (olds st') (new_change ∷ h) p row own.kept (own.next.0 + 1) Store9 (seen p)
        after one =
            record {
              below = below;
              number = omega (arith, one.number);
              last = λ j a b.
                  let same : own.next.0 ≡ j = omega (arith, b) in
                  subst (λ (k : ℕ). Held (new_change ∷ h) p k (slot_of row k)) same (suc t, inl (sym inv.size, refl, refl, refl));
              spare = λ j a b c. older j _ (one.last j a (omega (arith, b)));
              oldv = λ j a b. older j _ (one.oldv j a b);
              kept = kept_on h (new_change ∷ h) (λ i z k v a. inr a) own.kept (seen p) one.kept;
              stage = tt;
            }
          where
            below : (i k v : ℕ) → At (new_change ∷ h) i p k v → (1 ≤ k) × (k < own.next.0 + 1)
            below i k v (inl f) = omega (arith, f.2, one.number)
            below i k v (inr a) = omega (arith, one.below i k v a)
