-- Demand 2's "reaches one shared register", over the whole machine: a step of p is on one register of one process, step 9 on two of p's
-- own; no other register changes, and none matters.
use Prim.Native.Nat.{◌%◌, ℕ, ◌≤◌, ◌<◌}
use mathlib.Core.Path.{◌≡◌, refl, sym, ap, subst, subst₂, ◌∙◌}
use mathlib.Core.Logic.{◌≢◌, ⊎_elim}
use mathlib.Core.Bool.{Bool, true, false, cond}
use mathlib.Core.List.Memᴰ
use mathlib.Core.List.{List, [], ◌∷◌, map, Memᴰ}
use native.Mathlib.Omega.{arith}
use native.Mathlib.Decide.{ℕ_discrete}
use lib.ListN.{length}
use lib.Dec.{ltb}
use borrow.Author.Tests.{ltb-true}
use Rattle.numbers.proofs.Range.{range_of}
use Rattle.machine.specs.Types.{Process, Record, Row, Stepped, Place, Idle, Load1, Load2, Load3, Load5, Store7, Store8, Store9, Store10, Check14, Step, Entry, NoProcess, State, Answer}
use Rattle.step.specs.Steps.{step_of, reached}
use Rattle.step.specs.Steps as step
use Rattle.step.proofs.Reach as parts
use Rattle.step.proofs.Reach.{SameParts}
use Rattle.machine.specs.State.{row_at, record_at}
use Rattle.machine.specs.Entry.{with_entry, answer_with, refused, entered, called}
use Rattle.machine.specs.Frame.{Full, Ready}
use Rattle.machine.specs.Registers.{Register, the_x, slot_of, old_value_of, old_number_of, holds, registers_at, step_is_on, AgreeOn, SameStep}
use Rattle.machine.proofs.Soundness.{Sound, sure, sound_of, row_below}
use Rattle.machine.proofs.Writers.{row_same, row_other, record_same}
use Rattle.machine.proofs.Frame.{by_call}
use Rattle.machine.proofs.RunLaws.{played_ready}

-- A step is on one register; step 9 on two, both p's own; an idle process is on none.
pub one_register : (p : ℕ) (own : Record) (place : Place) → place ≢ Idle → place ≢ Store9 → length (registers_at p own place) ≡ 1
one_register p own Idle busy ne = absurd (busy refl)
one_register p own Load1 busy ne = refl
one_register p own Load2 busy ne = refl
one_register p own (Load3 v) busy ne = refl
one_register p own Load5 busy ne = refl
one_register p own (Store7 v) busy ne = refl
one_register p own Store8 busy ne = refl
one_register p own Store9 busy ne = absurd (ne refl)
one_register p own Store10 busy ne = refl
one_register p own Check14 busy ne = refl

pub two_own_registers : (p : ℕ) (own : Record) → registers_at p own Store9 ≡ slot_of p (own.next.0 % 2) ∷ old_value_of p ∷ []
two_own_registers p own = refl

-- the machine's name of a register of X and q's row
abbrev name : ℕ → parts.Register → Register
name q parts.the_x = the_x
name q (parts.the_slot i) = slot_of q i
name q parts.the_old_value = old_value_of q
name q parts.the_old_number = old_number_of q

named : (p : Process) (own : Record) (place : Place) → registers_at p.0 own place ≡ map (name (step.reached_at p own.kept place).0) (parts.reaches_at own place)
named p own Idle = refl
named p own Load1 = refl
named p own Load2 = refl
named p own (Load3 v) = refl
named p own Load5 = refl
named p own (Store7 v) = refl
named p own Store8 = refl
named p own Store9 = refl
named p own Store10 = refl
named p own Check14 = refl

mem_map : {A B : Type 0} (f : A → B) (a : A) (l : List A) → Memᴰ a l → Memᴰ (f a) (map f l)
mem_map f a [] m = absurd (Memᴰ.not-nil m)
mem_map f a (x ∷ l) m = ⊎_elim (λ e. Memᴰ.head (ap f e)) (λ n. Memᴰ.tail (mem_map f a l n)) (Memᴰ.cases_cons m)

by_map : {A B : Type 0} (P : B → Type 0) (f : A → B) (l : List A) → ((a : A) → Memᴰ a l → P (f a)) → (b : B) → Memᴰ b (map f l) → P b
by_map P f [] h b m = absurd (Memᴰ.not-nil m)
by_map P f (x ∷ l) h b m =
    ⊎_elim (λ e. subst P (sym e) (h x (Memᴰ.head refl))) (λ n. by_map P f l (λ a k. h a (Memᴰ.tail k)) b n) (Memᴰ.cases_cons m)

-- what a state holds in X and q's row, before and after an entry was put back
held : (st : State) (q : ℕ) (r : parts.Register) → holds st (name q r) ≡ parts.holds st.x (row_at st q) r
held st q parts.the_x = refl
held st q (parts.the_slot i) = refl
held st q parts.the_old_value = refl
held st q parts.the_old_number = refl

held_after : (st : State) (p q : Process) (m : Stepped) → q.0 < length st.rows → (r : parts.Register) → holds (with_entry st p q m) (name q.0 r) ≡ parts.holds m.x m.row r
held_after st p q m l r =
    held (with_entry st p q m) q.0 r ∙ ap (λ (row : Row). parts.holds m.x row r) (row_same st p q m l)

module _ (st : State) (p : Process) where
  abbrev own : Record
  own = record_at st p.0

  abbrev q : Process
  q = reached p (record_at st p.0)

  abbrev m : Stepped
  m = step_of p st.x (record_at st p.0) (row_at st (reached p (record_at st p.0)).0)

  reached_name : (r : parts.Register) → Memᴰ r (parts.reaches (record_at st p.0)) → Memᴰ (name q.0 r) (step_is_on st p.0)
  reached_name r k = subst (Memᴰ (name q.0 r)) (sym (named p own own.place)) (mem_map (name q.0) r (parts.reaches own) k)

  kept_part : (r : parts.Register) → (Memᴰ (name (reached p (record_at st p.0)).0 r) (step_is_on st p.0) → ⊥) → parts.holds m.x m.row r ≡ parts.holds st.x (row_at st q.0) r
  kept_part r out = parts.unreached_kept p st.x own (row_at st q.0) r (λ k. out (reached_name r k))

  kept_entered : q.0 < length st.rows → (r : Register) → (Memᴰ r (step_is_on st p.0) → ⊥) → holds (with_entry st p q m) r ≡ holds st r
  kept_entered l the_x out = kept_part parts.the_x out
  kept_entered l (slot_of j i) out = go (ℕ_discrete j q.0)
    where
      go : Dec (j ≡ q.0) → holds (with_entry st p q m) (slot_of j i) ≡ holds st (slot_of j i)
      go (yes e) = rw e (held_after st p q m l (parts.the_slot i) ∙ kept_part (parts.the_slot i) (λ k. out (subst (λ (z : ℕ). Memᴰ (slot_of z i) (step_is_on st p.0)) (sym e) k)))
      go (no ne) = rw (row_other st p q m j ne)
  kept_entered l (old_value_of j) out = go (ℕ_discrete j q.0)
    where
      go : Dec (j ≡ q.0) → holds (with_entry st p q m) (old_value_of j) ≡ holds st (old_value_of j)
      go (yes e) = rw e (held_after st p q m l parts.the_old_value ∙ kept_part parts.the_old_value (λ k. out (subst (λ (z : ℕ). Memᴰ (old_value_of z) (step_is_on st p.0)) (sym e) k)))
      go (no ne) = rw (row_other st p q m j ne)
  kept_entered l (old_number_of j) out = go (ℕ_discrete j q.0)
    where
      go : Dec (j ≡ q.0) → holds (with_entry st p q m) (old_number_of j) ≡ holds st (old_number_of j)
      go (yes e) = rw e (held_after st p q m l parts.the_old_number ∙ kept_part parts.the_old_number (λ k. out (subst (λ (z : ℕ). Memᴰ (old_number_of z) (step_is_on st p.0)) (sym e) k)))
      go (no ne) = rw (row_other st p q m j ne)

-- the row that p's step is given is among those that are there
row_there : (st : State) (p : Process) → Sound st → Full st → p.0 < st.n → (reached p (record_at st p.0)).0 < length st.rows
row_there st p h full l =
    omega (arith, row_below p (record_at st p.0) st.n l (h.each p.0 l).kept.owner, (range_of st.n st.s h.range).few, full.rows)

-- No other register changes.
pub unreached_kept : (st : State) (p : Process) → Full st → (r : Register) → (Memᴰ r (step_is_on st p.0) → ⊥) → holds (called st p Step).state r ≡ holds st r
unfolding entered
unreached_kept st p full r out =
    by_call (λ a. holds a.state r ≡ holds st r) st p Step (λ outcome. refl) (λ e l. kept_entered st p (row_there st p (sound_of st e) full l) r out)

-- No other register matters: where two states agree on N, on p's record and on these registers, p's step says the same and leaves the
-- same there.
module _ (st st' : State) (p : Process) (ready : Ready st) (ready' : Ready st') (n : st.n ≡ st'.n) (same : record_at st p.0 ≡ record_at st' p.0)
    (agree : AgreeOn (step_is_on st p.0) st st') where
  abbrev m' : Stepped
  m' = step_of p st'.x (record_at st p.0) (row_at st' (reached p (record_at st p.0)).0)

  module _ (l : p.0 < st.n) where
    row_here : (q st p).0 < length st.rows
    row_here = row_there st p (sure ready) ready.full l

    row_here' : (q st p).0 < length st'.rows
    row_here' = omega (arith, row_here, ready.full.rows, ready'.full.rows)

    decided : SameParts (parts.reaches (record_at st p.0)) (m st p) m'
    decided =
        parts.reached_decides p (own st p) st.x st'.x (row_at st (q st p).0) (row_at st' (q st p).0)
        (record { slots = ready.full.slots (q st p).0 (omega (arith, row_here, ready.full.rows)) })
        (record { slots = ready'.full.slots (q st p).0 (omega (arith, row_here, ready.full.rows)) })
        (λ r k. sym (held st (q st p).0 r) ∙ agree (name (q st p).0 r) (reached_name st p r k) ∙ held st' (q st p).0 r)

    entered_is : entered st' p Step ≡ answer_with st' p (q st p) m'
    unfolding entered
    entered_is = rw (← same)

    both : SameStep p.0 (step_is_on st p.0) (entered st p Step) (answer_with st' p (q st p) m')
    unfolding entered
    both =
        record {
          outcome = decided.outcome;
          own =
              record_same st p (q st p) (m st p) (omega (arith, l, few, ready.full.records))
              ∙ decided.own
              ∙ sym (record_same st' p (q st p) m' (omega (arith, l, few, ready'.full.records)));
          contents = λ r k.
              by_map (λ r. holds (with_entry st p (q st p) (m st p)) r ≡ holds (with_entry st' p (q st p) m') r) (name (q st p).0) (parts.reaches (own st p))
              (λ r k. held_after st p (q st p) (m st p) row_here r ∙ decided.contents r k ∙ sym (held_after st' p (q st p) m' row_here' r))
              r (subst (Memᴰ r) (named p (own st p) (own st p).place) k);
        }
      where
        few : st.n ≤ 16
        few = (range_of st.n st.s (sure ready).range).few

  pub reached_decides : SameStep p.0 (step_is_on st p.0) (called st p Step) (called st' p Step)
  reached_decides =
      subst₂ (SameStep p.0 (step_is_on st p.0)) (sym (played_ready st next ready)) (sym (played_ready st' next ready' ∙ ap by n')) (go (ltb p.0 st.n) refl)
    where
      next : Entry
      next = record { process = p; kind = Step }

      n' : st'.n ≡ st.n
      n' = sym n

      by : ℕ → Answer
      by k = cond (ltb p.0 k) (entered st' p Step) (refused st' NoProcess)

      go : (b : Bool) → ltb p.0 st.n ≡ b
          → SameStep p.0 (step_is_on st p.0) (cond b (entered st p Step) (refused st NoProcess)) (cond b (entered st' p Step) (refused st' NoProcess))
      go true t = rw (entered_is (ltb-true _ _ t)) (both (ltb-true _ _ t))
      go false t = record { outcome = refl; own = same; contents = agree }
