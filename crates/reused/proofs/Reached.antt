-- "Each step reaches one shared register": a step of p is on one register; no other register changes, and none matters.
use Prim.Native.Nat.{ℕ, ◌+◌, ◌<◌}
use mathlib.Core.Path.{◌≡◌, refl, sym, ap, subst, subst₂, ◌∙◌}
use mathlib.Core.Logic.{◌≢◌, ⊎_elim}
use mathlib.Core.Bool.{Bool, true, false, cond}
use mathlib.Core.List.Memᴰ
use mathlib.Core.List.{[], ◌∷◌, Memᴰ}
use native.Mathlib.Omega.{arith}
use native.Mathlib.Decide.{ℕ_discrete}
use lib.Dec.{ltb}
use lib.ListN.{length}
use borrow.Author.Tests.{ltb-true}
use Rattle.reused.specs.Types.{Process, Triple, Option, None, Some, Own, Stepped, Place, Idle, Load1, Load2, Load3, Store1, Store2, Check1, NotDone, Step, Entry, NoProcess, State, Answer, Announced}
use Rattle.reused.specs.Steps.{all_equal, at, goes_on, answered, hits, hit, passed, renewed, chosen, step_at, step_of}
use Rattle.reused.specs.State.{row_at, first_triple}
use Rattle.reused.specs.Called.{looked_at, with_entry, answer_with, refused, entered, called}
use Rattle.reused.specs.Frame.{Ready}
use Rattle.reused.specs.Registers.{Register, the_x, place_of, Content, a_triple, a_named, holds, registers_at, step_is_on, private_of, AgreeOn, SameStep}
use Rattle.reused.proofs.Tests.{either_way}
use Rattle.reused.proofs.Soundness.{sure, sizes, sound_of}
use Rattle.reused.proofs.Writers.{row_same, row_other}
use Rattle.reused.proofs.Untouched.{by_call}
use Rattle.reused.proofs.RunLaws.{played_ready}

-- A step is on one register; an idle process is on none.
pub one_register : (p : ℕ) (own : Own) (place : Place) → place ≢ Idle → length (registers_at p own place) ≡ 1
one_register p own Idle busy = absurd (busy refl)
one_register p own Load1 busy = refl
one_register p own Load2 busy = refl
one_register p own Load3 busy = refl
one_register p own (Store1 bit) busy = refl
one_register p own Store2 busy = refl
one_register p own Check1 busy = refl

-- What a step is not on it does not change.
module _ (n m : ℕ) (p : Process) (x : Triple) (own : Own) (looked : Option Announced) where
  x_kept : (place : Place) → (Memᴰ the_x (registers_at p.0 own place) → ⊥) → (step_at n m p x own looked place).x ≡ x
  x_kept Idle out = refl
  x_kept Load1 out = refl
  x_kept Load2 out = refl
  x_kept Load3 out = refl
  x_kept (Store1 bit) out = absurd (out (Memᴰ.head refl))
  x_kept Store2 out = refl
  x_kept Check1 out = refl

  chosen_named : (chosen n m p own looked).named ≡ own.named
  unfolding chosen
  chosen_named =
      either_way (λ (o : Own). o.named ≡ own.named) (hits n m p own looked) refl
      (either_way (λ (o : Own). o.named ≡ own.named) (ltb (own.search.0 + 1) n) refl refl)

  named_kept : (place : Place) → (Memᴰ (place_of p.0) (registers_at p.0 own place) → ⊥) → (step_at n m p x own looked place).own.named ≡ own.named
  named_kept Idle out = refl
  named_kept Load1 out = refl
  named_kept Load2 out = absurd (out (Memᴰ.head refl))
  named_kept Load3 out = refl
  named_kept (Store1 bit) out = either_way (λ (r : Stepped). r.own.named ≡ own.named) (all_equal x own) refl refl
  named_kept Store2 out = chosen_named
  named_kept Check1 out = refl

module _ (st : State) (p : Process) where
  abbrev step_of_lem : Place → Stepped
  step_of_lem place = step_at st.n st.m p st.x (row_at st p.0) (looked_at st (row_at st p.0)) place

  kept_entered : (place : Place) → p.0 < length st.rows → (r : Register) → (Memᴰ r (registers_at p.0 (row_at st p.0) place) → ⊥) → holds (with_entry st p (step_of_lem place)) r ≡ holds st r
  kept_entered place l the_x out = ap a_triple (x_kept st.n st.m p st.x (row_at st p.0) (looked_at st (row_at st p.0)) place out)
  kept_entered place l (place_of j) out = go (ℕ_discrete j p.0)
    where
      go : Dec (j ≡ p.0) → holds (with_entry st p (step_of_lem place)) (place_of j) ≡ holds st (place_of j)
      go (yes e) =
          rw (e, row_same st p (step_of_lem place) l)
          (ap a_named (named_kept st.n st.m p st.x (row_at st p.0) (looked_at st (row_at st p.0)) place (λ k. out (subst (λ (z : ℕ). Memᴰ (place_of z) (registers_at p.0 (row_at st p.0) place)) (sym e) k))))
      go (no ne) = rw (row_other st p (step_of_lem place) j ne)

-- No other register changes.
pub unreached_kept : (st : State) (p : Process) → length st.rows ≡ 16 → (r : Register) → (Memᴰ r (step_is_on st p.0) → ⊥) → holds (called st p Step).state r ≡ holds st r
unfolding entered
unreached_kept st p full r out =
    by_call (λ a. holds a.state r ≡ holds st r) st p Step (λ outcome. refl)
    (λ e l. kept_entered st p (row_at st p.0).place (omega (arith, l, (sizes (sound_of st e)).few, full)) r out)

-- a list of X alone names no place of A
not_place : {q : ℕ} → Memᴰ (place_of q) (the_x ∷ []) → ⊥
not_place {q} k = ⊎_elim (λ e. absurd (subst is_x (sym e) tt)) (λ none. Memᴰ.not-nil none) (Memᴰ.cases_cons k)
  where
    is_x : Register → Type 0
    is_x the_x = Unit {0}
    is_x (place_of q) = ⊥

-- what a content is
abbrev triple_in : Content → Triple
triple_in (a_triple w) = w
triple_in (a_named a) = first_triple

abbrev named_in : Content → Option Announced
named_in (a_triple w) = None
named_in (a_named a) = a

-- Rows that differ only in what they announce: one is the other with its own announcement.
abbrev announcing : Own → Option Announced → Own
announcing own named =
    record { named = named; old = own.old; check = own.check; tag = own.tag; start = own.start; search = own.search; place = own.place }

same_private : (own own' : Own) → private_of own ≡ private_of own' → own' ≡ announcing own own'.named
same_private own own' e = ap (λ (o : Own). announcing o own'.named) (sym e)

-- what a step says and leaves in private
record SameParts (r r' : Stepped) : Type 0 where
  outcome : r.outcome ≡ r'.outcome
  own : private_of r.own ≡ private_of r'.own

-- A step by X, by what is private, and by the place of A at its search place: nothing else counts.
module _ (n m : ℕ) (p : Process) (x x' : Triple) (own : Own) (named : Option Announced) (looked looked' : Option Announced) where
  -- a step on X
  module _ (e : x ≡ x') where
    on_x : (place : Place) → SameParts (step_at n m p x own looked place) (step_at n m p x (announcing own named) looked' place) → SameParts (step_at n m p x own looked place) (step_at n m p x' (announcing own named) looked' place)
    on_x place h = subst (λ (w : Triple). SameParts (step_at n m p x own looked place) (step_at n m p w (announcing own named) looked' place)) e h

  store1_same : (bit : Bool) → SameParts (step_at n m p x own looked (Store1 bit)) (step_at n m p x (announcing own named) looked' (Store1 bit))
  store1_same bit = go (all_equal x own)
    where
      go : (b : Bool)
          → SameParts
          (cond b (goes_on (record { tag = own.tag; process = p; bit = bit }) (at own Store2)) (answered x own NotDone))
          (cond b (goes_on (record { tag = own.tag; process = p; bit = bit }) (at (announcing own named) Store2)) (answered x (announcing own named) NotDone))
      go true = record { outcome = refl; own = refl }
      go false = record { outcome = refl; own = refl }

  choice_same : (l : Option Announced) → private_of (chosen n m p own l) ≡ private_of (chosen n m p (announcing own named) l)
  unfolding chosen
  choice_same l = by_looked l
    where
      go : (b c : Bool)
          → private_of (cond b (hit n m own) (cond c (passed m own) (renewed n m own)))
          ≡ private_of (cond b (hit n m (announcing own named)) (cond c (passed m (announcing own named)) (renewed n m (announcing own named))))
      go true c = refl
      go false true = refl
      go false false = refl

      by_looked : (l : Option Announced) → private_of (chosen n m p own l) ≡ private_of (chosen n m p (announcing own named) l)
      by_looked None = go false (ltb (own.search.0 + 1) n)
      by_looked (Some a) = go (hits n m p own (Some a)) (ltb (own.search.0 + 1) n)

  check1_same : SameParts (step_at n m p x own looked Check1) (step_at n m p x (announcing own named) looked' Check1)
  check1_same = record { outcome = refl; own = refl }

  same_at : (place : Place) → (Memᴰ the_x (registers_at p.0 own place) → x ≡ x') → (Memᴰ (place_of own.search.0) (registers_at p.0 own place) → looked ≡ looked')
      → SameParts (step_at n m p x own looked place) (step_at n m p x' (announcing own named) looked' place)
  same_at Idle ex el = record { outcome = refl; own = refl }
  same_at Load1 ex el = on_x (ex (Memᴰ.head refl)) Load1 (record { outcome = refl; own = refl })
  same_at Load2 ex el = record { outcome = refl; own = refl }
  same_at Load3 ex el = on_x (ex (Memᴰ.head refl)) Load3 (record { outcome = refl; own = refl })
  same_at (Store1 bit) ex el = on_x (ex (Memᴰ.head refl)) (Store1 bit) (store1_same bit)
  same_at Store2 ex el =
      record {
        outcome = refl;
        own =
            ap (λ (o : Own). at o Idle) (choice_same looked)
            ∙ ap (λ (l : Option Announced). at (private_of (chosen n m p (announcing own named) l)) Idle) (el (Memᴰ.head refl));
      }
  same_at Check1 ex el = on_x (ex (Memᴰ.head refl)) Check1 check1_same

  -- X after a step on X
  same_x : (place : Place) → Memᴰ the_x (registers_at p.0 own place) → x ≡ x' → (step_at n m p x own looked place).x ≡ (step_at n m p x' (announcing own named) looked' place).x
  same_x Idle k e = e
  same_x Load1 k e = e
  same_x Load2 k e = e
  same_x Load3 k e = e
  same_x (Store1 bit) k e =
      subst (λ (w : Triple). (step_at n m p x own looked (Store1 bit)).x ≡ (step_at n m p w (announcing own named) looked' (Store1 bit)).x) e (go (all_equal x own))
    where
      go : (b : Bool)
          → (cond b (goes_on (record { tag = own.tag; process = p; bit = bit }) (at own Store2)) (answered x own NotDone)).x
          ≡ (cond b (goes_on (record { tag = own.tag; process = p; bit = bit }) (at (announcing own named) Store2)) (answered x (announcing own named) NotDone)).x
      go true = refl
      go false = refl
  same_x Store2 k e = e
  same_x Check1 k e = e

-- No other register matters: where two states agree on N, on M, on what is private to p and on these registers, p's step says the same
-- and leaves the same there.
module _ (st st' : State) (p : Process) (ready : Ready st) (ready' : Ready st') (n : st.n ≡ st'.n) (m : st.m ≡ st'.m)
    (same : private_of (row_at st p.0) ≡ private_of (row_at st' p.0)) (agree : AgreeOn (step_is_on st p.0) st st') where
  abbrev own : Own
  own = row_at st p.0

  abbrev named : Option Announced
  named = (row_at st' p.0).named

  abbrev looked' : Option Announced
  looked' = (row_at st' (row_at st p.0).search.0).named

  -- the two steps, the second by what is private in the first state
  abbrev first : Stepped
  first = step_of_lem st p (row_at st p.0).place

  abbrev second : Stepped
  second = step_at st.n st.m p st'.x (announcing own named) looked' (row_at st p.0).place

  second_is : entered st' p Step ≡ answer_with st' p second
  unfolding entered
  second_is =
      ap (λ (o : Own). answer_with st' p (step_of st'.n st'.m p st'.x o (looked_at st' o))) (same_private own (row_at st' p.0) same)
      ∙ ap (λ (k : ℕ). answer_with st' p (step_of k st'.m p st'.x (announcing own named) looked')) (sym n)
      ∙ ap (λ (k : ℕ). answer_with st' p (step_of st.n k p st'.x (announcing own named) looked')) (sym m)

  parts : SameParts first second
  parts =
      same_at st.n st.m p st.x st'.x own named (looked_at st own) looked' own.place
      (λ k. ap triple_in (agree the_x k))
      (λ k. ap named_in (agree (place_of own.search.0) k))

  module _ (l : p.0 < st.n) where
    here : p.0 < length st.rows
    here = omega (arith, l, (sizes (sure ready)).few, ready.full)

    here' : p.0 < length st'.rows
    here' = omega (arith, l, (sizes (sure ready)).few, ready'.full)

    -- what the register that the step is on holds after it
    after_same : (place : Place) → (r : Register) → Memᴰ r (registers_at p.0 own place) → AgreeOn (registers_at p.0 own place) st st'
        → holds (with_entry st p (step_of_lem st p place)) r ≡ holds (with_entry st' p (step_at st.n st.m p st'.x (announcing own named) looked' place)) r
    after_same place the_x k h = ap a_triple (same_x st.n st.m p st.x st'.x own named (looked_at st own) looked' place k (ap triple_in (h the_x k)))
    after_same place (place_of j) k h = by_place (ℕ_discrete j p.0) (h (place_of j) k)
      where
        left' : Stepped
        left' = step_at st.n st.m p st'.x (announcing own named) looked' place

        -- p's own place of A is written at step 2 of a load, and else is as it was
        mine : Place → Type 0
        mine at = holds st (place_of p.0) ≡ holds st' (place_of p.0) → (step_of_lem st p at).own.named ≡ (step_at st.n st.m p st'.x (announcing own named) looked' at).own.named

        by_step : (at : Place) → mine at
        by_step Idle e = ap named_in e
        by_step Load1 e = ap named_in e
        by_step Load2 e = refl
        by_step Load3 e = ap named_in e
        by_step (Store1 bit) e =
            named_kept st.n st.m p st.x own (looked_at st own) (Store1 bit) not_place
            ∙ ap named_in e
            ∙ sym (named_kept st.n st.m p st'.x (announcing own named) looked' (Store1 bit) not_place)
        by_step Store2 e =
            chosen_named st.n st.m p st.x own (looked_at st own)
            ∙ ap named_in e
            ∙ sym (chosen_named st.n st.m p st'.x (announcing own named) looked')
        by_step Check1 e = ap named_in e

        by_place : Dec (j ≡ p.0) → holds st (place_of j) ≡ holds st' (place_of j) → holds (with_entry st p (step_of_lem st p place)) (place_of j) ≡ holds (with_entry st' p left') (place_of j)
        by_place (yes e) same_here =
            rw (e, row_same st p (step_of_lem st p place) here, row_same st' p left' here')
            (ap a_named (by_step place (subst (λ (z : ℕ). holds st (place_of z) ≡ holds st' (place_of z)) e same_here)))
        by_place (no ne) same_here = rw (row_other st p (step_of_lem st p place) j ne, row_other st' p left' j ne) same_here

    both : SameStep p.0 (step_is_on st p.0) (entered st p Step) (answer_with st' p second)
    unfolding entered
    both =
        record {
          outcome = parts.outcome;
          own =
              ap private_of (row_same st p first here)
              ∙ parts.own
              ∙ sym (ap private_of (row_same st' p second here'));
          contents = λ r k. after_same own.place r k agree;
        }

  pub reached_decides : SameStep p.0 (step_is_on st p.0) (called st p Step) (called st' p Step)
  reached_decides =
      subst₂ (SameStep p.0 (step_is_on st p.0)) (sym (played_ready st next ready)) (sym (played_ready st' next ready' ∙ ap by n')) (go (ltb p.0 st.n) refl)
    where
      next : Entry
      next = record { process = p; kind = Step }

      n' : st'.n ≡ st.n
      n' = sym n

      by : ℕ → Answer
      by k = cond (ltb p.0 k) (entered st' p Step) (refused st' NoProcess)

      go : (b : Bool) → ltb p.0 st.n ≡ b
          → SameStep p.0 (step_is_on st p.0) (cond b (entered st p Step) (refused st NoProcess)) (cond b (entered st' p Step) (refused st' NoProcess))
      go true t = rw second_is (both (ltb-true _ _ t))
      go false t = record { outcome = refl; own = same; contents = agree }
