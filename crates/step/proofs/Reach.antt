-- Over the parts that a step is given: what it does not reach it neither changes nor depends on. Stated over the whole machine in
-- machine/specs/Registers.antt.
use Prim.Native.Nat.{ℕ, ◌%◌}
use mathlib.Core.Path.{◌≡◌, refl, sym, ap, subst, ◌∙◌}
use mathlib.Core.Logic.{⊎_elim}
use mathlib.Core.Bool.{Bool, true, false, cond}
use mathlib.Core.List.Memᴰ
use mathlib.Core.List.{List, [], ◌∷◌, Memᴰ}
use native.Mathlib.Omega.{arith}
use lib.Dec.{leb}
use lib.IntN.{ℤ, pos, ◌-ℤ◌}
use lib.ListN.{length, get_or, set, length-set}
use lib.Seq.{get_or-set_same, get_or-set_other}
use Rattle.step.specs.Steps.{is_near, same_tag, with_old, step_at, step_of, reached, reached_at, largest_next, slot, with_slot, with_old_value}
use Rattle.step.specs.Registers.{Content, a_tag, a_value, a_number}
use Rattle.step.specs.Types.{Process, Tag, Row, Record, Place, Idle, Load1, Load2, Load3, Load5, Store7, Store8, Store9, Store10, Check14, Stepped}

-- the registers of what a step is given: X, and those of the one row
pub data Register : Type 0 where
  the_x : Register
  the_slot : ℕ → Register
  the_old_value : Register
  the_old_number : Register

abbrev pub holds : Tag → Row → Register → Content
holds x row the_x = a_tag x
holds x row (the_slot i) = a_value (get_or row.slots i 0)
holds x row the_old_value = a_value row.old_value
holds x row the_old_number = a_number row.old_number

abbrev pub reaches_at : Record → Place → List Register
reaches_at own Idle = []
reaches_at own Load1 = the_x ∷ []
reaches_at own Load2 = the_slot (own.kept.number.0 % 2) ∷ []
reaches_at own (Load3 v) = the_old_number ∷ []
reaches_at own Load5 = the_old_value ∷ []
reaches_at own (Store7 v) = the_slot (own.next.0 % 2) ∷ []
reaches_at own Store8 = the_x ∷ []
reaches_at own Store9 = the_slot (own.next.0 % 2) ∷ the_old_value ∷ []
reaches_at own Store10 = the_old_number ∷ []
reaches_at own Check14 = the_x ∷ []

abbrev pub reaches : Record → List Register
reaches own = reaches_at own own.place

-- what holds of both results of a test holds of its result
pub either_way : (P : Stepped → Type 0) (b : Bool) {m m' : Stepped} → P m → P m' → P (cond b m m')
either_way P true h h' = h
either_way P false h h' = h'

-- the two slots' list, after one was written, elsewhere
other_slot : (row : Row) (k i v : ℕ) → (the_slot i ≡ the_slot k → ⊥) → get_or (set row.slots k v) i 0 ≡ get_or row.slots i 0
other_slot row k i v ne = get_or-set_other row.slots k i v 0 (λ e. ne (ap the_slot e))

-- What a step does not reach it does not change: at each place ..
module _ (p : Process) (x : Tag) (own : Record) (row : Row) where
  abbrev Kept : Register → Stepped → Type 0
  Kept r m = holds m.x m.row r ≡ holds x row r

  kept_at : (place : Place) (r : Register) → (Memᴰ r (reaches_at own place) → ⊥) → Kept r (step_at p x own row place)
  kept_at Idle r out = refl
  kept_at Load1 r out = refl
  kept_at Load2 r out = refl
  kept_at (Load3 v) r out = either_way (Kept r) (is_near row.old_number own.kept.number.0) refl refl
  kept_at Load5 r out = refl
  kept_at (Store7 v) the_x out = refl
  kept_at (Store7 v) (the_slot i) out = ap a_value (other_slot row (own.next.0 % 2) i v (λ e. out (Memᴰ.head e)))
  kept_at (Store7 v) the_old_value out = refl
  kept_at (Store7 v) the_old_number out = refl
  kept_at Store8 the_x out = absurd (out (Memᴰ.head refl))
  kept_at Store8 (the_slot i) out = either_way (Kept (the_slot i)) (same_tag x own.kept) refl refl
  kept_at Store8 the_old_value out = either_way (Kept the_old_value) (same_tag x own.kept) refl refl
  kept_at Store8 the_old_number out = either_way (Kept the_old_number) (same_tag x own.kept) refl refl
  kept_at Store9 the_x out = refl
  kept_at Store9 (the_slot i) out = refl
  kept_at Store9 the_old_value out = absurd (out (Memᴰ.tail (Memᴰ.head refl)))
  kept_at Store9 the_old_number out = refl
  kept_at Store10 the_x out = refl
  kept_at Store10 (the_slot i) out = refl
  kept_at Store10 the_old_value out = refl
  kept_at Store10 the_old_number out = absurd (out (Memᴰ.head refl))
  kept_at Check14 r out = refl

  -- .. and so for the step that is taken, or turned away.
  pub unreached_kept : (r : Register) → (Memᴰ r (reaches own) → ⊥) → Kept r (step_of p x own row)
  unfolding step_of
  unreached_kept r out = either_way (Kept r) (leb own.next.0 largest_next) (kept_at own.place r out) refl

un_tag : {a b : Tag} → a_tag a ≡ a_tag b → a ≡ b
un_tag e = cc

un_value : {a b : ℕ} → a_value a ≡ a_value b → a ≡ b
un_value e = cc

un_number : {a b : ℤ} → a_number a ≡ a_number b → a ≡ b
un_number e = cc

-- What a step gives depends on its own record and on the registers that it reaches: with the same contents there it gives the
-- same outcome and the same record, and leaves the same contents.
pub record SameParts (reach : List Register) (m m' : Stepped) : Type 0 where
  pub outcome : m.outcome ≡ m'.outcome
  pub own : m.own ≡ m'.own
  pub contents : (r : Register) → Memᴰ r reach → holds m.x m.row r ≡ holds m'.x m'.row r

same_ways : (reach : List Register) (b b' : Bool) → b ≡ b' → {m n m' n' : Stepped} → SameParts reach m m' → SameParts reach n n'
    → SameParts reach (cond b m n) (cond b' m' n')
same_ways reach true true e h h' = h
same_ways reach true false e h h' = let z : ◌≡◌ {A = ℕ} 0 1 = cc in absurd (omega arith)
same_ways reach false true e h h' = let z : ◌≡◌ {A = ℕ} 0 1 = cc in absurd (omega arith)
same_ways reach false false e h h' = h'

-- what is in a list of one, or of two
in_one : (P : Register → Type 0) (a : Register) → P a → (r : Register) → Memᴰ r (a ∷ []) → P r
in_one P a h r m = subst P (sym (Memᴰ.eq_of_singleton m)) h

in_two : (P : Register → Type 0) (a b : Register) → P a → P b → (r : Register) → Memᴰ r (a ∷ b ∷ []) → P r
in_two P a b h k r m = ⊎_elim (λ e. subst P (sym e) h) (λ m'. in_one P b k r m') (Memᴰ.cases_cons m)

-- a row has two slots
pub record TwoSlots (row : Row) : Type 0 where
  pub slots : length row.slots ≡ 2

module _ (p : Process) (own : Record) (x x' : Tag) (row row' : Row) (two : TwoSlots row) (two' : TwoSlots row') where
  abbrev Agree : List Register → Type 0
  Agree reach = (r : Register) → Memᴰ r reach → holds x row r ≡ holds x' row' r

  -- both write v into the same one of two slots
  written : (k v : ℕ) → get_or (set row.slots (k % 2) v) (k % 2) 0 ≡ get_or (set row'.slots (k % 2) v) (k % 2) 0
  written k v =
      get_or-set_same row.slots (k % 2) v 0 (omega (arith, two.slots))
      ∙ sym (get_or-set_same row'.slots (k % 2) v 0 (omega (arith, two'.slots)))

  same_at : (place : Place) → Agree (reaches_at own place) → SameParts (reaches_at own place) (step_at p x own row place) (step_at p x' own row' place)
  same_at Idle agree = record { outcome = refl; own = refl; contents = agree }
  same_at Load1 agree =
      let e = un_tag (agree the_x (Memᴰ.head refl)) in
      record { outcome = refl; own = rw e; contents = agree }
  same_at Load2 agree =
      let e = un_value (agree (the_slot (own.kept.number.0 % 2)) (Memᴰ.head refl)) in
      record { outcome = refl; own = rw e; contents = agree }
  same_at (Load3 v) agree =
      let e = un_number (agree the_old_number (Memᴰ.head refl)) in
      same_ways (the_old_number ∷ []) (is_near row.old_number own.kept.number.0) (is_near row'.old_number own.kept.number.0)
      (ap (λ (o : ℤ). is_near o own.kept.number.0) e)
      (record { outcome = refl; own = refl; contents = agree })
      (record { outcome = refl; own = refl; contents = agree })
  same_at Load5 agree =
      let e = un_value (agree the_old_value (Memᴰ.head refl)) in
      record { outcome = rw e; own = refl; contents = agree }
  same_at (Store7 v) agree =
      record {
        outcome = refl;
        own = refl;
        contents = in_one (λ r. holds x (with_slot row own.next v) r ≡ holds x' (with_slot row' own.next v) r) (the_slot (own.next.0 % 2)) (ap a_value (written own.next.0 v));
      }
  same_at Store8 agree =
      let e = un_tag (agree the_x (Memᴰ.head refl)) in
      let changed : Tag = record { process = p; number = own.next } in
      same_ways (the_x ∷ []) (same_tag x own.kept) (same_tag x' own.kept) (ap (λ (t : Tag). same_tag t own.kept) e)
      (record { outcome = refl; own = refl; contents = in_one (λ r. holds changed row r ≡ holds changed row' r) the_x refl })
      (record { outcome = refl; own = refl; contents = agree })
  same_at Store9 agree =
      let slot_same = agree (the_slot (own.next.0 % 2)) (Memᴰ.head refl) in
      record {
        outcome = refl;
        own = refl;
        contents = in_two (λ r. holds x (with_old_value row (slot row own.next)) r ≡ holds x' (with_old_value row' (slot row' own.next)) r) (the_slot (own.next.0 % 2)) the_old_value slot_same slot_same;
      }
  same_at Store10 agree =
      record {
        outcome = refl;
        own = refl;
        contents = in_one (λ r. holds x (with_old row (pos own.next.0 -ℤ pos 2)) r ≡ holds x' (with_old row' (pos own.next.0 -ℤ pos 2)) r) the_old_number refl;
      }
  same_at Check14 agree =
      let e = un_tag (agree the_x (Memᴰ.head refl)) in
      record { outcome = rw e; own = refl; contents = agree }

  pub reached_decides : Agree (reaches own) → SameParts (reaches own) (step_of p x own row) (step_of p x' own row')
  unfolding step_of
  reached_decides agree =
      same_ways (reaches own) (leb own.next.0 largest_next) (leb own.next.0 largest_next) refl
      (same_at own.place agree)
      (record { outcome = refl; own = refl; contents = agree })

-- A row that is not the process's own is handed back as it was.
pub others_row_kept : (p : Process) (x : Tag) (own : Record) (row : Row) → (reached p own ≡ p → ⊥) → (step_of p x own row).row ≡ row
unfolding step_of
others_row_kept p x own row ne = either_way (λ m. m.row ≡ row) (leb own.next.0 largest_next) (go own.place ne) refl
  where
    go : (place : Place) → (reached_at p own.kept place ≡ p → ⊥) → (step_at p x own row place).row ≡ row
    go Idle ne' = refl
    go Load1 ne' = refl
    go Load2 ne' = refl
    go (Load3 v) ne' = either_way (λ m. m.row ≡ row) (is_near row.old_number own.kept.number.0) refl refl
    go Load5 ne' = refl
    go (Store7 v) ne' = absurd (ne' refl)
    go Store8 ne' = absurd (ne' refl)
    go Store9 ne' = absurd (ne' refl)
    go Store10 ne' = absurd (ne' refl)
    go Check14 ne' = refl

-- A row keeps its two slots.
pub slots_kept : (p : Process) (x : Tag) (own : Record) (row : Row) → length (step_of p x own row).row.slots ≡ length row.slots
unfolding step_of
slots_kept p x own row = either_way Same (leb own.next.0 largest_next) (go own.place) refl
  where
    Same : Stepped → Type 0
    Same m = length m.row.slots ≡ length row.slots

    go : (place : Place) → length (step_at p x own row place).row.slots ≡ length row.slots
    go Idle = refl
    go Load1 = refl
    go Load2 = refl
    go (Load3 v) = either_way Same (is_near row.old_number own.kept.number.0) refl refl
    go Load5 = refl
    go (Store7 v) = length-set row.slots (own.next.0 % 2) v
    go Store8 = either_way Same (same_tag x own.kept) refl refl
    go Store9 = refl
    go Store10 = refl
    go Check14 = refl
