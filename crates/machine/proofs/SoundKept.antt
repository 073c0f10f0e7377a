-- The start is sound, and every entry keeps soundness: so no run from a start meets 15.
use Prim.Native.Nat.{ℕ, zero, suc, ◌+◌, ◌-◌, ◌≤◌, ◌<◌}
use mathlib.Core.Path.{◌≡◌, refl, sym, ◌∙◌}
use mathlib.Core.Bool.{Bool, true, false, cond, false≢true}
use mathlib.Core.List.{◌∷◌}
use native.Mathlib.Omega.{arith}
use lib.Dec.{leb, ltb, leb-zero}
use lib.IntN.{pos, negsuc, ◌-ℤ◌}
use lib.ListN.{length, get_or, replicate, get_or-replicate}
use borrow.Author.Tests.{ltb-true, ltb-false, leb-true, le-leb}
use Rattle.numbers.specs.Numbers.{in_range}
use Rattle.numbers.proofs.Range.{InRange, range_of}
use Rattle.step.specs.Steps.{storing, is_old, is_near, same_tag, step_at, step_of, largest_next, idle, request_of, when_idle, begun, not_taken}
use Rattle.step.proofs.Reach.{either_way}
use Rattle.machine.specs.Types.{Process, Sequence, Tag, Row, Record, Place, Idle, Load1, Load2, Load3, Load5, Store7, Store8, Store9, Store10, Check14, Request, Load, Store, Check, CallOpen, UsedUp, Stepped, State, Kind, Ask, Step}
use Rattle.machine.specs.State.{row_at, record_at, no_row, no_record, first_row, first_record, first_state}
use Rattle.machine.specs.Entry.{parts_after, entered, called}
use Rattle.machine.specs.Frame.{Full}
use Rattle.machine.proofs.Soundness.{SoundTag, SoundParts, Sound, given_below}
use Rattle.machine.proofs.Frame.{by_call, given, left}
use Rattle.machine.proofs.Writers.{row_by, record_by}

-- One record and one old number; a state has these for each process below N.
pub record SoundOwn (n : ℕ) (s : Sequence) (own : Record) : Type 0 where
  pub kept : SoundTag n s own.kept
  pub low : 1 ≤ own.next.0
  pub high : own.next.0 ≤ s.0 + 1
  pub store : storing own.place ≡ true → own.next.0 ≤ s.0

own_of : {n : ℕ} {s : Sequence} {own : Record} {row : Row} → SoundParts n s own row → SoundOwn n s own
own_of h = record { kept = h.kept; low = h.low; high = h.high; store = h.store }

parts_with : {n : ℕ} {s : Sequence} {own : Record} {row : Row} → SoundOwn n s own → is_old row.old_number s.0 ≡ true → SoundParts n s own row
parts_with h o = record { kept = h.kept; low = h.low; high = h.high; store = h.store; old = o }

-- "next number - 2" of a next number 1 to S + 1 is -1 to S.
two_less_old : (k s : ℕ) → 1 ≤ k → k ≤ s + 1 → is_old (pos k -ℤ pos 2) s ≡ true
two_less_old k s l h = go (ltb k 2) refl
  where
    go : (b : Bool) → ltb k 2 ≡ b → is_old (cond b (negsuc (2 - suc k)) (pos (k - 2))) s ≡ true
    go true e = rw (le-leb (2 - suc k) 0 (omega (arith, ltb-true k 2 e, l)))
    go false e = le-leb (k - 2) s (omega (arith, ltb-false k 2 e, h))

-- What a step of p leaves is sound where what it was given is.
record Left (n : ℕ) (s : Sequence) (m : Stepped) : Type 0 where
  word : SoundTag n s m.x
  own : SoundOwn n s m.own
  old : is_old m.row.old_number s.0 ≡ true

module _ (n : ℕ) (s : Sequence) (p : Process) (x : Tag) (own : Record) (row : Row) (below : p.0 < n) (word : SoundTag n s x) (mine : SoundOwn n s own) (old : is_old row.old_number s.0 ≡ true) where
  -- the same kept tag and next number, at a place that no store stands at before step 8
  same_own : (place : Place) → storing place ≡ false → SoundOwn n s (record { kept = own.kept; next = own.next; place = place })
  same_own place e = record { kept = mine.kept; low = mine.low; high = mine.high; store = λ t. absurd (false≢true (sym e ∙ t)) }

  left_at : (place : Place) → (storing place ≡ true → own.next.0 ≤ s.0) → Left n s (step_at p x own row place)
  left_at Idle h = record { word = word; own = mine; old = old }
  left_at Load1 h = record { word = word; own = record { kept = word; low = mine.low; high = mine.high; store = λ t. absurd (false≢true t) }; old = old }
  left_at Load2 h = record { word = word; own = same_own (Load3 _) refl; old = old }
  left_at (Load3 v) h =
      either_way (Left n s) (is_near row.old_number own.kept.number.0)
      (record { word = word; own = same_own Idle refl; old = old })
      (record { word = word; own = same_own Load5 refl; old = old })
  left_at Load5 h = record { word = word; own = same_own Idle refl; old = old }
  left_at (Store7 v) h =
      record { word = word; own = record { kept = mine.kept; low = mine.low; high = mine.high; store = λ t. h refl }; old = old }
  left_at Store8 h =
      either_way (Left n s) (same_tag x own.kept)
      (record {
        word = record { owner = below; number = h refl };
        own = record { kept = mine.kept; low = omega arith; high = omega (arith, h refl); store = λ t. absurd (false≢true t) };
        old = old;
      })
      (record { word = word; own = same_own Idle refl; old = old })
  left_at Store9 h = record { word = word; own = same_own Store10 refl; old = old }
  left_at Store10 h = record { word = word; own = same_own Idle refl; old = two_less_old own.next.0 s.0 mine.low mine.high }
  left_at Check14 h = record { word = word; own = same_own Idle refl; old = old }

  left_by_step : Left n s (step_of p x own row)
  unfolding step_of
  left_by_step =
      either_way (Left n s) (leb own.next.0 largest_next) (left_at own.place mine.store) (record { word = word; own = mine; old = old })

-- A request leaves a sound record: only a store asks for a next number at most S, and it was looked at.
asked_sound : (n : ℕ) (s : Sequence) (own : Record) (request : Request) → SoundOwn n s own → SoundOwn n s (request_of s own request).own
unfolding request_of
asked_sound n s own request h = by_idle (idle own.place)
  where
    plain : (place : Place) → storing place ≡ false → SoundOwn n s (record { kept = own.kept; next = own.next; place = place })
    plain place e = record { kept = h.kept; low = h.low; high = h.high; store = λ t. absurd (false≢true (sym e ∙ t)) }

    by_room : (v : ℕ) (b : Bool) → leb own.next.0 s.0 ≡ b → SoundOwn n s (cond b (begun own (Store7 v)) (not_taken own UsedUp)).own
    by_room v true e = record { kept = h.kept; low = h.low; high = h.high; store = λ t. leb-true own.next.0 s.0 e }
    by_room v false e = h

    by_kind : (r : Request) → SoundOwn n s (when_idle s own r).own
    by_kind Load = plain Load1 refl
    by_kind (Store v) = by_room v (leb own.next.0 s.0) refl
    by_kind Check = plain Check14 refl

    by_idle : (b : Bool) → SoundOwn n s (cond b (when_idle s own request) (not_taken own CallOpen)).own
    by_idle true = by_kind request
    by_idle false = h

-- So an entry of p leaves what is sound.
left_by_entry : (n : ℕ) (s : Sequence) (p : Process) (x : Tag) (own : Record) (row : Row) → p.0 < n → SoundTag n s x → SoundOwn n s own → is_old row.old_number s.0 ≡ true
    → (kind : Kind) → Left n s (parts_after s p x own row kind)
left_by_entry n s p x own row below word mine old (Ask request) = record { word = word; own = asked_sound n s own request mine; old = old }
left_by_entry n s p x own row below word mine old Step = left_by_step n s p x own row below word mine old

sound_entered : (st : State) (p : Process) (kind : Kind) → Sound st → Full st → p.0 < st.n → Sound (entered st p kind).state
unfolding entered
sound_entered st p kind h full below =
    record {
      range = h.range;
      word = after.word;
      each = λ j l.
          parts_with
          (record_by st p (given st p kind) (left st p kind) (SoundOwn st.n st.s) after.own j (own_of (h.each j l)) (omega (arith, below, few, full.records)))
          (row_by st p (given st p kind) (left st p kind) (λ row. is_old row.old_number st.s.0 ≡ true) after.old j (h.each j l).old (omega (arith, q_below, few, full.rows)));
    }
  where
    few : st.n ≤ 16
    few = (range_of st.n st.s h.range).few

    mine : SoundOwn st.n st.s (record_at st p.0)
    mine = own_of (h.each p.0 below)

    q_below : (given st p kind).0 < st.n
    q_below = given_below p (record_at st p.0) kind st.n below mine.kept.owner

    after : Left st.n st.s (left st p kind)
    after =
        left_by_entry st.n st.s p st.x (record_at st p.0) (row_at st (given st p kind).0) below h.word mine (h.each (given st p kind).0 q_below).old kind

pub sound_kept_lem : (st : State) (p : Process) (kind : Kind) → Sound st → Full st → Sound (called st p kind).state
sound_kept_lem st p kind h full = by_call (λ a. Sound a.state) st p kind (λ outcome. h) (λ e below. sound_entered st p kind h full below)

-- Process 0 of the start, and the others.
first_or_later : {A : Type 0} (P : A → Type 0) (a b d : A) → P a → P b → (j : ℕ) → j < 16 → P (get_or (a ∷ replicate 15 b) j d)
first_or_later P a b d h k zero l = h
first_or_later P a b d h k (suc j) l = rw (get_or-replicate 15 j b d (omega (arith, l))) k

pub start_full : (n : ℕ) (s : Sequence) (v : ℕ) → Full (first_state n s v)
start_full n s v =
    record {
      rows = refl;
      records = refl;
      slots = first_or_later (λ row. length row.slots ≡ 2) (first_row v (pos 0)) (first_row v (negsuc 0)) no_row refl refl;
    }

pub start_sound : (n : ℕ) (s : Sequence) (v : ℕ) → in_range n s ≡ true → Sound (first_state n s v)
start_sound n s v e =
    record {
      range = e;
      word = record { owner = r.some; number = omega (arith, r.two) };
      each = λ j l.
          parts_with
          (first_or_later (SoundOwn n s) (first_record 2) (first_record 1) no_record
          (record { kept = none; low = omega arith; high = omega (arith, r.two); store = λ t. absurd (false≢true t) })
          (record { kept = none; low = omega arith; high = omega arith; store = λ t. absurd (false≢true t) })
          j (omega (arith, l, r.few)))
          (first_or_later (λ row. is_old row.old_number s.0 ≡ true) (first_row v (pos 0)) (first_row v (negsuc 0)) no_row
          (leb-zero s.0) refl j (omega (arith, l, r.few)));
    }
  where
    r : InRange n s
    r = range_of n s e

    none : SoundTag n s (record { process = record { 0 = 0 }; number = record { 0 = 0 } })
    none = record { owner = (range_of n s e).some; number = omega arith }
