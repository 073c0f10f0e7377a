-- The start is sound, and every entry keeps soundness.
use Prim.Native.Nat.{ℕ, zero, suc, ◌≤◌, ◌<◌, ◌+◌}
use mathlib.Core.Path.{◌≡◌, refl}
use mathlib.Core.Bool.{Bool, true, false, cond}
use mathlib.Core.List.{◌∷◌}
use native.Mathlib.Omega.{arith}
use lib.Dec.{ltb}
use lib.ListN.{length, get_or, replicate, get_or-replicate}
use borrow.Author.Tests.{lt-ltb, ltb-true}
use Rattle.reused.specs.Types.{Process, Triple, Option, None, Some, Own, Place, Idle, Load1, Load2, Load3, Store1, Store2, Check1, Request, Load, Store, Check, Taken, CallOpen, Requested, Stepped, State, Kind, Ask, Step, Announced}
use Rattle.reused.specs.Circle.{interval_of, sizes_number}
use Rattle.reused.specs.Steps.{all_equal, at, announced_of, hits, passed, renewed, with_choice, chosen, step_at, idle, first_place, request_of}
use Rattle.reused.specs.State.{sound_triple, sound_kept, sound_named, sound_load, row_at, no_row, first_row, first_state}
use Rattle.reused.specs.Called.{parts_after, entered, called}
use Rattle.reused.proofs.Tests.{either_way}
use Rattle.reused.proofs.Soundness.{Sizes, SoundOwn, Sound, sizes_of_lem, sizes_fine, sizes, interval_least, circle_least, circle_some, ahead_below}
use Rattle.reused.proofs.Writers.{row_by}
use Rattle.reused.proofs.Untouched.{by_call, left}

-- What an entry of p leaves is sound where what it was given is.
pub record Left (n m : ℕ) (r : Stepped) : Type 0 where
  pub word : sound_triple n m r.x ≡ true
  pub own : SoundOwn n m r.own

module _ (n m : ℕ) (p : Process) (x : Triple) (own : Own) (looked : Option Announced) (range : Sizes n m) (below : p.0 < n) (word : sound_triple n m x ≡ true) (mine : SoundOwn n m own) where
  -- the same row at another place, whose load has an old if it needs one
  stands : (place : Place) → sound_load own.old place ≡ true → SoundOwn n m (at own place)
  stands place h =
      record { named = mine.named; old = mine.old; check = mine.check; tag = mine.tag; start = mine.start; search = mine.search; load = h }

  -- What is announced is what was kept.
  announced : (old : Option Triple) → sound_kept n m old ≡ true → sound_named n m (announced_of old) ≡ true
  announced None h = refl
  announced (Some w) h = h

  -- the row with another choice, below M and below N
  chose : (tag start search : ℕ) → tag < m → start < m → search < n → SoundOwn n m (at (with_choice own tag start search) Idle)
  chose tag start search t s q =
      record { named = mine.named; old = mine.old; check = mine.check; tag = t; start = s; search = q; load = refl }

  choice_sound : SoundOwn n m (at (chosen n m p own looked) Idle)
  unfolding chosen
  choice_sound =
      either_way (λ o. SoundOwn n m (at o Idle)) (hits n m p own looked)
      (chose _ _ 0 (ahead_below m own.tag.0 1 some) (ahead_below m own.start.0 (interval_of n) some) (omega (arith, range.some)))
      (by_search (ltb (own.search.0 + 1) n) refl)
    where
      some : 0 < m
      some = omega (arith, circle_some range)

      by_search : (b : Bool) → ltb (own.search.0 + 1) n ≡ b → SoundOwn n m (at (cond b (passed m own) (renewed n m own)) Idle)
      by_search true e = chose _ _ _ (ahead_below m own.tag.0 1 some) mine.start (ltb-true _ _ e)
      by_search false e = chose _ _ 0 mine.start (ahead_below m own.start.0 (interval_of n) some) (omega (arith, range.some))

  left_at : (place : Place) → sound_load own.old place ≡ true → Left n m (step_at n m p x own looked place)
  left_at Idle h = record { word = word; own = mine }
  left_at Load1 h =
      record {
        word = word;
        own = record { named = mine.named; old = word; check = mine.check; tag = mine.tag; start = mine.start; search = mine.search; load = refl };
      }
  left_at Load2 h =
      record {
        word = word;
        own = record {
          named = announced own.old mine.old;
          old = mine.old;
          check = mine.check;
          tag = mine.tag;
          start = mine.start;
          search = mine.search;
          load = h;
        };
      }
  left_at Load3 h =
      record {
        word = word;
        own = record { named = mine.named; old = mine.old; check = word; tag = mine.tag; start = mine.start; search = mine.search; load = refl };
      }
  left_at (Store1 bit) h =
      either_way (Left n m) (all_equal x own)
      (record { word = rw (lt-ltb _ _ mine.tag, lt-ltb _ _ below); own = stands Store2 refl })
      (record { word = word; own = stands Idle refl })
  left_at Store2 h = record { word = word; own = choice_sound }
  left_at Check1 h = record { word = word; own = stands Idle refl }

  -- A request starts a call at its first step, where no load needs an old.
  asked_sound : (request : Request) → SoundOwn n m (request_of own request).own
  asked_sound request =
      either_way (λ (r : Requested). SoundOwn n m r.own) (idle own.place) {r = record { own = at own (first_place request); outcome = Taken }} {r' = record { own = own; outcome = CallOpen }} (stands (first_place request) (first request)) mine
    where
      first : (r : Request) → sound_load own.old (first_place r) ≡ true
      first Load = refl
      first (Store bit) = refl
      first Check = refl

  pub left_by_entry : (kind : Kind) → Left n m (parts_after n m p x own looked kind)
  left_by_entry (Ask request) = record { word = word; own = asked_sound request }
  left_by_entry Step = left_at own.place mine.load

sound_entered : (st : State) (p : Process) (kind : Kind) → Sound st → length st.rows ≡ 16 → p.0 < st.n → Sound (entered st p kind).state
unfolding entered
sound_entered st p kind h full below =
    record {
      range = h.range;
      word = after.word;
      each = λ j l. row_by st p (left st p kind) (SoundOwn st.n st.m) after.own j (h.each j l) (omega (arith, below, (sizes h).few, full));
    }
  where
    after : Left st.n st.m (left st p kind)
    after = left_by_entry st.n st.m p st.x (row_at st p.0) _ (sizes h) below h.word (h.each p.0 below) kind

pub sound_kept_lem : (st : State) (p : Process) (kind : Kind) → Sound st → length st.rows ≡ 16 → Sound (called st p kind).state
sound_kept_lem st p kind h full = by_call (λ a. Sound a.state) st p kind (λ outcome. h) (λ e below. sound_entered st p kind h full below)

-- Process 0 of the start, and the others.
pub first_or_later : {A : Type 0} (P : A → Type 0) (a b d : A) → P a → P b → (j : ℕ) → j < 16 → P (get_or (a ∷ replicate 15 b) j d)
first_or_later P a b d h k zero l = h
first_or_later P a b d h k (suc j) l = rw (get_or-replicate 15 j b d (omega (arith, l))) k

pub start_sound : (n m : ℕ) → sizes_number n m ≡ 0 → Sound (first_state n m)
start_sound n m e =
    record {
      range = sizes_fine n m e;
      word = rw (lt-ltb 0 m (omega (arith, twelve)), lt-ltb 0 n r.some);
      each = λ j l.
          first_or_later (SoundOwn n m) (first_row 1 (interval_of n)) (first_row 0 (interval_of n)) no_row
          (first 1 (omega (arith, twelve)))
          (first 0 (omega (arith, twelve)))
          j (omega (arith, l, r.few));
    }
  where
    r : Sizes n m
    r = sizes_of_lem n m (sizes_fine n m e)

    twelve : 12 ≤ m
    twelve = circle_some r

    first : (tag : ℕ) → tag < m → SoundOwn n m (first_row tag (interval_of n))
    first tag h =
        record {
          named = refl;
          old = refl;
          check = refl;
          tag = h;
          start = omega (arith, circle_least r, interval_least n r.some);
          search = r.some;
          load = refl;
        }
