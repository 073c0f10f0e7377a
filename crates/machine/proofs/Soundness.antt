-- What soundness says, fact by fact. The test computes; these records are what proofs use, and each is the same as its test.
use Prim.Native.Nat.{ℕ, ◌+◌, ◌≤◌, ◌<◌}
use mathlib.Core.Path.{◌≡◌, refl, sym, subst}
use mathlib.Core.Bool.{Bool, true, false, not, ◌&&◌, ◌||◌}
use native.Mathlib.Omega.{arith}
use lib.Dec.{T, leb, ltb}
use borrow.Author.Tests.{ltb-true, leb-true, lt-ltb, le-leb}
use Rattle.numbers.specs.Numbers.{in_range, all_below}
use Rattle.numbers.proofs.Range.{range_of}
use Rattle.numbers.proofs.Below.{all_at, all_intro}
use Rattle.step.specs.Steps.{storing, is_old, reached, reached_at}
use Rattle.machine.specs.Types.{Process, Sequence, Tag, Row, Record, Place, Idle, Load1, Load2, Load3, Load5, Store7, Store8, Store9, Store10, Check14, State, Kind, Ask, Step}
use Rattle.machine.specs.State.{sound_tag, sound_next, sound_store, sound_parts, sound_process, sound, row_at, record_at}
use Rattle.machine.specs.Entry.{row_given}
use Rattle.machine.specs.Frame.{Ready}
use Rattle.machine.proofs.Tests.{and_left, and_right, and_both}

pub record SoundTag (n : ℕ) (s : Sequence) (tag : Tag) : Type 0 where
  pub owner : tag.process.0 < n
  pub number : tag.number.0 ≤ s.0

pub tag_of : (n : ℕ) (s : Sequence) (tag : Tag) → sound_tag n s tag ≡ true → SoundTag n s tag
tag_of n s tag e =
    let a = ltb tag.process.0 n in
    let b = leb tag.number.0 s.0 in
    record { owner = ltb-true _ _ (and_left a b e); number = leb-true _ _ (and_right a b e) }

pub tag_back : (n : ℕ) (s : Sequence) (tag : Tag) → SoundTag n s tag → sound_tag n s tag ≡ true
tag_back n s tag h = and_both _ _ (lt-ltb _ _ h.owner) (le-leb _ _ h.number)

pub record SoundParts (n : ℕ) (s : Sequence) (own : Record) (row : Row) : Type 0 where
  pub kept : SoundTag n s own.kept
  pub low : 1 ≤ own.next.0
  pub high : own.next.0 ≤ s.0 + 1
  pub store : storing own.place ≡ true → own.next.0 ≤ s.0
  pub old : is_old row.old_number s.0 ≡ true

store_of : (b : Bool) (k s : ℕ) → (not b || leb k s) ≡ true → b ≡ true → k ≤ s
store_of true k s e t = leb-true k s e
store_of false k s e t = absurd (subst T (sym t) tt)

store_back : (b : Bool) (k s : ℕ) → (b ≡ true → k ≤ s) → (not b || leb k s) ≡ true
store_back true k s f = le-leb k s (f refl)
store_back false k s f = refl

pub parts_of : (n : ℕ) (s : Sequence) (own : Record) (row : Row) → sound_parts n s own row ≡ true → SoundParts n s own row
parts_of n s own row e =
    let tag = sound_tag n s own.kept in
    let next = sound_next s own.next in
    let store = sound_store s own in
    let old = is_old row.old_number s.0 in
    let all = and_left (tag && (next && store)) old e in
    let rest = and_right tag (next && store) all in
    let range = and_left next store rest in
    record {
      kept = tag_of n s own.kept (and_left tag (next && store) all);
      low = leb-true _ _ (and_left (leb 1 own.next.0) (leb own.next.0 (s.0 + 1)) range);
      high = leb-true _ _ (and_right (leb 1 own.next.0) (leb own.next.0 (s.0 + 1)) range);
      store = store_of (storing own.place) own.next.0 s.0 (and_right next store rest);
      old = and_right (tag && (next && store)) old e;
    }

pub parts_back : (n : ℕ) (s : Sequence) (own : Record) (row : Row) → SoundParts n s own row → sound_parts n s own row ≡ true
parts_back n s own row h =
    and_both _ _
    (and_both _ _
    (tag_back n s own.kept h.kept)
    (and_both _ _
    (and_both _ _ (le-leb _ _ h.low) (le-leb _ _ h.high))
    (store_back (storing own.place) own.next.0 s.0 h.store)))
    h.old

pub record Sound (st : State) : Type 0 where
  pub range : in_range st.n st.s ≡ true
  pub word : SoundTag st.n st.s st.x
  pub each : (p : ℕ) → p < st.n → SoundParts st.n st.s (record_at st p) (row_at st p)

pub sound_of : (st : State) → sound st ≡ true → Sound st
unfolding sound
sound_of st e =
    let r = in_range st.n st.s in
    let t = sound_tag st.n st.s st.x in
    let all = all_below st.n (sound_process st) in
    let rest = and_right r (t && all) e in
    record {
      range = and_left r (t && all) e;
      word = tag_of st.n st.s st.x (and_left t all rest);
      each = λ p h. parts_of st.n st.s (record_at st p) (row_at st p) (all_at st.n (sound_process st) (and_right t all rest) p h);
    }

pub sound_back : (st : State) → Sound st → sound st ≡ true
unfolding sound
sound_back st h =
    and_both _ _ h.range
    (and_both _ _
    (tag_back st.n st.s st.x h.word)
    (all_intro st.n (sound_process st) (λ p l. parts_back st.n st.s (record_at st p) (row_at st p) (h.each p l))))

-- The row that a step reaches is p's own or that of the process in its kept tag.
pub row_below : (p : Process) (own : Record) (n : ℕ) → p.0 < n → own.kept.process.0 < n → (reached p own).0 < n
row_below p own n h k = go own.place
  where
    go : (place : Place) → (reached_at p own.kept place).0 < n
    go Idle = h
    go Load1 = h
    go Load2 = k
    go (Load3 v) = k
    go Load5 = k
    go (Store7 v) = h
    go Store8 = h
    go Store9 = h
    go Store10 = h
    go Check14 = h

-- The row that an entry is given is its process's own or the one that a step reaches.
pub given_below : (p : Process) (own : Record) (kind : Kind) (n : ℕ) → p.0 < n → own.kept.process.0 < n → (row_given p own kind).0 < n
given_below p own (Ask request) n h k = h
given_below p own Step n h k = row_below p own n h k

-- A process below N of a sound state, and the row that its entry is given, are among the 16.
pub within_sixteen : (st : State) (p : Process) (kind : Kind) → sound st ≡ true → p.0 < st.n → (p.0 < 16) × ((row_given p (record_at st p.0) kind).0 < 16)
within_sixteen st p kind e h =
    let sure = sound_of st e in
    let few = (range_of st.n st.s sure.range).few in
    let row = given_below p (record_at st p.0) kind st.n h (sure.each p.0 h).kept.owner in
    (omega (arith, h, few), omega (arith, row, few))

-- a state that a run can go on from is sound, fact by fact
pub sure : {st : State} → Ready st → Sound st
sure {st} h = sound_of st h.tested
