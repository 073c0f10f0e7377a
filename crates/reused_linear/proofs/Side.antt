-- The relation between the machine and the order of the calls decided so far: for each process the change that it has seen, and its open
-- call. Assumes nothing.
use Prim.Native.Nat.{ℕ, suc, ◌≤◌, ◌<◌}
use mathlib.Core.Path.{◌≡◌, refl, sym, ap, ◌∙◌}
use mathlib.Core.Bool.{Bool, true, false, ◌&&◌, false≢true}
use mathlib.Core.List.{List}
use native.Mathlib.Omega.{arith}
use lib.Dec.{eqb}
use borrow.Author.Tests.{eqb-true, eq-eqb, ne_eqb}
use Rattle.word.specs.Word.{Link, at, Op, load, store, check, linked, Call}
use Rattle.word.specs.Word as word
use Rattle.word.specs.Calls.{Calls}
use Rattle.word.proofs.Changes.{total, value_after}
use Rattle.word.proofs.Good.{Good}
use Rattle.word.proofs.Aside.{Undecided, LateFor, end_link, Aside, undecided_on, loading_on}
use Rattle.reused.specs.Steps.{same_bit, same_triple, is_kept, both_keep, all_equal, none_stored, stored_of}
use Rattle.reused_linear.specs.Types.{Process, Triple, Option, None, Some, Stored, Place, Idle, Load1, Load2, Load3, Store1, Store2, Check1, Own}
use Rattle.reused_linear.proofs.Circle.{and_true}
use Rattle.reused_linear.specs.Claims.{OutsideLoad}
use Rattle.reused_linear.proofs.Inv.{Loading, Linked}
use Rattle.reused_linear.proofs.Readers.{Calm, still_calm}

-- how often the word has changed, and its value after so many changes
abbrev pub top : List (Call Stored) → ℕ
top order = total 0 order

abbrev pub value_at : ℕ → List (Call Stored) → Stored
value_at k order = value_after 0 k none_stored order

-- The change that a process has seen. Between step 1 of its load and its answer: the newest only if old is X. Outside: the newest exactly
-- if old, check and X are equal. The one direction, `newest`, is what (W1) is for.
pub record Sees (order : List (Call Stored)) (x : Triple) (o : Own) (seen : Link) : Type 0 where
  pub low : (k : ℕ) → seen ≡ at k → k ≤ top order
  pub values : (k : ℕ) (w : Triple) → seen ≡ at k → o.old ≡ Some w → value_at k order ≡ stored_of (Some w)
  pub loads : Loading o.place → (k : ℕ) × (seen ≡ at k)
  pub inside : Loading o.place → seen ≡ at (top order) → o.old ≡ Some x
  pub outside : OutsideLoad o.place → seen ≡ at (top order) → (o.old ≡ Some x) × (o.check ≡ Some x)
  pub newest : Linked o x → seen ≡ at (top order)

-- the open call of q, by place; from the first step of a store that is done on, it is decided
abbrev pub OpenAt : Process → ℕ → ℕ → List (Call Stored) → Op Stored → Link → Place → Type 0
OpenAt q t now order op seen Idle = Unit {0}
OpenAt q t now order op seen Load1 = Undecided q.0 t now order op load
OpenAt q t now order op seen Load2 = Undecided q.0 t now order op load × LateFor 0 t order seen
OpenAt q t now order op seen Load3 = Undecided q.0 t now order op load × LateFor 0 t order seen
OpenAt q t now order op seen (Store1 bit) = Undecided q.0 t now order op (store (record { process = q; bit = bit }))
OpenAt q t now order op seen Store2 = Unit {0}
OpenAt q t now order op seen Check1 = Undecided q.0 t now order op check

abbrev pub process_of : ℕ → Process
process_of q = record { 0 = q }

-- what is kept of process q
pub record Side (now : ℕ) (order : List (Call Stored)) (x : Triple) (q t : ℕ) (op : Op Stored) (o : Own) (seen : Link) : Type 0 where
  pub sees : Sees order x o seen
  pub link : OutsideLoad o.place → end_link none_stored 0 order q ≡ seen
  pub call : OpenAt (process_of q) t now order op seen o.place

-- There is an order that is good, the word's value at its end is X's, all calls are on the one word, and of each process there is a
-- change that it has seen.
pub record Sim (n : ℕ) (x : Triple) (own : ℕ → Own) (c : Calls Stored) : Type 0 where
  pub order : List (Call Stored)
  pub seen : ℕ → Link
  pub good : Good none_stored c.now order c.played
  pub current : value_at (top order) order ≡ stored_of (Some x)
  pub one : (q : ℕ) → c.word q ≡ 0
  pub sides : (q : ℕ) → q < n → Side c.now order x q (c.asked q) (c.op q) (own q) (seen q)

-- How what a process has seen goes on. The order's changes stay:
pub sees_on : {order order' : List (Call Stored)} {x : Triple} {o : Own} {seen : Link} → top order' ≡ top order → ((k : ℕ) → k ≤ top order → value_at k order' ≡ value_at k order)
    → Sees order x o seen → Sees order' x o seen
sees_on {order} {order'} {x} {o} {seen} same values s =
    record {
      low = λ k e. omega (arith, s.low k e, same);
      values = λ k w e f. values k (s.low k e) ∙ s.values k w e f;
      loads = s.loads;
      inside = λ l e. s.inside l (e ∙ ap at same);
      outside = λ l e. s.outside l (e ∙ ap at same);
      newest = λ l. s.newest l ∙ ap at (sym same);
    }

at_one : {k n : ℕ} → at k ≡ at n → k ≡ n
at_one e = cc e

-- X changes, and nobody is linked to what it becomes: everybody is behind the newest change
pub sees_change : {order order' : List (Call Stored)} {x : Triple} (x' : Triple) {o : Own} {seen : Link} → top order' ≡ suc (top order) → ((k : ℕ) → k ≤ top order → value_at k order' ≡ value_at k order)
    → (Linked o x' → ⊥) → Sees order x o seen → Sees order' x' o seen
sees_change {order} {order'} {x} x' {o} {seen} more values fresh s =
    record {
      low = λ k e. omega (arith, s.low k e, more);
      values = λ k w e f. values k (s.low k e) ∙ s.values k w e f;
      loads = s.loads;
      inside = λ l e. absurd (omega (arith, s.low (top order') e, more));
      outside = λ l e. absurd (omega (arith, s.low (top order') e, more));
      newest = λ l. absurd (fresh l);
    }

-- the process moves from one place outside a load to another
pub sees_calm : {order : List (Call Stored)} {x : Triple} {o o' : Own} {seen : Link} → Calm o o' → Sees order x o seen → Sees order x o' seen
sees_calm {o = o} {o' = o'} c s =
    record {
      low = s.low;
      values = λ k w e f. s.values k w e (sym c.old ∙ f);
      loads = λ l. absurd (still_calm o'.place c.behind l);
      inside = λ l. absurd (still_calm o'.place c.behind l);
      outside = λ l e. let (f, g) = s.outside c.before e in (c.old ∙ f, c.check ∙ g);
      newest = λ l. s.newest (record { still = c.before; old = sym c.old ∙ l.old; check = sym c.check ∙ l.check });
    }

-- the open call of a process that takes no step
pub call_on : {now : ℕ} {order order' : List (Call Stored)} (q : Process) → Aside none_stored 0 now order order' q.0 → (t : ℕ) (op : Op Stored) (seen : Link) (place : Place)
    → OpenAt q t now order op seen place → OpenAt q t (suc now) order' op seen place
call_on q a t op seen Idle k = tt
call_on q a t op seen Load1 k = undecided_on a k
call_on q a t op seen Load2 k = loading_on a k
call_on q a t op seen Load3 k = loading_on a k
call_on q a t op seen (Store1 bit) k = undecided_on a k
call_on q a t op seen Store2 k = tt
call_on q a t op seen Check1 k = undecided_on a k

-- The test of a store and of a check.
same_bit_lem : (a b : Bool) → same_bit a b ≡ true → a ≡ b
same_bit_lem true true e = refl
same_bit_lem true false e = absurd (false≢true e)
same_bit_lem false true e = absurd (false≢true e)
same_bit_lem false false e = refl

bit_same : (a : Bool) → same_bit a a ≡ true
bit_same true = refl
bit_same false = refl

pub triple_same : (a b : Triple) → same_triple a b ≡ true → a ≡ b
triple_same a b e =
    let (t, rest) = and_true (eqb a.tag.0 b.tag.0) (eqb a.process.0 b.process.0 && same_bit a.bit b.bit) e in
    let (p, bit) = and_true (eqb a.process.0 b.process.0) (same_bit a.bit b.bit) rest in
    let tags : a.tag.0 ≡ b.tag.0 = eqb-true a.tag.0 b.tag.0 t in
    let processes : a.process.0 ≡ b.process.0 = eqb-true a.process.0 b.process.0 p in
    let bits : a.bit ≡ b.bit = same_bit_lem a.bit b.bit bit in
    λ i. record { tag = record { 0 = tags i }; process = record { 0 = processes i }; bit = bits i }

pub same_self : (a : Triple) → same_triple a a ≡ true
same_self a = rw (eq-eqb a.tag.0 a.tag.0 refl, eq-eqb a.process.0 a.process.0 refl, bit_same a.bit)

pub kept_is : (k : Option Triple) (x : Triple) → is_kept k x ≡ true → k ≡ Some x
kept_is None x e = absurd (false≢true e)
kept_is (Some w) x e = ap Some (triple_same w x e)

pub equal_all : (x : Triple) (o : Own) → all_equal x o ≡ true → (o.old ≡ Some x) × (o.check ≡ Some x)
equal_all x o e = go o.old refl (and_true (both_keep o.old o.check) (is_kept o.old x) e)
  where
    go : (k : Option Triple) → o.old ≡ k → (both_keep o.old o.check ≡ true) × (is_kept o.old x ≡ true) → (o.old ≡ Some x) × (o.check ≡ Some x)
    go k f (both, is) =
        let old : o.old ≡ Some x = kept_is o.old x is in
        (old, kept_is o.check x (sym (ap (λ (k : Option Triple). both_keep k o.check) old) ∙ both))

pub all_equal_lem : (x : Triple) (o : Own) → o.old ≡ Some x → o.check ≡ Some x → all_equal x o ≡ true
all_equal_lem x o f g = rw (f, g, same_self x)

-- Outside a load the machine's test says whether the word is linked: the link theorem.
pub test_link : {order : List (Call Stored)} {x : Triple} {o : Own} {seen : Link} → OutsideLoad o.place → Sees order x o seen → linked seen (top order) ≡ all_equal x o
test_link {order} {x} {o} {seen} still s = go (all_equal x o) refl seen refl
  where
    go : (t : Bool) → all_equal x o ≡ t → (k : Link) → seen ≡ k → linked k (top order) ≡ t
    go true e k f =
        let (old, same) = equal_all x o e in
        let new = s.newest (record { still = still; old = old; check = same }) in
        ap (λ (i : Link). linked i (top order)) (sym f ∙ new) ∙ eq-eqb (top order) (top order) refl
    go false e word.none f = refl
    go false e (at m) f = ne_eqb m (top order) behind
      where
        behind : m ≡ top order → ⊥
        behind g =
            let (old, same) = s.outside still (f ∙ ap at g) in
            false≢true (sym e ∙ all_equal_lem x o old same)
