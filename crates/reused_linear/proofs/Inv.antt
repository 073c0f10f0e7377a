-- The invariants, split by whose data they read: one process, one owner of tags, X and an owner, an owner and a reader. An owner's
-- numbers are ways from the start of its safe interval, so every arc is an interval of plain numbers. Assumes nothing.
use Prim.Native.Nat.{ℕ, ◌+◌, ◌*◌, ◌≤◌, ◌<◌}
use mathlib.Core.Path.{◌≡◌, refl, sym, subst}
use mathlib.Core.Bool.{Bool, true, false, cond}
use mathlib.Core.Logic.{◌≢◌, ◌⊎◌}
use mathlib.Core.List.{List}
use lib.Dec.{eqb}
use lib.ListN.{length}
use borrow.Author.Tests.{eqb-true, eqb-false}
use Rattle.word.specs.Word.{put}
use Rattle.reused.specs.Steps.{announced_of}
use Rattle.reused_linear.specs.Types.{Triple, Announced, Some, Place, Idle, Load1, Load2, Load3, Store1, Store2, Check1, Own}
use Rattle.reused_linear.specs.Arcs.{way}
use Rattle.reused_linear.specs.Safe.{Safe}
use Rattle.reused_linear.specs.Claims.{at_choice, OutsideLoad}
use Rattle.reused_linear.proofs.Lists.{In}
use Rattle.reused_linear.proofs.Held.{Pending}

-- N processes, intervals of D tags, M tags in all
pub record Sizes (N D M : ℕ) : Type 0 where
  pub one : 1 ≤ N
  pub interval : D ≡ (2 * N + 1) * N
  pub all : (2 * N + 2) * D ≤ M

-- a process waits for step 2 or 3 of its load (if it does not, it stands `OutsideLoad`); or, for `Shown`, not for step 2
abbrev pub Loading : Place → Type 0
Loading Idle = ⊥
Loading Load1 = ⊥
Loading Load2 = Unit {0}
Loading Load3 = Unit {0}
Loading (Store1 bit) = ⊥
Loading Store2 = ⊥
Loading Check1 = ⊥

abbrev pub Shown : Place → Type 0
Shown Idle = Unit {0}
Shown Load1 = Unit {0}
Shown Load2 = ⊥
Shown Load3 = Unit {0}
Shown (Store1 bit) = Unit {0}
Shown Store2 = Unit {0}
Shown Check1 = Unit {0}

-- an owner's numbers: its next tag, its next start, its search place, and 1 between the two steps of a store that is done, whose tag is
-- used up
pub record Owner : Type 0 where
  pub tag : ℕ
  pub start : ℕ
  pub search : ℕ
  pub more : ℕ

abbrev pub owner_of : Own → Owner
owner_of o = record { tag = o.tag.0; start = o.start.0; search = o.search.0; more = at_choice o.place }

-- old and check both hold w, and no load is under way
pub record Linked (o : Own) (w : Triple) : Type 0 where
  pub still : OutsideLoad o.place
  pub old : o.old ≡ Some w
  pub check : o.check ≡ Some w

-- how many tags of the safe interval are used up
abbrev pub used : ℕ → Owner → Safe → ℕ
used M v s = way M s.start v.tag + v.more

-- One process: its notes are in range, a load past its first step has an old, and what it has read is announced.
pub record Shape (N M : ℕ) (o : Own) : Type 0 where
  pub named : (a : Announced) → o.named ≡ Some a → (a.tag.0 < M) × (a.process.0 < N)
  pub old : (w : Triple) → o.old ≡ Some w → (w.tag.0 < M) × (w.process.0 < N)
  pub loads : Loading o.place → (w : Triple) × (o.old ≡ Some w)
  pub shown : Shown o.place → o.named ≡ announced_of o.old

-- One owner. `left` is how many jumps may still come; h holds the places, from the next start on, of the tags that were held when the safe
-- interval began.
pub record Nums (N D M : ℕ) (v : Owner) (s : Safe) (h : List ℕ) : Type 0 where
  pub tag : v.tag < M
  pub start : v.start < M
  pub safe : s.start < M
  pub search : v.search < N
  pub left : ℕ
  pub ahead : way M s.start v.start ≡ D * (s.jump + 1)
  pub jumps : s.jump + left ≤ 2 * N
  pub room : way M s.start v.start + D * left + D ≤ M
  pub looked : v.search ≤ way M s.start v.tag
  pub uses : way M s.start v.tag + N * left + N ≤ D + v.search
  pub few : length h ≤ left

-- X, if it holds a tag of p: it is in h from the next start on, and it is the last that p used; or, if p has used none of its safe
-- interval yet, it is none of that.
pub record AtX (D M : ℕ) (x : Triple) (v : Owner) (s : Safe) (h : List ℕ) (p : ℕ) : Type 0 where
  pub known : x.process.0 ≡ p → way M s.start v.start ≤ way M s.start x.tag.0 → In (way M s.start x.tag.0) h
  pub last : x.process.0 ≡ p → (way M s.start x.tag.0 + 1 ≡ used M v s) ⊎ ((used M v s ≡ 0) × (D ≤ way M s.start x.tag.0))

-- An owner p and a reader q. What q announces or is about to announce is in h from the next start on. If q is linked to a tag of p: once
-- p has looked at q's place, the tag is not in the interval that p looks at; and it is none of those that p has still to use.
pub record Pair (D M : ℕ) (v : Owner) (s : Safe) (h : List ℕ) (p : ℕ) (o : Own) (q : ℕ) : Type 0 where
  pub named : (a : Announced) → o.named ≡ Some a → a.process.0 ≡ p → way M s.start v.start ≤ way M s.start a.tag.0 → In (way M s.start a.tag.0) h
  pub read : (w : Triple) → Pending o.place → o.old ≡ Some w → w.process.0 ≡ p → way M s.start v.start ≤ way M s.start w.tag.0 → In (way M s.start w.tag.0) h
  pub seen : (w : Triple) → Linked o w → w.process.0 ≡ p → q < v.search → D ≤ way M v.start w.tag.0
  pub unused : (w : Triple) → Linked o w → w.process.0 ≡ p → used M v s ≤ way M s.start w.tag.0 → D ≤ way M s.start w.tag.0

pub record Inv (N D M : ℕ) (x : Triple) (own : ℕ → Own) (safe : ℕ → Safe) (hs : ℕ → List ℕ) : Type 0 where
  pub x_tag : x.tag.0 < M
  pub x_process : x.process.0 < N
  pub shapes : (q : ℕ) → q < N → Shape N M (own q)
  pub nums : (p : ℕ) → p < N → Nums N D M (owner_of (own p)) (safe p) (hs p)
  pub at_x : (p : ℕ) → p < N → AtX D M x (owner_of (own p)) (safe p) (hs p) p
  pub pairs : (p : ℕ) → p < N → (q : ℕ) → q < N → Pair D M (owner_of (own p)) (safe p) (hs p) p (own q) q

-- What holds of what one process has become, and of every other as it was, holds of all.
pub at_all : {A B C : Type 0} (P : ℕ → A → B → C → Type 0) (z : ℕ) (a : A) (b : B) (c : C) (f : ℕ → A) (g : ℕ → B) (h : ℕ → C)
    → P z a b c → ((p : ℕ) → p ≢ z → P p (f p) (g p) (h p)) → (p : ℕ) → P p (put z a f p) (put z b g p) (put z c h p)
at_all {A} {B} {C} P z a b c f g h here there p = go (eqb p z) refl
  where
    go : (t : Bool) → eqb p z ≡ t → P p (cond t a (f p)) (cond t b (g p)) (cond t c (h p))
    go true e = subst (λ (k : ℕ). P k a b c) (sym (eqb-true p z e)) here
    go false e = there p (eqb-false p z e)
