-- The reader's half of every step: a load's three, and those outside a load.
-- Assumes nothing.
use Prim.Native.Nat.{ℕ, ◌+◌, ◌≤◌, ◌<◌}
use mathlib.Core.Path.{◌≡◌, refl, sym, ap, ◌∙◌, subst}
use mathlib.Core.Logic.{◌⊎◌, inl, inr}
use mathlib.Core.List.{List}
use native.Mathlib.Omega.{arith}
use Rattle.std.proofs.lemmas.Option.{none-some, same_Some}
use Rattle.reused.specs.Steps.{announced_of, load1, load2, load3}
use Rattle.reused_linear.specs.Types.{Triple, Announced, Option, None, Some, Place, Idle, Load1, Load2, Load3, Store1, Store2, Check1, Own}
use Rattle.reused_linear.specs.Arcs.{way}
use Rattle.reused_linear.specs.Safe.{Safe}
use Rattle.reused_linear.proofs.Circle.{before_window}
use Rattle.reused_linear.proofs.Lists.{In}
use Rattle.reused_linear.proofs.Held.{Pending}
use Rattle.reused_linear.specs.Claims.{at_choice, OutsideLoad}
use Rattle.reused_linear.proofs.Inv.{Sizes, Loading, Shown, Owner, Linked, used, Shape, Nums, AtX, Pair}
use Rattle.reused_linear.proofs.Owners.{tag_safe, start_behind, start_room}

-- what old announces is old's tag and process
pub announced : (old : Option Triple) (a : Announced) → announced_of old ≡ Some a → (w : Triple) × (old ≡ Some w) × (w.tag.0 ≡ a.tag.0) × (w.process.0 ≡ a.process.0)
announced None a e = absurd (none-some a e)
announced (Some w) a e =
    let same = same_Some _ a e in
    (w, refl, ap (λ (b : Announced). b.tag.0) same, ap (λ (b : Announced). b.process.0) same)

pub extra_low : (place : Place) → at_choice place ≤ 1
extra_low Idle = omega arith
extra_low Load1 = omega arith
extra_low Load2 = omega arith
extra_low Load3 = omega arith
extra_low (Store1 bit) = omega arith
extra_low Store2 = omega arith
extra_low Check1 = omega arith

-- neither before nor after the step does the process wait for step 2 or 3 of a load
pub still_shown : (place : Place) → OutsideLoad place → Shown place
still_shown Idle s = tt
still_shown Load1 s = tt
still_shown (Store1 bit) s = tt
still_shown Store2 s = tt
still_shown Check1 s = tt
still_shown Load2 s = absurd s
still_shown Load3 s = absurd s

pub still_idle : (place : Place) → OutsideLoad place → Pending place → ⊥
still_idle Load2 s h = s
still_idle Idle s h = h
still_idle Load1 s h = h
still_idle Load3 s h = h
still_idle (Store1 bit) s h = h
still_idle Store2 s h = h
still_idle Check1 s h = h

pub still_calm : (place : Place) → OutsideLoad place → Loading place → ⊥
still_calm Load2 s h = s
still_calm Load3 s h = s
still_calm Idle s h = h
still_calm Load1 s h = h
still_calm (Store1 bit) s h = h
still_calm Store2 s h = h
still_calm Check1 s h = h

-- o' is o but for its numbers as an owner and its place, and stands in no load, as o does
pub record Calm (o o' : Own) : Type 0 where
  pub named : o'.named ≡ o.named
  pub old : o'.old ≡ o.old
  pub check : o'.check ≡ o.check
  pub before : OutsideLoad o.place
  pub behind : OutsideLoad o'.place

pub shape_calm : {N M : ℕ} {o o' : Own} → Calm o o' → Shape N M o → Shape N M o'
shape_calm {N} {M} {o} {o'} c s =
    record {
      named = λ a e. s.named a (sym c.named ∙ e);
      old = λ w e. s.old w (sym c.old ∙ e);
      loads = λ l. absurd (still_calm o'.place c.behind l);
      shown = λ t. c.named ∙ s.shown (still_shown o.place c.before) ∙ ap announced_of (sym c.old);
    }

pub pair_calm : {D M : ℕ} {v : Owner} {s : Safe} {h : List ℕ} {p : ℕ} {o o' : Own} {q : ℕ} → Calm o o' → Pair D M v s h p o q → Pair D M v s h p o' q
pair_calm {o = o} {o' = o'} c a =
    record {
      named = λ b e. a.named b (sym c.named ∙ e);
      read = λ w l. absurd (still_idle o'.place c.behind l);
      seen = λ w l. a.seen w (back w l);
      unused = λ w l. a.unused w (back w l);
    }
  where
    back : (w : Triple) → Linked o' w → Linked o w
    back w l = record { still = c.before; old = sym c.old ∙ l.old; check = sym c.check ∙ l.check }

-- Step 1 of a load: X is old now, and not announced yet.
pub shape_1 : {N M : ℕ} (x : Triple) (o : Own) → x.tag.0 < M → x.process.0 < N → Shape N M o → Shape N M (load1 x o).own
shape_1 {N} {M} x o low who s =
    record {
      named = s.named;
      old = λ w e. subst (λ (y : Triple). (y.tag.0 < M) × (y.process.0 < N)) (same_Some _ _ e) (low, who);
      loads = λ l. (x, refl);
      shown = λ t. absurd t;
    }

pub pair_1 : {D M : ℕ} {v : Owner} {s : Safe} {h : List ℕ} {p : ℕ} (x : Triple) (o : Own) {q : ℕ} → AtX D M x v s h p → Pair D M v s h p o q → Pair D M v s h p (load1 x o).own q
pair_1 {D} {M} {v} {s} {h} {p} x o {q} ax a =
    record {
      named = a.named;
      read = λ w l e.
          subst (λ (y : Triple). y.process.0 ≡ p → way M s.start v.start ≤ way M s.start y.tag.0 → In (way M s.start y.tag.0) h) (same_Some _ _ e) ax.known;
      seen = λ w l. absurd l.still;
      unused = λ w l. absurd l.still;
    }

-- Step 2: old is announced.
pub shape_2 : {N M : ℕ} (x : Triple) (o : Own) → Loading o.place → Shape N M o → Shape N M (load2 x o).own
shape_2 {N} {M} x o here s =
    record {
      named = λ a e.
          let (w, f, g, k) = announced o.old a e in
          let r = s.old w f in
          (omega (arith, r.0, g), omega (arith, r.1, k));
      old = s.old;
      loads = λ l. s.loads here;
      shown = λ t. refl;
    }

pub pair_2 : {D M : ℕ} {v : Owner} {s : Safe} {h : List ℕ} {p : ℕ} (x : Triple) (o : Own) {q : ℕ} → Pending o.place → Pair D M v s h p o q → Pair D M v s h p (load2 x o).own q
pair_2 {D} {M} {v} {s} {h} {p} x o {q} here a =
    record {
      named = λ b e f.
          let (w, g, t, k) = announced o.old b e in
          subst (λ (d : ℕ). way M s.start v.start ≤ way M s.start d → In (way M s.start d) h) t (a.read w here g (k ∙ f));
      read = λ w l. absurd l;
      seen = λ w l. absurd l.still;
      unused = λ w l. absurd l.still;
    }

-- Step 3: X is check now. If it is old too, X's own place says all.
pub shape_3 : {N M : ℕ} (x : Triple) (o : Own) → Shown o.place → Shape N M o → Shape N M (load3 x o).own
shape_3 x o here s = record { named = s.named; old = s.old; loads = λ l. absurd l; shown = λ t. s.shown here }

pub pair_3 : {N D M : ℕ} (sizes : Sizes N D M) {v : Owner} {s : Safe} {h : List ℕ} {p : ℕ} (x : Triple) (o : Own) {q : ℕ} → Nums N D M v s h → v.more ≤ 1 → x.tag.0 < M
    → AtX D M x v s h p → Pair D M v s h p o q → Pair D M v s h p (load3 x o).own q
pair_3 {N} {D} {M} sizes {v} {s} {h} {p} x o {q} n few low ax a =
    record {
      named = a.named;
      read = λ w l. absurd l;
      seen = λ w l e i. subst (λ (y : Triple). y.process.0 ≡ p → D ≤ way M v.start y.tag.0) (same_Some _ _ l.check) (λ f. looked i (ax.last f)) e;
      unused = λ w l e.
          subst (λ (y : Triple). y.process.0 ≡ p → used M v s ≤ way M s.start y.tag.0 → D ≤ way M s.start y.tag.0) (same_Some _ _ l.check) (λ f. behind (ax.last f)) e;
    }
  where
    looked : q < v.search → (way M s.start x.tag.0 + 1 ≡ used M v s) ⊎ ((used M v s ≡ 0) × (D ≤ way M s.start x.tag.0)) → D ≤ way M v.start x.tag.0
    looked i (inl g) =
        before_window s.start v.start x.tag.0 D n.safe n.start low (start_room sizes n) (omega (arith, g, few, tag_safe sizes n, start_behind sizes n))
    looked i (inr (g, l)) = absurd (omega (arith, g, i, n.looked))

    behind : (way M s.start x.tag.0 + 1 ≡ used M v s) ⊎ ((used M v s ≡ 0) × (D ≤ way M s.start x.tag.0)) → used M v s ≤ way M s.start x.tag.0 → D ≤ way M s.start x.tag.0
    behind (inl g) i = absurd (omega (arith, g, i))
    behind (inr (g, l)) i = l
