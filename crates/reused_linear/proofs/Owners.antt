-- The owner's half of the steps that choose a tag, and of a store that changes X: what its numbers become, and what that does to X and to
-- every reader. (W9) stands here: `hit_tag` and `pass_tag`. Assumes nothing.
use Prim.Native.Nat.{ℕ, zero, suc, ◌+◌, ◌*◌, ◌≤◌, ◌<◌}
use mathlib.Core.Path.{◌≡◌, refl, ap, subst}
use mathlib.Core.Logic.{◌⊎◌, inl, inr}
use mathlib.Core.List.{List, map}
use native.Mathlib.Nat.{eq-or-lt_of_le}
use native.Mathlib.Omega.{arith}
use lib.ListN.{length, length-map}
use Rattle.reused.specs.Circle.{ahead}
use Rattle.reused_linear.specs.Types.{Triple, Announced, Some, Own}
use Rattle.reused_linear.specs.Arcs.{way}
use Rattle.reused_linear.specs.Safe.{Safe}
use Rattle.reused_linear.proofs.Circle.{way_self, way_ahead, ahead_below, in_window, before_window}
use Rattle.reused_linear.proofs.Lists.{In, from, in_some, in_from, from_less, in_map}
use Rattle.reused_linear.proofs.Held.{Pending}
use Rattle.reused_linear.proofs.Inv.{Sizes, Owner, Linked, used, Nums, AtX, Pair}

-- a hit, a pass, a new interval: the owner's numbers, its safe interval, the places
abbrev pub hit_owner : ℕ → ℕ → Owner → Owner
hit_owner D M v = record { tag = ahead M v.tag 1; start = ahead M v.start D; search = 0; more = 0 }

abbrev pub hit_safe : Safe → Safe
hit_safe s = record { start = s.start; jump = suc s.jump }

abbrev pub hit_places : ℕ → ℕ → Owner → Safe → List ℕ → List ℕ
hit_places D M v s h = from (way M s.start v.start + D) h

abbrev pub pass_owner : ℕ → Owner → Owner
pass_owner M v = record { tag = ahead M v.tag 1; start = v.start; search = v.search + 1; more = 0 }

abbrev pub new_owner : ℕ → ℕ → Owner → Owner
new_owner D M v = record { tag = v.start; start = ahead M v.start D; search = 0; more = 0 }

abbrev pub new_safe : Owner → Safe
new_safe v = record { start = v.start; jump = 0 }

abbrev pub new_places : ℕ → Owner → List ℕ → List ℕ
new_places M v tags = map (way M v.start) tags

-- the first step of a store that is done
abbrev pub store_owner : Owner → Owner
store_owner v = record { tag = v.tag; start = v.start; search = v.search; more = 1 }

module _ {N D M : ℕ} (sizes : Sizes N D M) where
  pub some_tags : 1 ≤ D
  some_tags = go N refl
    where
      go : (n : ℕ) → N ≡ n → 1 ≤ D
      go zero e = absurd (omega (arith, e, sizes.one))
      go (suc n) e = omega (arith, rw e at sizes.interval)

  module _ {v : Owner} {s : Safe} {h : List ℕ} (n : Nums N D M v s h) where
    -- the next tag is one of the safe interval; the next start is behind it; there is room for one more interval
    pub tag_safe : way M s.start v.tag < D
    tag_safe = omega (arith, n.uses, n.search)

    pub start_behind : D ≤ way M s.start v.start
    start_behind = omega (arith, n.ahead)

    pub start_room : way M s.start v.start + D ≤ M
    start_room = omega (arith, n.room)

    -- A tag that is in h and in the interval looked at.
    module _ (t : ℕ) (low : t < M) (within : way M v.start t < D) (known : way M s.start v.start ≤ way M s.start t → In (way M s.start t) h) where
      hit_place : (way M s.start v.start ≤ way M s.start t) × (way M s.start t < way M s.start v.start + D)
      hit_place = in_window s.start v.start t D n.safe n.start low start_room within

      hit_in : In (way M s.start t) h
      hit_in = known hit_place.0

      one_left : 1 ≤ n.left
      one_left = omega (arith, in_some (way M s.start t) h hit_in, n.few)

      -- with k jumps left after this one
      more_room : (k : ℕ) → n.left ≡ suc k → way M s.start v.start + D * k + D + D ≤ M
      more_room k e =
          let room : way M s.start v.start + D * suc k + D ≤ M = subst (λ (g : ℕ). way M s.start v.start + D * g + D ≤ M) e n.room in
          omega (arith, room)

      more_use : (k : ℕ) → n.left ≡ suc k → way M s.start v.tag + N * k + N + N ≤ D + v.search
      more_use k e =
          let uses : way M s.start v.tag + N * suc k + N ≤ D + v.search = subst (λ (g : ℕ). way M s.start v.tag + N * g + N ≤ D + v.search) e n.uses in
          omega (arith, uses)

      left_one : (k : ℕ) × (n.left ≡ suc k)
      left_one = go n.left refl
        where
          go : (g : ℕ) → n.left ≡ g → (k : ℕ) × (n.left ≡ suc k)
          go zero e = absurd (omega (arith, one_left, e))
          go (suc k) e = (k, e)

      -- (W9) at a hit
      pub hit_tag : (way M s.start (ahead M v.tag 1) ≡ way M s.start v.tag + 1) × (way M s.start v.tag + 1 < D)
      hit_tag =
          let (k, e) = left_one in
          let low : way M s.start v.tag + 1 < D = omega (arith, more_use k e, n.search, sizes.one) in
          (way_ahead s.start v.tag 1 n.safe n.tag (omega (arith, low, start_room)), low)

      hit_start : way M s.start (ahead M v.start D) ≡ way M s.start v.start + D
      hit_start =
          let (k, e) = left_one in
          way_ahead s.start v.start D n.safe n.start (omega (arith, more_room k e, some_tags))

      pub nums_hit : Nums N D M (hit_owner D M v) (hit_safe s) (hit_places D M v s h)
      nums_hit =
          let (k, e) = left_one in
          record {
            tag = ahead_below v.tag 1 n.tag;
            start = ahead_below v.start D n.start;
            safe = n.safe;
            search = sizes.one;
            left = k;
            ahead = omega (arith, hit_start, n.ahead);
            jumps = omega (arith, n.jumps, e);
            room = omega (arith, hit_start, more_room k e);
            looked = omega arith;
            uses = omega (arith, hit_tag.0, more_use k e, n.search);
            few = omega (arith, from_less (way M s.start v.start + D) (way M s.start t) h hit_in hit_place.1, n.few, e);
          }

      -- what is in h from the next start on stays in
      hit_known : (d : ℕ) → (way M s.start v.start ≤ d → In d h) → way M s.start (ahead M v.start D) ≤ d → In d (hit_places D M v s h)
      hit_known d i l = in_from (way M s.start v.start + D) d h (i (omega (arith, l, hit_start))) (omega (arith, l, hit_start))

      pub at_x_hit_lem : {x : Triple} {p : ℕ} → v.more ≡ 1 → AtX D M x v s h p → AtX D M x (hit_owner D M v) (hit_safe s) (hit_places D M v s h) p
      at_x_hit_lem {x} {p} one a =
          record {
            known = λ e. hit_known (way M s.start x.tag.0) (a.known e);
            last = λ e. go (a.last e);
          }
        where
          go : (way M s.start x.tag.0 + 1 ≡ used M v s) ⊎ ((used M v s ≡ 0) × (D ≤ way M s.start x.tag.0))
              → (way M s.start x.tag.0 + 1 ≡ used M (hit_owner D M v) (hit_safe s)) ⊎ ((used M (hit_owner D M v) (hit_safe s) ≡ 0) × (D ≤ way M s.start x.tag.0))
          go (inl g) = inl (omega (arith, g, one, hit_tag.0))
          go (inr (g, l)) = absurd (omega (arith, g, one))

      pub pair_hit : {p : ℕ} {o : Own} {q : ℕ} → v.more ≡ 1 → Pair D M v s h p o q → Pair D M (hit_owner D M v) (hit_safe s) (hit_places D M v s h) p o q
      pair_hit one a =
          record {
            named = λ b e f. hit_known (way M s.start b.tag.0) (a.named b e f);
            read = λ w l e f. hit_known (way M s.start w.tag.0) (a.read w l e f);
            seen = λ w l e i. absurd (omega (arith, i));
            unused = λ w l e i. a.unused w l e (omega (arith, i, one, hit_tag.0));
          }

    -- Nothing there, and there are places to look at yet. (W9) at a pass:
    pub pass_tag : v.search + 1 < N → (way M s.start (ahead M v.tag 1) ≡ way M s.start v.tag + 1) × (way M s.start v.tag + 1 < D)
    pass_tag more =
        let low : way M s.start v.tag + 1 < D = omega (arith, n.uses, more) in
        (way_ahead s.start v.tag 1 n.safe n.tag (omega (arith, low, start_room)), low)

    module _ (more : v.search + 1 < N) where
      pub nums_pass : Nums N D M (pass_owner M v) s h
      nums_pass =
          record {
            tag = ahead_below v.tag 1 n.tag;
            start = n.start;
            safe = n.safe;
            search = more;
            left = n.left;
            ahead = n.ahead;
            jumps = n.jumps;
            room = n.room;
            looked = omega (arith, n.looked, (pass_tag more).0);
            uses = omega (arith, n.uses, (pass_tag more).0);
            few = n.few;
          }

      pub at_x_pass_lem : {x : Triple} {p : ℕ} → v.more ≡ 1 → AtX D M x v s h p → AtX D M x (pass_owner M v) s h p
      at_x_pass_lem {x} {p} one a = record { known = a.known; last = λ e. go (a.last e) }
        where
          go : (way M s.start x.tag.0 + 1 ≡ used M v s) ⊎ ((used M v s ≡ 0) × (D ≤ way M s.start x.tag.0))
              → (way M s.start x.tag.0 + 1 ≡ used M (pass_owner M v) s) ⊎ ((used M (pass_owner M v) s ≡ 0) × (D ≤ way M s.start x.tag.0))
          go (inl g) = inl (omega (arith, g, one, (pass_tag more).0))
          go (inr (g, l)) = absurd (omega (arith, g, one))

      -- the reader at the place that was looked at holds nothing of the interval looked at
      pub pair_pass : {p : ℕ} {o : Own} {q : ℕ} → v.more ≡ 1 → ((w : Triple) → Linked o w → w.process.0 ≡ p → q ≡ v.search → D ≤ way M v.start w.tag.0)
          → Pair D M v s h p o q → Pair D M (pass_owner M v) s h p o q
      pair_pass {p} {o} {q} one clear a =
          record {
            named = a.named;
            read = a.read;
            seen = λ w l e i. go w l e (eq-or-lt_of_le i);
            unused = λ w l e i. a.unused w l e (omega (arith, i, one, (pass_tag more).0));
          }
        where
          go : (w : Triple) → Linked o w → w.process.0 ≡ p → (suc q ≡ v.search + 1) ⊎ (suc q < v.search + 1) → D ≤ way M v.start w.tag.0
          go w l e (inl f) = clear w l e (omega (arith, f))
          go w l e (inr f) = a.seen w l e (omega (arith, f))

    -- Nothing there, and all places are looked at: a new safe interval, with the places of all tags that are held.
    new_start : way M v.start (ahead M v.start D) ≡ D
    new_start =
        let self : way M v.start v.start ≡ 0 = way_self v.start n.start in
        let on = way_ahead v.start v.start D n.start n.start (omega (arith, self, start_room, start_behind, some_tags)) in
        omega (arith, self, on)

    pub nums_new : (tags : List ℕ) → length tags ≤ 2 * N → Nums N D M (new_owner D M v) (new_safe v) (new_places M v tags)
    nums_new tags few =
        let self : way M v.start v.start ≡ 0 = way_self v.start n.start in
        record {
          tag = n.start;
          start = ahead_below v.start D n.start;
          safe = n.start;
          search = sizes.one;
          left = 2 * N;
          ahead = omega (arith, new_start);
          jumps = omega arith;
          room = omega (arith, new_start, sizes.all);
          looked = omega arith;
          uses = omega (arith, self, sizes.interval);
          few = omega (arith, length-map tags (way M v.start), few);
        }

    pub at_x_new_lem : {x : Triple} {p : ℕ} (tags : List ℕ) → v.more ≡ 1 → x.tag.0 < M → (x.process.0 ≡ p → In x.tag.0 tags)
        → AtX D M x v s h p → AtX D M x (new_owner D M v) (new_safe v) (new_places M v tags) p
    at_x_new_lem {x} {p} tags one low i a =
        record {
          known = λ e l. in_map (way M v.start) x.tag.0 tags (i e);
          last = λ e. inr (omega (arith, way_self v.start n.start), go (a.last e));
        }
      where
        go : (way M s.start x.tag.0 + 1 ≡ used M v s) ⊎ ((used M v s ≡ 0) × (D ≤ way M s.start x.tag.0)) → D ≤ way M v.start x.tag.0
        go (inl g) = before_window s.start v.start x.tag.0 D n.safe n.start low start_room (omega (arith, g, one, tag_safe, start_behind))
        go (inr (g, l)) = absurd (omega (arith, g, one))

    pub pair_new : {p : ℕ} {o : Own} {q : ℕ} (tags : List ℕ) → ((b : Announced) → o.named ≡ Some b → b.process.0 ≡ p → In b.tag.0 tags)
        → ((w : Triple) → Pending o.place → o.old ≡ Some w → w.process.0 ≡ p → In w.tag.0 tags)
        → ((w : Triple) → Linked o w → w.process.0 ≡ p → q ≡ v.search → D ≤ way M v.start w.tag.0)
        → q ≤ v.search → Pair D M v s h p o q → Pair D M (new_owner D M v) (new_safe v) (new_places M v tags) p o q
    pair_new {p} {o} {q} tags named read clear last a =
        record {
          named = λ b e f l. in_map (way M v.start) b.tag.0 tags (named b e f);
          read = λ w l e f i. in_map (way M v.start) w.tag.0 tags (read w l e f);
          seen = λ w l e i. absurd (omega (arith, i));
          unused = λ w l e i. go w l e (eq-or-lt_of_le last);
        }
      where
        go : (w : Triple) → Linked o w → w.process.0 ≡ p → (q ≡ v.search) ⊎ (q < v.search) → D ≤ way M v.start w.tag.0
        go w l e (inl f) = clear w l e f
        go w l e (inr f) = a.seen w l e f

    -- A store that changes X by this owner's next tag.
    pub nums_store : Nums N D M (store_owner v) s h
    nums_store =
        record {
          tag = n.tag;
          start = n.start;
          safe = n.safe;
          search = n.search;
          left = n.left;
          ahead = n.ahead;
          jumps = n.jumps;
          room = n.room;
          looked = n.looked;
          uses = n.uses;
          few = n.few;
        }

    pub at_x_store_lem : {x : Triple} {p : ℕ} → x.tag.0 ≡ v.tag → AtX D M x (store_owner v) s h p
    at_x_store_lem {x} {p} e =
        let same : way M s.start x.tag.0 ≡ way M s.start v.tag = ap (way M s.start) e in
        record {
          known = λ f l. absurd (omega (arith, l, same, tag_safe, start_behind));
          last = λ f. inl (omega (arith, same));
        }

  pub pair_store : {v : Owner} {s : Safe} {h : List ℕ} {p : ℕ} {o : Own} {q : ℕ} → v.more ≡ 0 → Pair D M v s h p o q → Pair D M (store_owner v) s h p o q
  pair_store none a =
      record { named = a.named; read = a.read; seen = a.seen; unused = λ w l e i. a.unused w l e (omega (arith, i, none)) }

-- X of another process says nothing of this owner
pub at_x_other_lem : {D M : ℕ} {x : Triple} {v : Owner} {s : Safe} {h : List ℕ} {p : ℕ} → (x.process.0 ≡ p → ⊥) → AtX D M x v s h p
at_x_other_lem other = record { known = λ e. absurd (other e); last = λ e. absurd (other e) }
