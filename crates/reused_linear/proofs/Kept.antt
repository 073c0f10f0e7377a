-- Every entry of a process that is there keeps the invariants: each step assembled from its two halves.
-- Assumes nothing.
use Prim.Native.Nat.{ℕ, ◌+◌, ◌≤◌, ◌<◌}
use mathlib.Core.Path.{◌≡◌, refl, sym, ap, ◌∙◌, subst, subst₂}
use mathlib.Core.Bool.{Bool, true, false, cond, ◌&&◌, false≢true}
use mathlib.Core.Logic.{◌≢◌}
use mathlib.Core.List.{List}
use native.Mathlib.Omega.{arith}
use lib.Dec.{eqb, ltb}
use borrow.Author.Tests.{ltb-true, ltb-false, eqb-true, eq-eqb}
use Rattle.word.specs.Word.{put}
use Rattle.word.proofs.Put.{put_id}
use Rattle.reused.specs.Circle.{interval_of, arc}
use Rattle.reused.specs.Steps.{at, all_equal, announced_of, hits, hit, passed, renewed, chosen, step_at, step_of, idle, first_place, load1, load2, load3}
use Rattle.reused.specs.Called.{parts_after}
use Rattle.reused_linear.specs.Types.{Process, Triple, Announced, Option, None, Some, Place, Idle, Load1, Load2, Load3, Store1, Store2, Check1, Own, Ask, Taken, GoesOn, NotDone, CallOpen, Request, Load, Store, Check, Requested, Stepped}
use Rattle.reused_linear.specs.Arcs.{way}
use Rattle.reused_linear.specs.Safe.{Safe, safe_chosen, safe_step}
use Rattle.reused_linear.proofs.Circle.{and_true, arc_way, no_arc}
use Rattle.reused_linear.proofs.Held.{held, Pending, x_held, name_held, read_held, held_few}
use Rattle.reused_linear.specs.Claims.{at_choice, OutsideLoad}
use Rattle.reused_linear.proofs.Inv.{Sizes, Loading, Shown, Owner, owner_of, Linked, Shape, Nums, AtX, Pair, Inv, at_all}
use Rattle.reused_linear.proofs.Owners.{hit_safe, hit_places, new_safe, new_places, store_owner, start_room, nums_hit, at_x_hit_lem, pair_hit, nums_pass, at_x_pass_lem, pair_pass, nums_new, at_x_new_lem, pair_new, nums_store, at_x_store_lem, pair_store, at_x_other_lem}
use Rattle.reused_linear.proofs.Readers.{extra_low, still_shown, still_idle, Calm, shape_calm, pair_calm, shape_1, pair_1, shape_2, pair_2, shape_3, pair_3}

-- a place in no call
pub idle_place : (place : Place) → idle place ≡ true → place ≡ Idle
idle_place Idle e = refl
idle_place Load1 e = absurd (false≢true e)
idle_place Load2 e = absurd (false≢true e)
idle_place Load3 e = absurd (false≢true e)
idle_place (Store1 bit) e = absurd (false≢true e)
idle_place Store2 e = absurd (false≢true e)
idle_place Check1 e = absurd (false≢true e)

-- an owner's numbers with another `at_choice`
abbrev pub owner_with : Own → ℕ → Owner
owner_with o k = record { tag = o.tag.0; start = o.start.0; search = o.search.0; more = k }

pub owner_same : (o : Own) (k : ℕ) → k ≡ at_choice o.place → owner_with o k ≡ owner_of o
owner_same o k e = ap (owner_with o) e

module _ {N D M : ℕ} {x : Triple} {own : ℕ → Own} {safe : ℕ → Safe} {hs : ℕ → List ℕ} (inv : Inv N D M x own safe hs) (z : ℕ) where
  -- One process has moved, and X perhaps.
  assemble : (x' : Triple) (o' : Own) (s' : Safe) (h' : List ℕ) → x'.tag.0 < M → x'.process.0 < N → Shape N M o' → Nums N D M (owner_of o') s' h'
      → AtX D M x' (owner_of o') s' h' z → ((p : ℕ) → p < N → p ≢ z → AtX D M x' (owner_of (own p)) (safe p) (hs p) p)
      → Pair D M (owner_of o') s' h' z o' z
      → ((q : ℕ) → q < N → q ≢ z → Pair D M (owner_of o') s' h' z (own q) q)
      → ((p : ℕ) → p < N → p ≢ z → Pair D M (owner_of (own p)) (safe p) (hs p) p o' z)
      → Inv N D M x' (put z o' own) (put z s' safe) (put z h' hs)
  assemble x' o' s' h' low who shape nums mine others self readers owners =
      record {
        x_tag = low;
        x_process = who;
        shapes = at_all (λ q o b c. q < N → Shape N M o) z o' s' h' own safe hs (λ l. shape) (λ q ne l. inv.shapes q l);
        nums = at_all (λ p o s h. p < N → Nums N D M (owner_of o) s h) z o' s' h' own safe hs (λ l. nums) (λ p ne l. inv.nums p l);
        at_x = at_all (λ p o s h. p < N → AtX D M x' (owner_of o) s h p) z o' s' h' own safe hs (λ l. mine) (λ p ne l. others p l ne);
        pairs =
            at_all (λ p o s h. p < N → (q : ℕ) → q < N → Pair D M (owner_of o) s h p (put z o' own q) q) z o' s' h' own safe hs
            (λ l. at_all (λ q o b c. q < N → Pair D M (owner_of o') s' h' z o q) z o' s' h' own safe hs (λ k. self) (λ q ne k. readers q k ne))
            (λ p ne l. at_all (λ q o b c. q < N → Pair D M (owner_of (own p)) (safe p) (hs p) p o q) z o' s' h' own safe hs (λ k. owners p l ne) (λ q me k. inv.pairs p l q k));
      }

  module _ (here : z < N) where
    -- A step that leaves X and its process's numbers: the reader's half.
    kept_reader : (o' : Own) → owner_of o' ≡ owner_of (own z) → Shape N M o'
        → ((p : ℕ) → p < N → Pair D M (owner_of (own p)) (safe p) (hs p) p o' z)
        → Inv N D M x (put z o' own) (put z (safe z) safe) (put z (hs z) hs)
    kept_reader o' same shape pairs =
        assemble x o' (safe z) (hs z) inv.x_tag inv.x_process shape (subst (λ (v : Owner). Nums N D M v (safe z) (hs z)) (sym same) (inv.nums z here))
        (subst (λ (v : Owner). AtX D M x v (safe z) (hs z) z) (sym same) (inv.at_x z here)) (λ p l ne. inv.at_x p l)
        (subst (λ (v : Owner). Pair D M v (safe z) (hs z) z o' z) (sym same) (pairs z here))
        (λ q l ne. subst (λ (v : Owner). Pair D M v (safe z) (hs z) z (own q) q) (sym same) (inv.pairs z here q l))
        (λ p l ne. pairs p l)

    -- one outside a load
    pub kept_calm : (o' : Own) → owner_of o' ≡ owner_of (own z) → Calm (own z) o' → Inv N D M x (put z o' own) (put z (safe z) safe) (put z (hs z) hs)
    kept_calm o' same calm = kept_reader o' same (shape_calm calm (inv.shapes z here)) (λ p l. pair_calm calm (inv.pairs p l z here))

    -- A step that leaves X and chooses a tag, or uses one up: the owner's half for every reader, and then the reader's.
    kept_owner : (o' : Own) (s' : Safe) (h' : List ℕ) → Calm (own z) o' → Nums N D M (owner_of o') s' h' → AtX D M x (owner_of o') s' h' z
        → ((q : ℕ) → q < N → Pair D M (owner_of o') s' h' z (own q) q) → Inv N D M x (put z o' own) (put z s' safe) (put z h' hs)
    kept_owner o' s' h' calm nums ax pairs =
        assemble x o' s' h' inv.x_tag inv.x_process (shape_calm calm (inv.shapes z here)) nums ax (λ p l ne. inv.at_x p l)
        (pair_calm calm (pairs z here)) (λ q l ne. pairs q l) (λ p l ne. pair_calm calm (inv.pairs p l z here))

    -- nothing has changed
    pub kept_same : Inv N D M x (put z (own z) own) (put z (safe z) safe) (put z (hs z) hs)
    kept_same =
        subst₂ (λ (f : ℕ → Own) (g : ℕ → Safe). Inv N D M x f g (put z (hs z) hs)) (sym (put_id z own)) (sym (put_id z safe))
        (subst (λ (k : ℕ → List ℕ). Inv N D M x own safe k) (sym (put_id z hs)) inv)

    -- Steps 1, 2 and 3 of a load.
    pub kept_1 : (own z).place ≡ Load1 → Inv N D M x (put z (load1 x (own z)).own own) (put z (safe z) safe) (put z (hs z) hs)
    kept_1 e =
        kept_reader (load1 x (own z)).own (owner_same (own z) 0 (ap at_choice (sym e))) (shape_1 x (own z) inv.x_tag inv.x_process (inv.shapes z here))
        (λ p l. pair_1 x (own z) (inv.at_x p l) (inv.pairs p l z here))

    pub kept_2 : (own z).place ≡ Load2 → Inv N D M x (put z (load2 x (own z)).own own) (put z (safe z) safe) (put z (hs z) hs)
    kept_2 e =
        kept_reader (load2 x (own z)).own (owner_same (own z) 0 (ap at_choice (sym e))) (shape_2 x (own z) (subst Loading (sym e) tt) (inv.shapes z here))
        (λ p l. pair_2 x (own z) (subst Pending (sym e) tt) (inv.pairs p l z here))

    pub kept_3 : Sizes N D M → (own z).place ≡ Load3 → Inv N D M x (put z (load3 x (own z)).own own) (put z (safe z) safe) (put z (hs z) hs)
    kept_3 sizes e =
        kept_reader (load3 x (own z)).own (owner_same (own z) 0 (ap at_choice (sym e))) (shape_3 x (own z) (subst Shown (sym e) tt) (inv.shapes z here))
        (λ p l. pair_3 sizes x (own z) (inv.nums p l) (extra_low (own p).place) inv.x_tag (inv.at_x p l) (inv.pairs p l z here))

    -- The first step of a store that is done: X holds its tag now.
    pub kept_done : Sizes N D M → (p : Process) (bit b : Bool) → p.0 ≡ z → (own z).place ≡ Store1 b
        → Inv N D M (record { tag = (own z).tag; process = p; bit = bit }) (put z (at (own z) Store2) own) (put z (safe z) safe) (put z (hs z) hs)
    kept_done sizes p bit b who e =
        assemble (record { tag = (own z).tag; process = p; bit = bit }) (at (own z) Store2) (safe z) (hs z) (inv.nums z here).tag (omega (arith, who, here)) (shape_calm calm (inv.shapes z here))
        (nums_store sizes (inv.nums z here)) (at_x_store_lem sizes (inv.nums z here) refl) (λ q l ne. at_x_other_lem (λ f. ne (sym f ∙ who)))
        (pair_calm calm (stored z here)) (λ q l ne. stored q l) (λ q l ne. pair_calm calm (inv.pairs q l z here))
      where
        calm : Calm (own z) (at (own z) Store2)
        calm = record { named = refl; old = refl; check = refl; before = subst OutsideLoad (sym e) tt; behind = tt }

        stored : (q : ℕ) → q < N → Pair D M (store_owner (owner_of (own z))) (safe z) (hs z) z (own q) q
        stored q l = pair_store sizes (ap at_choice e) (inv.pairs z here q l)

-- The second step of a store: what it has looked at.
module _ (N M : ℕ) (p : Process) (o : Own) where
  pub hits_yes : (looked : Option Announced) → ((a : Announced) → looked ≡ Some a → a.tag.0 < M) → o.start.0 < M → interval_of N ≤ M → hits N M p o looked ≡ true
      → (a : Announced) × (looked ≡ Some a) × (a.process.0 ≡ p.0) × (way M o.start.0 a.tag.0 < interval_of N)
  hits_yes None low start small e = absurd (false≢true e)
  hits_yes (Some a) low start small e =
      let h = and_true (eqb a.process.0 p.0) (arc a.tag.0 o.start.0 (interval_of N) M) e in
      (a, refl, eqb-true a.process.0 p.0 h.0, arc_way a.tag.0 o.start.0 (interval_of N) (low a refl) start small h.1)

  pub hits_no : (a : Announced) → a.tag.0 < M → o.start.0 < M → hits N M p o (Some a) ≡ false → a.process.0 ≡ p.0 → interval_of N ≤ way M o.start.0 a.tag.0
  hits_no a low start e f =
      no_arc a.tag.0 o.start.0 (interval_of N) low start
      (sym (ap (λ (t : Bool). t && arc a.tag.0 o.start.0 (interval_of N) M) (eq-eqb a.process.0 p.0 f)) ∙ e)

module _ {N M : ℕ} (sizes : Sizes N (interval_of N) M) {x : Triple} {own : ℕ → Own} {safe : ℕ → Safe} {hs : ℕ → List ℕ} (inv : Inv N (interval_of N) M x own safe hs)
    (p : Process) (here : p.0 < N) where
  abbrev o : Own
  o = own p.0

  abbrev looked : Option Announced
  looked = (own o.search.0).named

  abbrev n : Nums N (interval_of N) M (owner_of o) (safe p.0) (hs p.0)
  n = inv.nums p.0 here

  calm_chosen : (o' : Own) → o.place ≡ Store2 → o'.named ≡ o.named → o'.old ≡ o.old → o'.check ≡ o.check → Calm o (at o' Idle)
  calm_chosen o' e named old check = record { named = named; old = old; check = check; before = subst OutsideLoad (sym e) tt; behind = tt }

  -- nothing was hit: a reader at the search place that is linked to a tag of p holds none of the interval looked at
  clear : hits N M p o looked ≡ false → (q : ℕ) → q < N → (w : Triple) → Linked (own q) w → w.process.0 ≡ p.0 → q ≡ o.search.0 → interval_of N ≤ way M o.start.0 w.tag.0
  clear none q l w linked who same =
      let shape = inv.shapes q l in
      let named : (own q).named ≡ announced_of (Some w) = shape.shown (still_shown (own q).place linked.still) ∙ ap announced_of linked.old in
      let there : looked ≡ Some (record { process = w.process; tag = w.tag }) = ap (λ (k : ℕ). (own k).named) (sym same) ∙ named in
      hits_no N M p o (record { process = w.process; tag = w.tag }) (shape.old w linked.old).0 n.start (sym (ap (hits N M p o) there) ∙ none) who

  -- The three arms of the choice.
  kept_hit : o.place ≡ Store2 → hits N M p o looked ≡ true
      → Inv N (interval_of N) M x (put p.0 (at (hit N M o) Idle) own) (put p.0 (hit_safe (safe p.0)) safe) (put p.0 (hit_places (interval_of N) M (owner_of o) (safe p.0) (hs p.0)) hs)
  kept_hit e found =
      let (a, there, who, within) = hits_yes N M p o looked (λ a f. ((inv.shapes o.search.0 n.search).named a f).0) n.start (omega (arith, start_room sizes n)) found in
      let low = ((inv.shapes o.search.0 n.search).named a there).0 in
      let known = (inv.pairs p.0 here o.search.0 n.search).named a there who in
      kept_owner inv p.0 here (at (hit N M o) Idle) (hit_safe (safe p.0)) (hit_places (interval_of N) M (owner_of o) (safe p.0) (hs p.0))
      (calm_chosen (hit N M o) e refl refl refl) (nums_hit sizes n a.tag.0 low within known)
      (at_x_hit_lem sizes n a.tag.0 low within known (ap at_choice e) (inv.at_x p.0 here))
      (λ q l. pair_hit sizes n a.tag.0 low within known (ap at_choice e) (inv.pairs p.0 here q l))

  kept_pass : o.place ≡ Store2 → hits N M p o looked ≡ false → o.search.0 + 1 < N
      → Inv N (interval_of N) M x (put p.0 (at (passed M o) Idle) own) (put p.0 (safe p.0) safe) (put p.0 (hs p.0) hs)
  kept_pass e none more =
      kept_owner inv p.0 here (at (passed M o) Idle) (safe p.0) (hs p.0) (calm_chosen (passed M o) e refl refl refl) (nums_pass sizes n more)
      (at_x_pass_lem sizes n more (ap at_choice e) (inv.at_x p.0 here))
      (λ q l. pair_pass sizes n more (ap at_choice e) (clear none q l) (inv.pairs p.0 here q l))

  kept_new : o.place ≡ Store2 → hits N M p o looked ≡ false → N ≤ o.search.0 + 1
      → Inv N (interval_of N) M x (put p.0 (at (renewed N M o) Idle) own) (put p.0 (new_safe (owner_of o)) safe) (put p.0 (new_places M (owner_of o) (held p.0 x own N)) hs)
  kept_new e none last =
      kept_owner inv p.0 here (at (renewed N M o) Idle) (new_safe (owner_of o)) (new_places M (owner_of o) (held p.0 x own N)) (calm_chosen (renewed N M o) e refl refl refl)
      (nums_new sizes n (held p.0 x own N) (held_few p.0 x own N here (λ h. still_idle o.place (subst OutsideLoad (sym e) tt) h)))
      (at_x_new_lem sizes n (held p.0 x own N) (ap at_choice e) inv.x_tag (λ f. x_held p.0 x own N f) (inv.at_x p.0 here))
      (λ q l.
      pair_new sizes n (held p.0 x own N) (λ a f g. name_held p.0 x own N q a l f g) (λ w h f g. read_held p.0 x own N q w l h f g) (clear none q l)
      (omega (arith, l, last)) (inv.pairs p.0 here q l))

  -- what an entry of p leaves, with some places
  abbrev pub Left : Stepped → Safe → Type 0
  Left r s = (k : ℕ → List ℕ) × Inv N (interval_of N) M r.x (put p.0 r.own own) (put p.0 s safe) k

  calm_at : (place place' : Place) → o.place ≡ place → OutsideLoad place → OutsideLoad place' → Calm o (at o place')
  calm_at place place' e b h = record { named = refl; old = refl; check = refl; before = subst OutsideLoad (sym e) b; behind = h }

  -- a step or a request outside a load that does not change X
  calm_left : (place place' : Place) → o.place ≡ place → OutsideLoad place → OutsideLoad place' → at_choice place' ≡ at_choice place → Inv N (interval_of N) M x (put p.0 (at o place') own) (put p.0 (safe p.0) safe) (put p.0 (hs p.0) hs)
  calm_left place place' e b h f = kept_calm inv p.0 here (at o place') (owner_same o (at_choice place') (f ∙ ap at_choice (sym e))) (calm_at place place' e b h)

  kept_chosen : o.place ≡ Store2 → Left (step_at N M p x o looked Store2) (safe_chosen N M p o looked (safe p.0))
  unfolding chosen
  kept_chosen e = go (hits N M p o looked) refl (ltb (o.search.0 + 1) N) refl
    where
      go : (t : Bool) → hits N M p o looked ≡ t → (u : Bool) → ltb (o.search.0 + 1) N ≡ u
          → (k : ℕ → List ℕ) × Inv N (interval_of N) M x (put p.0 (at (cond t (hit N M o) (cond u (passed M o) (renewed N M o))) Idle) own)
          (put p.0 (cond t (hit_safe (safe p.0)) (cond u (safe p.0) (new_safe (owner_of o)))) safe) k
      go true f u g = (_, kept_hit e f)
      go false f true g = (_, kept_pass e f (ltb-true (o.search.0 + 1) N g))
      go false f false g = (_, kept_new e f (ltb-false (o.search.0 + 1) N g))

  pub kept_step : Left (step_of N M p x o looked) (safe_step N M p o looked (safe p.0) o.place)
  kept_step = go o.place refl
    where
      go : (place : Place) → o.place ≡ place → Left (step_at N M p x o looked place) (safe_step N M p o looked (safe p.0) place)
      go Idle e = (_, kept_same inv p.0 here)
      go Load1 e = (_, kept_1 inv p.0 here e)
      go Load2 e = (_, kept_2 inv p.0 here e)
      go Load3 e = (_, kept_3 inv p.0 here sizes e)
      go (Store1 bit) e = test (all_equal x o)
        where
          test : (t : Bool) → Left (cond t (record { x = record { tag = o.tag; process = p; bit = bit }; own = at o Store2; outcome = GoesOn }) (record { x = x; own = at o Idle; outcome = NotDone })) (safe p.0)
          test true = (_, kept_done inv p.0 here sizes p bit bit refl e)
          test false = (_, calm_left (Store1 bit) Idle e tt tt refl)
      go Store2 e = kept_chosen e
      go Check1 e = (_, calm_left Check1 Idle e tt tt refl)

  first_still : (request : Request) → OutsideLoad (first_place request)
  first_still Load = tt
  first_still (Store bit) = tt
  first_still Check = tt

  first_extra : (request : Request) → at_choice (first_place request) ≡ 0
  first_extra Load = refl
  first_extra (Store bit) = refl
  first_extra Check = refl

  pub kept_request : (request : Request) → Left (parts_after N M p x o looked (Ask request)) (safe p.0)
  kept_request request = go (idle o.place) refl
    where
      begun : Request → Requested
      begun request = record { own = at o (first_place request); outcome = Taken }

      as_was_lem : Requested
      as_was_lem = record { own = o; outcome = CallOpen }

      go : (t : Bool) → idle o.place ≡ t
          → (k : ℕ → List ℕ) × Inv N (interval_of N) M x (put p.0 (cond t (begun request) as_was_lem).own own) (put p.0 (safe p.0) safe) k
      go true e = (_, calm_left Idle (first_place request) (idle_place o.place e) tt (first_still request) (first_extra request))
      go false e = (_, kept_same inv p.0 here)
