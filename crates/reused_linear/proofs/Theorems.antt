-- The invariants hold of every state that a run from the start reaches; and document 001's three claims follow.
-- Assumes nothing.
use Prim.Native.Nat.{ℕ, ◌+◌, ◌≤◌, ◌<◌}
use mathlib.Core.Path.{◌≡◌, refl, sym, ◌∙◌, fun_ext, subst}
use mathlib.Core.Bool.{Bool, true, false, cond}
use mathlib.Core.Logic.{◌⊎◌, inl, inr}
use mathlib.Core.List.{List, [], ◌∷◌}
use native.Mathlib.Omega.{arith}
use lib.Dec.{ltb}
use lib.ListN.{length}
use borrow.Author.Tests.{ltb-true}
use Rattle.word.specs.Word.{put}
use Rattle.word.proofs.Put.{split, put_same, put_other, put_id}
use Rattle.reused.specs.Circle.{interval_of, ahead, sizes_number}
use Rattle.reused.specs.Steps.{hits}
use Rattle.reused.specs.State.{row_at, first_state}
use Rattle.reused.specs.Called.{parts_after, looked_at, with_entry, entered, refused}
use Rattle.reused.specs.Run.{played, after}
use Rattle.reused.specs.Frame.{Ready}
use Rattle.reused.proofs.Soundness as soundness
use Rattle.reused.proofs.Soundness.{sizes_of_lem, sizes_fine, sure}
use Rattle.reused.proofs.Writers.{row_same, row_other}
use Rattle.reused.proofs.RunLaws.{ready_start, ready_played, played_ready}
use Rattle.reused_linear.specs.Types.{Process, Triple, Some, NoProcess, Own, Kind, Ask, Step, Stepped, State, Entry, Answer}
use Rattle.reused_linear.specs.Arcs.{way, InArc}
use Rattle.reused_linear.specs.Safe.{Safe, end_safe, first_safe, safe_by, safe_on, safe_after}
use Rattle.reused_linear.specs.Claims.{at_choice, OutsideLoad, Claims}
use Rattle.reused_linear.proofs.Circle.{way_self, way_ahead, ahead_below, in_arc}
use Rattle.reused_linear.proofs.Inv.{Sizes, owner_of, Linked, Nums, Inv}
use Rattle.reused_linear.proofs.Owners.{tag_safe, start_behind, start_room, some_tags, hit_tag, pass_tag}
use Rattle.reused_linear.proofs.Readers.{extra_low}
use Rattle.reused_linear.proofs.Kept.{Left, kept_step, kept_request, hits_yes}
use Rattle.reused_linear.proofs.Start.{inv_start}

-- the invariants of a state, with some places for each owner
abbrev pub InvOf : State → (ℕ → Safe) → Type 0
InvOf st safe = (hs : ℕ → List ℕ) × Inv st.n (interval_of st.n) st.m st.x (row_at st) safe hs

pub record Steady (st : State) (safe : ℕ → Safe) : Type 0 where
  pub ready : Ready st
  pub inv : InvOf st safe

pub sizes_in : (n m : ℕ) → soundness.Sizes n m → Sizes n (interval_of n) m
sizes_in n m s = record { one = s.some; interval = refl; all = s.low }

pub sizes_ready : {st : State} → Ready st → Sizes st.n (interval_of st.n) st.m
sizes_ready {st} r = sizes_in st.n st.m (soundness.sizes (sure r))

pub few_ready : {st : State} → Ready st → st.n ≤ 16
few_ready {st} r = (soundness.sizes (sure r)).few

-- the rows after an entry of p are those before it, with one changed
pub rows_put : (st : State) (p : Process) (r : Stepped) → p.0 < length st.rows → row_at (with_entry st p r) ≡ put p.0 r.own (row_at st)
rows_put st p r l =
    fun_ext (split (λ q. row_at (with_entry st p r) q ≡ put p.0 r.own (row_at st) q) p.0
    (row_same st p r l ∙ sym (put_same p.0 r.own (row_at st)))
    (λ q ne. row_other st p r q ne ∙ sym (put_other p.0 r.own (row_at st) q ne)))

-- An entry of a process that is there.
pub inv_entered : {st : State} {safe : ℕ → Safe} → Steady st safe → (p : Process) → p.0 < st.n → (kind : Kind) → InvOf (entered st p kind).state (safe_by st p kind safe)
unfolding entered
inv_entered {st} {safe} steady p l kind = go kind
  where
    put_back : (k : Kind) (s : Safe) → Left (sizes_ready steady.ready) steady.inv.1 p l (parts_after st.n st.m p st.x (row_at st p.0) (looked_at st (row_at st p.0)) k) s
        → InvOf (with_entry st p (parts_after st.n st.m p st.x (row_at st p.0) (looked_at st (row_at st p.0)) k)) (put p.0 s safe)
    put_back k s left =
        let r = parts_after st.n st.m p st.x (row_at st p.0) (looked_at st (row_at st p.0)) k in (
          left.0,
          subst (λ (f : ℕ → Own). Inv st.n (interval_of st.n) st.m r.x f (put p.0 s safe) left.0)
              (sym (rows_put st p r (omega (arith, l, few_ready steady.ready, steady.ready.full)))) left.1,
        )

    go : (k : Kind) → InvOf (with_entry st p (parts_after st.n st.m p st.x (row_at st p.0) (looked_at st (row_at st p.0)) k)) (safe_by st p k safe)
    go (Ask request) =
        subst (InvOf (with_entry st p (parts_after st.n st.m p st.x (row_at st p.0) (looked_at st (row_at st p.0)) (Ask request)))) (put_id p.0 safe)
        (put_back (Ask request) (safe p.0) (kept_request (sizes_ready steady.ready) steady.inv.1 p l request))
    go Step = put_back Step _ (kept_step (sizes_ready steady.ready) steady.inv.1 p l)

pub steady_entry : {st : State} {safe : ℕ → Safe} → Steady st safe → (e : Entry) → Steady (played st e).state (safe_on st e safe)
steady_entry {st} {safe} steady e =
    record {
      ready = ready_played st e steady.ready;
      inv =
          subst (λ (a : Answer). InvOf a.state (safe_on st e safe)) (sym (played_ready st e steady.ready))
          (go (ltb e.process.0 st.n) refl);
    }
  where
    go : (t : Bool) → ltb e.process.0 st.n ≡ t
        → InvOf (cond t (entered st e.process e.kind) (refused st NoProcess)).state (cond t (safe_by st e.process e.kind safe) safe)
    go true f = inv_entered steady e.process (ltb-true e.process.0 st.n f) e.kind
    go false f = steady.inv

pub steady_after : {st : State} {safe : ℕ → Safe} → Steady st safe → (es : List Entry) → Steady (after st es) (safe_after st safe es)
unfolding after safe_after
steady_after {st = st} {safe = safe} steady [] = steady
steady_after {st = st} {safe = safe} steady (e ∷ es) =
    steady_after {st = (played st e).state} {safe = safe_on st e safe} (steady_entry steady e) es

pub steady_start : (n m : ℕ) → sizes_number n m ≡ 0 → Steady (first_state n m) first_safe
steady_start n m e =
    let s = sizes_of_lem n m (sizes_fine n m e) in
    record { ready = ready_start n m e; inv = (λ p. [], inv_start (sizes_in n m s) s.few) }

-- The claims of one state.
module _ {st : State} {safe : ℕ → Safe} (steady : Steady st safe) where
  abbrev sizes : Sizes st.n (interval_of st.n) st.m
  sizes = sizes_ready steady.ready

  nums : (p : ℕ) → p < st.n → Nums st.n (interval_of st.n) st.m (owner_of (row_at st p)) (safe p) (steady.inv.0 p)
  nums p l = steady.inv.1.nums p l

  -- the end of the safe interval is D from its start
  end_place : (p : ℕ) → p < st.n → way st.m (safe p).start (end_safe st.n st.m (safe p)) ≡ interval_of st.n
  end_place p l =
      let n = nums p l in
      let self : way st.m (safe p).start (safe p).start ≡ 0 = way_self (safe p).start n.safe in
      let on = way_ahead (safe p).start (safe p).start (interval_of st.n) n.safe n.safe (omega (arith, self, start_room sizes n, start_behind sizes n, some_tags sizes)) in
      omega (arith, self, on)

  claim_1 : (r : ℕ) → r < st.n → (w : Triple) → OutsideLoad (row_at st r).place → (row_at st r).old ≡ Some w → (row_at st r).check ≡ Some w
      → InArc st.m (ahead st.m (row_at st w.process.0).tag.0 (at_choice (row_at st w.process.0).place)) (end_safe st.n st.m (safe w.process.0)) w.tag.0
      → ⊥
  claim_1 r l w outside old check within =
      let inv = steady.inv.1 in
      let range = (inv.shapes r l).old w old in
      let p = w.process.0 in
      let n = nums p range.1 in
      let linked : Linked (row_at st r) w = record { still = outside; old = old; check = check } in
      let c = ahead st.m (row_at st p).tag.0 (at_choice (row_at st p).place) in
      let few = extra_low (row_at st p).place in
      let low = tag_safe sizes n in
      let room = start_room sizes n in
      let behind = start_behind sizes n in
      let from : way st.m (safe p).start c ≡ way st.m (safe p).start (row_at st p).tag.0 + at_choice (row_at st p).place =
      way_ahead (safe p).start (row_at st p).tag.0 (at_choice (row_at st p).place) n.safe n.tag (omega (arith, few, low, room, behind)) in
      let end = end_place p range.1 in
      let found =
      in_arc (safe p).start c (end_safe st.n st.m (safe p)) w.tag.0 n.safe (ahead_below (row_at st p).tag.0 (at_choice (row_at st p).place) n.tag) (ahead_below (safe p).start (interval_of st.n) n.safe) range.0
      (omega (arith, from, end, few, low)) within in
      let not-used = (inv.pairs p range.1 r l).unused w linked refl (omega (arith, found.0, from)) in
      omega (arith, found.1, end, not-used)

  claim_9 : (r : Process) → (l : r.0 < st.n)
      → (way st.m (safe r.0).start (ahead st.m (row_at st r.0).tag.0 1) ≡ way st.m (safe r.0).start (row_at st r.0).tag.0 + 1) × (way st.m (safe r.0).start (row_at st r.0).tag.0 + 1 < interval_of st.n)
      → InArc st.m (safe r.0).start (end_safe st.n st.m (safe r.0)) (ahead st.m (row_at st r.0).tag.0 1)
      × (way st.m (safe r.0).start (ahead st.m (row_at st r.0).tag.0 1) ≡ way st.m (safe r.0).start (row_at st r.0).tag.0 + 1)
  claim_9 r l (one, low) = (omega (arith, one, low, end_place r.0 l), one)

  pub claims : Claims st safe
  claims =
      record {
        w1 = claim_1;
        w9 = λ r l e h. claim_9 r l (one_more r l h);
        w4short = λ r l. omega (arith, (nums r l).jumps);
      }
    where
      one_more : (r : Process) (l : r.0 < st.n)
          → (hits st.n st.m r (row_at st r.0) (looked_at st (row_at st r.0)) ≡ true) ⊎ ((hits st.n st.m r (row_at st r.0) (looked_at st (row_at st r.0)) ≡ false) × ((row_at st r.0).search.0 + 1 < st.n))
          → (way st.m (safe r.0).start (ahead st.m (row_at st r.0).tag.0 1) ≡ way st.m (safe r.0).start (row_at st r.0).tag.0 + 1) × (way st.m (safe r.0).start (row_at st r.0).tag.0 + 1 < interval_of st.n)
      one_more r l (inl found) =
          let inv = steady.inv.1 in
          let n = nums r.0 l in
          let own = row_at st r.0 in
          let shape = inv.shapes own.search.0 n.search in
          let (a, there, who, within) = hits_yes st.n st.m r own (looked_at st own) (λ a f. (shape.named a f).0) n.start (omega (arith, start_room sizes n)) found in
          hit_tag sizes n a.tag.0 (shape.named a there).0 within ((inv.pairs r.0 l own.search.0 n.search).named a there who)
      one_more r l (inr (none, more)) = pass_tag sizes (nums r.0 l) more

-- (W1), (W9) and (W4short), of every run.
pub claims_of_runs : (n m : ℕ) → sizes_number n m ≡ 0 → (es : List Entry) → Claims (after (first_state n m) es) (safe_after (first_state n m) first_safe es)
claims_of_runs n m e es = claims (steady_after (steady_start n m e) es)
