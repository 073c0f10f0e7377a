-- The joining: each entry carries the relation on. What an entry decides goes into the order by one of the three ways of
-- word/proofs/Good.antt. Assumes nothing.
use Prim.Native.Nat.{ℕ, suc, ◌≤◌, ◌<◌}
use mathlib.Core.Path.{◌≡◌, refl, sym, ap, ◌∙◌, subst, subst₂}
use mathlib.Core.Bool.{Bool, true, false, cond, false≢true}
use mathlib.Core.Option.{none}
use mathlib.Core.Logic.{◌≢◌}
use mathlib.Core.List.{List, [], ◌∷◌, ◌++◌}
use native.Mathlib.Omega.{arith}
use Rattle.word.specs.Word.{Link, at, Op, load, store, Answer, value, done, not_done, put, linked, answer_of, first, Call, words_after}
use Rattle.word.specs.Calls.{asks, away, Calls, call_by, go_on}
use Rattle.word.proofs.Put.{split, put_same, put_other}
use Rattle.word.proofs.Changes.{wrote, total_quiet, total_snoc, value_snoc, value_new, writes_own, writes_nothing}
use Rattle.word.proofs.Relink.{NoLoad}
use Rattle.word.proofs.Insert.{load_call, ins, total_ins, value_ins}
use Rattle.word.proofs.Good.{Good, Own, Late, MayLoad, good_tick, good_append, good_load, good_count, own_new, late_new, late_later}
use Rattle.word.proofs.Stages.{gone, closed}
use Rattle.word.proofs.Aside.{Undecided, end_link, Aside, aside_same, aside_snoc, aside_load, link_snoc, link_load, undecided_on, loading_on}
use Rattle.reused.specs.Steps.{is_kept, all_equal, none_stored, stored_of, load1, load2, load3}
use Rattle.reused.specs.Steps as steps
use Rattle.reused_linear.specs.Types.{Process, Triple, Option, Some, Stored, Place, Idle, Load1, Load2, Load3, Store1, Store2}
use Rattle.reused_linear.specs.Types as types
use Rattle.reused_linear.specs.Claims.{OutsideLoad}
use Rattle.reused_linear.proofs.Inv.{Loading, Linked}
use Rattle.std.proofs.lemmas.Option.{same_Some}
use Rattle.reused_linear.proofs.Readers.{Calm}
use Rattle.reused_linear.proofs.Side.{top, value_at, Sees, OpenAt, process_of, Side, Sim, sees_on, sees_change, sees_calm, call_on, same_self, kept_is, test_link}

at_one : {k n : ℕ} → at k ≡ at n → k ≡ n
at_one e = cc e

module _ {n : ℕ} {x : Triple} {own : ℕ → types.Own} {c : Calls Stored} (s : Sim n x own c) where
  -- an entry that was turned away
  pub sim_away : (d : ℕ) → Sim n x own (go_on d c away)
  sim_away d =
      record {
        order = s.order;
        seen = s.seen;
        good = good_tick s.good;
        current = s.current;
        one = s.one;
        sides = λ q l.
            let side = s.sides q l in
            record {
              sees = side.sees;
              link = side.link;
              call = call_on (process_of q) (aside_same none_stored 0 c.now s.order q) (c.asked q) (c.op q) (s.seen q) (own q).place side.call;
            };
      }

  module _ (p : Process) (l : p.0 < n) where
    -- An entry of p: what is new of p, and how the others go on.
    sim_on : (x' : Triple) (o' : types.Own) (c' : Calls Stored) (order' : List (Call Stored)) (seen' : Link) → c'.now ≡ suc c.now
        → ((q : ℕ) → q ≢ p.0 → c'.asked q ≡ c.asked q) → ((q : ℕ) → q ≢ p.0 → c'.op q ≡ c.op q) → ((q : ℕ) → c'.word q ≡ 0)
        → Good none_stored (suc c.now) order' c'.played → value_at (top order') order' ≡ stored_of (Some x')
        → ((q : ℕ) → q < n → Sees s.order x (own q) (s.seen q) → Sees order' x' (own q) (s.seen q))
        → ((q : ℕ) → q ≢ p.0 → Aside none_stored 0 c.now s.order order' q)
        → Side (suc c.now) order' x' p.0 (c'.asked p.0) (c'.op p.0) o' seen'
        → Sim n x' (put p.0 o' own) c'
    sim_on x' o' c' order' seen' now same_asked same_op one good current sees asides mine =
        record {
          order = order';
          seen = put p.0 seen' s.seen;
          good = subst (λ (k : ℕ). Good none_stored k order' c'.played) (sym now) good;
          current = current;
          one = one;
          sides =
              split (λ q. q < n → Side c'.now order' x' q (c'.asked q) (c'.op q) (put p.0 o' own q) (put p.0 seen' s.seen q)) p.0
              (λ i. later p.0 o' (put p.0 o' own p.0) seen' (put p.0 seen' s.seen p.0) (sym (put_same p.0 o' own)) (sym (put_same p.0 seen' s.seen)) mine)
              (λ q ne i.
              let side = s.sides q i in
              later q (own q) (put p.0 o' own q) (s.seen q) (put p.0 seen' s.seen q) (sym (put_other p.0 o' own q ne)) (sym (put_other p.0 seen' s.seen q ne))
              (subst₂ (λ (t : ℕ) (o : Op Stored). Side (suc c.now) order' x' q t o (own q) (s.seen q)) (sym (same_asked q ne)) (sym (same_op q ne))
              (record {
                sees = sees q i side.sees;
                link = λ h. (asides q ne).link ∙ side.link h;
                call = call_on (process_of q) (asides q ne) (c.asked q) (c.op q) (s.seen q) (own q).place side.call;
              })));
        }
      where
        later : (q : ℕ) (o o'' : types.Own) (k k'' : Link) → o ≡ o'' → k ≡ k'' → Side (suc c.now) order' x' q (c'.asked q) (c'.op q) o k → Side c'.now order' x' q (c'.asked q) (c'.op q) o'' k''
        later q o o'' k k'' e f side =
            subst (λ (i : ℕ). Side i order' x' q (c'.asked q) (c'.op q) o'' k'') (sym now)
            (subst₂ (λ (o : types.Own) (k : Link). Side (suc c.now) order' x' q (c'.asked q) (c'.op q) o k) e f side)

    -- p's side at a known place
    side : Side c.now s.order x p.0 (c.asked p.0) (c.op p.0) (own p.0) (s.seen p.0)
    side = s.sides p.0 l

    pub call_at : {place : Place} → (own p.0).place ≡ place → OpenAt p (c.asked p.0) c.now s.order (c.op p.0) (s.seen p.0) place
    call_at e = subst (OpenAt p (c.asked p.0) c.now s.order (c.op p.0) (s.seen p.0)) e side.call

    alone : Aside none_stored 0 c.now s.order s.order p.0
    alone = aside_same none_stored 0 c.now s.order p.0

    -- A request: all calls so far were decided before it.
    pub sim_request : (d : ℕ) (o : Op Stored) (o' : types.Own) → Calm (own p.0) o'
        → (Undecided p.0 (put p.0 c.now c.asked p.0) (suc c.now) s.order (put p.0 o c.op p.0) o
        → OpenAt p (put p.0 c.now c.asked p.0) (suc c.now) s.order (put p.0 o c.op p.0) (s.seen p.0) o'.place)
        → Sim n x (put p.0 o' own) (go_on d c (asks p.0 0 o))
    sim_request d o o' calm call =
        sim_on x o' (go_on d c (asks p.0 0 o)) s.order (s.seen p.0) refl (put_other p.0 c.now c.asked) (put_other p.0 o c.op)
        (split (λ q. put p.0 0 c.word q ≡ 0) p.0 (put_same p.0 0 c.word) (λ q ne. put_other p.0 0 c.word q ne ∙ s.one q))
        (good_tick s.good) s.current (λ q i h. h) (λ q ne. aside_same none_stored 0 c.now s.order q)
        (record {
          sees = sees_calm calm side.sees;
          link = λ h. side.link calm.before;
          call =
              call (record {
                kind = put_same p.0 o c.op;
                before = omega (arith, put_same p.0 c.now c.asked);
                own = subst (λ (t : ℕ). Own p.0 t s.order) (sym (put_same p.0 c.now c.asked)) (own_new p.0 s.good);
              });
        })

    -- Steps that decide nothing: 1 and 2 of a load, and the second of a store.
    pub sim_1 : (own p.0).place ≡ Load1 → Sim n x (put p.0 (load1 x (own p.0)).own own) (gone c p.0 false)
    sim_1 e =
        sim_on x (load1 x (own p.0)).own (gone c p.0 false) s.order (at (top s.order)) refl (λ q ne. refl) (λ q ne. refl) s.one (good_tick s.good) s.current (λ q i h. h)
        (λ q ne. aside_same none_stored 0 c.now s.order q)
        (record {
          sees =
              record {
                low = λ k f. omega (arith, at_one f);
                values = λ k w f g. subst₂ (λ (i : ℕ) (y : Triple). value_at i s.order ≡ stored_of (Some y)) (at_one f) (same_Some _ _ g) s.current;
                loads = λ h. (top s.order, refl);
                inside = λ h f. refl;
                outside = λ h. absurd h;
                newest = λ h. refl;
              };
          link = λ h. absurd h;
          call = (undecided_on alone (call_at e), λ i f. subst (λ (k : ℕ). Late 0 k (c.asked p.0) s.order) (at_one f) (late_new 0 (c.asked p.0) s.order));
        })

    pub sim_2 : (own p.0).place ≡ Load2 → Sim n x (put p.0 (load2 x (own p.0)).own own) (gone c p.0 false)
    sim_2 e =
        let sees = side.sees in
        let here : Loading (own p.0).place = subst Loading (sym e) tt in
        sim_on x (load2 x (own p.0)).own (gone c p.0 false) s.order (s.seen p.0) refl (λ q ne. refl) (λ q ne. refl) s.one (good_tick s.good) s.current (λ q i h. h)
        (λ q ne. aside_same none_stored 0 c.now s.order q)
        (record {
          sees =
              record {
                low = sees.low;
                values = sees.values;
                loads = λ h. sees.loads here;
                inside = λ h f. sees.inside here f;
                outside = λ h. absurd h;
                newest = λ h. absurd h.still;
              };
          link = λ h. absurd h;
          call = loading_on alone (call_at e);
        })

    -- The second step of a store: it was decided by its first.
    pub sim_answered : (o' : types.Own) → o'.place ≡ Idle → Calm (own p.0) o' → Sim n x (put p.0 o' own) (closed c p.0 done true)
    sim_answered o' idle calm =
        sim_on x o' (closed c p.0 done true) s.order (s.seen p.0) refl (λ q ne. refl) (λ q ne. refl) s.one (good_tick s.good) s.current (λ q i h. h)
        (λ q ne. aside_same none_stored 0 c.now s.order q)
        (record {
          sees = sees_calm calm side.sees;
          link = λ h. side.link calm.before;
          call = subst (OpenAt p (c.asked p.0) (suc c.now) s.order (c.op p.0) (s.seen p.0)) (sym idle) tt;
        })

    -- a call of p that is decided now, on the one word, if it asks o
    called_now : (o : Op Stored) (a : Answer Stored) → c.op p.0 ≡ o
        → call_by c p.0 a ≡ record { asked = c.asked p.0; decided = c.now; process = p.0; word = 0; op = o; answer = a }
    called_now o a e = λ i. record { asked = c.asked p.0; decided = c.now; process = p.0; word = s.one p.0 i; op = e i; answer = a }

    -- the word at the end of play answers p's store or check by the machine's test
    pub word_test : OutsideLoad (own p.0).place → linked (end_link none_stored 0 s.order p.0) (words_after (first none_stored) s.order 0).count ≡ all_equal x (own p.0)
    word_test still =
        ap (linked (end_link none_stored 0 s.order p.0)) (good_count 0 s.good)
        ∙ ap (λ (k : Link). linked k (top s.order)) (side.link still)
        ∙ test_link still side.sees

    -- A store that is not done, or a check: decided now, at the end; it changes nothing.
    pub sim_append : (o : Op Stored) (a : Answer Stored) (o' : types.Own) → o'.place ≡ Idle → Calm (own p.0) o' → NoLoad o → wrote o a ≡ none
        → Undecided p.0 (c.asked p.0) c.now s.order (c.op p.0) o → answer_of (words_after (first none_stored) s.order 0) p.0 o ≡ a
        → Sim n x (put p.0 o' own) (closed c p.0 a false)
    sim_append o a o' idle calm noload quiet und right =
        sim_on x o' (closed c p.0 a false) (s.order ++ new ∷ []) (s.seen p.0) refl (λ q ne. refl) (λ q ne. refl) s.one
        (subst (λ (k : Call Stored). Good none_stored (suc c.now) (s.order ++ new ∷ []) (c.played ++ k ∷ [])) (sym (called_now o a und.kind))
        (good_append new s.good und.before refl right))
        (ap (λ (k : ℕ). value_at k (s.order ++ new ∷ [])) same ∙ values (top s.order) (omega arith) ∙ s.current)
        (λ q i h. sees_on same values h)
        (λ q ne. aside_snoc none_stored 0 c.now s.order new q refl (λ e. ne (sym e)) noload)
        (record {
          sees = sees_calm calm (sees_on same values side.sees);
          link = λ h. link_snoc none_stored 0 s.order new p.0 noload ∙ side.link calm.before;
          call = subst (OpenAt p (c.asked p.0) (suc c.now) (s.order ++ new ∷ []) (c.op p.0) (s.seen p.0)) (sym idle) tt;
        })
      where
        new : Call Stored
        new = record { asked = c.asked p.0; decided = c.now; process = p.0; word = 0; op = o; answer = a }

        same : top (s.order ++ new ∷ []) ≡ top s.order
        same = total_quiet 0 s.order new (writes_nothing 0 new quiet)

        values : (k : ℕ) → k ≤ top s.order → value_at k (s.order ++ new ∷ []) ≡ value_at k s.order
        values k h = value_snoc 0 k none_stored s.order new h

    -- A store whose first step changes X: decided now, at the end; one more change, and everybody is behind it.
    pub sim_done : (bit : Bool) → (own p.0).place ≡ Store1 bit → all_equal x (own p.0) ≡ true
        → ((q : ℕ) → q < n → Linked (own q) (record { tag = (own p.0).tag; process = p; bit = bit }) → ⊥)
        → Sim n (record { tag = (own p.0).tag; process = p; bit = bit }) (put p.0 (steps.at (own p.0) Store2) own) (gone c p.0 true)
    sim_done bit e equal fresh =
        sim_on x' (steps.at (own p.0) Store2) (gone c p.0 true) (s.order ++ new ∷ []) (s.seen p.0) refl (λ q ne. refl) (λ q ne. refl) s.one
        (subst (λ (k : Call Stored). Good none_stored (suc c.now) (s.order ++ new ∷ []) (c.played ++ k ∷ [])) (sym (called_now (store v) done (call_at e).kind))
        (good_append new s.good (call_at e).before refl (ap (λ (b : Bool). cond b done not_done) (word_test still ∙ equal))))
        (ap (λ (k : ℕ). value_at k (s.order ++ new ∷ [])) more ∙ value_new 0 none_stored s.order new (writes_own new))
        (λ q i h. sees_change x' more values (fresh q i) h)
        (λ q ne. aside_snoc none_stored 0 c.now s.order new q refl (λ e. ne (sym e)) tt)
        (record {
          sees = sees_calm (record { named = refl; old = refl; check = refl; before = still; behind = tt }) (sees_change x' more values (fresh p.0 l) side.sees);
          link = λ h. link_snoc none_stored 0 s.order new p.0 tt ∙ side.link still;
          call = tt;
        })
      where
        x' : Triple
        x' = record { tag = (own p.0).tag; process = p; bit = bit }

        v : Stored
        v = record { process = p; bit = bit }

        still : OutsideLoad (own p.0).place
        still = subst OutsideLoad (sym e) tt

        new : Call Stored
        new = record { asked = c.asked p.0; decided = c.now; process = p.0; word = 0; op = store v; answer = done }

        more : top (s.order ++ new ∷ []) ≡ suc (top s.order)
        more = total_snoc 0 s.order new (writes_own new)

        values : (k : ℕ) → k ≤ top s.order → value_at k (s.order ++ new ∷ []) ≡ value_at k s.order
        values k h = value_snoc 0 k none_stored s.order new h

    -- A load answered now with the value of change k, not older than the one that its step 1 has seen; its link is k.
    sim_load : (k : ℕ) (w : Triple) → (own p.0).place ≡ Load3 → (own p.0).old ≡ Some w → k ≤ top s.order → value_at k s.order ≡ stored_of (Some w)
        → ((i : ℕ) → s.seen p.0 ≡ at i → i ≤ k) → Sees s.order x (load3 x (own p.0)).own (at k)
        → Sim n x (put p.0 (load3 x (own p.0)).own own) (closed c p.0 (value (stored_of (own p.0).old)) false)
    sim_load k w e old low val newer sees =
        sim_on x (load3 x (own p.0)).own (closed c p.0 (value (stored_of (own p.0).old)) false) (ins 0 k new s.order) (at k) refl (λ q ne. refl) (λ q ne. refl) s.one
        (subst (λ (i : Call Stored). Good none_stored (suc c.now) (ins 0 k new s.order) (c.played ++ i ∷ [])) (sym same_call)
        (good_load (c.asked p.0) p.0 0 k s.good may))
        (ap (λ (i : ℕ). value_at i (ins 0 k new s.order)) same ∙ value_ins 0 k 0 new s.order refl (top s.order) none_stored ∙ s.current)
        (λ q i h. sees_on same values h)
        (λ q ne. aside_load none_stored 0 c.now s.order c.played (c.asked p.0) p.0 k s.good may q (λ f. ne (sym f)))
        (record {
          sees = sees_on same values sees;
          link = λ h. link_load none_stored 0 c.now s.order c.played (c.asked p.0) p.0 k s.good may;
          call = tt;
        })
      where
        new : Call Stored
        new = load_call (c.asked p.0) c.now p.0 0 (value_at k s.order)

        loaded : (i : ℕ) × (s.seen p.0 ≡ at i)
        loaded = side.sees.loads (subst Loading (sym e) tt)

        may : MayLoad c.now (c.asked p.0) p.0 0 k s.order
        may =
            record {
              asked = (call_at e).0.before;
              own = (call_at e).0.own;
              late = late_later 0 loaded.0 k (c.asked p.0) s.order (newer loaded.0 loaded.1) ((call_at e).1 loaded.0 loaded.1);
              fits = low;
            }

        same : top (ins 0 k new s.order) ≡ top s.order
        same = total_ins 0 k 0 new s.order refl

        values : (i : ℕ) → i ≤ top s.order → value_at i (ins 0 k new s.order) ≡ value_at i s.order
        values i h = value_ins 0 k 0 new s.order refl i none_stored

        same_call : call_by c p.0 (value (stored_of (own p.0).old)) ≡ new
        same_call =
            called_now load (value (stored_of (own p.0).old)) (call_at e).0.kind
            ∙ ap (λ (u : Stored). load_call (c.asked p.0) c.now p.0 0 u) (ap stored_of old ∙ sym val)

    -- Step 3 of a load: if old is X, the load takes effect now; else where its step 1 was.
    pub sim_3 : (own p.0).place ≡ Load3 → (w : Triple) × ((own p.0).old ≡ Some w) → Sim n x (put p.0 (load3 x (own p.0)).own own) (closed c p.0 (value (stored_of (own p.0).old)) false)
    sim_3 e has = go (is_kept (own p.0).old x) refl
      where
        here : Loading (own p.0).place
        here = subst Loading (sym e) tt

        sees : Sees s.order x (own p.0) (s.seen p.0)
        sees = side.sees

        go : (t : Bool) → is_kept (own p.0).old x ≡ t → Sim n x (put p.0 (load3 x (own p.0)).own own) (closed c p.0 (value (stored_of (own p.0).old)) false)
        go true same =
            let old : (own p.0).old ≡ Some x = kept_is (own p.0).old x same in
            sim_load (top s.order) x e old (omega arith) s.current (λ i f. sees.low i f)
            (record {
              low = λ k f. omega (arith, at_one f);
              values = λ k w f g. subst₂ (λ (i : ℕ) (y : Triple). value_at i s.order ≡ stored_of (Some y)) (at_one f) (same_Some _ _ (sym old ∙ g)) s.current;
              loads = λ h. absurd h;
              inside = λ h. absurd h;
              outside = λ h f. (old, refl);
              newest = λ h. refl;
            })
        go false other = known (sees.loads here) has
          where
            not_x : (own p.0).old ≡ Some x → ⊥
            not_x f = false≢true (sym other ∙ ap (λ (k : Option Triple). is_kept k x) f ∙ same_self x)

            known : (k : ℕ) × (s.seen p.0 ≡ at k) → (w : Triple) × ((own p.0).old ≡ Some w) → Sim n x (put p.0 (load3 x (own p.0)).own own) (closed c p.0 (value (stored_of (own p.0).old)) false)
            known (k, f) (w, g) =
                sim_load k w e g (sees.low k f) (sees.values k w f g) (λ i h. omega (arith, at_one (sym h ∙ f)))
                (record {
                  low = λ i h. omega (arith, at_one h, sees.low k f);
                  values = λ i y h j. sees.values i y (f ∙ h) j;
                  loads = λ h. absurd h;
                  inside = λ h. absurd h;
                  outside = λ h j. absurd (not_x (sees.inside here (f ∙ j)));
                  newest = λ h. absurd (not_x h.old);
                })
