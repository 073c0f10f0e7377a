-- The joining: each entry carries the simulation relation on. What an entry decides goes into the order by one of the three ways of
-- word/proofs/Good.antt; what it does to the machine is in proofs/Kept.antt.
-- Assumes nothing.
use Prim.Native.Nat.{ℕ, suc, ◌≤◌, ◌<◌}
use mathlib.Core.Path.{◌≡◌, refl, sym, ap, ◌∙◌, subst, subst₂}
use mathlib.Core.Bool.{Bool, true, cond}
use mathlib.Core.Option.{none}
use mathlib.Core.Logic.{◌≢◌, inl, inr}
use mathlib.Core.List.{List, [], ◌∷◌, ◌++◌}
use native.Mathlib.Omega.{arith}
use Rattle.step.specs.Steps.{same_tag}
use Rattle.linear.specs.Types.{Row, Record, Place, Idle, Store9}
use Rattle.linear.proofs.View.{View, row_at, record_at, Moved}
use Rattle.word.specs.Word.{Link, Op, load, store, Answer, value, done, not_done, put, linked, answer_of, first, Call, words_after}
use Rattle.word.specs.Word as word
use Rattle.word.proofs.Put.{split, put_same, put_other, put_id}
use Rattle.word.proofs.Changes.{writes, wrote, total, value_after, total_quiet, total_snoc, value_snoc, value_new, writes_own, writes_nothing}
use Rattle.word.proofs.Relink.{NoLoad}
use Rattle.word.proofs.Insert.{load_call, ins, total_ins, value_ins}
use Rattle.word.proofs.Good.{Good, MayLoad, good_tick, good_append, good_load, good_count, own_new, late_later}
use Rattle.word.proofs.Aside.{Undecided, LateFor, end_link, Aside, aside_same, aside_snoc, aside_load, link_snoc, link_load}
use Rattle.linear.proofs.History.{Change, At}
use Rattle.linear.proofs.Invariant.{slot_of, Inv}
use Rattle.linear.proofs.Consequences.{place_low, tag_test}
use Rattle.linear.proofs.Kept.{new_change}
use Rattle.linear.proofs.Side.{LinkOk, Side, SideAt, Sim, Longer, link_on, side_on, linked_same}

-- An entry that changes no state: a refused one.
pub sim_tick : {v : ℕ} {st : View} {now : ℕ} {asked : ℕ → ℕ} {op : ℕ → Op ℕ} {played : List (Call ℕ)} {seen : ℕ → Link} {changes current : ℕ}
    → Sim v st now asked op played seen changes current → Sim v st (suc now) asked op played seen changes current
sim_tick {v} {st} {now} {asked} {op} {played} {seen} s =
    record {
      h = s.h;
      order = s.order;
      good = good_tick s.good;
      count = s.count;
      newest = s.newest;
      inv = s.inv;
      vals = s.vals;
      sides = λ q l. side_on (aside_same v 0 now s.order q) (inl refl) (asked q) (op q) (row_at st q) (record_at st q).next.0 (record_at st q).place (seen q) (s.sides q l);
    }

module _ {v : ℕ} {st : View} {now : ℕ} {asked : ℕ → ℕ} {op : ℕ → Op ℕ} {played : List (Call ℕ)} {seen : ℕ → Link} {changes current : ℕ}
    (s : Sim v st now asked op played seen changes current) (p : ℕ) (l : p < st.n) where
  -- An entry of p: what is new of p, and that the others stand aside.
  sim_on : {st' : View} {r' : Row} {o' : Record} (asked' : ℕ → ℕ) (op' : ℕ → Op ℕ) (played' order' : List (Call ℕ)) (h' : List Change) (sn' : Link) (changes' current' : ℕ)
      → ((q : ℕ) → q ≢ p → asked' q ≡ asked q) → ((q : ℕ) → q ≢ p → op' q ≡ op q)
      → Moved p st st' r' o' → Good v (suc now) order' played' → total 0 order' ≡ changes' → value_after 0 (total 0 order') v order' ≡ current' → Inv st' (total 0 order') h' (put p sn' seen)
      → ((i q k u : ℕ) → At h' i q k u → value_after 0 i v order' ≡ u)
      → Longer (total 0 s.order) (total 0 order') → ((q : ℕ) → q ≢ p → Aside v 0 now s.order order' q)
      → SideAt v (suc now) order' p (asked' p) (op' p) r' o' sn'
      → Sim v st' (suc now) asked' op' played' (put p sn' seen) changes' current'
  sim_on {st'} {r'} {o'} asked' op' played' order' h' sn' changes' current' same_asked same_op m good count newest inv vals longer aside mine =
      record {
        h = h';
        order = order';
        good = good;
        count = count;
        newest = newest;
        inv = inv;
        vals = vals;
        sides =
            split (λ q. q < st'.n → SideAt v (suc now) order' q (asked' q) (op' q) (row_at st' q) (record_at st' q) (put p sn' seen q)) p
            (λ l'. subst (SideAt v (suc now) order' p (asked' p) (op' p) (row_at st' p) (record_at st' p)) (sym (put_same p sn' seen))
            (subst₂ (λ (r : Row) (o : Record). SideAt v (suc now) order' p (asked' p) (op' p) r o sn') (sym m.row) (sym m.own) mine))
            (λ q ne l'. subst (SideAt v (suc now) order' q (asked' q) (op' q) (row_at st' q) (record_at st' q)) (sym (put_other p sn' seen q ne))
            (subst₂ (λ (r : Row) (o : Record). SideAt v (suc now) order' q (asked' q) (op' q) r o (seen q)) (sym (m.frame.rows q ne)) (sym (m.frame.records q ne))
            (subst₂ (λ (t : ℕ) (o : Op ℕ). SideAt v (suc now) order' q t o (row_at st q) (record_at st q) (seen q)) (sym (same_asked q ne)) (sym (same_op q ne))
            (side_on (aside q ne) longer (asked q) (op q) (row_at st q) (record_at st q).next.0 (record_at st q).place (seen q)
            (s.sides q (omega (arith, l', m.frame.n)))))));
      }

  -- what is kept of p, at a known place
  pub side_at : {place : Place} → (record_at st p).place ≡ place
      → Side v now s.order p (asked p) (op p) (row_at st p) (record_at st p).next.0 place (seen p)
  side_at e = subst (λ (place : Place). Side v now s.order p (asked p) (op p) (row_at st p) (record_at st p).next.0 place (seen p)) e (s.sides p l)

  -- A step that decides nothing: 1, 2, 3 that goes on, 7, 9, 10.
  pub sim_quiet : {st' : View} {r' : Row} {o' : Record} (sn' : Link)
      → Moved p st st' r' o' → Inv st' (total 0 s.order) s.h (put p sn' seen)
      → SideAt v (suc now) s.order p (asked p) (op p) r' o' sn' → Sim v st' (suc now) asked op played (put p sn' seen) changes current
  sim_quiet sn' m inv mine =
      sim_on asked op played s.order s.h sn' changes current (λ q ne. refl) (λ q ne. refl) m (good_tick s.good) s.count s.newest inv s.vals
      (inl refl) (λ q ne. aside_same v 0 now s.order q) mine

  -- what p has seen is as it was
  as_seen : {st' : View} {now' : ℕ} {asked' : ℕ → ℕ} {op' : ℕ → Op ℕ} {played' : List (Call ℕ)} {changes' current' : ℕ}
      → Sim v st' now' asked' op' played' (put p (seen p) seen) changes' current' → Sim v st' now' asked' op' played' seen changes' current'
  as_seen {st'} {now'} {asked'} {op'} {played'} {changes'} {current'} s' = subst (λ (sn : ℕ → Link). Sim v st' now' asked' op' played' sn changes' current') (put_id p seen) s'

  pub sim_still : {st' : View} {r' : Row} {o' : Record} → Moved p st st' r' o' → Inv st' (total 0 s.order) s.h (put p (seen p) seen)
      → SideAt v (suc now) s.order p (asked p) (op p) r' o' (seen p) → Sim v st' (suc now) asked op played seen changes current
  sim_still m inv mine = as_seen (sim_quiet (seen p) m inv mine)

  -- A request: all calls so far were decided before it.
  pub sim_request : {st' : View} {r' : Row} {o' : Record} (o : Op ℕ)
      → Moved p st st' r' o' → Inv st' (total 0 s.order) s.h (put p (seen p) seen)
      → (Undecided p now (suc now) s.order (put p o op p) o → SideAt v (suc now) s.order p now (put p o op p) r' o' (seen p))
      → Sim v st' (suc now) (put p now asked) (put p o op) played seen changes current
  sim_request {r' = r'} {o' = o'} o m inv mine =
      as_seen
      (sim_on (put p now asked) (put p o op) played s.order s.h (seen p) changes current (put_other p now asked) (put_other p o op) m (good_tick s.good) s.count s.newest inv s.vals
      (inl refl) (λ q ne. aside_same v 0 now s.order q)
      (subst (λ (t : ℕ). SideAt v (suc now) s.order p t (put p o op p) r' o' (seen p)) (sym (put_same p now asked))
      (mine (record { kind = put_same p o op; before = omega arith; own = own_new p s.good }))))

  -- A load answered now with the value of change m, not older than the change i that its step 1 has seen.
  pub sim_load : {st' : View} {o' : Record} (i m q k u : ℕ) → o'.place ≡ Idle
      → Moved p st st' (row_at st p) o' → Inv st' (total 0 s.order) s.h (put p (seen p) seen)
      → Undecided p (asked p) now s.order (op p) load → LateFor 0 (asked p) s.order (seen p) → seen p ≡ word.at i
      → i ≤ m → At s.h m q k u → LinkOk (total 0 s.order) (word.at m) (word.at i)
      → Sim v st' (suc now) asked op (played ++ record { asked = asked p; decided = now; process = p; word = 0; op = op p; answer = value u } ∷ []) seen changes current
  sim_load {st'} {o'} i m q k u idle moved inv und late sn le a ok =
      subst₂
      (λ (o : Op ℕ) (w : ℕ). Sim v st' (suc now) asked op (played ++ record { asked = asked p; decided = now; process = p; word = 0; op = o; answer = value w } ∷ []) seen changes current)
      (sym und.kind) (s.vals m q k u a)
      (as_seen (sim_on asked op (played ++ x ∷ []) (ins 0 m x s.order) s.h (seen p) changes current (λ q ne. refl) (λ q ne. refl) moved
      (good_load (asked p) p 0 m s.good may) (total_ins 0 m 0 x s.order refl ∙ s.count)
      (ap (λ (j : ℕ). value_after 0 j v (ins 0 m x s.order)) (total_ins 0 m 0 x s.order refl) ∙ value_ins 0 m 0 x s.order refl (total 0 s.order) v ∙ s.newest)
      (subst (λ (t : ℕ). Inv st' t s.h (put p (seen p) seen)) (sym (total_ins 0 m 0 x s.order refl)) inv)
      (λ j z n w b. value_ins 0 m 0 x s.order refl j v ∙ s.vals j z n w b)
      (inl (total_ins 0 m 0 x s.order refl)) (λ z ne. aside_load v 0 now s.order played (asked p) p m s.good may z (λ e. ne (sym e)))
      (subst (λ (place : Place). Side v (suc now) (ins 0 m x s.order) p (asked p) (op p) (row_at st p) o'.next.0 place (seen p)) (sym idle)
      (record {
        link =
            subst₂ (LinkOk (total 0 (ins 0 m x s.order)))
            (sym (link_load v 0 now s.order played (asked p) p m s.good may))
            (sym sn)
            (subst (λ (t : ℕ). LinkOk t (word.at m) (word.at i)) (sym (total_ins 0 m 0 x s.order refl)) ok);
        call = tt;
      }))))
    where
      x : Call ℕ
      x = load_call (asked p) now p 0 (value_after 0 m v s.order)

      may : MayLoad now (asked p) p 0 m s.order
      may =
          record {
            asked = und.before;
            own = und.own;
            late = late_later 0 i m (asked p) s.order le (late i sn);
            fits = place_low s.inv m q k u a;
          }

  -- The word's link of p passes exactly if X is p's kept tag.
  pub agree : LinkOk (total 0 s.order) (end_link v 0 s.order p) (seen p)
      → linked (end_link v 0 s.order p) (words_after (first v) s.order 0).count ≡ same_tag st.x (record_at st p).kept
  agree ok =
      ap (linked (end_link v 0 s.order p)) (good_count 0 s.good)
      ∙ linked_same (total 0 s.order) (end_link v 0 s.order p) (seen p) ok
      ∙ sym (tag_test s.inv p l)

  -- A store that is not done, or a check: decided now, at the end; it changes nothing.
  pub sim_append : {st' : View} {o' : Record} (o : Op ℕ) (a : Answer ℕ) → o'.place ≡ Idle
      → Moved p st st' (row_at st p) o' → Inv st' (total 0 s.order) s.h (put p (seen p) seen)
      → Undecided p (asked p) now s.order (op p) o → NoLoad o → wrote o a ≡ none
      → LinkOk (total 0 s.order) (end_link v 0 s.order p) (seen p)
      → answer_of (words_after (first v) s.order 0) p o ≡ a
      → Sim v st' (suc now) asked op (played ++ record { asked = asked p; decided = now; process = p; word = 0; op = op p; answer = a } ∷ []) seen changes current
  sim_append {st'} {o'} o a idle moved inv und noload quiet ok right =
      subst
      (λ (o : Op ℕ). Sim v st' (suc now) asked op (played ++ record { asked = asked p; decided = now; process = p; word = 0; op = o; answer = a } ∷ []) seen changes current)
      (sym und.kind)
      (as_seen (sim_on asked op (played ++ c ∷ []) (s.order ++ c ∷ []) s.h (seen p) changes current (λ q ne. refl) (λ q ne. refl) moved
      (good_append c s.good und.before refl right) (total_quiet 0 s.order c nothing ∙ s.count)
      (ap (λ (j : ℕ). value_after 0 j v (s.order ++ c ∷ [])) (total_quiet 0 s.order c nothing) ∙ value_snoc 0 (total 0 s.order) v s.order c (omega arith) ∙ s.newest)
      (subst (λ (t : ℕ). Inv st' t s.h (put p (seen p) seen)) (sym (total_quiet 0 s.order c nothing)) inv)
      (λ j z n w b. value_snoc 0 j v s.order c (place_low s.inv j z n w b) ∙ s.vals j z n w b)
      (inl (total_quiet 0 s.order c nothing)) (λ z ne. aside_snoc v 0 now s.order c z refl (λ e. ne (sym e)) noload)
      (subst (λ (place : Place). Side v (suc now) (s.order ++ c ∷ []) p (asked p) (op p) (row_at st p) o'.next.0 place (seen p)) (sym idle)
      (record { link = link_on (seen p) (link_snoc v 0 s.order c p noload) (inl (total_quiet 0 s.order c nothing)) ok; call = tt }))))
    where
      c : Call ℕ
      c = record { asked = asked p; decided = now; process = p; word = 0; op = o; answer = a }

      nothing : writes 0 c ≡ none
      nothing = writes_nothing 0 c quiet

  -- A store whose step 8 succeeds: decided now, at the end; one more change, and everybody is behind it.
  pub sim_done : {st' : View} {o' : Record} → o'.place ≡ Store9
      → Moved p st st' (row_at st p) o' → Inv st' (suc (total 0 s.order)) (new_change st p ∷ s.h) (put p (seen p) seen)
      → Undecided p (asked p) now s.order (op p) (store (slot_of (row_at st p) (record_at st p).next.0))
      → LinkOk (total 0 s.order) (end_link v 0 s.order p) (seen p)
      → same_tag st.x (record_at st p).kept ≡ true
      → Sim v st' (suc now) asked op (played ++ record { asked = asked p; decided = now; process = p; word = 0; op = op p; answer = done } ∷ []) seen (suc changes) (slot_of (row_at st p) (record_at st p).next.0)
  sim_done {st'} {o'} at_9 moved inv und ok same =
      subst
      (λ (o : Op ℕ). Sim v st' (suc now) asked op (played ++ record { asked = asked p; decided = now; process = p; word = 0; op = o; answer = done } ∷ []) seen (suc changes) (slot_of (row_at st p) (record_at st p).next.0))
      (sym und.kind)
      (as_seen (sim_on asked op (played ++ c ∷ []) (s.order ++ c ∷ []) (new_change st p ∷ s.h) (seen p) (suc changes) (slot_of (row_at st p) (record_at st p).next.0) (λ q ne. refl) (λ q ne. refl) moved
      (good_append c s.good und.before refl (ap (λ (b : Bool). cond b done not_done) (agree ok ∙ same))) (more ∙ ap suc s.count)
      (ap (λ (j : ℕ). value_after 0 j v (s.order ++ c ∷ [])) more ∙ value_new 0 v s.order c (writes_own c))
      (subst (λ (t : ℕ). Inv st' t (new_change st p ∷ s.h) (put p (seen p) seen)) (sym more) inv)
      vals
      (inr more) (λ z ne. aside_snoc v 0 now s.order c z refl (λ e. ne (sym e)) tt)
      (subst (λ (place : Place). Side v (suc now) (s.order ++ c ∷ []) p (asked p) (op p) (row_at st p) o'.next.0 place (seen p)) (sym at_9)
      (record { link = link_on (seen p) (link_snoc v 0 s.order c p tt) (inr more) ok; call = tt }))))
    where
      c : Call ℕ
      c = record { asked = asked p; decided = now; process = p; word = 0; op = store (slot_of (row_at st p) (record_at st p).next.0); answer = done }

      more : total 0 (s.order ++ c ∷ []) ≡ suc (total 0 s.order)
      more = total_snoc 0 s.order c (writes_own c)

      vals : (i q k u : ℕ) → At (new_change st p ∷ s.h) i q k u → value_after 0 i v (s.order ++ c ∷ []) ≡ u
      vals i q k u (inl e) =
          ap (λ (n : ℕ). value_after 0 n v (s.order ++ c ∷ [])) (e.0 ∙ s.inv.size) ∙ value_new 0 v s.order c (writes_own c) ∙ e.3
      vals i q k u (inr a) = value_snoc 0 i v s.order c (place_low s.inv i q k u a) ∙ s.vals i q k u a
