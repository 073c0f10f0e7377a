-- The simulation relation holds at the start and goes on by every entry; and each record says what it should of the word: a store is done
-- exactly if its process's latest step 1 saw the newest change, and a load's mark is 1 exactly if its own did.
-- Assumes nothing.
use Prim.Native.Nat.{ℕ, suc, ◌%◌, ◌≤◌, ◌<◌}
use mathlib.Core.Path.{◌≡◌, refl, sym, ap, ap₂, ◌∙◌, subst, subst₂}
use mathlib.Core.Bool.{Bool, true, false, not, cond, ◌&&◌, ◌||◌, false≢true}
use mathlib.Core.Logic.{inl, inr}
use mathlib.Core.List.{[], ◌∷◌, ◌++◌, filter_map}
use native.Mathlib.Omega.{arith}
use native.Mathlib.Decide.{ℕ_discrete}
use lib.Dec.{eqb}
use borrow.Author.Tests.{eqb-true, ne_eqb, leb-true}
use lib.Seq.{get_or-set_same}
use Rattle.numbers.specs.Numbers.{in_range}
use Rattle.numbers.proofs.Range.{range_of}
use Rattle.linear.specs.Types.{Process, Sequence, Kind, Step, Place, Idle, Load1, Load3, Load5, Store7, Store8, Check14, Outcome, GoesOn, Value, Record, State}
use Rattle.step.specs.Steps.{same_tag, with_slot, own_steps, idle, told_of}
use Rattle.machine.specs.State.{row_at, record_at, first_state}
use Rattle.machine.specs.Entry.{called}
use Rattle.machine.specs.Frame.{Ready}
use Rattle.machine.specs.Run.{turned_away, x_changed, mark_by}
use Rattle.machine.proofs.Soundness.{sure}
use Rattle.word.specs.Word.{Link, none, Word, Op, load, store, check, Answer, value, done, not_done, says_yes, says_no, put, linked, next_of, first, words_after}
use Rattle.word.specs.Word as word
use Rattle.word.specs.Calls.{Item, goes, away, Calls, is_store, no_calls, call_by, decides, go_on}
use Rattle.word.proofs.Put.{split, put_same, put_other}
use Rattle.word.proofs.Changes.{total, value_after}
use Rattle.word.proofs.Good.{good_start, good_count, late_new, Late}
use Rattle.word.proofs.Stages.{decides_at}
use Rattle.word.proofs.Aside.{LateFor, end_link, Aside, aside_same, undecided_on, loading_on}
use Rattle.linear.specs.Demand3.{step_of_store}
use Rattle.linear.specs.TrueOfWord.{is_load, word_on, unchanged, mark_at, SaysAt, TrueOfWord}
use Rattle.linear.proofs.Lift.{guard_low}
use Rattle.linear.proofs.History.{At}
use Rattle.linear.proofs.Invariant.{slot_of}
use Rattle.linear.proofs.Consequences.{place_low, old_place, tag_test, five_behind}
use Rattle.linear.proofs.View.{View, view_of}
use Rattle.linear.proofs.Moved.{tag_below}
use Rattle.linear.proofs.Kept.{one_at, seen_at, kept_calm, kept_1, kept_2, kept_3, kept_7, kept_8, kept_9, kept_10}
use Rattle.linear.proofs.Start.{idle_start, first_change, inv_start}
use Rattle.linear.proofs.Side.{LinkOk, Side, SideAt, Sim, linked_same}
use Rattle.linear.proofs.Join.{sim_tick, side_at, sim_quiet, sim_still, sim_request, sim_load, agree, sim_append, sim_done}
use Rattle.linear.proofs.Cases.{Turned, Cases, idle_is, by_cases}
use Rattle.linear.proofs.Noted.{entry_of, note_with, came, item_away, away_plain}
use Rattle.linear.proofs.Known.{KnownIn, call_at, is_open_lem}

-- the calls, the word as the steps leave it, and that every call is on word 0
pub record Simulated (v : ℕ) (st : State) (c : Calls ℕ) (m : Word ℕ) : Type 0 where
  pub sim : Sim v (view_of st) c.now c.asked c.op c.played m.link m.count m.current
  pub one : (q : ℕ) → c.word q ≡ 0

pub sim_start : (n : ℕ) (s : Sequence) (v : ℕ) → in_range n s ≡ true → Simulated v (first_state n s v) no_calls (first v 0)
unfolding filter_map
sim_start n s v e =
    record {
      sim = record {
        h = first_change v ∷ [];
        order = [];
        good = good_start v;
        count = refl;
        newest = refl;
        inv = inv_start n s v e;
        vals = vals;
        sides = λ q l. sides q (omega (arith, l, (range_of n s e).few));
      };
      one = λ q. refl;
    }
  where
    vals : (i q k u : ℕ) → At (first_change v ∷ []) i q k u → value_after 0 i v [] ≡ u
    vals i q k u (inl f) = ap (λ (j : ℕ). value_after 0 j v []) f.0 ∙ f.3
    vals i q k u (inr a) = absurd a

    sides : (q : ℕ) → q < 16 → SideAt v 0 [] q 0 load (row_at (first_state n s v) q) (record_at (first_state n s v) q) none
    sides q l =
        subst (λ (place : Place). Side v 0 [] q 0 load (row_at (first_state n s v) q) (record_at (first_state n s v) q).next.0 place none)
        (sym (idle_start n s v q l)) (record { link = inr (tt, tt); call = tt })

-- a link at a change is at the newest change or behind it
link_here : (t i : ℕ) → i ≤ t → LinkOk t (word.at i) (word.at i)
link_here t i le = go (ℕ_discrete i t)
  where
    go : Dec (i ≡ t) → LinkOk t (word.at i) (word.at i)
    go (yes e) = inl (ap word.at e, ap word.at e)
    go (no ne) = inr (omega (arith, le, ne), omega (arith, le, ne))

-- a store is no load
store_no_load : (o : Op ℕ) → is_store o ≡ true → is_load o ≡ false
store_no_load load e = absurd (false≢true e)
store_no_load (store u) e = refl
store_no_load check e = absurd (false≢true e)

and_no : (b : Bool) → (b && false) ≡ false
and_no true = refl
and_no false = refl

module _ {v : ℕ} {st : State} (c : Calls ℕ) (m : Word ℕ) (simulated : Simulated v st c m) (known : KnownIn st c) (ready : Ready st) (p : Process) where
  abbrev pub Next : Kind → State → Outcome → Bool → Type 0
  Next k st' o b = Simulated v st' (go_on step_of_store c (came st p k st' o)) (word_on c m (came st p k st' o)) × TrueOfWord c m (entry_of p k) (note_with st p k st' o)

  abbrev s : Sim v (view_of st) c.now c.asked c.op c.played m.link m.count m.current
  s = simulated.sim

  away_next : (k : Kind) (o : Outcome) → turned_away o ≡ true → Turned st p.0 k o → Next k st o false
  away_next k o e why =
      let none : came st p k st o ≡ away = item_away p.0 k (note_with st p k st o) e in (
        subst (λ (i : Item ℕ). Simulated v st (go_on step_of_store c i) (word_on c m i)) (sym none) (record { sim = sim_tick s; one = simulated.one }),
        record {
          mark = (away_plain o e).0 st.x (record_at st p.0).kept ∙ ap (mark_at m) (sym none);
          by_step5 = λ two. absurd (omega (arith, two, leb-true 11 (told_of o).number e));
          says = subst (SaysAt c m) (sym none) tt;
        },
      )

  -- a request is on word 0
  asked_one : (q : ℕ) → put p.0 0 c.word q ≡ 0
  asked_one = split (λ q. put p.0 0 c.word q ≡ 0) p.0 (put_same p.0 0 c.word) (λ q ne. put_other p.0 0 c.word q ne ∙ simulated.one q)

  -- a call that is played on word 0 is played on its own
  on_own_word : {st' : View} {now : ℕ} {changes current : ℕ} (o : Op ℕ) (a : Answer ℕ)
      → Sim v st' now c.asked c.op (c.played ++ record { asked = c.asked p.0; decided = c.now; process = p.0; word = 0; op = o; answer = a } ∷ []) m.link changes current
      → Sim v st' now c.asked c.op (c.played ++ record { asked = c.asked p.0; decided = c.now; process = p.0; word = c.word p.0; op = o; answer = a } ∷ []) m.link changes current
  on_own_word {st'} {now} {changes} {current} o a =
      subst
      (λ (w : ℕ). Sim v st' now c.asked c.op (c.played ++ record { asked = c.asked p.0; decided = c.now; process = p.0; word = w; op = o; answer = a } ∷ []) m.link changes current)
      (sym (simulated.one p.0))

  -- what a step that goes on leaves of the word: whether it is a load's first (f), and whether it decides a store (d)
  word_left : (f d : Bool) → (is_load (c.op p.0) && eqb (c.steps p.0) 0) ≡ f → decides step_of_store c p.0 ≡ d
      → word_on c m (goes p.0) ≡ cond (f || d) (next_of m p.0 (c.op p.0)) m
  word_left f d e g = ap₂ (λ (f d : Bool). cond (f || d) (next_of m p.0 (c.op p.0)) m) e g

  -- a step after which the call goes on, and the word that it leaves
  goes_on_lem : {st' : State} (d : Bool) (m' : Word ℕ) → decides step_of_store c p.0 ≡ d → word_on c m (goes p.0) ≡ m'
      → Sim v (view_of st') (suc c.now) c.asked c.op (cond d (c.played ++ call_by c p.0 done ∷ []) c.played) m'.link m'.count m'.current
      → (d ≡ true → unchanged m p.0 ≡ true)
      → Next Step st' GoesOn d
  goes_on_lem {st'} d m' e f sim right = (
    record {
      sim =
          subst₂
          (λ (d : Bool) (m : Word ℕ). Sim v (view_of st') (suc c.now) c.asked c.op (cond d (c.played ++ call_by c p.0 done ∷ []) c.played) m.link m.count m.current)
          (sym e) (sym f) sim;
      one = simulated.one;
    },
    record { mark = refl; by_step5 = λ two. absurd (omega (arith, two)); says = λ t. right (sym e ∙ t) },
  )

  module _ (l : p.0 < st.n) where
    -- a load's step that goes on, its rank not 1; a store's that decides nothing
    load_goes : {st' : State} (n : ℕ) → c.op p.0 ≡ load → suc (c.steps p.0) ≡ suc (suc n)
        → Sim v (view_of st') (suc c.now) c.asked c.op c.played m.link m.count m.current → Next Step st' GoesOn false
    load_goes n o k sim =
        let later : eqb (c.steps p.0) 0 ≡ false = ne_eqb (c.steps p.0) 0 (λ z. omega (arith, k, z)) in
        let quiet = decides_at step_of_store c p.0 (suc (suc n)) false (ap is_store o) k in
        goes_on_lem false m quiet (word_left false false (ap (λ (b : Bool). is_load (c.op p.0) && b) later ∙ and_no (is_load (c.op p.0))) quiet) sim (λ t. absurd (false≢true t))

    store_goes : {st' : State} (n : ℕ) → (true && eqb n step_of_store) ≡ false → is_store (c.op p.0) ≡ true → suc (c.steps p.0) ≡ n
        → Sim v (view_of st') (suc c.now) c.asked c.op c.played m.link m.count m.current → Next Step st' GoesOn false
    store_goes n other o k sim =
        let quiet = decides_at step_of_store c p.0 n true o k ∙ other in
        goes_on_lem false m quiet (word_left false false (ap (λ (b : Bool). b && eqb (c.steps p.0) 0) (store_no_load (c.op p.0) o)) quiet) sim (λ t. absurd (false≢true t))

    -- X is the kept tag exactly if what was seen is the newest change
    tested : {b : Bool} → same_tag st.x (record_at st p.0).kept ≡ b → unchanged m p.0 ≡ b
    tested {b} t = ap (linked (m.link p.0)) (sym s.count) ∙ sym (tag_test s.inv p.0 l) ∙ t

    -- the value after the change that was seen is the word's value, if that change is the newest
    newest_value : (i u : ℕ) → m.link p.0 ≡ word.at i → value_after 0 i v s.order ≡ u → unchanged m p.0 ≡ true → u ≡ m.current
    newest_value i u sn val t =
        let newest : i ≡ m.count = eqb-true i m.count (sym (ap (λ (k : Link). linked k m.count) sn) ∙ t) in
        sym val ∙ ap (λ (j : ℕ). value_after 0 j v s.order) (newest ∙ sym s.count) ∙ s.newest

    -- An answered load: the step has left X and the kept tag as they were, so its mark is the test's answer.
    load_reads : (st' : State) (u : ℕ) → st'.x ≡ st.x → (record_at st' p.0).kept ≡ (record_at st p.0).kept
        → (own_steps (record_at st p.0).place ≡ 4 → same_tag st.x (record_at st p.0).kept ≡ false)
        → (unchanged m p.0 ≡ true → u ≡ m.current)
        → TrueOfWord c m (entry_of p Step) (note_with st p Step st' (Value u))
    load_reads st' u x kept behind says =
        let same : mark_by 2 st'.x (record_at st' p.0).kept ≡ mark_by 2 st.x (record_at st p.0).kept = cc (x, kept) in
        record {
          mark = same ∙ ap (λ (b : Bool). cond b 1 2) (sym (tested refl));
          by_step5 = λ two four. same ∙ ap (λ (b : Bool). cond b 1 2) (behind four);
          says = says;
        }

    behind : (record_at st p.0).place ≡ Load5 → same_tag st.x (record_at st p.0).kept ≡ false
    behind e = five_behind s.inv p.0 l (tag_below st p.0 ready l) e

    cases : Cases Next st p.0
    cases =
        record {
          asks_load = λ e st' x mv. (
            record {
              sim =
                  sim_request s p.0 l load mv (kept_calm (view_of st) p.0 s.inv l Idle Load1 e refl refl mv x tt)
                  (λ und. record { link = (side_at s p.0 l e).link; call = und });
              one = asked_one;
            },
            record { mark = refl; by_step5 = λ two. absurd (omega (arith, two)); says = tt },
          );
          asks_store = λ u e st' x mv. (
            record {
              sim =
                  sim_request s p.0 l (store u) mv (kept_calm (view_of st) p.0 s.inv l Idle (Store7 u) e refl refl mv x tt)
                  (λ und. record { link = (side_at s p.0 l e).link; call = und });
              one = asked_one;
            },
            record { mark = refl; by_step5 = λ two. absurd (omega (arith, two)); says = tt },
          );
          asks_check = λ e st' x mv. (
            record {
              sim =
                  sim_request s p.0 l check mv (kept_calm (view_of st) p.0 s.inv l Idle Check14 e refl refl mv x tt)
                  (λ und. record { link = (side_at s p.0 l e).link; call = und });
              one = asked_one;
            },
            record { mark = refl; by_step5 = λ two. absurd (omega (arith, two)); says = tt },
          );
          step_1 = λ e st' x mv.
              let (o, asked, rest) = call_at st known p.0 l e in
              let quiet = decides_at step_of_store c p.0 1 false (ap is_store asked) o.counted in
              let begins = ap (λ (j : Op ℕ). is_load j && eqb (c.steps p.0) 0) asked ∙ ap (λ (j : ℕ). eqb j 0) (none_yet o.counted) in
              goes_on_lem false (next_of m p.0 load) quiet (word_left true false begins quiet ∙ ap (next_of m p.0) asked)
              (subst (λ (t : ℕ). Sim v (view_of st') (suc c.now) c.asked c.op c.played (put p.0 (word.at t) m.link) m.count m.current) s.count
              (sim_quiet s p.0 l (word.at (total 0 s.order)) mv (kept_1 (view_of st) p.0 s.inv l e mv x)
              (record { link = tt; call = (undecided_on alone (side_at s p.0 l e).call, first_seen) })))
              (λ t. absurd (false≢true t));
          step_2 = λ e st' x mv.
              let (o, asked, rest) = call_at st known p.0 l e in
              load_goes 0 asked o.counted
              (sim_still s p.0 l mv (kept_2 (view_of st) p.0 s.inv l (tag_below st p.0 ready l) e mv x)
              (record { link = tt; call = loading_on alone (side_at s p.0 l e).call }));
          step_3_answers = λ u e near st' x mv.
              let (i, sn, f) = (one_at (view_of st) p.0 s.inv l e).stage in
              let a = f (guard_low (row_at st (record_at st p.0).kept.process.0).old_number (record_at st p.0).kept.number.0 near) in (
                record {
                  sim =
                      on_own_word (c.op p.0) (value u)
                      (sim_load s p.0 l i i (record_at st p.0).kept.process.0 (record_at st p.0).kept.number.0 u refl mv
                      (kept_calm (view_of st) p.0 s.inv l (Load3 u) Idle e refl refl mv x tt)
                      (side_at s p.0 l e).call.0 (side_at s p.0 l e).call.1 sn (omega arith) a
                      (link_here (total 0 s.order) i (place_low s.inv i _ _ _ a)));
                  one = simulated.one;
                },
                load_reads st' u x (ap (λ (o : Record). o.kept) mv.own)
                    (λ four. absurd (omega (arith, four, ap own_steps e))) (newest_value i u sn (s.vals i _ _ u a)),
              );
          step_3_goes_on = λ u e far st' x mv.
              let (o, asked, rest) = call_at st known p.0 l e in
              load_goes 1 asked o.counted
              (sim_still s p.0 l mv
              (kept_3 (view_of st) p.0 s.inv l u st.s.0 (tag_below st p.0 ready l) ((sure ready).each (record_at st p.0).kept.process.0 (tag_below st p.0 ready l)).old e far mv x)
              (record { link = tt; call = loading_on alone (side_at s p.0 l e).call }));
          step_5 = λ e st' x mv.
              let (i, sn, high) = (one_at (view_of st) p.0 s.inv l e).stage in
              let (u, a) = seen_at (view_of st) p.0 s.inv l i sn in
              let (n, le, lt, j, b) = old_place s.inv i (record_at st p.0).kept.process.0 (record_at st p.0).kept.number.0 u (tag_below st p.0 ready l) a high in (
                record {
                  sim =
                      on_own_word (c.op p.0) (value _)
                      (sim_load s p.0 l i n (record_at st p.0).kept.process.0 j _ refl mv
                      (kept_calm (view_of st) p.0 s.inv l Load5 Idle e refl refl mv x tt)
                      (side_at s p.0 l e).call.0 (side_at s p.0 l e).call.1 sn le b
                      (inr (lt, omega (arith, le, lt))));
                  one = simulated.one;
                },
                load_reads st' _ x (ap (λ (o : Record). o.kept) mv.own) (λ four. behind e) (λ t. absurd (false≢true (sym (tested (behind e)) ∙ t))),
              );
          step_7 = λ u e st' x mv.
              let (o, asked, rest) = call_at st known p.0 l e in
              let und = undecided_on alone (side_at s p.0 l e).call in
              store_goes 1 refl asked o.counted
              (sim_still s p.0 l mv (kept_7 (view_of st) p.0 s.inv l u e mv x)
              (record {
                link = (side_at s p.0 l e).link;
                call = record { kind = und.kind ∙ ap store (sym (written u)); before = und.before; own = und.own };
              }));
          step_8_done = λ e same st' x mv.
              let (o, asked, rest) = call_at st known p.0 l e in
              let decided = decides_at step_of_store c p.0 2 true asked o.counted in
              let no-load = ap (λ (b : Bool). b && eqb (c.steps p.0) 0) (store_no_load (c.op p.0) asked) in
              let after-it = stored (slot_of (row_at st p.0) (record_at st p.0).next.0) in
              goes_on_lem true after-it decided
              (word_left false true no-load decided ∙ ap (next_of m p.0) (side_at s p.0 l e).call.kind ∙ ap (λ (b : Bool). cond b after-it m) (tested same))
              (on_own_word (c.op p.0) done
              (sim_done s p.0 l refl mv (kept_8 (view_of st) p.0 s.inv l e x mv) (side_at s p.0 l e).call (side_at s p.0 l e).link same))
              (λ t. tested same);
          step_8_not_done = λ e other st' x mv. (
            record {
              sim =
                  on_own_word (c.op p.0) not_done
                  (sim_append s p.0 l (store (slot_of (row_at st p.0) (record_at st p.0).next.0)) not_done refl mv
                  (kept_calm (view_of st) p.0 s.inv l Store8 Idle e refl refl mv x tt) (side_at s p.0 l e).call tt refl (side_at s p.0 l e).link
                  (ap (λ (b : Bool). cond b done not_done) (agree s p.0 l (side_at s p.0 l e).link ∙ other)));
              one = simulated.one;
            },
            record { mark = refl; by_step5 = λ two. absurd (omega (arith, two)); says = tested other },
          );
          step_9 = λ e st' x mv.
              let (o, asked, rest) = call_at st known p.0 l e in
              store_goes 3 refl asked o.counted
              (sim_still s p.0 l mv (kept_9 (view_of st) p.0 s.inv l e mv x) (record { link = (side_at s p.0 l e).link; call = tt }));
          step_10 = λ e st' x mv. (
            record {
              sim = sim_still s p.0 l mv (kept_10 (view_of st) p.0 s.inv l e mv x) (record { link = (side_at s p.0 l e).link; call = tt });
              one = simulated.one;
            },
            record { mark = refl; by_step5 = λ two. absurd (omega (arith, two)); says = tt },
          );
          step_14_yes = λ e same st' x mv. (
            record {
              sim =
                  on_own_word (c.op p.0) says_yes
                  (sim_append s p.0 l check says_yes refl mv
                  (kept_calm (view_of st) p.0 s.inv l Check14 Idle e refl refl mv x tt) (side_at s p.0 l e).call tt refl (side_at s p.0 l e).link
                  (ap (λ (b : Bool). cond b says_yes says_no) (agree s p.0 l (side_at s p.0 l e).link ∙ same)));
              one = simulated.one;
            },
            record { mark = refl; by_step5 = λ two. absurd (omega (arith, two)); says = tested same },
          );
          step_14_no = λ e other st' x mv. (
            record {
              sim =
                  on_own_word (c.op p.0) says_no
                  (sim_append s p.0 l check says_no refl mv
                  (kept_calm (view_of st) p.0 s.inv l Check14 Idle e refl refl mv x tt) (side_at s p.0 l e).call tt refl (side_at s p.0 l e).link
                  (ap (λ (b : Bool). cond b says_yes says_no) (agree s p.0 l (side_at s p.0 l e).link ∙ other)));
              one = simulated.one;
            },
            record { mark = refl; by_step5 = λ two. absurd (omega (arith, two)); says = tested other },
          );
        }
      where
        alone : Aside v 0 c.now s.order s.order p.0
        alone = aside_same v 0 c.now s.order p.0

        -- the word after a store of u that is done
        stored : ℕ → Word ℕ
        stored u = record { current = u; count = suc m.count; link = m.link }

        -- from the newest change on nothing stands yet
        first_seen : LateFor 0 (c.asked p.0) s.order (word.at (total 0 s.order))
        first_seen i e =
            let same : total 0 s.order ≡ i = cc in
            subst (λ (j : ℕ). Late 0 j (c.asked p.0) s.order) same (late_new 0 (c.asked p.0) s.order)

        -- what step 7 has written stands in the slot
        written : (u : ℕ) → slot_of (with_slot (row_at st p.0) (record_at st p.0).next u) (record_at st p.0).next.0 ≡ u
        written u =
            get_or-set_same (row_at st p.0).slots ((record_at st p.0).next.0 % 2) u 0
            (omega (arith, ready.full.slots p.0 (omega (arith, l, (range_of st.n st.s (sure ready).range).few))))

        none_yet : suc (c.steps p.0) ≡ 1 → c.steps p.0 ≡ 0
        none_yet k = omega (arith, k)

  -- Every entry carries the relation on.
  pub sim_entry : (k : Kind) → Next k (called st p k).state (called st p k).outcome (x_changed st (called st p k).state)
  sim_entry k = by_cases Next st p ready s.inv.following away_next cases k

-- A process with no call open is idle, so its link in the word and the change that it has seen are both at the newest change, or both behind it.
pub same_link : {v : ℕ} {st : State} {c : Calls ℕ} {m : Word ℕ} (simulated : Simulated v st c m) → KnownIn st c → (q : ℕ) → q < st.n → c.opened q ≡ false
    → unchanged (words_after (first v) simulated.sim.order 0) q ≡ unchanged m q
same_link {v} {st} {c} {m} simulated known q l closed =
    ap (linked (end_link v 0 s.order q)) (good_count 0 s.good) ∙ linked_same (total 0 s.order) (end_link v 0 s.order q) (m.link q) both ∙ ap (linked (m.link q)) s.count
  where
    s : Sim v (view_of st) c.now c.asked c.op c.played m.link m.count m.current
    s = simulated.sim

    not_open : (b : Bool) → not b ≡ false → b ≡ true
    not_open true e = refl
    not_open false e = absurd (false≢true (sym e))

    both : LinkOk (total 0 s.order) (end_link v 0 s.order q) (m.link q)
    both = (side_at s q l (idle_is (record_at st q).place (not_open (idle (record_at st q).place) (sym (is_open_lem st known q l refl) ∙ closed)))).link
