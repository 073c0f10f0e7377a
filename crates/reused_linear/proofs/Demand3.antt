-- Demand 3 of every run from a start: whatever N, M and the entries are.
-- Assumes nothing.
use Prim.Native.Nat.{ℕ, suc, ◌+◌, ◌≤◌, ◌<◌}
use mathlib.Core.Path.{◌≡◌, refl, sym, ap, ◌∙◌, subst}
use mathlib.Core.Bool.{Bool, true, false, cond, false≢true}
use mathlib.Core.Logic.{inl}
use mathlib.Core.List.{List, [], ◌∷◌, map, filter_map}
use native.Mathlib.Omega.{arith}
use lib.Dec.{ltb}
use borrow.Author.Tests.{ltb-true, ltb-false}
use Rattle.word.specs.Word.{Link, none, at, load, put}
use Rattle.word.specs.Calls.{Item, Calls, no_calls, go_on, calls_from, done_count}
use Rattle.word.specs.Decides.{decides_in}
use Rattle.word.specs.Records.{item_of, items_of, RightRecord, RightRecords}
use Rattle.word.specs.Records as records
use Rattle.word.proofs.Good.{good_start}
use Rattle.word.proofs.Told.{done_on}
use Rattle.word.proofs.Stages.{shut, Known, known_start}
use Rattle.word.proofs.Ordered.{one_order_lem}
use Rattle.reused.specs.Circle.{interval_of, sizes_number}
use Rattle.reused.specs.Steps.{none_stored, told_of}
use Rattle.reused.specs.State.{row_at, first_state, first_row, first_triple, no_row}
use Rattle.reused.specs.Called.{parts_after, looked_at, answer_with, entered, refused}
use Rattle.reused.specs.Run.{EntryNote, played, steps_by, x_changed, note_of, after, notes, change_count}
use Rattle.reused.proofs.SoundKept.{first_or_later}
use Rattle.reused.proofs.RunLaws.{played_ready, frame}
use Rattle.reused_linear.specs.Types.{Process, Stored, NoProcess, Own, Kind, Ask, Step, Stepped, State, Entry, Answer}
use Rattle.reused_linear.specs.Safe.{Safe, first_safe, safe_on}
use Rattle.reused_linear.specs.Demand3.{asked_of, said_of, rules, Demand3, ChangesDecide}
use Rattle.std.proofs.lemmas.Option.{none-some}
use Rattle.reused_linear.proofs.Side.{Side, Sim}
use Rattle.reused_linear.proofs.Entries.{stage_of, stages, Next, next_away, next_request, next_step, fresh_tag}
use Rattle.reused_linear.proofs.Theorems.{Steady, sizes_ready, few_ready, rows_put, steady_entry, steady_start}

abbrev pub SimOf : State → Calls Stored → Type 0
SimOf st c = Sim st.n st.x (row_at st) c

abbrev pub KnownIn : State → Calls Stored → Type 0
KnownIn st c = Known st.n (stages (row_at st)) c

-- what is said of an entry, by its answer
abbrev pub note_by : State → Entry → Answer → EntryNote
note_by st e a =
    record {
      outcome = (told_of a.outcome).number;
      process = e.process.0;
      steps = steps_by (row_at st e.process.0).place e.kind a.outcome;
      stored = (told_of a.outcome).value;
      changed = x_changed st a.state;
    }

abbrev pub came : State → Entry → Answer → Item Stored
came st e a = item_of (asked_of e) (said_of (note_by st e a))

pub record Gone (st : State) (c : Calls Stored) (e : Entry) (a : Answer) : Type 0 where
  pub sim : SimOf a.state (go_on 1 c (came st e a))
  pub known : KnownIn a.state (go_on 1 c (came st e a))
  pub right : RightRecord rules st.n c (asked_of e) (said_of (note_by st e a))
  pub changes : x_changed st a.state ≡ decides_in 1 c (came st e a)

module _ {st : State} {safe : ℕ → Safe} (steady : Steady st safe) (c : Calls Stored) (sim : SimOf st c) (known : KnownIn st c) where
  -- what an entry of p leaves, put back into the state
  put_back : (p : Process) (kind : Kind) (r : Stepped) → p.0 < st.n → Next st.n st.x (row_at st) c p kind r (put p.0 r.own (row_at st))
      → Gone st c (record { process = p; kind = kind }) (answer_with st p r)
  put_back p kind r l next =
      let rows = sym (rows_put st p r (omega (arith, l, few_ready steady.ready, steady.ready.full))) in
      record {
        sim = subst (λ (f : ℕ → Own). Sim st.n r.x f (go_on 1 c (came st (record { process = p; kind = kind }) (answer_with st p r)))) rows next.sim;
        known = subst (λ (f : ℕ → Own). Known st.n (stages f) (go_on 1 c (came st (record { process = p; kind = kind }) (answer_with st p r)))) rows next.known;
        right = next.right;
        changes = next.changes;
      }

  gone_entered : (p : Process) (kind : Kind) → p.0 < st.n → Gone st c (record { process = p; kind = kind }) (entered st p kind)
  unfolding entered
  gone_entered p (Ask request) l =
      put_back p (Ask request) (parts_after st.n st.m p st.x (row_at st p.0) (looked_at st (row_at st p.0)) (Ask request)) l
      (next_request sim known p l request (looked_at st (row_at st p.0)) st.m)
  gone_entered p Step l =
      put_back p Step (parts_after st.n st.m p st.x (row_at st p.0) (looked_at st (row_at st p.0)) Step) l
      (next_step sim known p l st.m (looked_at st (row_at st p.0)) (steady.inv.1.shapes p.0 l).loads (fresh_tag (sizes_ready steady.ready) steady.inv.1 p l))

  gone_refused : (p : Process) (kind : Kind) → st.n ≤ p.0 → Gone st c (record { process = p; kind = kind }) (refused st NoProcess)
  gone_refused p kind l =
      let next = next_away sim known p kind NoProcess refl (inl (refl, l)) in
      record { sim = next.sim; known = next.known; right = next.right; changes = next.changes }

  -- Every entry.
  pub gone_entry : (e : Entry) → Gone st c e (played st e)
  gone_entry e = subst (Gone st c e) (sym (played_ready st e steady.ready)) (go (ltb e.process.0 st.n) refl)
    where
      go : (t : Bool) → ltb e.process.0 st.n ≡ t → Gone st c e (cond t (entered st e.process e.kind) (refused st NoProcess))
      go true f = gone_entered e.process e.kind (ltb-true e.process.0 st.n f)
      go false f = gone_refused e.process e.kind (ltb-false e.process.0 st.n f)

-- What holds after the entries es, of which the calls c have become c'.
pub record Ended (n : ℕ) (st : State) (c c' : Calls Stored) (es : List Entry) (ws : List EntryNote) : Type 0 where
  pub sim : SimOf st c'
  pub known : KnownIn st c'
  pub right : RightRecords rules n c (map asked_of es) (map said_of ws)
  pub decide : ChangesDecide c es ws
  pub changed : done_count c'.played ≡ done_count c.played + change_count ws

pub run_on : (n : ℕ) (st : State) (safe : ℕ → Safe) (c : Calls Stored) (es : List Entry) → st.n ≡ n → Steady st safe → SimOf st c → KnownIn st c
    → Ended n (after st es) c (calls_from 1 c (items_of (map asked_of es) (map said_of (notes st es)))) es (notes st es)
unfolding after notes calls_from change_count
run_on n st safe c [] size steady sim known = record { sim = sim; known = known; right = tt; decide = tt; changed = omega arith }
run_on n st safe c (e ∷ es) size steady sim known =
    let gone = gone_entry steady c sim known e in
    let rest = run_on n (played st e).state (safe_on st e safe) (go_on 1 c (item_of (asked_of e) (said_of (note_of st e)))) es ((frame st e.process e.kind).n ∙ size) (steady_entry steady e) gone.sim gone.known in
    record {
      sim = rest.sim;
      known = rest.known;
      right = (subst (λ (k : ℕ). RightRecord rules k c (asked_of e) (said_of (note_of st e))) size gone.right, rest.right);
      decide = (gone.changes, rest.decide);
      changed =
          add (x_changed st (played st e).state) _ _ _
          (done_on 1 c (item_of (asked_of e) (said_of (note_of st e))) ∙ ap (λ (b : Bool). cond b (suc d) d) (sym gone.changes)) rest.changed;
    }
  where
    d : ℕ
    d = done_count c.played

    add : (b : Bool) (m n k : ℕ) → m ≡ cond b (suc d) d → n ≡ m + k → n ≡ d + cond b (suc k) k
    add true m n k e f = omega arith
    add false m n k e f = omega arith

-- The start: no calls, no changes, and nobody has seen any.
sim_start : (n m : ℕ) → n ≤ 16 → SimOf (first_state n m) no_calls
unfolding filter_map
sim_start n m few =
    record {
      order = [];
      seen = λ q. none;
      good = good_start none_stored;
      current = refl;
      one = λ q. refl;
      sides = λ q l.
          first_or_later (λ o. Side 0 [] first_triple q 0 load o none) (first_row 1 (interval_of n)) (first_row 0 (interval_of n)) no_row (side q 1) (side q 0) q (omega (arith, l, few));
    }
  where
    nothing : {k : ℕ} → none ≡ at k → ⊥
    nothing e = false≢true (ap seen e)
      where
        seen : Link → Bool
        seen none = false
        seen (at k) = true

    side : (q t : ℕ) → Side 0 [] first_triple q 0 load (first_row t (interval_of n)) none
    side q t =
        record {
          sees =
              record {
                low = λ k e. absurd (nothing e);
                values = λ k w e. absurd (nothing e);
                loads = λ h. absurd h;
                inside = λ h. absurd h;
                outside = λ h e. absurd (nothing e);
                newest = λ h. absurd (none-some _ h.old);
              };
          link = λ h. refl;
          call = tt;
        }

module _ (n m : ℕ) (range : sizes_number n m ≡ 0) (es : List Entry) where
  pub ended : Ended n (after (first_state n m) es) no_calls (records.calls_in rules (map asked_of es) (map said_of (notes (first_state n m) es))) es (notes (first_state n m) es)
  ended =
      let steady = steady_start n m range in
      let few = few_ready steady.ready in
      run_on n (first_state n m) first_safe no_calls es refl steady (sim_start n m few)
      (known_start n (stages (row_at (first_state n m))) (λ q l. first_or_later (λ o. stage_of o.place ≡ shut) (first_row 1 (interval_of n)) (first_row 0 (interval_of n)) no_row refl refl q (omega (arith, l, few))))

  -- demand 3
  pub demand_3 : Demand3 n m es
  demand_3 =
      record {
        one_order = one_order_lem _ ended.sim.good ended.known.told;
        records = ended.right;
        changes_counted = omega (arith, ended.changed);
      }

  -- X changes exactly where a store's first own step goes on
  pub changes_decide : ChangesDecide no_calls es (notes (first_state n m) es)
  changes_decide = ended.decide
