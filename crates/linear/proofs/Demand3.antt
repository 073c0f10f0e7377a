-- Demand 3 of every run from a start: whatever N, S, V and the entries are.
-- Assumes nothing.
use Prim.Native.Nat.{ℕ, suc, ◌+◌}
use mathlib.Core.Path.{refl, ◌≡◌, sym, ap, ◌∙◌, subst}
use mathlib.Core.Bool.{Bool, true, false, cond}
use mathlib.Core.List.{List, [], ◌∷◌, map}
use native.Mathlib.Omega.{arith}
use Rattle.numbers.specs.Numbers.{in_range}
use Rattle.linear.specs.Types.{Sequence, Entry, State}
use Rattle.machine.specs.State.{first_state}
use Rattle.machine.specs.Frame.{Ready}
use Rattle.machine.specs.Run.{EntryNote, played, note_of, after, notes, change_count, x_changed}
use Rattle.machine.proofs.Frame.{frame}
use Rattle.machine.proofs.RunLaws.{ready_start, ready_played, size_kept}
use Rattle.bench.specs.Bench.{in_log}
use Rattle.word.specs.Word.{Word, first}
use Rattle.word.specs.Calls.{Calls, no_calls, go_on, calls_from, done_count}
use Rattle.word.proofs.Good.{good_count, good_value}
use Rattle.word.proofs.Told.{done_on}
use Rattle.word.proofs.Ordered.{one_order_lem}
use Rattle.linear.specs.Demand3.{step_of_store, item_of, items_of, calls_in, RightRecord, RightRecords, Demand3}
use Rattle.linear.specs.TrueOfWord.{ChangesDecide, word_on, AllTrueOfWord, word_from, SameWord}
use Rattle.linear.proofs.Simulated.{Simulated, sim_start, sim_entry, same_link}
use Rattle.linear.proofs.Known.{KnownIn, known_start, known_entry}

-- What holds after the entries es with the notes ws, of which the calls c have become c' and the word m has become m'.
pub record Ended (n v : ℕ) (st : State) (c c' : Calls ℕ) (m m' : Word ℕ) (es : List Entry) (ws : List EntryNote) : Type 0 where
  pub sim : Simulated v st c' m'
  pub known : KnownIn st c'
  pub records : RightRecords n c es (map in_log ws)
  pub decide : ChangesDecide c es ws
  pub of_word : AllTrueOfWord c m es (map in_log ws)
  pub changed : done_count c'.played ≡ done_count c.played + change_count ws

pub run_on : (n v : ℕ) (st : State) (c : Calls ℕ) (m : Word ℕ) (es : List Entry) → st.n ≡ n → Ready st → Simulated v st c m → KnownIn st c
    → Ended n v (after st es) c (calls_from step_of_store c (items_of es (map in_log (notes st es)))) m (word_from c m es (map in_log (notes st es))) es (notes st es)
unfolding after notes calls_from change_count
run_on n v st c m [] size ready sim known =
    record { sim = sim; known = known; records = tt; decide = tt; of_word = tt; changed = omega arith }
run_on n v st c m (e ∷ es) size ready sim known =
    let gone = known_entry c known ready sim.sim.inv.following e.process e.kind in
    let next = sim_entry c m sim known ready e.process e.kind in
    let rest =
    run_on n v (played st e).state (go_on step_of_store c (item_of e (in_log (note_of st e)))) (word_on c m (item_of e (in_log (note_of st e)))) es ((frame st e.process e.kind).n ∙ size) (ready_played st e ready) next.0 gone.0 in
    record {
      sim = rest.sim;
      known = rest.known;
      records = (subst (λ (k : ℕ). RightRecord k c e (in_log (note_of st e))) size gone.1, rest.records);
      decide = (gone.2, rest.decide);
      of_word = (next.1, rest.of_word);
      changed =
          add (x_changed st (played st e).state) _ _ _
          (done_on step_of_store c (item_of e (in_log (note_of st e))) ∙ ap (λ (b : Bool). cond b (suc d) d) (sym gone.2)) rest.changed;
    }
  where
    d : ℕ
    d = done_count c.played

    add : (b : Bool) (m n k : ℕ) → m ≡ cond b (suc d) d → n ≡ m + k → n ≡ d + cond b (suc k) k
    add true m n k e f = omega arith
    add false m n k e f = omega arith

module _ (n : ℕ) (s : Sequence) (v : ℕ) (range : in_range n s ≡ true) (es : List Entry) where
  pub ended : Ended n v (after (first_state n s v) es) no_calls (calls_in es (map in_log (notes (first_state n s v) es))) (first v 0)
      (word_from no_calls (first v 0) es (map in_log (notes (first_state n s v) es))) es (notes (first_state n s v) es)
  ended = run_on n v (first_state n s v) no_calls (first v 0) es refl (ready_start n s v range) (sim_start n s v range) (known_start n s v range)

  -- demand 3, with the count of changes that the head is given
  pub demand_3 : Demand3 n v (change_count (notes (first_state n s v) es)) es (map in_log (notes (first_state n s v) es))
  demand_3 =
      record {
        one_order = one_order_lem (calls_in es (map in_log (notes (first_state n s v) es))) ended.sim.sim.good ended.known.told;
        records = ended.records;
        changes_counted = omega (arith, ended.changed);
      }

  -- X changes exactly where a store's second own step goes on
  pub changes_decide : ChangesDecide no_calls es (notes (first_state n s v) es)
  changes_decide = ended.decide

  -- each record's mark and answer are true of the word as the steps leave it
  pub true_of_word : AllTrueOfWord no_calls (first v 0) es (map in_log (notes (first_state n s v) es))
  true_of_word = ended.of_word

  -- and this word, at the end of every run, agrees with the one that demand 3's order leaves
  pub same_word : SameWord n v (calls_in es (map in_log (notes (first_state n s v) es))) demand_3.one_order.in_order.order (word_from no_calls (first v 0) es (map in_log (notes (first_state n s v) es)))
  unfolding demand_3 one_order_lem
  same_word =
      let sim = ended.sim.sim in
      record {
        current = good_value 0 sim.good ∙ sim.newest;
        count = good_count 0 sim.good ∙ sim.count;
        links = λ p l closed. same_link ended.sim ended.known p (omega (arith, l, (size_kept (first_state n s v) es).0)) closed;
      }
