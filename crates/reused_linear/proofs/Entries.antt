-- Every entry: the order and the replies go on, what is said of it is right, and X has changed exactly if it decides a store.
-- Assumes nothing.
use Prim.Native.Nat.{ℕ, suc, ◌+◌, ◌≤◌, ◌<◌}
use mathlib.Core.Path.{◌≡◌, refl, sym, ap, ◌∙◌, subst}
use mathlib.Core.Bool.{Bool, true, false, cond, not, ◌&&◌, false≢true}
use mathlib.Core.Logic.{inr}
use mathlib.Core.List.{List}
use native.Mathlib.Omega.{arith}
use lib.Dec.{eqb, ltb}
use Rattle.word.specs.Word.{Op, load, store, check, Answer, value, done, not_done, says_yes, says_no, put}
use Rattle.word.specs.Calls.{Item, goes, answers, away, Calls, is_store, is_done, decides, go_on}
use Rattle.word.specs.Decides.{decides_in}
use Rattle.word.specs.Records.{item_of, counted, counted_answer, MayBeRefused, Allowed, RightRecord}
use Rattle.word.proofs.Put.{put_same, put_other, put_id}
use Rattle.word.proofs.Items.{item_away}
use Rattle.word.proofs.Stages.{Stage, shut, undecided, decided, loads, stores, checks, is_open, Known, known_put, known_away, known_at, opened_at, known_asks, known_goes, known_done, known_answers, known_answered, gone, closed}
use Rattle.reused.specs.Steps.{same_triple, all_equal, none_stored, stored_of, chosen, hits, hit, passed, renewed, step_at, step_of, idle, first_place, own_steps, told_of, load1, load2, load3}
use Rattle.reused.specs.Steps as steps
use Rattle.reused.specs.Called.{parts_after}
use Rattle.reused.specs.Run.{EntryNote, turned_away, steps_by}
use Rattle.reused_linear.specs.Types.{Process, Triple, Option, Some, Stored, Place, Idle, Load1, Load2, Load3, Store1, Store2, Check1, Own, Outcome, Taken, GoesOn, Value, Done, NotDone, Yes, No, NoProcess, CallOpen, NoCall, Unsound, Kind, Ask, Step, Request, Load, Store, Check, Requested, Stepped, Entry, Announced}
use Rattle.reused_linear.specs.Safe.{Safe}
use Rattle.reused_linear.specs.Demand3.{wants, asked_of, said_of, MayGoOn, MayAnswer, rules}
use Rattle.reused_linear.specs.Claims.{at_choice, OutsideLoad}
use Rattle.reused_linear.proofs.Inv.{Sizes, Loading, Linked, Inv}
use Rattle.reused_linear.proofs.Owners.{tag_safe}
use Rattle.reused_linear.proofs.Readers.{Calm}
use Rattle.reused_linear.proofs.Kept.{idle_place}
use Rattle.reused_linear.proofs.Side.{Sim, triple_same, same_self, equal_all}
use Rattle.reused_linear.proofs.Join.{sim_away, sim_request, sim_1, sim_2, sim_3, sim_done, sim_append, sim_answered, word_test, call_at}

-- where a call of this machine stands at each place
abbrev pub stage_of : Place → Stage
stage_of Idle = shut
stage_of Load1 = undecided 1 loads
stage_of Load2 = undecided 2 loads
stage_of Load3 = undecided 3 loads
stage_of (Store1 bit) = undecided 1 stores
stage_of Store2 = decided 2
stage_of Check1 = undecided 1 checks

abbrev pub stages : (ℕ → Own) → ℕ → Stage
stages own q = stage_of (own q).place

-- what is said of an entry of p at this place that leaves r
abbrev pub note_with : Triple → Process → Place → Kind → Stepped → EntryNote
note_with x p place kind r =
    record {
      outcome = (told_of r.outcome).number;
      process = p.0;
      steps = steps_by place kind r.outcome;
      stored = (told_of r.outcome).value;
      changed = not (same_triple x r.x);
    }

abbrev pub entry_of : Process → Kind → Entry
entry_of p kind = record { process = p; kind = kind }

abbrev pub came : Triple → Process → Place → Kind → Stepped → Item Stored
came x p place kind r = item_of (asked_of (entry_of p kind)) (said_of (note_with x p place kind r))

-- What holds after an entry that leaves r.
pub record Next (n : ℕ) (x : Triple) (own : ℕ → Own) (c : Calls Stored) (p : Process) (kind : Kind) (r : Stepped) (own' : ℕ → Own) : Type 0 where
  pub sim : Sim n r.x own' (go_on 1 c (came x p (own p.0).place kind r))
  pub known : Known n (stages own') (go_on 1 c (came x p (own p.0).place kind r))
  pub right : RightRecord rules n c (asked_of (entry_of p kind)) (said_of (note_with x p (own p.0).place kind r))
  pub changes : not (same_triple x r.x) ≡ decides_in 1 c (came x p (own p.0).place kind r)

-- a place in a call
open_place : (place : Place) → idle place ≡ false → is_open (stage_of place) ≡ true
open_place Idle e = absurd (false≢true (sym e))
open_place Load1 e = refl
open_place Load2 e = refl
open_place Load3 e = refl
open_place (Store1 bit) e = refl
open_place Store2 e = refl
open_place Check1 e = refl

same_x : (x : Triple) → not (same_triple x x) ≡ false
same_x x = ap not (same_self x)

module _ {n : ℕ} {x : Triple} {own : ℕ → Own} {c : Calls Stored} (s : Sim n x own c) (known : Known n (stages own) c) (p : Process) where
  -- An entry that was turned away, for a reason that the record of calls shows.
  away_steps : (kind : Kind) (o : Outcome) → turned_away o ≡ true → steps_by (own p.0).place kind o ≡ 0
  away_steps (Ask request) o e = refl
  away_steps Step o e = rw e

  away_plain : (o : Outcome) → turned_away o ≡ true → (told_of o).value ≡ none_stored
  away_plain Taken e = refl
  away_plain GoesOn e = refl
  away_plain (Value v) e = absurd (false≢true e)
  away_plain Done e = refl
  away_plain NotDone e = refl
  away_plain Yes e = refl
  away_plain No e = refl
  away_plain NoProcess e = refl
  away_plain CallOpen e = refl
  away_plain NoCall e = refl
  away_plain Unsound e = refl

  pub next_away : (kind : Kind) (o : Outcome) → turned_away o ≡ true → Allowed rules n c (asked_of (entry_of p kind)) (told_of o).number away
      → Next n x own c p kind (record { x = x; own = own p.0; outcome = o }) own
  next_away kind o e may =
      let r : Stepped = record { x = x; own = own p.0; outcome = o } in
      let none : came x p (own p.0).place kind r ≡ away = item_away p.0 (wants p kind) (said_of (note_with x p (own p.0).place kind r)) e in
      record {
        sim = subst (λ (i : Item Stored). Sim n x own (go_on 1 c i)) (sym none) (sim_away s 1);
        known = subst (λ (i : Item Stored). Known n (stages own) (go_on 1 c i)) (sym none) (known_away known 1);
        right =
            record {
              process = refl;
              steps = away_steps kind o e ∙ ap (λ (i : Item Stored). (counted rules c i).steps) (sym none);
              value = away_plain o e ∙ ap (λ (i : Item Stored). (counted rules c i).value) (sym none);
              allowed = subst (Allowed rules n c (asked_of (entry_of p kind)) (told_of o).number) (sym none) may;
            };
        changes = same_x x ∙ ap (decides_in 1 c) (sym none);
      }

  module _ (l : p.0 < n) where
    -- one row more at a stage
    staged : (o' : Own) {c' : Calls Stored} → Known n (put p.0 (stage_of o'.place) (stages own)) c' → Known n (stages (put p.0 o' own)) c'
    staged o' k =
        known_put (ap (λ (o : Own). stage_of o.place) (put_same p.0 o' own)) (λ q ne. ap (λ (o : Own). stage_of o.place) (put_other p.0 o' own q ne)) k

    -- A step after which the call goes on.
    next_goes : (x' : Triple) (o' : Own) (b : Bool) → decides 1 c p.0 ≡ b → not (same_triple x x') ≡ b
        → Sim n x' (put p.0 o' own) (gone c p.0 b) → Known n (put p.0 (stage_of o'.place) (stages own)) (go_on 1 c (goes p.0))
        → c.opened p.0 ≡ true → own_steps (own p.0).place ≡ suc (c.steps p.0) → MayGoOn (c.op p.0) (suc (c.steps p.0))
        → Next n x own c p Step (record { x = x'; own = o'; outcome = GoesOn }) (put p.0 o' own)
    next_goes x' o' b d changed sim known' here rank may =
        record {
          sim = subst (λ (t : Bool). Sim n x' (put p.0 o' own) (gone c p.0 t)) (sym d) sim;
          known = staged o' known';
          right = record { process = refl; steps = rank; value = refl; allowed = (l, here, may) };
          changes = changed ∙ sym d;
        }

    -- A step that answers its call.
    next_answers : (o' : Own) (o : Outcome) (a : Answer Stored) → came x p (own p.0).place Step (record { x = x; own = o'; outcome = o }) ≡ answers p.0 a
        → Sim n x (put p.0 o' own) (closed c p.0 a (is_done a)) → Known n (put p.0 (stage_of o'.place) (stages own)) (go_on 1 c (answers p.0 a))
        → c.opened p.0 ≡ true → steps_by (own p.0).place Step o ≡ (counted_answer rules (suc (c.steps p.0)) a).steps
        → (told_of o).value ≡ (counted_answer rules (suc (c.steps p.0)) a).value → MayAnswer (c.op p.0) a (suc (c.steps p.0))
        → Next n x own c p Step (record { x = x; own = o'; outcome = o }) (put p.0 o' own)
    next_answers o' o a e sim known' here rank val may =
        record {
          sim = subst (λ (i : Item Stored). Sim n x (put p.0 o' own) (go_on 1 c i)) (sym e) sim;
          known = staged o' (subst (λ (i : Item Stored). Known n (put p.0 (stage_of o'.place) (stages own)) (go_on 1 c i)) (sym e) known');
          right =
              record {
                process = refl;
                steps = rank ∙ ap (λ (i : Item Stored). (counted rules c i).steps) (sym e);
                value = val ∙ ap (λ (i : Item Stored). (counted rules c i).value) (sym e);
                allowed = subst (Allowed rules n c (asked_of (entry_of p Step)) (told_of o).number) (sym e) (l, here, may);
              };
          changes = same_x x ∙ ap (decides_in 1 c) (sym e);
        }

    calm_at : (place place' : Place) → (own p.0).place ≡ place → OutsideLoad place → OutsideLoad place' → Calm (own p.0) (steps.at (own p.0) place')
    calm_at place place' e b h = record { named = refl; old = refl; check = refl; before = subst OutsideLoad (sym e) b; behind = h }

    -- Requests.
    taken : (request : Request) → (own p.0).place ≡ Idle
        → Next n x own c p (Ask request) (record { x = x; own = steps.at (own p.0) (first_place request); outcome = Taken }) (put p.0 (steps.at (own p.0) (first_place request)) own)
    taken Load e =
        record {
          sim = sim_request s p l 1 load (steps.at (own p.0) Load1) (calm_at Idle Load1 e tt tt) (λ und. und);
          known = staged (steps.at (own p.0) Load1) (known_asks known 1 p.0 l 0 load loads refl);
          right = record { process = refl; steps = refl; value = refl; allowed = (l, opened_at known 1 p.0 l (ap stage_of e)) };
          changes = same_x x;
        }
    taken (Store bit) e =
        record {
          sim = sim_request s p l 1 (store (record { process = p; bit = bit })) (steps.at (own p.0) (Store1 bit)) (calm_at Idle (Store1 bit) e tt tt) (λ und. und);
          known = staged (steps.at (own p.0) (Store1 bit)) (known_asks known 1 p.0 l 0 (store (record { process = p; bit = bit })) stores refl);
          right = record { process = refl; steps = refl; value = refl; allowed = (l, opened_at known 1 p.0 l (ap stage_of e)) };
          changes = same_x x;
        }
    taken Check e =
        record {
          sim = sim_request s p l 1 check (steps.at (own p.0) Check1) (calm_at Idle Check1 e tt tt) (λ und. und);
          known = staged (steps.at (own p.0) Check1) (known_asks known 1 p.0 l 0 check checks refl);
          right = record { process = refl; steps = refl; value = refl; allowed = (l, opened_at known 1 p.0 l (ap stage_of e)) };
          changes = same_x x;
        }

    pub next_request : (request : Request) (looked : Option Announced) (m : ℕ)
        → Next n x own c p (Ask request) (parts_after n m p x (own p.0) looked (Ask request)) (put p.0 (parts_after n m p x (own p.0) looked (Ask request)).own own)
    next_request request looked m = go (idle (own p.0).place) refl
      where
        begun : Requested
        begun = record { own = steps.at (own p.0) (first_place request); outcome = Taken }

        as_was_lem : Requested
        as_was_lem = record { own = own p.0; outcome = CallOpen }

        left : Bool → Stepped
        left t = record { x = x; own = (cond t begun as_was_lem).own; outcome = (cond t begun as_was_lem).outcome }

        refused : (request : Request) → c.opened p.0 ≡ true → MayBeRefused rules (c.opened p.0) (wants p (Ask request)) 12
        refused Load h = (refl, h)
        refused (Store bit) h = (refl, h)
        refused Check h = (refl, h)

        go : (t : Bool) → idle (own p.0).place ≡ t → Next n x own c p (Ask request) (left t) (put p.0 (left t).own own)
        go true e = taken request (idle_place (own p.0).place e)
        go false e =
            subst (Next n x own c p (Ask request) (left false)) (sym (put_id p.0 own))
            (next_away (Ask request) CallOpen refl (inr (l, refused request (known.opens p.0 l ∙ open_place (own p.0).place e))))

    -- a call that asks so and stands before its own step of that rank
    rank_is : {place : Place} → (own p.0).place ≡ place → suc (c.steps p.0) ≡ own_steps place → own_steps (own p.0).place ≡ suc (c.steps p.0)
    rank_is e f = ap own_steps e ∙ sym f

    no_store : is_store (c.op p.0) ≡ false → decides 1 c p.0 ≡ false
    no_store e = ap (λ (t : Bool). t && eqb (suc (c.steps p.0)) 1) e

    -- Steps 1 and 2 of a load.
    load_goes : (place : Place) (k : ℕ) (o' : Own) → (own p.0).place ≡ place → stage_of place ≡ undecided k loads → own_steps place ≡ k → k ≤ 2 → stage_of o'.place ≡ undecided (suc k) loads
        → Sim n x (put p.0 o' own) (gone c p.0 false) → Next n x own c p Step (record { x = x; own = o'; outcome = GoesOn }) (put p.0 o' own)
    load_goes place k o' e at-k rank low at_next sim =
        let here = ap stage_of e ∙ at-k in
        let (o, asked, fresh) = known_at known 1 p.0 l here in
        let quiet : decides 1 c p.0 ≡ false = no_store (ap is_store asked) in
        next_goes x o' false quiet (same_x x) sim
        (subst (λ (g : Stage). Known n (put p.0 g (stages own)) (go_on 1 c (goes p.0))) (sym at_next) (known_goes known 1 p.0 l here quiet))
        (opened_at known 1 p.0 l here) (rank_is e (o.counted ∙ sym rank)) (subst (λ (i : Op Stored). MayGoOn i (suc (c.steps p.0))) (sym asked) (omega (arith, o.counted, low)))

    -- Step 3.
    step_3 : (own p.0).place ≡ Load3 → (w : Triple) × ((own p.0).old ≡ Some w) → Next n x own c p Step (load3 x (own p.0)) (put p.0 (load3 x (own p.0)).own own)
    step_3 e has =
        let (o, asked, fresh) = known_at known 1 p.0 l (ap stage_of e) in
        next_answers (load3 x (own p.0)).own (Value (stored_of (own p.0).old)) (value (stored_of (own p.0).old)) refl (sim_3 s p l e has)
        (known_answers known 1 p.0 l (value (stored_of (own p.0).old)) refl (ap stage_of e)) (opened_at known 1 p.0 l (ap stage_of e)) (rank_is e o.counted) refl (asked, o.counted)

    -- The first step of a store.
    store_kind : {k : ℕ} (o : Op Stored) → is_store o ≡ true → k ≡ 1 → MayGoOn o k
    store_kind load e f = absurd (false≢true e)
    store_kind (store v) e f = f
    store_kind check e f = absurd (false≢true e)

    first_done : (bit : Bool) → (own p.0).place ≡ Store1 bit → all_equal x (own p.0) ≡ true
        → ((q : ℕ) → q < n → Linked (own q) (record { tag = (own p.0).tag; process = p; bit = bit }) → ⊥)
        → Next n x own c p Step (record { x = record { tag = (own p.0).tag; process = p; bit = bit }; own = steps.at (own p.0) Store2; outcome = GoesOn }) (put p.0 (steps.at (own p.0) Store2) own)
    first_done bit e equal fresh =
        let (o, asked, mine) = known_at known 1 p.0 l (ap stage_of e) in
        let decides-it : decides 1 c p.0 ≡ true = rw (asked, o.counted) in
        next_goes x' (steps.at (own p.0) Store2) true decides-it (ap not changed) (sim_done s p l bit e equal fresh) (known_done known 1 p.0 l (ap stage_of e) decides-it)
        (opened_at known 1 p.0 l (ap stage_of e)) (rank_is e o.counted) (store_kind (c.op p.0) asked o.counted)
      where
        x' : Triple
        x' = record { tag = (own p.0).tag; process = p; bit = bit }

        linked : Linked (own p.0) x
        linked = let (old, same) = equal_all x (own p.0) equal in record { still = subst OutsideLoad (sym e) tt; old = old; check = same }

        changed : same_triple x x' ≡ false
        changed = go (same_triple x x') refl
          where
            go : (t : Bool) → same_triple x x' ≡ t → t ≡ false
            go true f = absurd (fresh p.0 l (subst (Linked (own p.0)) (triple_same x x' f) linked))
            go false f = refl

    first_not_done : (bit : Bool) → (own p.0).place ≡ Store1 bit → all_equal x (own p.0) ≡ false
        → Next n x own c p Step (record { x = x; own = steps.at (own p.0) Idle; outcome = NotDone }) (put p.0 (steps.at (own p.0) Idle) own)
    first_not_done bit e equal =
        let (o, asked, mine) = known_at known 1 p.0 l (ap stage_of e) in
        next_answers (steps.at (own p.0) Idle) NotDone not_done refl
        (sim_append s p l (store (record { process = p; bit = bit })) not_done (steps.at (own p.0) Idle) refl (calm_at (Store1 bit) Idle e tt tt) tt refl (call_at s p l e)
        (ap (λ (b : Bool). cond b done not_done) (word_test s p l (subst OutsideLoad (sym e) tt) ∙ equal)))
        (known_answers known 1 p.0 l not_done refl (ap stage_of e)) (opened_at known 1 p.0 l (ap stage_of e)) (rank_is e o.counted) refl (asked, o.counted)

    -- The second.
    second : (o' : Own) → (own p.0).place ≡ Store2 → o'.named ≡ (own p.0).named → o'.old ≡ (own p.0).old → o'.check ≡ (own p.0).check
        → Next n x own c p Step (record { x = x; own = steps.at o' Idle; outcome = Done }) (put p.0 (steps.at o' Idle) own)
    second o' e named old chk =
        let (o, asked, mine) = known_at known 1 p.0 l (ap stage_of e) in
        next_answers (steps.at o' Idle) Done done refl
        (sim_answered s p l (steps.at o' Idle) refl (record { named = named; old = old; check = chk; before = subst OutsideLoad (sym e) tt; behind = tt }))
        (known_answered known 1 p.0 l (ap stage_of e)) (opened_at known 1 p.0 l (ap stage_of e)) (rank_is e o.counted) refl (asked, o.counted)

    -- A check.
    checked : (own p.0).place ≡ Check1
        → Next n x own c p Step (record { x = x; own = steps.at (own p.0) Idle; outcome = cond (all_equal x (own p.0)) Yes No }) (put p.0 (steps.at (own p.0) Idle) own)
    checked e = go (all_equal x (own p.0)) refl
      where
        word_says : (t : Bool) → all_equal x (own p.0) ≡ t → (a : Answer Stored) → cond t says_yes says_no ≡ a
            → Sim n x (put p.0 (steps.at (own p.0) Idle) own) (closed c p.0 a false)
        word_says t equal a is =
            sim_append s p l check a (steps.at (own p.0) Idle) refl (calm_at Check1 Idle e tt tt) tt refl (call_at s p l e)
            (ap (λ (b : Bool). cond b says_yes says_no) (word_test s p l (subst OutsideLoad (sym e) tt) ∙ equal) ∙ is)

        go : (t : Bool) → all_equal x (own p.0) ≡ t
            → Next n x own c p Step (record { x = x; own = steps.at (own p.0) Idle; outcome = cond t Yes No }) (put p.0 (steps.at (own p.0) Idle) own)
        go true equal =
            let (o, asked, mine) = known_at known 1 p.0 l (ap stage_of e) in
            next_answers (steps.at (own p.0) Idle) Yes says_yes refl (word_says true equal says_yes refl) (known_answers known 1 p.0 l says_yes refl (ap stage_of e))
            (opened_at known 1 p.0 l (ap stage_of e)) (rank_is e o.counted) refl (asked, o.counted)
        go false equal =
            let (o, asked, mine) = known_at known 1 p.0 l (ap stage_of e) in
            next_answers (steps.at (own p.0) Idle) No says_no refl (word_says false equal says_no refl) (known_answers known 1 p.0 l says_no refl (ap stage_of e))
            (opened_at known 1 p.0 l (ap stage_of e)) (rank_is e o.counted) refl (asked, o.counted)

    -- The next step of p, whichever it is: a load past its first step has an old, and nobody is linked to what a store will put into X.
    pub next_step : (m : ℕ) (looked : Option Announced) → (Loading (own p.0).place → (w : Triple) × ((own p.0).old ≡ Some w))
        → ((bit : Bool) → (own p.0).place ≡ Store1 bit → (q : ℕ) → q < n → Linked (own q) (record { tag = (own p.0).tag; process = p; bit = bit }) → ⊥)
        → Next n x own c p Step (step_of n m p x (own p.0) looked) (put p.0 (step_of n m p x (own p.0) looked).own own)
    unfolding chosen
    next_step m looked has fresh = go (own p.0).place refl
      where
        left : Bool → Bool → Stepped
        left bit t =
            cond t (record { x = record { tag = (own p.0).tag; process = p; bit = bit }; own = steps.at (own p.0) Store2; outcome = GoesOn })
            (record { x = x; own = steps.at (own p.0) Idle; outcome = NotDone })

        stored : (bit : Bool) → (own p.0).place ≡ Store1 bit → (t : Bool) → all_equal x (own p.0) ≡ t
            → Next n x own c p Step (left bit t) (put p.0 (left bit t).own own)
        stored bit e true f = first_done bit e f (fresh bit e)
        stored bit e false f = first_not_done bit e f

        kept : (P : Own → Type 0) → P (hit n m (own p.0)) → P (passed m (own p.0)) → P (renewed n m (own p.0)) → P (chosen n m p (own p.0) looked)
        kept P a b d = choice (hits n m p (own p.0) looked) (ltb ((own p.0).search.0 + 1) n)
          where
            choice : (t u : Bool) → P (cond t (hit n m (own p.0)) (cond u (passed m (own p.0)) (renewed n m (own p.0))))
            choice true u = a
            choice false true = b
            choice false false = d

        go : (place : Place) → (own p.0).place ≡ place → Next n x own c p Step (step_at n m p x (own p.0) looked place) (put p.0 (step_at n m p x (own p.0) looked place).own own)
        go Idle e =
            subst (Next n x own c p Step (record { x = x; own = own p.0; outcome = NoCall })) (sym (put_id p.0 own))
            (next_away Step NoCall refl (inr (l, (refl, opened_at known 1 p.0 l (ap stage_of e)))))
        go Load1 e = load_goes Load1 1 (load1 x (own p.0)).own e refl refl (omega arith) refl (sim_1 s p l e)
        go Load2 e = load_goes Load2 2 (load2 x (own p.0)).own e refl refl (omega arith) refl (sim_2 s p l e)
        go Load3 e = step_3 e (has (subst Loading (sym e) tt))
        go (Store1 bit) e = stored bit e (all_equal x (own p.0)) refl
        go Store2 e =
            second (chosen n m p (own p.0) looked) e (kept (λ o. o.named ≡ (own p.0).named) refl refl refl) (kept (λ o. o.old ≡ (own p.0).old) refl refl refl) (kept (λ o. o.check ≡ (own p.0).check) refl refl refl)
        go Check1 e = checked e

-- The tag that a store is about to use is one that nobody is linked to: (W1) at its arc's first number.
pub fresh_tag : {N D M : ℕ} {x : Triple} {own : ℕ → Own} {safe : ℕ → Safe} {hs : ℕ → List ℕ} → Sizes N D M → Inv N D M x own safe hs → (p : Process) → p.0 < N → (bit : Bool)
    → (own p.0).place ≡ Store1 bit → (q : ℕ) → q < N → Linked (own q) (record { tag = (own p.0).tag; process = p; bit = bit }) → ⊥
fresh_tag {N} {D} {M} {x} {own} {safe} sizes inv p l bit e q k linked =
    let n = inv.nums p.0 l in
    let unused = (inv.pairs p.0 l q k).unused (record { tag = (own p.0).tag; process = p; bit = bit }) linked refl (omega (arith, ap at_choice e)) in
    omega (arith, unused, tag_safe sizes n)
