-- Every value in the log of a run is below a bound, if the first value and every value that is asked to be stored are.
-- Assumes nothing.
use Prim.Native.Nat.{ℕ, zero, suc, ◌<◌}
use mathlib.Core.Path.{◌≡◌, refl}
use mathlib.Core.Bool.{Bool, true, false, cond}
use mathlib.Core.List.{List, [], ◌∷◌}
use native.Mathlib.Omega.{arith}
use lib.Dec.{leb, ltb}
use lib.IntN.{ℤ, pos, negsuc}
use lib.ListN.{length, get_or, set, replicate}
use borrow.Author.Tests.{ltb-true}
use Rattle.numbers.specs.Numbers.{in_range}
use Rattle.machine.specs.Types.{Process, Sequence, Tag, Row, Record, Place, Idle, Load1, Load2, Load3, Load5, Store7, Store8, Store9, Store10, Check14, Request, Load, Store, Check, Kind, Ask, Step, Entry, Outcome, NoProcess, Requested, Stepped, State, Answer}
use Rattle.step.specs.Steps.{is_near, same_tag, step_at, step_of, largest_next, idle, request_of, when_idle, told_of}
use Rattle.machine.specs.State.{row_at, record_at, first_row, first_state}
use Rattle.machine.specs.Entry.{with_parts, parts_after, refused, entered}
use Rattle.machine.specs.Frame.{Ready}
use Rattle.machine.specs.Run.{EntryNote, played, notes}
use Rattle.machine.proofs.Soundness.{within_sixteen}
use Rattle.machine.proofs.Frame.{given, left}
use Rattle.machine.proofs.Writers.{row_by, record_by}
use Rattle.machine.proofs.RunLaws.{ready_start, ready_played, played_ready}

-- The value that an entry brings, if it asks for a store, is below B; and so for each of a list.
abbrev pub SmallKind : ℕ → Kind → Type 0
SmallKind B (Ask Load) = Unit {0}
SmallKind B (Ask (Store v)) = v < B
SmallKind B (Ask Check) = Unit {0}
SmallKind B Step = Unit {0}

abbrev pub SmallEntries : ℕ → List Entry → Type 0
SmallEntries B [] = Unit {0}
SmallEntries B (e ∷ es) = SmallKind B e.kind × SmallEntries B es

-- The value that a call carries at its place is below B.
abbrev SmallPlace : ℕ → Place → Type 0
SmallPlace B Idle = Unit {0}
SmallPlace B Load1 = Unit {0}
SmallPlace B Load2 = Unit {0}
SmallPlace B (Load3 v) = v < B
SmallPlace B Load5 = Unit {0}
SmallPlace B (Store7 v) = v < B
SmallPlace B Store8 = Unit {0}
SmallPlace B Store9 = Unit {0}
SmallPlace B Store10 = Unit {0}
SmallPlace B Check14 = Unit {0}

-- All values are below B: of a row, of a state, of what an entry leaves and says.
record SmallRow (B : ℕ) (row : Row) : Type 0 where
  slots : (i : ℕ) → get_or row.slots i 0 < B
  old : row.old_value < B

record Small (B : ℕ) (st : State) : Type 0 where
  row : (j : ℕ) → SmallRow B (row_at st j)
  place : (j : ℕ) → SmallPlace B (record_at st j).place

record SmallParts (B : ℕ) (m : Stepped) : Type 0 where
  row : SmallRow B m.row
  place : SmallPlace B m.own.place
  shown : (told_of m.outcome).value < B

record SmallAnswer (B : ℕ) (a : Answer) : Type 0 where
  state : Small B a.state
  shown : (told_of a.outcome).value < B

-- what holds of both results of a test holds of its result
either : {A : Type 0} (P : A → Type 0) (b : Bool) {m m' : A} → P m → P m' → P (cond b m m')
either P true h h' = h
either P false h h' = h'

-- a slot after one was written
slot_by : (B : ℕ) (l : List ℕ) (k v : ℕ) → v < B → ((i : ℕ) → get_or l i 0 < B) → (i : ℕ) → get_or (set l k v) i 0 < B
slot_by B [] k v h all i = all i
slot_by B (u ∷ l) zero v h all zero = h
slot_by B (u ∷ l) zero v h all (suc i) = all (suc i)
slot_by B (u ∷ l) (suc k) v h all zero = all 0
slot_by B (u ∷ l) (suc k) v h all (suc i) = slot_by B l k v h (λ j. all (suc j)) i

module _ (B : ℕ) (some : 0 < B) (s : Sequence) (p : Process) (x : Tag) (own : Record) (row : Row) (small : SmallRow B row) (mine : SmallPlace B own.place) where
  -- the row handed back as it was
  same : {x' : Tag} {own' : Record} {outcome : Outcome} → SmallPlace B own'.place → (told_of outcome).value < B
      → SmallParts B (record { x = x'; own = own'; row = row; outcome = outcome })
  same place shown = record { row = small; place = place; shown = shown }

  -- A step leaves small values where it was given such ..
  step_small : (place : Place) → SmallPlace B place → SmallParts B (step_at p x own row place)
  step_small Idle h = same mine some
  step_small Load1 h = same tt some
  step_small Load2 h = same (small.slots _) some
  step_small (Load3 v) h = either (SmallParts B) (is_near row.old_number own.kept.number.0) (same tt h) (same tt some)
  step_small Load5 h = same tt small.old
  step_small (Store7 v) h = record { row = record { slots = slot_by B row.slots _ v h small.slots; old = small.old }; place = tt; shown = some }
  step_small Store8 h = either (SmallParts B) (same_tag x own.kept) (same tt some) (same tt some)
  step_small Store9 h = record { row = record { slots = small.slots; old = small.slots _ }; place = tt; shown = some }
  step_small Store10 h = record { row = record { slots = small.slots; old = small.old }; place = tt; shown = some }
  step_small Check14 h = same tt (either (λ o. (told_of o).value < B) (same_tag x own.kept) some some)

  -- a request's record and outcome with what it does not reach
  abbrev Left : Requested → Type 0
  Left r = SmallParts B (with_parts x row r)

  -- .. so does a request to an idle process ..
  idle_small : (request : Request) → SmallKind B (Ask request) → Left (when_idle s own request)
  idle_small Load h = same tt some
  idle_small (Store v) h = either Left (leb own.next.0 s.0) (same h some) (same mine some)
  idle_small Check h = same tt some

  -- .. and so any entry.
  parts_small : (kind : Kind) → SmallKind B kind → SmallParts B (parts_after s p x own row kind)
  unfolding request_of step_of
  parts_small (Ask request) h = either Left (idle own.place) (idle_small request h) (same mine some)
  parts_small Step h = either (SmallParts B) (leb own.next.0 largest_next) (step_small own.place mine) (same mine some)

-- what holds of the first, of the others and of what stands past them
start_by : {A : Type 0} (P : A → Type 0) (n : ℕ) {a b d : A} → P a → P b → P d → (j : ℕ) → P (get_or (a ∷ replicate n b) j d)
start_by P n h k z zero = h
start_by P zero h k z (suc j) = z
start_by P (suc n) h k z (suc j) = start_by P n k k z j

module _ (B : ℕ) (some : 0 < B) where
  start_small : (n : ℕ) (s : Sequence) (v : ℕ) → v < B → Small B (first_state n s v)
  start_small n s v h =
      record {
        row = start_by (SmallRow B) 15 (first (pos 0)) (first (negsuc 0)) (record { slots = λ i. some; old = some });
        place = start_by (λ (own : Record). SmallPlace B own.place) 15 tt tt tt;
      }
    where
      first : (o : ℤ) → SmallRow B (first_row v o)
      first o = record { slots = start_by (λ u. u < B) 1 h h some; old = h }

  -- An entry keeps all values small, and says a small one.
  entered_small : (st : State) (p : Process) (kind : Kind) → Ready st → p.0 < st.n → SmallKind B kind → Small B st → SmallAnswer B (entered st p kind)
  unfolding entered
  entered_small st p kind ready below brings h =
      let q = given st p kind in
      let m = left st p kind in
      let few = within_sixteen st p kind ready.tested below in
      let parts = parts_small B some st.s p st.x (record_at st p.0) (row_at st q.0) (h.row q.0) (h.place p.0) kind brings in
      record {
        state = record {
          row = λ j. row_by st p q m (SmallRow B) parts.row j (h.row j) (omega (arith, few, ready.full.rows));
          place = λ j. record_by st p q m (λ own. SmallPlace B own.place) parts.place j (h.place j) (omega (arith, few, ready.full.records));
        };
        shown = parts.shown;
      }

  played_small : (st : State) (e : Entry) → Ready st → SmallKind B e.kind → Small B st → SmallAnswer B (played st e)
  played_small st e ready brings h = rw (played_ready st e ready) (go (ltb e.process.0 st.n) refl)
    where
      go : (b : Bool) → ltb e.process.0 st.n ≡ b → SmallAnswer B (cond b (entered st e.process e.kind) (refused st NoProcess))
      go true t = entered_small st e.process e.kind ready (ltb-true _ _ t) brings h
      go false t = record { state = h; shown = some }

  -- A run goes on from state to state, each small.
  notes_small : (st : State) (es : List Entry) → Ready st → Small B st → SmallEntries B es
      → (i : ℕ) (none : EntryNote) → i < length (notes st es) → (get_or (notes st es) i none).value < B
  unfolding notes
  notes_small st [] ready h brings i none l = absurd (omega arith)
  notes_small st (e ∷ es) ready h brings zero none l = (played_small st e ready brings.0 h).shown
  notes_small st (e ∷ es) ready h brings (suc i) none l =
      notes_small (played st e).state es (ready_played st e ready) (played_small st e ready brings.0 h).state brings.1 i none (omega arith)

pub values_below : (B : ℕ) → 0 < B → (n : ℕ) (s : Sequence) (v : ℕ) → in_range n s ≡ true → v < B → (es : List Entry) → SmallEntries B es
    → (i : ℕ) (none : EntryNote) → i < length (notes (first_state n s v) es) → (get_or (notes (first_state n s v) es) i none).value < B
values_below B some n s v e h es brings = notes_small B some (first_state n s v) es (ready_start n s v e) (start_small B some n s v h) brings
