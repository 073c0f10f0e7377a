-- The table of numbers, by its conditions and in its order, is what a direct call comes to.
use Prim.Native.Nat.{ℕ, ◌+◌, ◌≤◌, ◌<◌}
use mathlib.Core.Path.{◌≡◌, refl, sym, ap, ◌∙◌}
use mathlib.Core.Bool.{Bool, true, false, cond, false≢true}
use native.Mathlib.Omega.{arith}
use native.Mathlib.Decide.{dec_lt}
use lib.Dec.{leb, ltb}
use lib.ListN.{length, get_or-eq_default}
use borrow.Author.Tests.{le-leb, ltb-true}
use Rattle.numbers.proofs.Range.{range_of}
use Rattle.machine.specs.Types.{Process, Tag, Record, Place, Idle, Load1, Load2, Load3, Load5, Store7, Store8, Store9, Store10, Check14, Kind, Ask, Step, Request, Load, Store, Check, Outcome, Value, NotDone, Yes, No, NoProcess, CallOpen, UsedUp, Unsound, Stepped, State, Answer}
use Rattle.step.specs.Steps.{is_near, same_tag, at, goes_on, answered, step_at, step_of, reached, reached_at, largest_next, idle, request_of, when_idle, begun, not_taken, told_of}
use Rattle.machine.specs.State.{sound, row_at, record_at, no_record}
use Rattle.machine.specs.Entry.{with_entry, refused, entered, called}
use Rattle.machine.specs.Run.{steps_by, mark_by, note_of}
use Rattle.machine.specs.Numbers.{Numbers, numbers, no_steps, of_request, of_load, of_step, of_kind, numbers_of, numbers_in}
use Rattle.machine.proofs.Soundness.{sound_of}
use Rattle.machine.proofs.Writers.{record_same}

-- what the log says of an outcome, by the place before the entry, and by X and the kept tag after it
abbrev logged : Place → Kind → Outcome → Tag → Tag → Numbers
logged place kind o x kept = numbers (told_of o).number (steps_by place kind o) (mark_by (told_of o).number x kept) (told_of o).value

-- an entry that is not looked at further
absent : (place : Place) (kind : Kind) (x kept : Tag) → logged place kind NoProcess x kept ≡ no_steps 11
absent place (Ask request) x kept = refl
absent place Step x kept = refl

unsound : (place : Place) (kind : Kind) (x kept : Tag) → logged place kind Unsound x kept ≡ no_steps 15
unsound place (Ask request) x kept = refl
unsound place Step x kept = refl

module _ (st : State) (p : Process) where
  abbrev own : Record
  own = record_at st p.0

  request_numbers : (x kept : Tag) (request : Request)
      → logged (record_at st p.0).place (Ask request) (request_of st.s (record_at st p.0) request).outcome x kept ≡ of_kind st p (Ask request)
  unfolding request_of
  request_numbers x kept request = by_idle (idle own.place)
    where
      by_room : (v : ℕ) (b : Bool) → logged own.place (Ask (Store v)) (cond b (begun own (Store7 v)) (not_taken own UsedUp)).outcome x kept ≡ cond b (no_steps 0) (no_steps 13)
      by_room v true = refl
      by_room v false = refl

      by_request : (r : Request) → logged own.place (Ask r) (when_idle st.s own r).outcome x kept ≡ of_request st p r
      by_request Load = refl
      by_request (Store v) = by_room v (leb own.next.0 st.s.0)
      by_request Check = refl

      by_idle : (b : Bool) → logged own.place (Ask request) (cond b (when_idle st.s own request) (not_taken own CallOpen)).outcome x kept ≡ cond b (of_request st p request) (no_steps 12)
      by_idle true = by_request request
      by_idle false = refl

  -- the step at a place
  abbrev stepped : Place → Stepped
  stepped place = step_at p st.x (record_at st p.0) (row_at st (reached_at p (record_at st p.0).kept place).0) place

  -- The kept tag after a step counts only where a load is answered.
  step_numbers : (kept : Tag) (place : Place) → (idle place ≡ false → kept ≡ (stepped place).own.kept)
      → logged place Step (stepped place).outcome (stepped place).x kept ≡ of_step st (record_at st p.0) (row_at st (record_at st p.0).kept.process.0) place
  step_numbers kept Idle h = refl
  step_numbers kept Load1 h = refl
  step_numbers kept Load2 h = refl
  step_numbers kept (Load3 v) h = go (is_near (row_at st own.kept.process.0).old_number own.kept.number.0) (h refl)
    where
      left : Bool → Stepped
      left b = cond b (answered st.x own (row_at st own.kept.process.0) (Value v)) (goes_on st.x (at own Load5) (row_at st own.kept.process.0))

      go : (b : Bool) → kept ≡ (left b).own.kept
          → logged (Load3 v) Step (left b).outcome (left b).x kept ≡ cond b (of_load st (record_at st p.0) 3 v) (numbers 1 3 0 0)
      go true e = ap (λ (k : Tag). numbers 2 3 (mark_by 2 st.x k) v) e
      go false e = refl
  step_numbers kept Load5 h = ap (λ (k : Tag). numbers 2 4 (mark_by 2 st.x k) (row_at st own.kept.process.0).old_value) (h refl)
  step_numbers kept (Store7 v) h = refl
  step_numbers kept Store8 h = go (same_tag st.x own.kept)
    where
      left : Bool → Stepped
      left b =
          cond b
          (goes_on (record { process = p; number = own.next }) (record { kept = own.kept; next = record { 0 = own.next.0 + 1 }; place = Store9 }) (row_at st p.0))
          (answered st.x own (row_at st p.0) NotDone)

      go : (b : Bool) → logged Store8 Step (left b).outcome (left b).x kept ≡ cond b (numbers 1 2 0 0) (numbers 4 2 0 0)
      go true = refl
      go false = refl
  step_numbers kept Store9 h = refl
  step_numbers kept Store10 h = refl
  step_numbers kept Check14 h = go (same_tag st.x own.kept)
    where
      go : (b : Bool) → logged Check14 Step (cond b Yes No) st.x kept ≡ cond b (numbers 5 1 0 0) (numbers 6 1 0 0)
      go true = refl
      go false = refl

  -- a process in a call has a record
  record_there : idle (record_at st p.0).place ≡ false → p.0 < length st.records
  record_there busy = go (dec_lt p.0 (length st.records))
    where
      go : Dec (p.0 < length st.records) → p.0 < length st.records
      go (yes l) = l
      go (no ge) = absurd (false≢true (sym busy ∙ ap (λ (r : Record). idle r.place) (get_or-eq_default st.records no_record (omega (arith, ge)))))

  kind_numbers : (kind : Kind) → (record_at st p.0).next.0 ≤ largest_next
      → logged (record_at st p.0).place kind (entered st p kind).outcome (entered st p kind).state.x (record_at (entered st p kind).state p.0).kept ≡ of_kind st p kind
  unfolding entered step_of
  kind_numbers (Ask request) l = request_numbers st.x (record_at (entered st p (Ask request)).state p.0).kept request
  kind_numbers Step l =
      rw (le-leb own.next.0 largest_next l)
      (step_numbers (record_at (with_entry st p (reached p own) (stepped own.place)) p.0).kept own.place (λ busy. ap (λ (r : Record). r.kept) (record_same st p (reached_at p own.kept own.place) (stepped own.place) (record_there busy))))

pub numbers_in_order : (st : State) (p : Process) (kind : Kind) → numbers_in (note_of st (record { process = p; kind = kind })) ≡ numbers_of st p kind
unfolding called
numbers_in_order st p kind = outer (sound st) refl
  where
    said : Answer → Numbers
    said a = logged (record_at st p.0).place kind a.outcome a.state.x (record_at a.state p.0).kept

    inner : (b : Bool) → ltb p.0 st.n ≡ b → sound st ≡ true → said (cond b (entered st p kind) (refused st NoProcess)) ≡ cond b (of_kind st p kind) (no_steps 11)
    inner true t e =
        let sure = sound_of st e in
        let high = (sure.each p.0 (ltb-true _ _ t)).high in
        let last = (range_of st.n st.s sure.range).last in
        kind_numbers st p kind (omega (arith, high, last))
    inner false t e = absent (record_at st p.0).place kind st.x (record_at st p.0).kept

    outer : (b : Bool) → sound st ≡ b
        → said (cond b (cond (ltb p.0 st.n) (entered st p kind) (refused st NoProcess)) (refused st Unsound))
        ≡ cond b (cond (ltb p.0 st.n) (of_kind st p kind) (no_steps 11)) (no_steps 15)
    outer true e = inner (ltb p.0 st.n) refl e
    outer false e = unsound (record_at st p.0).place kind st.x (record_at st p.0).kept
