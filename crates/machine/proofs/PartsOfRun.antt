-- On the state of a run, an entry over small parts is the entry: what it leaves, put back, is the state after it.
use Prim.Native.Nat.{◌<◌}
use mathlib.Core.Path.{◌≡◌, refl, ◌∙◌}
use mathlib.Core.Bool.{Bool, true, false, cond}
use native.Mathlib.Omega.{arith}
use lib.Dec.{ltb}
use lib.Seq.{set-get_or}
use borrow.Author.Tests.{ltb-true}
use Rattle.machine.specs.Types.{Process, Entry, Kind, Ask, Step, NoProcess, State}
use Rattle.numbers.proofs.Range.{range_of}
use Rattle.step.specs.Steps.{reached, as_was}
use Rattle.machine.specs.State.{row_at, record_at}
use Rattle.machine.specs.Entry.{parts_after, answer_with, refused, entered}
use Rattle.machine.specs.Parts.{seat_of, played_parts}
use Rattle.machine.specs.Frame.{Ready}
use Rattle.machine.specs.Run.{played}
use Rattle.machine.proofs.Soundness.{row_below, sure}
use Rattle.machine.proofs.RunLaws.{played_ready}

-- the seat of an entry, and the row that a step of it would reach. A request is given that row too, and hands it back as it was.
abbrev pub seat : State → Entry → Process
seat st e = seat_of st.n e.process

abbrev pub reach : State → Entry → Process
reach st e = reached (seat st e) (record_at st (seat st e).0)

pub played_by_parts : (st : State) (e : Entry) → Ready st
    → played st e ≡ answer_with st (seat st e) (reach st e) (played_parts st.n st.s e.process st.x (record_at st (seat st e).0) (row_at st (reach st e).0) e.kind)
unfolding played_parts entered
played_by_parts st e h = played_ready st e h ∙ go (ltb e.process.0 st.n) e.kind
  where
    at : Bool → Process
    at b = cond b e.process (record { 0 = 0 })

    row : Bool → Process
    row b = reached (at b) (record_at st (at b).0)

    go : (b : Bool) (kind : Kind)
        → cond b (entered st e.process kind) (refused st NoProcess)
        ≡ answer_with st (at b) (row b)
        (cond b (parts_after st.s e.process st.x (record_at st (at b).0) (row_at st (row b).0) kind) (as_was st.x (record_at st (at b).0) (row_at st (row b).0) NoProcess))
    go true (Ask request) = rw (set-get_or, set-get_or)
    go true Step = refl
    go false kind = rw (set-get_or, set-get_or)

-- Seat and row are among those below N, and so among the 16.
module _ (st : State) (e : Entry) (h : Ready st) where
  seat_below : (seat st e).0 < st.n
  seat_below = go (ltb e.process.0 st.n) refl
    where
      go : (b : Bool) → ltb e.process.0 st.n ≡ b → (cond {A = Process} b e.process (record { 0 = 0 })).0 < st.n
      go true t = ltb-true e.process.0 st.n t
      go false t = (range_of st.n st.s (sure h).range).some

  reach_below : (reach st e).0 < st.n
  reach_below = row_below (seat st e) (record_at st (seat st e).0) st.n seat_below ((sure h).each (seat st e).0 seat_below).kept.owner

  pub seat_within : (seat st e).0 < 16
  seat_within = omega (arith, seat_below, (range_of st.n st.s (sure h).range).few)

  pub reach_within : (reach st e).0 < 16
  reach_within = omega (arith, reach_below, (range_of st.n st.s (sure h).range).few)
