-- Lines printed one behind the other into a lent part, as far as there is room for them; and that parts filled one after another make the
-- whole text.
-- Assumes nothing.
use Prim.Native.Nat.{ℕ, zero, suc, ◌+◌, ◌-◌, ◌≤◌, ◌<◌}
use mathlib.Core.Path.{◌≡◌, sym, ap, ◌∙◌}
use mathlib.Core.Bool.{Bool, true, false, cond}
use mathlib.Core.List.{List, ◌++◌, append_assoc, append-nil}
use native.Mathlib.Nat.{add-zero}
use native.Mathlib.Omega.{arith}
use borrow.Author.Tests.{le-leb, lt-leb}
use lib.Dec.{leb}
use lib.ListN.{length, take, drop, length-append, length-drop}
use Rattle.run_log.specs.Found.{note_found}
use Rattle.run_log.specs.Log.{laid}
use Rattle.run_log.proofs.Laws.{grown, laid_fits, tail_given}
use Rattle.std.specs.Prelude.{Option, Some, None}
use Rattle.text.specs.Types.{Note}
use Rattle.text.specs.Lines.{line_text, lines_from, lines_fit, filled_text, filled_of, filled_in, printed, printed_count}
use Rattle.text.proofs.Fits.{line_fits}

abbrev line : List ℕ → ℕ → List ℕ
line log place = line_text place (note_found log place)

pub line_short : (log : List ℕ) (place : ℕ) → length (line log place) ≤ 128
line_short log place = go (note_found log place)
  where
    go : (found : Option Note) → length (line_text place found) ≤ 128
    go (Some note) = line_fits place note
    go None = omega arith

-- lines of two runs of entries
pub lines_append : (log : List ℕ) (place k more : ℕ) → lines_from log place (k + more) ≡ lines_from log place k ++ lines_from log (place + k) more
unfolding lines_from
lines_append log place zero more =
    let none : 0 + more ≡ more = omega arith in
    rw (none, add-zero place)
lines_append log place (suc k) more =
    let first : suc k + more ≡ suc (k + more) = omega arith in
    let next : place + suc k ≡ place + 1 + k = omega arith in
    rw (first, next, lines_append log (place + 1) k more, append_assoc)

lines_one : (log : List ℕ) (place : ℕ) → lines_from log place 1 ≡ line log place
unfolding lines_from
lines_one log place = append-nil (line log place)

-- parts filled one after another: what the first leaves out, the next begin with
pub filled_on : (log : List ℕ) (room place end : ℕ) → lines_fit log room place (end - place) ≤ end - place
    → lines_from log place (end - place)
    ≡ filled_text log room place end ++ lines_from log (place + lines_fit log room place (end - place)) (end - (place + lines_fit log room place (end - place)))
unfolding filled_text
filled_on log room place end h =
    let k = lines_fit log room place (end - place) in
    let split : end - place ≡ k + (end - (place + k)) = omega (arith, h) in
    ap (lines_from log place) split ∙ lines_append log place k (end - (place + k))

pub fit_most : (log : List ℕ) (room place more : ℕ) → lines_fit log room place more ≤ more
unfolding lines_fit
fit_most log room place zero = omega arith
fit_most log room place (suc more) = go (leb 128 room) (fit_most log (room - length (line log place)) (place + 1) more)
  where
    go : (t : Bool) → lines_fit log (room - length (line log place)) (place + 1) more ≤ more
        → cond t (suc (lines_fit log (room - length (line log place)) (place + 1) more)) 0 ≤ suc more
    go true h = omega (arith, h)
    go false h = omega arith

-- What the loop keeps: the lines of the entries before `next` stand at the front, and so many more are to come as there is room for.
pub record Filling (out₀ log : List ℕ) (place end : ℕ) (out : List ℕ) (at next : ℕ) : Type 0 where
  pub onward : place ≤ next
  pub within : at ≤ length out₀
  pub bytes : at ≡ length (lines_from log place (next - place))
  pub part : out ≡ lines_from log place (next - place) ++ drop at out₀
  pub count : lines_fit log (length out₀) place (end - place) ≡ (next - place) + lines_fit log (length out₀ - at) next (end - next)

pub filling_start : (out₀ log : List ℕ) (place end : ℕ) → Filling out₀ log place end out₀ 0 place
unfolding lines_from
filling_start out₀ log place end =
    let none : place - place ≡ 0 = omega arith in
    let all : length out₀ - 0 ≡ length out₀ = omega arith in
    record {
      onward = omega arith;
      within = omega arith;
      bytes = rw none;
      part = rw none;
      count = rw (none, all) (omega arith);
    }

module _ {out₀ log : List ℕ} {place end : ℕ} {out : List ℕ} {at next : ℕ} (h : Filling out₀ log place end out at next) where
  pub part_length : length out ≡ length out₀
  part_length = rw (h.part, length-append, ← h.bytes, length-drop) (omega (arith, h.within))

  -- a line more
  pub filling_next : next < end → 128 ≤ length out - at → (bytes : ℕ) (back : List ℕ)
      → bytes ≡ printed_count (line log next) (take (length out - at) (drop at out)) → back ≡ printed (line log next) (take (length out - at) (drop at out))
      → Filling out₀ log place end (take at out ++ (back ++ drop (length out - at) (drop at out))) (at + bytes) (next + 1)
  unfolding lines_fit
  filling_next l more_room bytes back counts prints =
      record {
        onward = omega (arith, h.onward);
        within = omega (arith, short, room, is_bytes);
        bytes = rw (more, length-append, ← h.bytes, is_bytes);
        part = grown done (line log next) out₀ out back at (sym h.bytes) (omega (arith, short, room)) h.part is_laid ∙ rw (more, is_bytes);
        count = h.count ∙ rw (behind, le-leb 128 (length out₀ - at) room, is_bytes, less) (omega (arith, h.onward));
      }
    where
      done : List ℕ
      done = lines_from log place (next - place)

      room : 128 ≤ length out₀ - at
      room = rw part_length at more_room

      short : length (line log next) ≤ 128
      short = line_short log next

      given : length (take (length out - at) (drop at out)) ≡ length out₀ - at
      given = rw (tail_given out at, length-drop, part_length)

      is_bytes : bytes ≡ length (line log next)
      is_bytes = counts ∙ rw (given, le-leb 128 (length out₀ - at) room)

      is_laid : back ≡ laid (line log next) (take (length out - at) (drop at out))
      is_laid = prints ∙ rw (given, le-leb 128 (length out₀ - at) room) (sym (laid_fits (line log next) (take (length out - at) (drop at out)) (rw given (omega (arith, short, room)))))

      more : lines_from log place (next + 1 - place) ≡ done ++ line log next
      more =
          let one : next + 1 - place ≡ (next - place) + 1 = omega (arith, h.onward) in
          let same : place + (next - place) ≡ next = omega (arith, h.onward) in
          ap (lines_from log place) one ∙ lines_append log place (next - place) 1 ∙ rw (same, lines_one log next)

      behind : end - next ≡ suc (end - (next + 1))
      behind = omega (arith, l)

      less : length out₀ - at - length (line log next) ≡ length out₀ - (at + length (line log next))
      less = omega arith

  -- the lines have come to their end, or the room has
  filled : lines_fit log (length out₀) place (end - place) ≡ next - place
      → (record { bytes = at; place = next } ≡ filled_of log place end out₀) × (out ≡ filled_in log place end out₀)
  unfolding filled_text
  filled e =
      let same : place + (next - place) ≡ next = omega (arith, h.onward) in
      (rw (e, ← h.bytes, same), rw (e, ← h.bytes) h.part)

  pub filling_end : end ≤ next → (record { bytes = at; place = next } ≡ filled_of log place end out₀) × (out ≡ filled_in log place end out₀)
  unfolding lines_fit
  filling_end l =
      let none : end - next ≡ 0 = omega (arith, l) in
      filled (h.count ∙ rw none (add-zero (next - place)))

  pub filling_short : next < end → length out - at < 128
      → (record { bytes = at; place = next } ≡ filled_of log place end out₀) × (out ≡ filled_in log place end out₀)
  unfolding lines_fit
  filling_short l less_room =
      let room : length out₀ - at < 128 = rw part_length at less_room in
      let some : end - next ≡ suc (end - (next + 1)) = omega (arith, l) in
      filled (h.count ∙ rw (some, lt-leb 128 (length out₀ - at) room) (add-zero (next - place)))

  -- where no lines are asked for, none are passed
  pub filling_stop : end ≤ place → next ≡ place
  unfolding lines_fit
  filling_stop l =
      let none : end - place ≡ 0 = omega (arith, l) in
      omega (arith, h.onward, rw none at h.count)
