-- Lengths of the log's parts, and what is left where bytes are laid into a lent part or into the rest of one.
-- Assumes nothing.
use Prim.Native.Nat.{ℕ, ◌+◌, ◌-◌, ◌*◌, ◌≤◌, ◌<◌}
use mathlib.Core.Path.{◌≡◌, refl, ◌∙◌}
use mathlib.Core.List.{List, [], ◌∷◌, ◌++◌, append_assoc, append-nil}
use native.Mathlib.Nat.{zero-add}
use native.Mathlib.Omega.{arith}
use borrow.Author.Tests.{le-leb, lt-leb}
use lib.ListN.{length, take, drop, length-append, length-drop}
use lib.Seq.{sets, sets-eq, length-take-le, take_all, take_at, drop_at, drop-append-add, drop-drop, drop-length}
use Rattle.std.proofs.lemmas.List.{get_or-take}
use Rattle.run_log.specs.Log.{head_of, record_of, records_of, laid, log_length, head_in, note_in}
use Rattle.run_log.specs.Found.{log_of}
use Rattle.run_log.specs.Types.{Note}

pub head_length : (entries changes n : ℕ) → length (head_of entries changes n) ≡ 12
unfolding head_of
head_length entries changes n = refl

pub record_length : (note : Note) → length (record_of note) ≡ 12
unfolding record_of
record_length note = refl

pub records_length : (notes : List Note) → length (records_of notes) ≡ 12 * length notes
unfolding records_of
records_length [] = refl
records_length (note ∷ notes) = rw (length-append, record_length, records_length notes) (omega arith)

pub log_length_lem : (changes n : ℕ) (notes : List Note) → length (log_of changes n notes) ≡ log_length (length notes)
unfolding log_of
log_length_lem changes n notes = rw (length-append, head_length, records_length)

pub records_append : (first then : List Note) → records_of (first ++ then) ≡ records_of first ++ records_of then
unfolding records_of
records_append [] then = refl
records_append (note ∷ first) then = rw (records_append first then, append_assoc)

-- one entry more is one record more
pub records_more : (notes : List Note) (note : Note) → records_of (notes ++ (note ∷ [])) ≡ records_of notes ++ record_of note
unfolding records_of
records_more notes note = rw (records_append, append-nil)

-- bytes laid into a part: there is room for them, or there is not
pub laid_fits : (bytes part : List ℕ) → length bytes ≤ length part → laid bytes part ≡ bytes ++ drop (length bytes) part
unfolding laid
laid_fits bytes part h = rw (le-leb (length bytes) (length part) h)

pub laid_short : (bytes part : List ℕ) → length part < length bytes → laid bytes part ≡ part
unfolding laid
laid_short bytes part h = rw (lt-leb (length bytes) (length part) h)

-- stores one after another from the front are the bytes laid there
pub stored : (bytes part : List ℕ) → length bytes ≤ length part → sets part 0 bytes ≡ laid bytes part
stored bytes part h = sets-eq bytes part 0 (rw zero-add h) ∙ rw (zero-add, laid_fits bytes part h)

-- What a call on `&mut part[at..]` is given is all of the part from `at` on, and what it leaves there is followed by nothing.
pub tail_given : (part : List ℕ) (at : ℕ) → take (length part - at) (drop at part) ≡ drop at part
tail_given part at = take_all (length part - at) (drop at part) (rw length-drop (omega arith))

pub tail_back : (part left : List ℕ) (at : ℕ) → take at part ++ (left ++ drop (length part - at) (drop at part)) ≡ take at part ++ left
tail_back part left at = rw (← length-drop at part, drop-length, append-nil)

pub tail_length : (part left : List ℕ) (at : ℕ) → at ≤ length part → length left ≡ length (take (length part - at) (drop at part))
    → length (take at part ++ (left ++ drop (length part - at) (drop at part))) ≡ length part
tail_length part left at h e =
    rw (tail_back part left at, length-append, length-take-le at part h, e, tail_given part at, length-drop) (omega arith)

-- Bytes laid behind what is already there: `done` fills the first `at` bytes, and the bytes behind both are as they were.
pub grow : (done bytes part : List ℕ) (at : ℕ) → length done ≡ at → at + length bytes ≤ length part
    → take at (done ++ drop at part) ++ laid bytes (drop at (done ++ drop at part)) ≡ (done ++ bytes) ++ drop (at + length bytes) part
grow done bytes part at e h =
    let room : length bytes ≤ length (drop at part) = rw length-drop (omega arith) in
    rw (take_at done (drop at part) at e, drop_at done (drop at part) at e, laid_fits bytes (drop at part) room, drop-drop, append_assoc)

-- The three together: a writer lent `&mut now[at..]`, where `now` is what the part has become so far, leaves one piece more.
pub grown : (done bytes part now left : List ℕ) (at : ℕ) → length done ≡ at → at + length bytes ≤ length part → now ≡ done ++ drop at part
    → left ≡ laid bytes (take (length now - at) (drop at now))
    → take at now ++ (left ++ drop (length now - at) (drop at now)) ≡ (done ++ bytes) ++ drop (at + length bytes) part
grown done bytes part now left at e h so_far wrote =
    rw (tail_back now left at, wrote, tail_given now at, so_far) (grow done bytes part at e h)

-- A part with bytes laid at its front is those bytes and what is behind them, and behind them it is as it was.
pub laid_front : (bytes part : List ℕ) → length bytes ≤ length part → bytes ++ drop (length bytes) (laid bytes part) ≡ laid bytes part
laid_front bytes part h = rw (laid_fits bytes part h, drop_at bytes (drop (length bytes) part) (length bytes) refl)

pub laid_behind : (bytes part : List ℕ) (k : ℕ) → length bytes ≤ length part → length bytes ≤ k → drop k (laid bytes part) ≡ drop k part
laid_behind bytes part k h l =
    let e : k ≡ length bytes + (k - length bytes) = omega arith in
    rw (laid_fits bytes part h, e, drop-append-add bytes (drop (length bytes) part) (k - length bytes), drop-drop)

-- Bytes laid over others of the same number: only the last are left.
pub laid_over : (first then part : List ℕ) → length first ≡ length then → length then ≤ length part
    → laid then (laid first part) ≡ laid then part
laid_over first then part e h =
    let fits : length first ≤ length part = omega arith in
    let whole : length then ≤ length (first ++ drop (length first) part) = rw (length-append, length-drop) (omega arith) in
    rw (
      laid_fits first part fits,
      laid_fits then (first ++ drop (length first) part) whole,
      drop_at first (drop (length first) part) (length then) e,
      laid_fits then part h,
      e,
    )

-- Bytes laid over fewer others: those others are gone.
pub laid_past : (first then part : List ℕ) → length first ≤ length then → length then ≤ length part
    → laid then (laid first part) ≡ laid then part
laid_past first then part e h =
    let fits : length first ≤ length part = omega arith in
    let whole : length then ≤ length (laid first part) =
    rw (laid_fits first part fits, length-append, length-drop) (omega arith) in
    rw (laid_fits then (laid first part) whole, laid_behind first part (length then) fits e, laid_fits then part h)

-- So goes the log: behind a head and the records of i entries the record of one more, in the rest of the log from there on.
pub log_grown : (head : List ℕ) (notes : List Note) (note : Note) (part now left : List ℕ) (i : ℕ) → length head ≡ 12 → length notes ≡ i
    → log_length (i + 1) ≤ length part → now ≡ (head ++ records_of notes) ++ drop (log_length i) part
    → left ≡ laid (record_of note) (take (length now - log_length i) (drop (log_length i) now))
    → take (log_length i) now ++ (left ++ drop (length now - log_length i) (drop (log_length i) now))
    ≡ (head ++ records_of (notes ++ (note ∷ []))) ++ drop (log_length (i + 1)) part
log_grown head notes note part now left i e k h so_far wrote =
    let done = head ++ records_of notes in
    let at : length done ≡ log_length i = rw (length-append, e, records_length, k) in
    let room : log_length i + length (record_of note) ≤ length part = rw record_length (omega arith) in
    let next : log_length i + length (record_of note) ≡ log_length (i + 1) = rw record_length (omega arith) in
    grown done (record_of note) part now left (log_length i) at room so_far wrote
    ∙ rw (next, records_more notes note, append_assoc head (records_of notes) (record_of note))

-- A head and a record are read from the first twelve bytes alone.
pub head_front : (log : List ℕ) → head_in (take 12 log) ≡ head_in log
unfolding head_in
head_front log = grind (arith, get_or-take 12 log)

pub note_front : (part : List ℕ) → note_in (take 12 part) ≡ note_in part
unfolding note_in
note_front part = grind (arith, get_or-take 12 part)
