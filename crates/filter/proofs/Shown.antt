-- Lines of a log that go out in parts, and a log as a whole.
use Rattle.std.proofs.Common.{◌≡◌, ℕ, suc, ◌+◌, ◌-◌, ◌<◌, ◌≤◌, List, ◌++◌, Option, Some, Result, Ok, Err, OnOk, length, take, drop, refl, ap, sym, ◌∙◌, subst, arith, append-nil, le-leb}
use Rattle.std.proofs.Math.Seq.{take_at}
use Rattle.std.specs.Io.KnownBytes.{Appends}
use Rattle.std.proofs.KnownBytes.{Appends-trans}
use Rattle.run_log.specs.Found.{head_found, note_found}
use Rattle.run_log.specs.declared.Head.{Head}
use Rattle.text.specs.declared.Filled.{Filled}
use Rattle.text.specs.Lines.{head_text, line_text, lines_from, lines_fit, filled_text, filled_of, filled_in, text_of}
use Rattle.text.proofs.Filling.{lines_append, fit_most}

-- a part of 128 bytes or more takes one line at least
fits_one : (log : List ℕ) (room place end : ℕ) → 128 ≤ room → place < end → 0 < lines_fit log room place (end - place)
unfolding lines_fit
fits_one log room place end h l =
    let some : end - place ≡ suc (end - (place + 1)) = omega (arith, l) in
    rw (some, le-leb 128 room h) (omega arith)

-- the place behind the lines of a part: another one, and none that was not asked for
pub filled_onward : (log out : List ℕ) (place end : ℕ) (filled : Filled) → filled ≡ filled_of log place end out → 128 ≤ length out → place < end
    → (place < filled.place) × (filled.place ≤ end)
filled_onward log out place end filled e h l =
    rw e (omega (arith, fits_one log (length out) place end h l), omega (arith, l, fit_most log (length out) place (end - place)))

-- the lines that went out before, and those of the part
lines_more : (log out : List ℕ) (place end : ℕ)
    → lines_from log 0 place ++ take (filled_of log place end out).bytes (filled_in log place end out) ≡ lines_from log 0 (filled_of log place end out).place
unfolding filled_text
lines_more log out place end =
    let k = lines_fit log (length out) place (end - place) in
    let t = lines_from log place k in
    let same : 0 + place ≡ place = omega arith in
    ap (λ l. lines_from log 0 place ++ l) (take_at t (drop (length t) out) (length t) refl)
    ∙ sym (lines_append log 0 place k ∙ ap (λ p. lines_from log 0 place ++ lines_from log p k) same)

pub part_shown : (a b c : Option (List ℕ)) (log out left : List ℕ) (place end : ℕ) (filled : Filled) → filled ≡ filled_of log place end out
    → left ≡ filled_in log place end out → Appends a b (lines_from log 0 place) → Appends b c (take filled.bytes left)
    → Appends a c (lines_from log 0 filled.place)
part_shown a b c log out left place end filled e f before part =
    rw e (subst (Appends a c) (lines_more log out place end) (Appends-trans a b c _ _ before (rw (e, f) at part)))

-- the lines that went out before, and the next
pub line_shown : (a b c : Option (List ℕ)) (log : List ℕ) (place : ℕ) → Appends a b (lines_from log 0 place)
    → Appends b c (line_text place (note_found log place)) → Appends a c (lines_from log 0 (place + 1))
unfolding lines_from
line_shown a b c log place before line =
    let same : 0 + place ≡ place = omega arith in
    let one = ap (λ p. lines_from log 0 place ++ lines_from log p 1) same ∙ ap (λ l. lines_from log 0 place ++ l) (append-nil _) in
    subst (Appends a c) (sym (lines_append log 0 place 1 ∙ one)) (Appends-trans a b c _ _ before line)

-- a log that has a head
pub text_shown : {T E : Type 0} (r : Result T E) (a b c : Option (List ℕ)) (log : List ℕ) (head : Head) → head_found log ≡ Some head
    → Appends a b (head_text (head_found log)) → OnOk r (Appends b c (lines_from log 0 head.entries)) → OnOk r (Appends a c (text_of log))
unfolding text_of
text_shown (Ok v) a b c log head e first lines = rw e (Appends-trans a b c _ _ (rw e at first) lines)
text_shown (Err d) a b c log head e first lines = lines
