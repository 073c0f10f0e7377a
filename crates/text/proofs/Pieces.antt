-- Pieces of a text stored one behind the other, and a whole line in a lent part.
-- Assumes nothing.
use Prim.Native.Nat.{ℕ, suc, ◌+◌, ◌≤◌, ◌<◌}
use mathlib.Core.Path.{◌≡◌, refl, ap, ◌∙◌}
use mathlib.Core.Bool.{Bool, true, false, cond}
use mathlib.Core.List.{List, [], ◌∷◌, ◌++◌, append_assoc, append-nil}
use native.Mathlib.Nat.{add-zero, zero-add, add_assoc}
use native.Mathlib.Numerals.{add-one}
use native.Mathlib.Omega.{arith}
use borrow.Author.Tests.{le-leb, lt-leb}
use lib.Dec.{leb}
use lib.ListN.{length, get_or, take, drop, set, length-append}
use lib.Seq.{sets, sets-eq, length-sets, take-suc, take_all, take-length}
use Rattle.std.proofs.lemmas.Grind.{flat_map-append}
use Rattle.text.specs.Types.{Piece, Word}
use Rattle.text.specs.Pieces.{text_of_piece, text_of_pieces}
use Rattle.text.specs.Lines.{printed, printed_count, stored_at, stored_end}

pub sets_more : (first then out : List ℕ) (at : ℕ) → sets (sets out at first) (at + length first) then ≡ sets out at (first ++ then)
sets_more [] then out at = rw (add-zero at)
sets_more (b ∷ first) then out at =
    let e : at + suc (length first) ≡ suc at + length first = omega arith in
    rw e (sets_more first then (set out at b) (suc at))

-- a text stored byte by byte from place `at` on, and the place behind it
pub record Put (text before : List ℕ) (at : ℕ) (after : List ℕ) (next : ℕ) : Type 0 where
  pub place : next ≡ at + length text
  pub bytes : after ≡ sets before at text

-- so the inner functions promise it, and so it is handed back
pub piece : (text before : List ℕ) (at : ℕ) {after : List ℕ} {next : ℕ} → (next ≡ at + length text) × (after ≡ sets before at text)
    → Put text before at after next
piece text before at p = record { place = p.0; bytes = p.1 }

pub pieces : {text before after : List ℕ} {at next : ℕ} → Put text before at after next → (next ≡ at + length text) × (after ≡ sets before at text)
pieces p = (p.place, p.bytes)

-- from the front on
pub whole : {text before after : List ℕ} {next : ℕ} → Put text before 0 after next → (next ≡ length text) × (after ≡ sets before 0 text)
whole {text} p = (p.place ∙ zero-add (length text), p.bytes)

-- one piece, and then another
pub put_more : {first then out mid left : List ℕ} {at next last : ℕ} → Put first out at mid next → Put then mid next left last
    → Put (first ++ then) out at left last
put_more {first} {then} {out} {at = at} p q =
    record {
      place = rw (q.place, p.place, length-append, add_assoc);
      bytes = rw (q.bytes, p.bytes, p.place) (sets_more first then out at);
    }

-- a piece leaves the part as long as it was
pub put_length : {text out left : List ℕ} {at next : ℕ} → Put text out at left next → length left ≡ length out
put_length {text} {out} {at = at} p = rw p.bytes (length-sets out at text)

-- one byte more of a word
pub put_next : (word out mid : List ℕ) (at i : ℕ) → i < length word → Put (take i word) out at mid (at + i)
    → Put (take (i + 1) word) out at (set mid (at + i) (get_or word i 0)) (at + (i + 1))
put_next word out mid at i h p =
    let one : Put (get_or word i 0 ∷ []) mid (at + i) (set mid (at + i) (get_or word i 0)) (at + (i + 1)) =
    record { place = omega arith; bytes = refl } in
    rw (add-one i, take-suc word i 0 h) (rw (add-one i) at (put_more p one))

-- and all of it
pub put_whole : (word out left : List ℕ) (at i : ℕ) → i ≡ length word → Put (take i word) out at left (at + i) → Put word out at left (at + i)
put_whole word out left at i e p =
    let all : take i word ≡ word = ap (λ (k : ℕ). take k word) e ∙ take-length word in
    rw all at p

-- where a row has no piece
abbrev pub no_piece : Piece
no_piece = Word (record { ref_ptr = (0, 0); now = [] })

-- one piece more of a row
pub put_another : (row : List Piece) (i : ℕ) (none : Piece) {out mid left : List ℕ} {at next : ℕ} → i < length row
    → Put (text_of_pieces (take i row)) out 0 mid at
    → (next ≡ at + length (text_of_piece (get_or row i none))) × (left ≡ sets mid at (text_of_piece (get_or row i none)))
    → Put (text_of_pieces (take (i + 1) row)) out 0 left next
put_another row i none h p q =
    rw (add-one i, take-suc row i none h, flat_map-append text_of_piece (take i row) (get_or row i none ∷ []), append-nil)
    (put_more p (piece (text_of_piece (get_or row i none)) _ _ q))

-- a line from the front of a part that is long enough
pub line_printed : (text out : List ℕ) {left : List ℕ} {next : ℕ} → 128 ≤ length out → length text ≤ 128
    → (next ≡ length text) × (left ≡ sets out 0 text) → (next ≡ printed_count text out) × (left ≡ printed text out)
line_printed text out h k p =
    let room : 0 + length text ≤ length out = omega arith in (
      rw (le-leb 128 (length out) h, p.0),
      rw (le-leb 128 (length out) h, p.1, sets-eq text out 0 room, zero-add),
    )

-- and so all of a row
pub row_printed : (row : List Piece) (i : ℕ) (out : List ℕ) {left : List ℕ} {next : ℕ} → 128 ≤ length out → length (text_of_pieces row) ≤ 128
    → length row ≤ i → Put (text_of_pieces (take i row)) out 0 left next
    → (next ≡ printed_count (text_of_pieces row) out) × (left ≡ printed (text_of_pieces row) out)
row_printed row i out h k e p = line_printed (text_of_pieces row) out h k (whole (rw (take_all i row e) at p))

-- and nothing at all where it is not
pub line_refused : (text out : List ℕ) → length out < 128 → (0 ≡ printed_count text out) × (out ≡ printed text out)
line_refused text out h = (rw (lt-leb 128 (length out) h), rw (lt-leb 128 (length out) h))

-- a text of no bytes
pub nothing_printed : (out : List ℕ) → (0 ≡ printed_count [] out) × (out ≡ printed [] out)
nothing_printed out = go (leb 128 (length out))
  where
    go : (t : Bool) → (0 ≡ cond t (length {A = ℕ} []) 0) × (out ≡ cond t ([] ++ drop (length {A = ℕ} []) out) out)
    go true = (refl, refl)
    go false = (refl, refl)

-- a text at a place: there is room for it, or there is not
pub stored_fits : {text before after : List ℕ} {at next : ℕ} → at + length text ≤ length before → Put text before at after next
    → (next ≡ stored_end at text before) × (after ≡ stored_at at text before)
stored_fits {text} {before} {at = at} h p = rw (le-leb (at + length text) (length before) h) (p.place, p.bytes ∙ sets-eq text before at h ∙ append_assoc (take at before) text (drop (at + length text) before))

pub stored_short : (text before : List ℕ) (at : ℕ) → length before < at + length text
    → (at ≡ stored_end at text before) × (before ≡ stored_at at text before)
stored_short text before at h = rw (lt-leb (at + length text) (length before) h) (refl, refl)
