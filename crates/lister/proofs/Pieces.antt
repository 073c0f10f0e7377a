-- A field that fits, as a piece of a text.
-- Assumes nothing.
use Prim.Native.Nat.{ℕ, ◌+◌, ◌≤◌}
use mathlib.Core.Path.{◌≡◌, ◌∙◌}
use mathlib.Core.List.{List, append_assoc}
use borrow.Author.Tests.{le-leb}
use lib.ListN.{length, take, drop}
use lib.Seq.{sets-eq}
use Rattle.text.specs.Lines.{stored_at, stored_end}
use Rattle.text.proofs.Pieces.{Put}

-- what is stored where there is room for it is a piece
pub stored_piece : (text before : List ℕ) (at : ℕ) {after : List ℕ} {next : ℕ} → at + length text ≤ length before
    → (next ≡ stored_end at text before) × (after ≡ stored_at at text before) → Put text before at after next
stored_piece text before at h p =
    let fits = le-leb (at + length text) (length before) h in
    record {
      place = p.0 ∙ rw fits;
      bytes = p.1 ∙ rw (fits, sets-eq text before at h) (rw (append_assoc (take at before) text (drop (at + length text) before)));
    }
