-- Blocks stored one after another, and the whole file in a lent output.
-- Assumes nothing.
use Prim.Native.Nat.{ℕ, suc, ◌+◌, min, ◌-◌, ◌*◌, ◌≤◌, ◌<◌}
use mathlib.Core.Path.{◌≡◌, refl, sym, ap, ◌∙◌}
use mathlib.Core.List.{List, ◌++◌, append_assoc}
use native.Mathlib.Decide.{dec_lt}
use native.Mathlib.Omega.{arith}
use lib.ListN.{length, take, drop, length-take, length-drop, length-append, drop_of_length-le}
use lib.Seq.{sets, sets-eq, take_all, take_at, drop_at, drop-drop, drop-length}
use Rattle.text.proofs.Pieces.{sets_more}
use Rattle.run_log.specs.Log.{laid}
use Rattle.run_log.proofs.Laws.{laid_fits, tail_given, tail_back}
use Rattle.writer.specs.Types.{Entry}
use Rattle.writer.specs.Made.{first_made, later_made, packed, blocks_for, file_made}
use Rattle.writer.proofs.MadeBlock.{first_length, later_length}
use Rattle.writer.proofs.MadeRead.{packed_length}

-- a part of a list in which other bytes were written: they are stored there
pub part_stored : (l new : List ℕ) (at end : ℕ) → at ≤ end → end ≤ length l → length new ≡ end - at
    → take at l ++ (new ++ drop (end - at) (drop at l)) ≡ sets l at new
part_stored l new at end h k e =
    let room : at + length new ≤ length l = omega (arith, h, k, e) in
    rw (drop-drop, ← e) (sym (sets-eq new l at room ∙ append_assoc (take at l) new (drop (at + length new) l)))

-- the share of a block: all that is left, or 42 entries
module _ (es : List Entry) where
  pub share_taken : take (min (length es) 42) es ≡ take 42 es
  share_taken = go (dec_lt (length es) 42)
    where
      go : Dec (length es < 42) → take (min (length es) 42) es ≡ take 42 es
      go (yes l) =
          let e : min (length es) 42 ≡ length es = omega (arith, l) in
          rw (e, take_all 42 es (omega (arith, l)), take_all (length es) es (omega arith))
      go (no g) =
          let e : min (length es) 42 ≡ 42 = omega (arith, g) in
          rw e

  pub share_left : drop (min (length es) 42) es ≡ drop 42 es
  share_left = go (dec_lt (length es) 42)
    where
      go : Dec (length es < 42) → drop (min (length es) 42) es ≡ drop 42 es
      go (yes l) =
          let e : min (length es) 42 ≡ length es = omega (arith, l) in
          rw (e, drop_of_length-le es {i = 42} (omega (arith, l)), drop-length es)
      go (no g) =
          let e : min (length es) 42 ≡ 42 = omega (arith, g) in
          rw e

-- one block more
few : (es : List Entry) → length (take 42 es) ≤ 42
few es = rw (length-take 42 es) (omega arith)

pub packed_step : (rest : List ℕ) (done blocks : ℕ) (es : List Entry) → done < blocks
    → sets rest (512 * done) (packed (blocks - done) (done + 1) es)
    ≡ sets (sets rest (512 * done) (later_made (done + 1) (take 42 es))) (512 * (done + 1)) (packed (blocks - (done + 1)) (done + 1 + 1) (drop 42 es))
unfolding packed
packed_step rest done blocks es h =
    let one : blocks - done ≡ suc (blocks - (done + 1)) = omega (arith, h) in
    let block = later_made (done + 1) (take 42 es) in
    let place : 512 * (done + 1) ≡ 512 * done + length block = rw (later_length (done + 1) (take 42 es) (few es)) (omega arith) in
    rw (one, place) (sym (sets_more block (packed (blocks - (done + 1)) (done + 1 + 1) (drop 42 es)) rest (512 * done)))

pub share_length : (k : ℕ) (es : List Entry) → length (later_made k (take 42 es)) ≡ 512
share_length k es = later_length k (take 42 es) (few es)

-- block 0 in the first 512 bytes of an output, and the other blocks in the rest of it: the two parts, one behind the other
pub parts_laid : (n s v : ℕ) (es : List Entry) (out block left : List ℕ) → 512 + 512 * blocks_for (length es) ≤ length out
    → block ≡ first_made n s v (blocks_for (length es)) → left ≡ sets (drop 512 out) 0 (packed (blocks_for (length es)) 1 es)
    → block ++ left ≡ laid (file_made n s v es) out
unfolding file_made
parts_laid n s v es out block left room first rest =
    let blocks = blocks_for (length es) in
    let made = first_made n s v blocks in
    let more = packed blocks 1 es in
    let size : length more ≡ 512 * blocks = packed_length blocks 1 es in
    let all : length (made ++ more) ≡ 512 + 512 * blocks = length-append made more ∙ rw (first_length n s v blocks, size) in
    let fits : 0 + length more ≤ length (drop 512 out) = rw (length-drop, size) (omega (arith, room)) in
    let after : 512 + (0 + length more) ≡ length (made ++ more) = omega (arith, all, size) in
    rw (first, rest, sets-eq more (drop 512 out) 0 fits, drop-drop, after)
    (sym (append_assoc made more (drop (length (made ++ more)) out)) ∙ sym (laid_fits (made ++ more) out (omega (arith, all, room))))

-- the same of the output as it is between the two, with block 0 stored at its front
pub file_laid : (n s v : ℕ) (es : List Entry) (out mid left : List ℕ) → 512 + 512 * blocks_for (length es) ≤ length out
    → mid ≡ take 0 out ++ (first_made n s v (blocks_for (length es)) ++ drop (512 - 0) (drop 0 out))
    → left ≡ sets (take (length mid - 512) (drop 512 mid)) 0 (packed (blocks_for (length es)) 1 es)
    → take 512 mid ++ (left ++ drop (length mid - 512) (drop 512 mid)) ≡ laid (file_made n s v es) out
file_laid n s v es out mid left room first rest =
    let block = first_made n s v (blocks_for (length es)) in
    let long : length block ≡ 512 = first_length n s v (blocks_for (length es)) in
    let front : take 512 mid ≡ block = ap (take 512) first ∙ take_at block (drop 512 out) 512 long in
    let behind : drop 512 mid ≡ drop 512 out = ap (drop 512) first ∙ drop_at block (drop 512 out) 512 long in
    tail_back mid left 512 ∙ parts_laid n s v es out (take 512 mid) left room front (rw (rest, tail_given, behind) refl)
