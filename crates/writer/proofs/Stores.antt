-- Bytes stored one after another: numbers, entries, and what a block then is.
-- Assumes nothing.
use Prim.Native.Nat.{ℕ, zero, suc, ◌+◌, ◌-◌, ◌*◌, ◌/◌, ◌%◌, ◌^◌, ◌≤◌, ◌<◌}
use mathlib.Core.Path.{◌≡◌, refl, sym, ap, ◌∙◌}
use mathlib.Core.List.{List, [], ◌∷◌, ◌++◌, append-nil, append_assoc}
use native.Mathlib.Nat.{div-one, div-div-eq-div-mul, pow-suc, pow-zero}
use native.Mathlib.Omega.{arith}
use lib.ListN.{length, take, drop, set, replicate}
use lib.Seq.{sets, take_at, drop_at, take-append-add}
use borrow.Rule.Slice.PartMut.{put_mid}
use mir.Syntax.{w32, w64}
use Rattle.std.specs.Int.{byte_at, bytes_low_first, to_le_bytes}
use Rattle.std.proofs.lemmas.List.{drop-replicate, take-replicate}
use Rattle.numbers.specs.Numbers.{bytes_of}
use Rattle.writer.specs.Types.{Entry}
use Rattle.writer.specs.Made.{entry_made, entries_made, later_front, filled}
use Rattle.writer.proofs.MadeBlock.{entry_made_length}

-- one zero more: what is left to store is less, and what comes of it is the same
pub zeros_step : (b : List ℕ) (i end : ℕ) → i < end → sets b i (replicate (end - i) 0) ≡ sets (set b i 0) (i + 1) (replicate (end - (i + 1)) 0)
zeros_step b i end h =
    let e : end - i ≡ suc (end - (i + 1)) = omega (arith, h) in
    let k : i + 1 ≡ suc i = omega arith in
    rw (e, k)

-- the library's bytes of a number are those of document 01
byte_here : (i n : ℕ) → byte_at i n ≡ n / 256 ^ i % 256
byte_here zero n = rw (pow-zero, div-one)
byte_here (suc i) n = refl

low_from : (i k n : ℕ) → bytes_low_first i k n ≡ bytes_of k (n / 256 ^ i)
low_from i zero n = refl
low_from i (suc k) n =
    let next : n / 256 ^ i / 256 ≡ n / 256 ^ suc i = rw (div-div-eq-div-mul, pow-suc) in
    rw (byte_here i n, low_from (suc i) k n, next)

pub low_first_8 : (n : ℕ) → to_le_bytes w64 n ≡ bytes_of 8 n
low_first_8 n = low_from 0 8 n ∙ rw (pow-zero, div-one)

pub low_first_4 : (n : ℕ) → to_le_bytes w32 n ≡ bytes_of 4 n
low_first_4 n = low_from 0 4 n ∙ rw (pow-zero, div-one)

-- bytes stored behind the first ones of a part that is zeros from there on
abbrev zeros : ℕ → List ℕ
zeros k = replicate k 0

pub front_put : (front new : List ℕ) (k at end : ℕ) → at ≡ length front → end ≡ at + length new → length new ≤ k
    → put_mid at (end - at) (front ++ zeros k) new ≡ front ++ (new ++ zeros (k - length new))
front_put front new k at end place last h =
    let size : end - at ≡ length new = omega (arith, last) in
    let left : drop (length new) (zeros k) ≡ zeros (k - length new) = drop-replicate (length new) k 0 in
    rw (size, take_at front (zeros k) at (sym place), drop_at front (zeros k) at (sym place), left)

-- the part whose check is taken: the first bytes, and zeros up to byte 509
pub part_filled : (first : List ℕ) (k : ℕ) → length first ≤ 510 → k ≡ 512 - length first → take 510 (first ++ zeros k) ≡ filled first
part_filled first k h e =
    let place : 510 ≡ length first + (510 - length first) = omega (arith, h) in
    ap (λ (n : ℕ). take n (first ++ zeros k)) place
    ∙ take-append-add first (zeros k) (510 - length first)
    ∙ ap (λ (l : List ℕ). first ++ l) (take-replicate (510 - length first) k 0 (omega (arith, e)))

-- one entry more
pub made_next : (es : List Entry) (j : ℕ) (e : Entry) (rest : List Entry) → drop j es ≡ e ∷ rest
    → (entries_made (take (suc j) es) ≡ entries_made (take j es) ++ entry_made e) × (drop (suc j) es ≡ rest)
unfolding entries_made
made_next [] zero e rest h = cc
made_next [] (suc j) e rest h = cc
made_next (d ∷ es) zero e rest h =
    let one : d ≡ e = cc in
    let more : es ≡ rest = cc in
    (append-nil (entry_made d) ∙ ap entry_made one, more)
made_next (d ∷ es) (suc j) e rest h =
    let more = made_next es j e rest h in
    (rw more.0 (sym (append_assoc (entry_made d) (entries_made (take j es)) (entry_made e))), more.1)

-- an entry stored behind a block's first four bytes and the entries before it
pub entry_put : (k c : ℕ) (made : List ℕ) (e : Entry) (j : ℕ) → length made ≡ 12 * j → j < 42
    → put_mid (4 + 12 * j) (16 + 12 * j - (4 + 12 * j)) (later_front k c ++ (made ++ zeros (508 - 12 * j))) (entry_made e)
    ≡ later_front k c ++ ((made ++ entry_made e) ++ zeros (508 - 12 * suc j))
entry_put k c made e j long few =
    let size : length (entry_made e) ≡ 12 = entry_made_length e in
    let left : 508 - 12 * j - length (entry_made e) ≡ 508 - 12 * suc j = omega (arith, size) in
    let place : 4 + 12 * j ≡ length (later_front k c ++ made) = omega (arith, long) in
    rw (← append_assoc (later_front k c) made (zeros (508 - 12 * j)))
    (front_put (later_front k c ++ made) (entry_made e) (508 - 12 * j) (4 + 12 * j) (16 + 12 * j) place (omega (arith, size)) (omega (arith, size, few)) ∙ rw (left, append_assoc made (entry_made e) (zeros (508 - 12 * suc j))))
