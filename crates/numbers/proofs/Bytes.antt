-- Numbers and their bytes: how long they are, how a number splits in two, and that it is read back as it was written.
-- Assumes nothing.
use Prim.Native.Nat.{ℕ, zero, suc, ◌+◌, ◌*◌, ◌^◌, ◌/◌, ◌%◌, ◌<◌}
use mathlib.Core.Path.{◌≡◌, refl, sym}
use mathlib.Core.List.{List, [], ◌∷◌, ◌++◌}
use native.Mathlib.Nat.{zero-add, suc-add, add-zero, add_assoc, mul-add, mul_assoc, mod-one, mul_comm, add_comm, one-le-pow, pow-suc, one-mul}
use native.Mathlib.Omega.{arith}
use lib.Arith.{mod-mul}
use lib.Dec.{lit<}
use lib.ListN.{length, get_or, length-append}
use lib.Seq.{append_snoc, get_or-append_seam}
use Rattle.numbers.specs.Numbers.{bytes_of, number_at}

pub bytes_length : (width n : ℕ) → length (bytes_of width n) ≡ width
bytes_length zero n = refl
bytes_length (suc width) n = rw (bytes_length width (n / 256))

-- a number of n + m bytes is made of one of n and one of m
pub number_split : (b : List ℕ) (p n m : ℕ) → number_at b p (n + m) ≡ number_at b p n + 256 ^ n * number_at b (p + n) m
number_split b p zero m = rw (zero-add m, add-zero p, zero-add, one-mul)
number_split b p (suc n) m =
    let place : p + 1 + n ≡ p + suc n = omega arith in
    rw (suc-add n m, number_split b (p + 1) n m, place, mul-add, pow-suc, mul_comm (256 ^ n) 256, mul_assoc, add_assoc)

-- Bytes between others read back as the number, up to what fits the width.
pub number_back : (before behind : List ℕ) (width n : ℕ)
    → number_at (before ++ (bytes_of width n ++ behind)) (length before) width ≡ n % 256 ^ width
number_back before behind zero n = sym (mod-one n)
number_back before behind (suc width) n =
    let low = n % 256 in
    let more = bytes_of width (n / 256) ++ behind in
    let place : length before + 1 ≡ length (before ++ (low ∷ [])) = rw length-append (omega arith) in
    let rest : number_at (before ++ (low ∷ more)) (length before + 1) width ≡ n / 256 % 256 ^ width =
    rw (← append_snoc before low more, place) (number_back (before ++ (low ∷ [])) behind width (n / 256)) in
    let high : n % (256 ^ width * 256) ≡ n / 256 % 256 ^ width * 256 + low = mod-mul n (one-le-pow width 256 (lit< tt)) (lit< tt) in
    rw (get_or-append_seam before low more 0, rest, pow-suc, high, mul_comm 256, add_comm low)

-- a number of so many bytes is below 256 to that power
pub number_below : (b : List ℕ) → ((i : ℕ) → get_or b i 0 < 256) → (at width : ℕ) → number_at b at width < 256 ^ width
number_below b h at zero = omega arith
number_below b h at (suc width) = rw pow-suc (omega (arith, h at, number_below b h (at + 1) width))
