-- What the test of N and S says, fact by fact.
use Prim.Native.Nat.{ℕ, ◌≤◌}
use mathlib.Core.Path.{◌≡◌}
use mathlib.Core.Bool.{true, ◌&&◌, and-eq-true_iff}
use lib.Dec.{leb}
use borrow.Author.Tests.{leb-true}
use Rattle.numbers.specs.Numbers.{in_range}
use Rattle.numbers.specs.Types.{Sequence}

pub record InRange (n : ℕ) (s : Sequence) : Type 0 where
  pub some : 1 ≤ n
  pub few : n ≤ 16
  pub two : 2 ≤ s.0
  pub last : s.0 ≤ 4294967295

pub range_of : (n : ℕ) (s : Sequence) → in_range n s ≡ true → InRange n s
range_of n s e =
    let all = (and-eq-true_iff (leb 1 n && leb n 16) (leb 2 s.0 && leb s.0 4294967295)).0 e in
    let p = (and-eq-true_iff (leb 1 n) (leb n 16)).0 all.0 in
    let q = (and-eq-true_iff (leb 2 s.0) (leb s.0 4294967295)).0 all.1 in
    record { some = leb-true 1 n p.0; few = leb-true n 16 p.1; two = leb-true 2 s.0 q.0; last = leb-true s.0 4294967295 q.1 }
