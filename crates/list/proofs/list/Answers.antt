use Rattle.std.proofs.Common.{◌≡◌, ◌≤◌, ℕ, List, Ok, length, sym, ap, arith, length-take-le}
use Rattle.lister.specs.Told.{listed_as}
use Rattle.lister.specs.Types.{Reading, Refused, Accepted}
use Rattle.lister.specs.Lister.{listed_of, listed_by}
use Rattle.schedule.specs.File.{reading}
use Rattle.list.proofs.list.Goals as goal

-- a listed text stands in the lent part
listed_within : (file out : List ℕ) (size : ℕ) → listed_as (Ok size) ≡ listed_of file out → size ≤ length out
unfolding listed_of
listed_within file out size e = omega (arith, ap (λ told. told.length) e, go (reading file))
  where
    go : (r : Reading) → (listed_by file out r).length ≤ length out
    go (Refused number block place) = omega arith
    go (Accepted n s v c) = grind arith

pub slice_bounds-text-end : goal.slice_bounds-text-end
slice_bounds-text-end g c = rw c.list_file.auto.out (listed_within _ _ _ c.in-Ok.ensures.0)

pub slice_bounds-write_all-end : goal.slice_bounds-write_all-end
slice_bounds-write_all-end g c = sym (length-take-le _ _ (rw c.list_file.auto.out (listed_within _ _ _ c.in-Ok.ensures.0)))
