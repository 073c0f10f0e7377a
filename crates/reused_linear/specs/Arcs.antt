-- Arcs of the circle of m numbers.
use Rattle.std.specs.Prelude.{ℕ, ◌+◌, ◌-◌, ◌%◌, ◌<◌}

-- The way from b up to a round the circle: document 001 looks at "(tag - startSafe) mod M".
unfoldable pub way : ℕ → ℕ → ℕ → ℕ
way m b a = ((a + m) - b) % m

-- "arcs half open": a is in the arc [c, e), which is empty where c is e.
abbrev pub InArc : ℕ → ℕ → ℕ → ℕ → Type 0
InArc m c e a = way m c a < way m c e
