-- Laws of the circle of m numbers. All that is modular is in this file; outside it `way` and `ahead` stay shut, and every arc is an interval
-- of ways from one point.
-- Assumes nothing.
use Prim.Native.Nat.{ℕ, ◌+◌, ◌-◌, ◌%◌, ◌≤◌, ◌<◌}
use mathlib.Core.Path.{◌≡◌, refl, sym, ◌∙◌}
use mathlib.Core.Bool.{Bool, true, false, ◌&&◌, ◌||◌, false≢true}
use mathlib.Core.Logic.{◌⊎◌, inl, inr}
use native.Mathlib.Nat.{mod-lt, mod-eq_of_lt, mod-eq-sub-mod}
use native.Mathlib.Omega.{arith}
use lib.Dec.{leb, ltb}
use borrow.Author.Tests.{leb-true, leb-false, ltb-true, ltb-false, le-leb, lt-ltb}
use Rattle.reused.specs.Circle.{ahead, arc}
use Rattle.reused_linear.specs.Arcs.{way, InArc}

-- d further from b comes to a, perhaps past the end of the circle
abbrev pub Comes : ℕ → ℕ → ℕ → ℕ → Type 0
Comes m b d a = (b + d ≡ a) ⊎ (b + d ≡ a + m)

-- two flags joined
pub or_true : (s t : Bool) → (s || t) ≡ true → (s ≡ true) ⊎ (t ≡ true)
or_true true t e = inl refl
or_true false t e = inr e

pub and_true : (s t : Bool) → (s && t) ≡ true → (s ≡ true) × (t ≡ true)
and_true true t e = (refl, e)
and_true false t e = absurd (false≢true e)

module _ {m : ℕ} where
  -- the way is below m, and comes there
  way_in : (b a : ℕ) → b < m → way m b a < m
  unfolding way
  way_in b a l = mod-lt ((a + m) - b) (omega arith)

  way_comes : (b a : ℕ) → b < m → a < m → Comes m b (way m b a) a
  unfolding way
  way_comes b a k l = go (leb b a) refl
    where
      go : (t : Bool) → leb b a ≡ t → Comes m b (((a + m) - b) % m) a
      go true e =
          let le : b ≤ a = leb-true b a e in
          let far : m ≤ (a + m) - b = omega arith in
          let d : ((a + m) - b) % m ≡ ((a + m) - b) - m = mod-eq-sub-mod far ∙ mod-eq_of_lt (omega arith) in
          inl (omega (arith, d, le))
      go false e =
          let lt : a < b = leb-false b a e in
          let d : ((a + m) - b) % m ≡ (a + m) - b = mod-eq_of_lt (omega arith) in
          inr (omega (arith, d, lt))

  -- only one way below m comes there
  pub way_one : (b a d : ℕ) → b < m → a < m → d < m → Comes m b d a → way m b a ≡ d
  way_one b a d k l f h = go (way_in b a k) (way_comes b a k l) h
    where
      go : way m b a < m → Comes m b (way m b a) a → Comes m b d a → way m b a ≡ d
      go i (inl e) (inl g) = omega (arith, e, g)
      go i (inl e) (inr g) = omega (arith, e, g, f, i)
      go i (inr e) (inl g) = omega (arith, e, g, f, i)
      go i (inr e) (inr g) = omega (arith, e, g)

  pub way_self : (b : ℕ) → b < m → way m b b ≡ 0
  way_self b k = way_one b b 0 k k (omega arith) (inl (omega arith))

  pub way_below : (b a : ℕ) → b < m → way m b a < m
  way_below b a k = way_in b a k

  -- what is ahead is below m
  pub ahead_below : (a k : ℕ) → a < m → ahead m a k < m
  unfolding ahead
  ahead_below a k l = mod-lt (a + k) (omega arith)

  -- and k further comes there, if k is at most m
  ahead_comes : (a k : ℕ) → a < m → k ≤ m → Comes m a k (ahead m a k)
  unfolding ahead
  ahead_comes a k l f = go (ltb (a + k) m) refl
    where
      go : (t : Bool) → ltb (a + k) m ≡ t → Comes m a k ((a + k) % m)
      go true e = inl (sym (mod-eq_of_lt (ltb-true (a + k) m e)))
      go false e =
          let le : m ≤ a + k = ltb-false (a + k) m e in
          let d : (a + k) % m ≡ (a + k) - m = mod-eq-sub-mod le ∙ mod-eq_of_lt (omega arith) in
          inr (omega (arith, d, le))

  -- going on: a way that stays below m grows by what is added
  pub way_ahead : (b a k : ℕ) → b < m → a < m → way m b a + k < m → way m b (ahead m a k) ≡ way m b a + k
  way_ahead b a k f l room = way_one b (ahead m a k) (way m b a + k) f (ahead_below a k l) room (go (way_comes b a f l) (ahead_comes a k l (omega arith)))
    where
      go : Comes m b (way m b a) a → Comes m a k (ahead m a k) → Comes m b (way m b a + k) (ahead m a k)
      go (inl e) (inl g) = inl (omega (arith, e, g))
      go (inl e) (inr g) = inr (omega (arith, e, g))
      go (inr e) (inl g) = inr (omega (arith, e, g))
      go (inr e) (inr g) = absurd (omega (arith, e, g, f, room))

  -- the same way from another point c: r is the way from b to c
  turned : (b c a : ℕ) → b < m → c < m → a < m → (way m b c ≤ way m b a → way m b c + way m c a ≡ way m b a) × (way m b a < way m b c → way m b c + way m c a ≡ way m b a + m)
  turned b c a f g l = go (way_in b c f) (way_in b a f) (way_in c a g) (way_comes b c f g) (way_comes b a f l) (way_comes c a g l)
    where
      go : way m b c < m → way m b a < m → way m c a < m → Comes m b (way m b c) c → Comes m b (way m b a) a → Comes m c (way m c a) a
          → (way m b c ≤ way m b a → way m b c + way m c a ≡ way m b a) × (way m b a < way m b c → way m b c + way m c a ≡ way m b a + m)
      go i j k (inl x) (inl y) (inl z) = (λ h. omega (arith, x, y, z), λ h. absurd (omega (arith, x, y, z, h)))
      go i j k (inl x) (inl y) (inr z) = (λ h. absurd (omega (arith, x, y, z, h, k)), λ h. omega (arith, x, y, z))
      go i j k (inl x) (inr y) (inl z) = (λ h. omega (arith, x, y, z, h, i, j, k, f, g, l), λ h. absurd (omega (arith, x, y, z, h, i, j, k, f, g, l)))
      go i j k (inl x) (inr y) (inr z) = (λ h. omega (arith, x, y, z, h), λ h. absurd (omega (arith, x, y, z, h)))
      go i j k (inr x) (inl y) (inl z) = (λ h. absurd (omega (arith, x, y, z, h, i, j, k)), λ h. omega (arith, x, y, z, h, i, j, k))
      go i j k (inr x) (inl y) (inr z) = (λ h. absurd (omega (arith, x, y, z, h, i, j, k, f, g, l)), λ h. absurd (omega (arith, x, y, z, h, i, j, k, f, g, l)))
      go i j k (inr x) (inr y) (inl z) = (λ h. omega (arith, x, y, z, h), λ h. absurd (omega (arith, x, y, z, h)))
      go i j k (inr x) (inr y) (inr z) = (λ h. absurd (omega (arith, x, y, z, h, i, j, k)), λ h. omega (arith, x, y, z, h))

  -- A window of w numbers from c on, that ends before b: what is in it, by its way from b; and what is before it is not in it.
  pub in_window : (b c a w : ℕ) → b < m → c < m → a < m → way m b c + w ≤ m → way m c a < w → (way m b c ≤ way m b a) × (way m b a < way m b c + w)
  in_window b c a w f g l room h = go (turned b c a f g l) (leb (way m b c) (way m b a)) refl
    where
      go : (way m b c ≤ way m b a → way m b c + way m c a ≡ way m b a) × (way m b a < way m b c → way m b c + way m c a ≡ way m b a + m)
          → (t : Bool) → leb (way m b c) (way m b a) ≡ t → (way m b c ≤ way m b a) × (way m b a < way m b c + w)
      go (up, down) true e =
          let le : way m b c ≤ way m b a = leb-true _ _ e in
          let s : way m b c + way m c a ≡ way m b a = up le in
          (le, omega (arith, s, h))
      go (up, down) false e =
          let lt : way m b a < way m b c = leb-false _ _ e in
          let s : way m b c + way m c a ≡ way m b a + m = down lt in
          absurd (omega (arith, s, h, room))

  pub before_window : (b c a w : ℕ) → b < m → c < m → a < m → way m b c + w ≤ m → way m b a < way m b c → w ≤ way m c a
  before_window b c a w f g l room h =
      let s : way m b c + way m c a ≡ way m b a + m = (turned b c a f g l).1 h in
      omega (arith, s, room)

  -- An arc from c to e that does not pass b is an interval of ways from b.
  pub in_arc : (b c e a : ℕ) → b < m → c < m → e < m → a < m → way m b c ≤ way m b e → InArc m c e a → (way m b c ≤ way m b a) × (way m b a < way m b e)
  in_arc b c e a f g k l up h =
      let s : way m b c + way m c e ≡ way m b e = (turned b c e f g k).0 up in
      let w = in_window b c a (way m c e) f g l (omega (arith, s, way_in b e f)) h in
      (w.0, omega (arith, w.1, s))

  pub arc_in : (b c e a : ℕ) → b < m → c < m → e < m → a < m → way m b c ≤ way m b e → way m b c ≤ way m b a → way m b a < way m b e → InArc m c e a
  arc_in b c e a f g k l up low high =
      let s : way m b c + way m c e ≡ way m b e = (turned b c e f g k).0 up in
      let t : way m b c + way m c a ≡ way m b a = (turned b c a f g l).0 low in
      omega (arith, s, t, high)

  -- Figure 13's arc is the same: a is one of the c numbers from b on.
  pub arc_way : (a b c : ℕ) → a < m → b < m → c ≤ m → arc a b c m ≡ true → way m b a < c
  unfolding arc
  arc_way a b c l f small e = go (or_true (leb b a && ltb a (b + c)) (leb b (a + m) && ltb (a + m) (b + c)) e) (way_in b a f) (way_comes b a f l)
    where
      go : ((leb b a && ltb a (b + c)) ≡ true) ⊎ ((leb b (a + m) && ltb (a + m) (b + c)) ≡ true) → way m b a < m → Comes m b (way m b a) a → way m b a < c
      go (inl t) i (inl w) = let h = and_true (leb b a) (ltb a (b + c)) t in omega (arith, w, ltb-true a (b + c) h.1)
      go (inl t) i (inr w) = let h = and_true (leb b a) (ltb a (b + c)) t in absurd (omega (arith, w, i, leb-true b a h.0))
      go (inr t) i (inl w) = let h = and_true (leb b (a + m)) (ltb (a + m) (b + c)) t in omega (arith, w, ltb-true (a + m) (b + c) h.1)
      go (inr t) i (inr w) = let h = and_true (leb b (a + m)) (ltb (a + m) (b + c)) t in omega (arith, w, ltb-true (a + m) (b + c) h.1)

  pub way_arc : (a b c : ℕ) → a < m → b < m → way m b a < c → arc a b c m ≡ true
  unfolding arc
  way_arc a b c l f h = go (way_comes b a f l)
    where
      or_right : (s : Bool) → (s || true) ≡ true
      or_right true = refl
      or_right false = refl

      go : Comes m b (way m b a) a → ((leb b a && ltb a (b + c)) || (leb b (a + m) && ltb (a + m) (b + c))) ≡ true
      go (inl w) = rw (le-leb b a (omega (arith, w)), lt-ltb a (b + c) (omega (arith, w, h)))
      go (inr w) = rw (le-leb b (a + m) (omega (arith, w, l, f)), lt-ltb (a + m) (b + c) (omega (arith, w, h))) (or_right (leb b a && ltb a (b + c)))

  pub no_arc : (a b c : ℕ) → a < m → b < m → arc a b c m ≡ false → c ≤ way m b a
  no_arc a b c l f e = go (ltb (way m b a) c) refl
    where
      go : (t : Bool) → ltb (way m b a) c ≡ t → c ≤ way m b a
      go true h = absurd (false≢true (sym e ∙ way_arc a b c l f (ltb-true (way m b a) c h)))
      go false h = ltb-false (way m b a) c h
