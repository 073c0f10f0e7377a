-- An order of the calls decided so far, and the three ways in which it goes on: an entry that decides nothing, a call decided at the
-- end, a load put in at its place. A machine's proof holds a `Good` and calls these three; nothing of a machine is said here.
-- Assumes nothing.
use Prim.Native.Nat.{ℕ, suc, ◌≤◌, ◌<◌}
use mathlib.Core.Path.{◌≡◌, sym, ◌∙◌, subst}
use mathlib.Core.Option.{none}
use mathlib.Core.Logic.{◌≢◌}
use mathlib.Core.List.Perm
use mathlib.Core.List.{List, [], ◌∷◌, ◌++◌, Perm, perm_append_singleton, append-nil}
use native.Mathlib.Nat.{zero-add}
use native.Mathlib.Omega.{arith}
use Rattle.word.specs.Word.{answer_of, first, Call, Every, words_after, Plays, InTime, StandsFirst, InOrder}
use Rattle.word.proofs.Lists.{every_map, every_both, every_drop, every_snoc}
use Rattle.word.proofs.RealTime.{stands_first}
use Rattle.word.proofs.Play.{plays_snoc}
use Rattle.word.proofs.Changes.{writes, total, value_after, count_after, value_after_lem}
use Rattle.word.proofs.From.{place, behind, From, from_total, from_later, from_snoc}
use Rattle.word.proofs.Relink.{relink}
use Rattle.word.proofs.Insert.{load_call, ins, ins_perm, every_ins, from_ins, in_time_mid, ins_in_time, ins_plays, ins_after}

module _ {A : Type 0} where
  -- requested, then decided, both before now
  abbrev pub Past : ℕ → Call A → Type 0
  Past now c = (c.asked < c.decided) × (c.decided < now)

  -- The order holds just the calls decided before `now`, keeps real time, and plays from the start with first value a.
  pub record Good (a : A) (now : ℕ) (order played : List (Call A)) : Type 0 where
    pub plays : Plays (first a) order
    pub past : Every (Past now) order
    pub in_time : InTime order
    pub once : Perm order played

  -- Every call of p is decided before t: so it is while p's call requested at t is open and not decided.
  abbrev pub Own : ℕ → ℕ → List (Call A) → Type 0
  Own p t l = Every (λ c. c.process ≡ p → c.decided < t) l

  -- All that stands from change n + 1 of w on was decided after t.
  abbrev pub Late : ℕ → ℕ → ℕ → List (Call A) → Type 0
  Late w n t l = From w n (λ c. t < c.decided) l

  -- A load by r of w, requested at t, may be answered now with the value after n changes.
  pub record MayLoad (now t r w n : ℕ) (order : List (Call A)) : Type 0 where
    pub asked : t < now
    pub own : Own r t order
    pub late : Late w n t order
    pub fits : n ≤ total w order

  -- the start
  pub good_start : (a : A) → Good a 0 [] []
  good_start a = record { plays = tt; past = tt; in_time = tt; once = Perm.nil }

  later : (now : ℕ) (l : List (Call A)) → Every (Past now) l → Every (Past (suc now)) l
  later now l h = every_map (Past now) (Past (suc now)) (λ c k. (k.0, omega arith)) l h

  -- 1. an entry that decides nothing
  pub good_tick : {a : A} {now : ℕ} {order played : List (Call A)} → Good a now order played → Good a (suc now) order played
  good_tick {now = now} {order = order} g =
      record { plays = g.plays; past = later now order g.past; in_time = g.in_time; once = g.once }

  -- 2. A call decided now, at the end, if its answer is the one that the word gives there. All before it were requested before now.
  pub good_append : {a : A} {now : ℕ} {order played : List (Call A)} (c : Call A) → Good a now order played → c.asked < now → c.decided ≡ now
      → answer_of (words_after (first a) order c.word) c.process c.op ≡ c.answer → Good a (suc now) (order ++ c ∷ []) (played ++ c ∷ [])
  good_append {a} {now} {order} {played} c g asked decided right = record {
    plays = plays_snoc (first a) order c g.plays right;
    past = every_snoc (Past (suc now)) order c (later now order g.past) (omega arith);
    in_time =
        in_time_mid order [] c (subst InTime (sym (append-nil order)) g.in_time)
        (every_map (Past now) (λ d. d.asked < c.decided) (λ d k. omega arith) order g.past) tt;
    once = Perm.append_right (c ∷ []) g.once;
  }

  -- From change n + 1 on there is no call of r: it would be decided before t, by `own`, and after t, by `late`.
  others : (now t r w n : ℕ) (order : List (Call A)) → MayLoad now t r w n order → From w n (λ c. c.process ≢ r) order
  others now t r w n order m =
      every_map _ (λ c. c.process ≢ r) (λ c k e. absurd (omega (arith, k.0 e, k.1))) (behind w n order)
      (every_both (λ c. c.process ≡ r → c.decided < t) (λ c. t < c.decided) (behind w n order) (every_drop _ (place w n order) order m.own) m.late)

  -- 3. A load answered now, put in before change n + 1 of its word. A load of the current value is the same with n the count.
  pub good_load : {a : A} {now : ℕ} {order played : List (Call A)} (t r w n : ℕ) → Good a now order played → MayLoad now t r w n order
      → Good a (suc now) (ins w n (load_call t now r w (value_after w n a order)) order)
      (played ++ load_call t now r w (value_after w n a order) ∷ [])
  good_load {a} {now} {order} {played} t r w n g m = record {
    plays = ins_plays w n a order g.plays m.fits t now r (others now t r w n order m);
    past = every_ins w n (Past (suc now)) x order (omega arith) (later now order g.past);
    in_time = ins_in_time w n x order g.in_time (every_map (Past now) (λ d. d.asked < now) (λ d k. omega arith) order g.past) m.late;
    once = Perm.trans (ins_perm w n x order) (Perm.trans (Perm.cons x g.once) (Perm.symm (perm_append_singleton x played)));
  }
    where
      x : Call A
      x = load_call t now r w (value_after w n a order)

  -- and the end of play is as it was, but for r's link to w, which is n
  pub good_load_after : {a : A} {now : ℕ} {order played : List (Call A)} (t r w n : ℕ) → Good a now order played → MayLoad now t r w n order
      → words_after (first a) (ins w n (load_call t now r w (value_after w n a order)) order) ≡ relink r w n (words_after (first a) order)
  good_load_after {a} {now} {order} t r w n g m = ins_after w n a order g.plays m.fits t now r (others now t r w n order m)

  -- At the end: the calls can be put in one order,
  abbrev pub good_order : {a : A} {now : ℕ} {order played : List (Call A)} → Good a now order played → InOrder a played
  good_order {order = order} g = record { order = order; once = g.once; in_time = g.in_time; plays = g.plays }

  -- and a call answered before another was requested stands first in it, if each is answered when or after it is decided.
  pub good_first : {a : A} {now : ℕ} {order played : List (Call A)} (Answered : Call A → ℕ → Type 0) → Good a now order played
      → Every (λ c. (t : ℕ) → Answered c t → c.decided ≤ t) order → StandsFirst Answered order
  good_first {now = now} {order = order} Answered g late =
      stands_first Answered order g.in_time (every_map (Past now) (λ c. c.asked < c.decided) (λ c k. k.0) order g.past) late

  -- How `Own` and `Late` come and go on. A request at now: all calls so far were decided before it.
  pub own_new : {a : A} {now : ℕ} {order played : List (Call A)} (p : ℕ) → Good a now order played → Own p now order
  own_new {now = now} {order = order} p g = every_map (Past now) (λ c. c.process ≡ p → c.decided < now) (λ c k e. k.1) order g.past

  -- a call of another process, at the end or put in
  pub own_snoc : (p t : ℕ) (l : List (Call A)) (c : Call A) → c.process ≢ p → Own p t l → Own p t (l ++ c ∷ [])
  own_snoc p t l c ne h = every_snoc _ l c h (λ e. absurd (ne e))

  pub own_ins : (w n p t : ℕ) (x : Call A) (l : List (Call A)) → x.process ≢ p → Own p t l → Own p t (ins w n x l)
  own_ins w n p t x l ne h = every_ins w n _ x l (λ e. absurd (ne e)) h

  -- the first step of a load, with n the count: nothing stands behind it yet
  pub late_new : (w t : ℕ) (l : List (Call A)) → Late w (total w l) t l
  late_new w t l = from_total w (λ c. t < c.decided) l

  -- the next call, decided after t, at the end or a load put in; and a later change
  pub late_snoc : (w n t : ℕ) (l : List (Call A)) (c : Call A) → t < c.decided → Late w n t l → Late w n t (l ++ c ∷ [])
  late_snoc w n t l c h k = from_snoc w n (λ d. t < d.decided) l c h k

  pub late_ins : (w n u m t : ℕ) (x : Call A) (l : List (Call A)) → writes u x ≡ none → t < x.decided → Late u m t l → Late u m t (ins w n x l)
  late_ins w n u m t x l quiet h k = from_ins w n u x l quiet m (λ d. t < d.decided) h k

  pub late_later : (w n m t : ℕ) (l : List (Call A)) → n ≤ m → Late w n t l → Late w m t l
  late_later w n m t l h k = from_later w n m (λ c. t < c.decided) l h k

  -- At the end of play of a Good order, count and value of w are its total and the value after all its changes.
  pub good_count : {a : A} {now : ℕ} {order played : List (Call A)} (w : ℕ) → Good a now order played
      → (words_after (first a) order w).count ≡ total w order
  good_count {a} {order = order} w g = count_after w (first a) order g.plays ∙ zero-add (total w order)

  pub good_value : {a : A} {now : ℕ} {order played : List (Call A)} (w : ℕ) → Good a now order played
      → (words_after (first a) order w).current ≡ value_after w (total w order) a order
  good_value {a} {order = order} w g = value_after_lem w (first a) order a g.plays
