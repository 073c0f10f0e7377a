-- Steps and replies, whichever machine it was: a process stands in no call, in one that is not decided, or in a store that is decided and
-- not answered. How that goes on with each item; no order, no words and no values in it. A machine says at which stage each of its places
-- is. Assumes nothing.
use Prim.Native.Nat.{ℕ, suc, ◌<◌}
use mathlib.Core.Path.{◌≡◌, refl, sym, ap, ◌∙◌, fun_ext, subst}
use mathlib.Core.Bool.{Bool, true, false, cond, ◌&&◌}
use mathlib.Core.Logic.{◌≢◌}
use mathlib.Core.List.Memᴰ
use mathlib.Core.List.{List, [], ◌∷◌, ◌++◌, Memᴰ}
use native.Mathlib.Omega.{arith}
use lib.Dec.{eqb}
use Rattle.word.specs.Word.{Op, load, check, Answer, done, put, Call}
use Rattle.word.specs.Calls.{asks, goes, answers, away, Reply, Calls, is_store, is_done, no_calls, call_by, reply_by, decides, go_on}
use Rattle.word.proofs.Put.{split, put_same, put_other}
use Rattle.word.proofs.Lists.{every_map, every_snoc}
use Rattle.word.proofs.Good.{Own, own_snoc}
use Rattle.word.proofs.Told.{Since, Told, told_start, told_tick, told_call, told_reply, told_both}

pub data Asking : Type 0 where
  loads : Asking
  stores : Asking
  checks : Asking

-- no call; a call before its own step of that rank, not decided; a store before that step, decided as done
pub data Stage : Type 0 where
  shut : Stage
  undecided : (rank : ℕ) → Asking → Stage
  decided : (rank : ℕ) → Stage

abbrev pub is_open : Stage → Bool
is_open shut = false
is_open (undecided rank k) = true
is_open (decided rank) = true

module _ {A : Type 0} where
  abbrev pub Asks : Asking → Op A → Type 0
  Asks loads o = o ≡ load
  Asks stores o = is_store o ≡ true
  Asks checks o = o ≡ check

  -- q's call, requested at t, has taken n own steps, and its next will be its `rank`th
  pub record Open (q t n rank now : ℕ) (replies : List (Reply A)) : Type 0 where
    pub counted : suc n ≡ rank
    pub before : t < now
    pub since : Since q t replies

  -- the call that is played for a store that is decided as done
  abbrev pub done_call : ℕ → ℕ → ℕ → Op A → ℕ → Call A
  done_call q t w op d = record { asked = t; decided = d; process = q; word = w; op = op; answer = done }

  abbrev pub KnownAt : ℕ → ℕ → ℕ → ℕ → Op A → ℕ → List (Call A) → List (Reply A) → Stage → Type 0
  KnownAt q t w n op now played replies shut = Unit {0}
  KnownAt q t w n op now played replies (undecided rank k) = Open q t n rank now replies × Asks k op × Own q t played
  KnownAt q t w n op now played replies (decided rank) =
      Open q t n rank now replies × (is_store op ≡ true) × ((d : ℕ) × (d < now) × Memᴰ (done_call q t w op d) played)

  abbrev pub KnownOf : Calls A → ℕ → Stage → Type 0
  KnownOf c q s = KnownAt q (c.asked q) (c.word q) (c.steps q) (c.op q) c.now c.played c.replies s

  pub record Known (n : ℕ) (stage : ℕ → Stage) (c : Calls A) : Type 0 where
    pub told : Told c.now c.played c.replies
    pub opens : (q : ℕ) → q < n → c.opened q ≡ is_open (stage q)
    pub each : (q : ℕ) → q < n → KnownOf c q (stage q)

  pub known_start : (n : ℕ) (stage : ℕ → Stage) → ((q : ℕ) → q < n → stage q ≡ shut) → Known n stage no_calls
  known_start n stage idle =
      record { told = told_start; opens = λ q l. ap is_open (sym (idle q l)); each = λ q l. subst (KnownOf no_calls q) (sym (idle q l)) tt }

  -- the stages by what p's is and what the others' are
  pub known_put : {n p : ℕ} {s : Stage} {stage stage' : ℕ → Stage} {c : Calls A} → stage' p ≡ s → ((q : ℕ) → q ≢ p → stage' q ≡ stage q) → Known n (put p s stage) c → Known n stage' c
  known_put {n} {p} {s} {stage} {stage'} {c} here others k =
      subst (λ (f : ℕ → Stage). Known n f c)
      (fun_ext (split (λ q. put p s stage q ≡ stage' q) p (put_same p s stage ∙ sym here) (λ q ne. put_other p s stage q ne ∙ sym (others q ne)))) k

  -- whether a step of a call that asks so and has taken so many steps decides a store
  pub decides_at : (d : ℕ) (c : Calls A) (p rank : ℕ) (b : Bool) → is_store (c.op p) ≡ b → suc (c.steps p) ≡ rank → decides d c p ≡ (b && eqb rank d)
  decides_at d c p rank b e f = rw (e, f)

  -- A process that takes no step: the calls played only grow, and new replies are not its own.
  at_on : (q t w n : ℕ) (op : Op A) (now : ℕ) (played played' : List (Call A)) (replies replies' : List (Reply A))
      → ((c : Call A) → Memᴰ c played → Memᴰ c played') → (Since q t replies → Since q t replies') → (Own q t played → Own q t played')
      → (s : Stage) → KnownAt q t w n op now played replies s → KnownAt q t w n op (suc now) played' replies' s
  at_on q t w n op now played played' replies replies' grow since own shut k = tt
  at_on q t w n op now played played' replies replies' grow since own (undecided rank a) (o, want, mine) =
      (record { counted = o.counted; before = omega (arith, o.before); since = since o.since }, want, own mine)
  at_on q t w n op now played played' replies replies' grow since own (decided rank) (o, want, (d, l, m)) =
      (record { counted = o.counted; before = omega (arith, o.before); since = since o.since }, want, (d, omega arith, grow (done_call q t w op d) m))

  -- one own step more
  next_step : {q t n rank now : ℕ} {replies : List (Reply A)} (steps : ℕ → ℕ) → Open q t n rank now replies → Open q t (put q (suc n) steps q) (suc rank) (suc now) replies
  next_step {q} {t} {n} steps o =
      record { counted = ap suc (put_same q (suc n) steps ∙ o.counted); before = omega (arith, o.before); since = o.since }

  -- The calls after a step of p that goes on, if it decides a store or not; and after one that answers p's call, if that was decided
  -- before or not.
  abbrev pub gone : Calls A → ℕ → Bool → Calls A
  gone c p b =
      record {
        now = suc c.now;
        opened = c.opened;
        asked = c.asked;
        word = c.word;
        op = c.op;
        steps = put p (suc (c.steps p)) c.steps;
        played = cond b (c.played ++ call_by c p done ∷ []) c.played;
        replies = c.replies;
      }

  abbrev pub closed : Calls A → ℕ → Answer A → Bool → Calls A
  closed c p a b =
      record {
        now = suc c.now;
        opened = put p false c.opened;
        asked = c.asked;
        word = c.word;
        op = c.op;
        steps = put p (suc (c.steps p)) c.steps;
        played = cond b c.played (c.played ++ call_by c p a ∷ []);
        replies = c.replies ++ reply_by c p a ∷ [];
      }

  module _ {n : ℕ} {stage : ℕ → Stage} {c : Calls A} (known : Known n stage c) (d : ℕ) where
    -- an entry that was turned away
    pub known_away : Known n stage (go_on d c away)
    known_away =
        record {
          told = told_tick known.told;
          opens = known.opens;
          each = λ q l. at_on q (c.asked q) (c.word q) (c.steps q) (c.op q) c.now c.played c.played c.replies c.replies (λ x m. m) (λ h. h) (λ h. h) (stage q) (known.each q l);
        }

    module _ (p : ℕ) (l : p < n) where
      pub known_at : {s : Stage} → stage p ≡ s → KnownOf c p s
      known_at e = subst (KnownOf c p) e (known.each p l)

      pub opened_at : {s : Stage} → stage p ≡ s → c.opened p ≡ is_open s
      opened_at e = known.opens p l ∙ ap is_open e

      -- An entry of p: what is new of p, and the rest as it was.
      known_on : (c' : Calls A) (s : Stage) → c'.now ≡ suc c.now → ((q : ℕ) → q ≢ p → c'.opened q ≡ c.opened q) → ((q : ℕ) → q ≢ p → c'.asked q ≡ c.asked q)
          → ((q : ℕ) → q ≢ p → c'.word q ≡ c.word q) → ((q : ℕ) → q ≢ p → c'.op q ≡ c.op q) → ((q : ℕ) → q ≢ p → c'.steps q ≡ c.steps q)
          → ((x : Call A) → Memᴰ x c.played → Memᴰ x c'.played) → ((q t : ℕ) → q ≢ p → Since q t c.replies → Since q t c'.replies)
          → ((q t : ℕ) → q ≢ p → Own q t c.played → Own q t c'.played) → Told (suc c.now) c'.played c'.replies
          → c'.opened p ≡ is_open s → KnownAt p (c'.asked p) (c'.word p) (c'.steps p) (c'.op p) (suc c.now) c'.played c'.replies s
          → Known n (put p s stage) c'
      known_on c' s now same-opened same_asked same_word same_op same-steps grow since fresh told here mine =
          record {
            told = subst (λ (k : ℕ). Told k c'.played c'.replies) (sym now) told;
            opens =
                split (λ q. q < n → c'.opened q ≡ is_open (put p s stage q)) p
                (λ i. here ∙ ap is_open (sym (put_same p s stage)))
                (λ q ne i. same-opened q ne ∙ known.opens q i ∙ ap is_open (sym (put_other p s stage q ne)));
            each =
                split (λ q. q < n → KnownOf c' q (put p s stage q)) p
                (λ i. later p s (put p s stage p) (sym (put_same p s stage)) mine)
                (λ q ne i. later q (stage q) (put p s stage q) (sym (put_other p s stage q ne))
                (subst (λ (t : ℕ). KnownAt q t (c'.word q) (c'.steps q) (c'.op q) (suc c.now) c'.played c'.replies (stage q)) (sym (same_asked q ne))
                (subst (λ (w : ℕ). KnownAt q (c.asked q) w (c'.steps q) (c'.op q) (suc c.now) c'.played c'.replies (stage q)) (sym (same_word q ne))
                (subst (λ (k : ℕ). KnownAt q (c.asked q) (c.word q) k (c'.op q) (suc c.now) c'.played c'.replies (stage q)) (sym (same-steps q ne))
                (subst (λ (o : Op A). KnownAt q (c.asked q) (c.word q) (c.steps q) o (suc c.now) c'.played c'.replies (stage q)) (sym (same_op q ne))
                (at_on q (c.asked q) (c.word q) (c.steps q) (c.op q) c.now c.played c'.played c.replies c'.replies grow (since q (c.asked q) ne) (fresh q (c.asked q) ne) (stage q)
                (known.each q i)))))));
          }
        where
          later : (q : ℕ) (s s' : Stage) → s ≡ s' → KnownAt q (c'.asked q) (c'.word q) (c'.steps q) (c'.op q) (suc c.now) c'.played c'.replies s → KnownOf c' q s'
          later q s s' e k = subst (λ (i : ℕ). KnownAt q (c'.asked q) (c'.word q) (c'.steps q) (c'.op q) i c'.played c'.replies s') (sym now) (subst (KnownAt q (c'.asked q) (c'.word q) (c'.steps q) (c'.op q) (suc c.now) c'.played c'.replies) e k)

      -- a request that was taken
      pub known_asks : (w : ℕ) (o : Op A) (k : Asking) → Asks k o → Known n (put p (undecided 1 k) stage) (go_on d c (asks p w o))
      known_asks w o k asked =
          known_on (go_on d c (asks p w o)) (undecided 1 k) refl (put_other p true c.opened) (put_other p c.now c.asked) (put_other p w c.word) (put_other p o c.op) (put_other p 0 c.steps)
          (λ x m. m) (λ q t ne h. h) (λ q t ne h. h) (told_tick known.told) (put_same p true c.opened) (
            record {
              counted = ap suc (put_same p 0 c.steps);
              before = omega (arith, put_same p c.now c.asked);
              since = subst (λ (t : ℕ). Since p t c.replies) (sym (put_same p c.now c.asked))
                  (every_map (λ r. (r.asked < r.place) × (r.place < c.now)) (λ r. r.process ≡ p → r.place < c.now) (λ r i e. i.1) c.replies known.told.spans);
            },
            subst (Asks k) (sym (put_same p o c.op)) asked,
            subst (λ (t : ℕ). Own p t c.played) (sym (put_same p c.now c.asked))
                (every_map (λ x. x.decided < c.now) (λ x. x.process ≡ p → x.decided < c.now) (λ x i e. i) c.played known.told.decided),
          )

      goes_by : {b : Bool} (s : Stage) → decides d c p ≡ b → Known n (put p s stage) (gone c p b) → Known n (put p s stage) (go_on d c (goes p))
      goes_by {b} s e k = subst (λ (t : Bool). Known n (put p s stage) (gone c p t)) (sym e) k

      -- a step that goes on and decides nothing, of a call that is not decided and of a store that is
      goes_quiet : (s : Stage) → decides d c p ≡ false → c.opened p ≡ is_open s
          → KnownAt p (c.asked p) (c.word p) (put p (suc (c.steps p)) c.steps p) (c.op p) (suc c.now) c.played c.replies s → Known n (put p s stage) (go_on d c (goes p))
      goes_quiet s no_store here mine =
          goes_by s no_store
          (known_on (gone c p false) s refl (λ q ne. refl) (λ q ne. refl) (λ q ne. refl) (λ q ne. refl) (put_other p (suc (c.steps p)) c.steps)
          (λ x m. m) (λ q t ne h. h) (λ q t ne h. h) (told_tick known.told) here mine)

      pub known_goes : {rank : ℕ} {k : Asking} → stage p ≡ undecided rank k → decides d c p ≡ false → Known n (put p (undecided (suc rank) k) stage) (go_on d c (goes p))
      known_goes {rank} {k} e no_store =
          let (o, asked, own) = known_at e in
          goes_quiet (undecided (suc rank) k) no_store (opened_at e) (next_step c.steps o, asked, own)

      pub known_stored : {rank : ℕ} → stage p ≡ decided rank → decides d c p ≡ false → Known n (put p (decided (suc rank)) stage) (go_on d c (goes p))
      known_stored {rank} e no_store =
          let (o, asked, (b, l, m)) = known_at e in
          goes_quiet (decided (suc rank)) no_store (opened_at e) (next_step c.steps o, asked, (b, omega arith, m))

      -- a store's step that decides it as done
      pub known_done : {rank : ℕ} → stage p ≡ undecided rank stores → decides d c p ≡ true → Known n (put p (decided (suc rank)) stage) (go_on d c (goes p))
      known_done {rank} e a-store =
          let (o, asked, own) = known_at e in
          goes_by (decided (suc rank)) a-store
          (known_on (gone c p true) (decided (suc rank)) refl (λ q ne. refl) (λ q ne. refl) (λ q ne. refl) (λ q ne. refl) (put_other p (suc (c.steps p)) c.steps)
          (λ x m. Memᴰ.append_left _ m) (λ q t ne h. h) (λ q t ne h. own_snoc q t c.played (call_by c p done) (λ f. ne (sym f)) h)
          (told_call known.told (call_by c p done) o.before refl refl o.since own) (opened_at e)
          (next_step c.steps o, asked, (c.now, omega arith, Memᴰ.append_right c.played (Memᴰ.head refl))))

      not_mine : (a : Answer A) (q t : ℕ) → q ≢ p → Since q t c.replies → Since q t (c.replies ++ reply_by c p a ∷ [])
      not_mine a q t ne h = every_snoc (λ r. r.process ≡ q → r.place < t) c.replies (reply_by c p a) h (λ e. absurd (ne (sym e)))

      -- an answer that decides its call
      pub known_answers : {rank : ℕ} {k : Asking} (a : Answer A) → is_done a ≡ false → stage p ≡ undecided rank k → Known n (put p shut stage) (go_on d c (answers p a))
      known_answers a not_done e =
          let (o, asked, own) = known_at e in
          subst (λ (t : Bool). Known n (put p shut stage) (closed c p a t)) (sym not_done)
          (known_on (closed c p a false) shut refl (put_other p false c.opened) (λ q ne. refl) (λ q ne. refl) (λ q ne. refl) (put_other p (suc (c.steps p)) c.steps)
          (λ x m. Memᴰ.append_left _ m) (not_mine a) (λ q t ne h. own_snoc q t c.played (call_by c p a) (λ f. ne (sym f)) h)
          (told_both known.told (reply_by c p a) o.before refl o.since own) (put_same p false c.opened) tt)

      -- "done", to a store that was decided before
      pub known_answered : {rank : ℕ} → stage p ≡ decided rank → Known n (put p shut stage) (go_on d c (answers p done))
      known_answered e =
          let (o, asked, (b, l, m)) = known_at e in
          known_on (closed c p done true) shut refl (put_other p false c.opened) (λ q ne. refl) (λ q ne. refl) (λ q ne. refl) (put_other p (suc (c.steps p)) c.steps)
          (λ x i. i) (not_mine done) (λ q t ne h. h) (told_reply known.told (reply_by c p done) o.before refl (b, omega arith, m)) (put_same p false c.opened) tt
