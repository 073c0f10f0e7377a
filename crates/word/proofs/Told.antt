-- The replies and the calls played so far, with no machine in them: how they go on when an entry decides a call, answers one, or both.
-- Assumes nothing.
use Prim.Native.Nat.{ℕ, suc, ◌≤◌, ◌<◌}
use mathlib.Core.Path.{◌≡◌, refl, sym, ap, subst}
use mathlib.Core.Bool.{Bool, true, false, cond}
use mathlib.Core.Logic.{inl, inr, ⊎_elim}
use mathlib.Core.List.Memᴰ
use mathlib.Core.List.{List, [], ◌∷◌, ◌++◌, Memᴰ}
use native.Mathlib.Omega.{arith}
use Rattle.word.specs.Word.{value, done, not_done, says_yes, says_no, Call, Every}
use Rattle.word.specs.Calls.{Item, asks, goes, answers, away, Reply, Calls, is_done, call_by, decides, go_on, done_count, call_of, IsPlayed, OneByOne, AnsweredOrDone}
use Rattle.word.specs.Decides.{decides_in}
use Rattle.word.proofs.Lists.{every_map, every_both, every_snoc}
use Rattle.word.proofs.Good.{Own}

-- what holds of every element holds of one that is there
pub every_mem : {B : Type 0} (P : B → Type 0) (l : List B) (b : B) → Every P l → Memᴰ b l → P b
every_mem P [] b h m = absurd (Memᴰ.not-nil m)
every_mem P (x ∷ l) b h m = ⊎_elim (λ e. subst P (sym e) h.0) (λ n. every_mem P l b h.1 n) (Memᴰ.cases_cons m)

last_mem : {B : Type 0} (l : List B) (b : B) → Memᴰ b (l ++ b ∷ [])
last_mem l b = Memᴰ.append_right l (Memᴰ.head refl)

module _ {A : Type 0} where
  -- all replies to q so far stand before place t: so it is while q's call requested at t is open
  abbrev pub Since : ℕ → ℕ → List (Reply A) → Type 0
  Since q t replies = Every (λ r. r.process ≡ q → r.place < t) replies

  -- the reply r is none to c, or c was decided by then
  abbrev pub NotLater : Call A → Reply A → Type 0
  NotLater c r = r.asked ≡ c.asked → r.process ≡ c.process → c.decided ≤ r.place

  pub record Told (now : ℕ) (played : List (Call A)) (replies : List (Reply A)) : Type 0 where
    pub spans : Every (λ r. (r.asked < r.place) × (r.place < now)) replies
    pub decided : Every (λ c. c.decided < now) played
    pub answered : Every (IsPlayed played) replies
    pub late : Every (λ c. Every (NotLater c) replies) played
    pub one_by_one : OneByOne played
    pub only : Every (AnsweredOrDone replies) played

  one_more : (l : List (Call A)) (c : Call A) → OneByOne l → c.asked < c.decided → Own c.process c.asked l → OneByOne (l ++ c ∷ [])
  one_more [] c h span own = (span, tt, tt)
  one_more (x ∷ l) c h span own =
      (h.0, every_snoc (λ d. x.process ≡ d.process → x.decided < d.asked) l c h.1 (λ e. own.0 e), one_more l c h.2 span own.1)

  pub told_start : Told 0 [] []
  told_start = record { spans = tt; decided = tt; answered = tt; late = tt; one_by_one = tt; only = tt }

  -- how the facts on replies and calls go on when there is one more of the other kind
  more_played : (played : List (Call A)) (replies : List (Reply A)) (c : Call A) → Every (IsPlayed played) replies → Every (IsPlayed (played ++ c ∷ [])) replies
  more_played played replies c h =
      every_map (IsPlayed played) (IsPlayed (played ++ c ∷ [])) (λ r k. (k.0, k.1, Memᴰ.append_left (c ∷ []) k.2)) replies h

  more_replies : (played : List (Call A)) (replies : List (Reply A)) (r : Reply A) → Every (AnsweredOrDone replies) played → Every (AnsweredOrDone (replies ++ r ∷ [])) played
  more_replies played replies r h = every_map (AnsweredOrDone replies) (AnsweredOrDone (replies ++ r ∷ [])) (λ c k. go c k) played h
    where
      go : (c : Call A) → AnsweredOrDone replies c → AnsweredOrDone (replies ++ r ∷ []) c
      go c (inl e) = inl e
      go c (inr (r', m, e)) = inr (r', Memᴰ.append_left (r ∷ []) m, e)

  module _ {now : ℕ} {played : List (Call A)} {replies : List (Reply A)} (told : Told now played replies) where
    spans_on : Every (λ r. (r.asked < r.place) × (r.place < suc now)) replies
    spans_on = every_map (λ r. (r.asked < r.place) × (r.place < now)) (λ r. (r.asked < r.place) × (r.place < suc now)) (λ r k. omega arith) replies told.spans

    decided_on : Every (λ c. c.decided < suc now) played
    decided_on = every_map (λ c. c.decided < now) (λ c. c.decided < suc now) (λ c k. omega arith) played told.decided

    -- an entry that neither decides nor answers
    pub told_tick : Told (suc now) played replies
    told_tick =
        record { spans = spans_on; decided = decided_on; answered = told.answered; late = told.late; one_by_one = told.one_by_one; only = told.only }

    -- a reply now is later than all calls decided so far
    late_reply : (r : Reply A) → r.place ≡ now → Every (λ c. Every (NotLater c) (replies ++ r ∷ [])) played
    late_reply r e =
        every_map (λ c. Every (NotLater c) replies × (c.decided < now)) (λ c. Every (NotLater c) (replies ++ r ∷ []))
        (λ c k. every_snoc (NotLater c) replies r k.0 (λ f g. omega (arith, k.1, e)))
        played (every_both (λ c. Every (NotLater c) replies) (λ c. c.decided < now) played told.late told.decided)

    -- No reply so far is one to p's open call: it would have its place after the request, and before it.
    late_call : (c : Call A) → Since c.process c.asked replies → Every (NotLater c) replies
    late_call c since =
        every_map (λ r. ((r.asked < r.place) × (r.place < now)) × (r.process ≡ c.process → r.place < c.asked)) (NotLater c)
        (λ r k f g. absurd (omega (arith, k.0, k.1 g, f)))
        replies (every_both _ _ replies told.spans since)

    -- step 8 that succeeds: decided, not answered yet
    pub told_call : (c : Call A) → c.asked < now → c.decided ≡ now → c.answer ≡ done → Since c.process c.asked replies → Own c.process c.asked played → Told (suc now) (played ++ c ∷ []) replies
    told_call c l e d since own =
        record {
          spans = spans_on;
          decided = every_snoc (λ c. c.decided < suc now) played c decided_on (omega arith);
          answered = more_played played replies c told.answered;
          late = every_snoc (λ c. Every (NotLater c) replies) played c told.late (late_call c since);
          one_by_one = one_more played c told.one_by_one (omega arith) own;
          only = every_snoc (AnsweredOrDone replies) played c told.only (inl d);
        }

    -- step 10: answered, and decided before
    pub told_reply : (r : Reply A) → r.asked < now → r.place ≡ now → IsPlayed played r → Told (suc now) played (replies ++ r ∷ [])
    told_reply r l e is =
        record {
          spans = every_snoc (λ r. (r.asked < r.place) × (r.place < suc now)) replies r spans_on (omega arith);
          decided = decided_on;
          answered = every_snoc (IsPlayed played) replies r told.answered is;
          late = late_reply r e;
          one_by_one = told.one_by_one;
          only = more_replies played replies r told.only;
        }

    -- every other answer: decided and answered now
    pub told_both : (r : Reply A) → r.asked < now → r.place ≡ now → Since r.process r.asked replies → Own r.process r.asked played
        → Told (suc now) (played ++ call_of r r.place ∷ []) (replies ++ r ∷ [])
    told_both r l e since own =
        record {
          spans = every_snoc (λ r. (r.asked < r.place) × (r.place < suc now)) replies r spans_on (omega arith);
          decided = every_snoc (λ c. c.decided < suc now) played c decided_on (omega arith);
          answered =
              every_snoc (IsPlayed (played ++ c ∷ [])) replies r (more_played played replies c told.answered)
              (r.place, omega arith, last_mem played c);
          late =
              every_snoc (λ c. Every (NotLater c) (replies ++ r ∷ [])) played c (late_reply r e)
              (every_snoc (NotLater c) replies r (late_call c since) (λ f g. omega arith));
          one_by_one = one_more played c told.one_by_one (omega arith) own;
          only =
              every_snoc (AnsweredOrDone (replies ++ r ∷ [])) played c (more_replies played replies r told.only)
              (inr (r, last_mem replies r, refl));
        }
      where
        c : Call A
        c = call_of r r.place

  -- one more call, and whether it is a store that was done
  pub done_snoc : (l : List (Call A)) (c : Call A) → done_count (l ++ c ∷ []) ≡ cond (is_done c.answer) (suc (done_count l)) (done_count l)
  done_snoc [] c = refl
  done_snoc (x ∷ l) c = go (is_done x.answer) (is_done c.answer) (done_snoc l c)
    where
      go : (a b : Bool) → done_count (l ++ c ∷ []) ≡ cond b (suc (done_count l)) (done_count l)
          → cond a (suc (done_count (l ++ c ∷ []))) (done_count (l ++ c ∷ [])) ≡ cond b (suc (cond a (suc (done_count l)) (done_count l))) (cond a (suc (done_count l)) (done_count l))
      go true true e = ap suc e
      go true false e = ap suc e
      go false true e = e
      go false false e = e

  -- An item adds to the stores that were done exactly if it decides one.
  pub done_on : (d : ℕ) (c : Calls A) (i : Item A) → done_count (go_on d c i).played ≡ cond (decides_in d c i) (suc (done_count c.played)) (done_count c.played)
  done_on d c (asks p w o) = refl
  done_on d c (goes p) = go (decides d c p)
    where
      go : (b : Bool) → done_count (cond b (c.played ++ call_by c p done ∷ []) c.played) ≡ cond b (suc (done_count c.played)) (done_count c.played)
      go true = done_snoc c.played (call_by c p done)
      go false = refl
  done_on d c (answers p (value v)) = done_snoc c.played (call_by c p (value v))
  done_on d c (answers p done) = refl
  done_on d c (answers p not_done) = done_snoc c.played (call_by c p not_done)
  done_on d c (answers p says_yes) = done_snoc c.played (call_by c p says_yes)
  done_on d c (answers p says_no) = done_snoc c.played (call_by c p says_no)
  done_on d c away = refl
