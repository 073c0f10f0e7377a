-- A link of process r that is set earlier than it was: nobody but r notices.
-- Assumes nothing.
use Prim.Native.Nat.{ℕ, suc}
use mathlib.Core.Path.{◌≡◌, refl, sym, ap, ◌∙◌, subst}
use mathlib.Core.Bool.{Bool, true, false, cond}
use mathlib.Core.Logic.{◌≢◌}
use mathlib.Core.List.{List, [], ◌∷◌}
use borrow.Author.Tests.{ne_eqb}
use Rattle.word.specs.Word.{Word, Link, at, Op, load, store, check, put, linked, answer_of, next_of, Call, Every, step, words_after, Plays}
use Rattle.word.proofs.Put.{put_comm, put_same, put_other, change, change_comm, split}

module _ {A : Type 0} where
  -- the word with r's link at n; a load by r is this with n the count
  abbrev pub loaded : ℕ → ℕ → Word A → Word A
  loaded r n s = record { current = s.current; count = s.count; link = put r (at n) s.link }

  -- the words with r's link to w at n
  abbrev pub relink : ℕ → ℕ → ℕ → (ℕ → Word A) → ℕ → Word A
  relink r w n ws = change w (loaded r n) ws

  -- an operation of another process reads its own link, so it answers the same, and it leaves r's link
  answer_loaded : (r n : ℕ) (s : Word A) (p : ℕ) (o : Op A) → p ≢ r → answer_of (loaded r n s) p o ≡ answer_of s p o
  answer_loaded r n s p load ne = refl
  answer_loaded r n s p (store v) ne = rw (ne_eqb p r ne)
  answer_loaded r n s p check ne = rw (ne_eqb p r ne)

  next_loaded : (r n : ℕ) (s : Word A) (p : ℕ) (o : Op A) → p ≢ r → next_of (loaded r n s) p o ≡ loaded r n (next_of s p o)
  next_loaded r n s p load ne =
      ap (λ (k : ℕ → Link). record { current = s.current; count = s.count; link = k }) (put_comm p r (at s.count) (at n) s.link ne)
  next_loaded r n s p (store v) ne = rw (ne_eqb p r ne) (go (linked (s.link p) s.count))
    where
      go : (b : Bool)
          → cond b (record { current = v; count = suc s.count; link = put r (at n) s.link }) (loaded r n s) ≡ loaded r n (cond b (record { current = v; count = suc s.count; link = s.link }) s)
      go true = refl
      go false = refl
  next_loaded r n s p check ne = refl

  -- the same for many words, and for a call on any of them
  answer_relink : (r w n : ℕ) (ws : ℕ → Word A) (u p : ℕ) (o : Op A) → p ≢ r → answer_of (relink r w n ws u) p o ≡ answer_of (ws u) p o
  answer_relink r w n ws u p o ne =
      split (λ u. answer_of (relink r w n ws u) p o ≡ answer_of (ws u) p o) w
      (ap (λ (s : Word A). answer_of s p o) (put_same w (loaded r n (ws w)) ws) ∙ answer_loaded r n (ws w) p o ne)
      (λ u nu. ap (λ (s : Word A). answer_of s p o) (put_other w (loaded r n (ws w)) ws u nu))
      u

  step_relink : (r w n : ℕ) (ws : ℕ → Word A) (c : Call A) → c.process ≢ r → step (relink r w n ws) c ≡ relink r w n (step ws c)
  step_relink r w n ws c ne =
      change_comm c.word w (λ s. next_of s c.process c.op) (loaded r n) (λ s. next_loaded r n s c.process c.op ne) ws

  -- Calls of others play from the relinked words with the same answers, and end in the same words, relinked.
  pub plays_relink : (r w n : ℕ) (ws : ℕ → Word A) (l : List (Call A)) → Every (λ c. c.process ≢ r) l → Plays ws l → Plays (relink r w n ws) l
  plays_relink r w n ws [] others h = tt
  plays_relink r w n ws (c ∷ l) others h = (
    answer_relink r w n ws c.word c.process c.op others.0 ∙ h.0,
    subst (λ s. Plays s l) (sym (step_relink r w n ws c others.0)) (plays_relink r w n (step ws c) l others.1 h.1),
  )

  pub after_relink : (r w n : ℕ) (ws : ℕ → Word A) (l : List (Call A)) → Every (λ c. c.process ≢ r) l
      → words_after (relink r w n ws) l ≡ relink r w n (words_after ws l)
  after_relink r w n ws [] others = refl
  after_relink r w n ws (c ∷ l) others =
      ap (λ s. words_after s l) (step_relink r w n ws c others.0) ∙ after_relink r w n (step ws c) l others.1

  -- Links, as the joining with a machine reads them: r's link to w is n, and every other link is as it was;
  pub link_own : (r w n : ℕ) (ws : ℕ → Word A) → (relink r w n ws w).link r ≡ at n
  link_own r w n ws = ap (λ (s : Word A). s.link r) (put_same w (loaded r n (ws w)) ws) ∙ put_same r (at n) (ws w).link

  pub link_others : (r w n : ℕ) (ws : ℕ → Word A) (u p : ℕ) → p ≢ r → (relink r w n ws u).link p ≡ (ws u).link p
  link_others r w n ws u p ne =
      split (λ u. (relink r w n ws u).link p ≡ (ws u).link p) w
      (ap (λ (s : Word A). s.link p) (put_same w (loaded r n (ws w)) ws) ∙ put_other r (at n) (ws w).link p ne)
      (λ u nu. ap (λ (s : Word A). s.link p) (put_other w (loaded r n (ws w)) ws u nu))
      u

  pub other_word : (r w n : ℕ) (ws : ℕ → Word A) (u : ℕ) → u ≢ w → relink r w n ws u ≡ ws u
  other_word r w n ws u nu = put_other w (loaded r n (ws w)) ws u nu

  -- a store or a check leaves all links.
  abbrev pub NoLoad : Op A → Type 0
  NoLoad load = ⊥
  NoLoad (store v) = Unit {0}
  NoLoad check = Unit {0}

  pub link_kept : (ws : ℕ → Word A) (c : Call A) (u : ℕ) → NoLoad c.op → (step ws c u).link ≡ (ws u).link
  link_kept ws c u k =
      split (λ u. (step ws c u).link ≡ (ws u).link) c.word
      (ap (λ (s : Word A). s.link) (put_same c.word (next_of (ws c.word) c.process c.op) ws) ∙ kept c.op k)
      (λ u nu. ap (λ (s : Word A). s.link) (put_other c.word (next_of (ws c.word) c.process c.op) ws u nu))
      u
    where
      s : Word A
      s = ws c.word

      choice : (b : Bool) (v : A) → (cond {A = Word A} b (record { current = v; count = suc s.count; link = s.link }) s).link ≡ s.link
      choice true v = refl
      choice false v = refl

      kept : (o : Op A) → NoLoad o → (next_of s c.process o).link ≡ s.link
      kept load k = absurd k
      kept (store v) k = choice (linked (s.link c.process) s.count) v
      kept check k = refl
