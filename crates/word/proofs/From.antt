-- The place before change n + 1 of a word, and facts on all that stands from there on.
-- Assumes nothing.
use Prim.Native.Nat.{ℕ, zero, suc, ◌≤◌}
use mathlib.Core.Path.{◌≡◌, refl, ap, sym}
use mathlib.Core.Option.{Option, none, some}
use mathlib.Core.List.{List, [], ◌∷◌, ◌++◌, filter_map, append-nil}
use native.Mathlib.Omega.{arith}
use lib.ListN.{take, drop}
use lib.Seq.{take-nil}
use Rattle.word.specs.Word.{Call, Every}
use Rattle.word.proofs.Lists.{every_mid, every_drop}
use Rattle.word.proofs.Changes.{writes, changed, total}

module _ {A : Type 0} where
  -- `place w n l`: how many calls of l stand before change n + 1 of w; all of them, if there is no such change. A call that writes
  -- nothing into w is passed; one that writes into it is the change looked for, if none is left to pass, and else is passed as one of
  -- those.
  abbrev pub passing : Option A → ℕ → (ℕ → ℕ) → ℕ
  passing none n rest = suc (rest n)
  passing (some v) zero rest = zero
  passing (some v) (suc n) rest = suc (rest n)

  abbrev pub place : ℕ → ℕ → List (Call A) → ℕ
  place w n [] = zero
  place w n (c ∷ l) = passing (writes w c) n (λ m. place w m l)

  -- what stands before that place, and what stands from there on
  abbrev pub before : ℕ → ℕ → List (Call A) → List (Call A)
  before w n l = take (place w n l) l

  abbrev pub behind : ℕ → ℕ → List (Call A) → List (Call A)
  behind w n l = drop (place w n l) l

  -- P holds of all that stands from change n + 1 of w on
  abbrev pub From : ℕ → ℕ → (Call A → Type 0) → List (Call A) → Type 0
  From w n P l = Every P (behind w n l)

  -- before it stand the first n changes
  pub changed_before : (w n : ℕ) (l : List (Call A)) → changed w (before w n l) ≡ take n (changed w l)
  unfolding filter_map
  changed_before w n [] = sym (take-nil n)
  changed_before w n (c ∷ l) = go (writes w c) refl n (λ m. changed_before w m l)
    where
      go : (o : Option A) → writes w c ≡ o → (m : ℕ) → ((k : ℕ) → changed w (before w k l) ≡ take k (changed w l))
          → changed w (take (passing o m (λ k. place w k l)) (c ∷ l)) ≡ take m (changed w (c ∷ l))
      go none e m ih = rw e (ih m)
      go (some v) e zero ih = refl
      go (some v) e (suc m) ih = rw e (ap {B = List A} (λ r. v ∷ r) (ih m))

  -- from the change after the last on nothing stands, so anything holds of it
  pub from_total : (w : ℕ) (P : Call A → Type 0) (l : List (Call A)) → From w (total w l) P l
  unfolding filter_map
  from_total w P [] = tt
  from_total w P (c ∷ l) = go (writes w c) refl (from_total w P l)
    where
      go : (o : Option A) → writes w c ≡ o → From w (total w l) P l
          → Every P (drop (passing o (total w (c ∷ l)) (λ k. place w k l)) (c ∷ l))
      go none e ih = rw e ih
      go (some v) e ih = rw e ih

  -- a later change leaves less behind it
  pub from_later : (w n m : ℕ) (P : Call A → Type 0) (l : List (Call A)) → n ≤ m → From w n P l → From w m P l
  from_later w n m P [] h f = f
  from_later w n m P (c ∷ l) h f = go (writes w c) n m h (λ i j. from_later w i j P l) f
    where
      go : (o : Option A) (i j : ℕ) → i ≤ j → ((i j : ℕ) → i ≤ j → From w i P l → From w j P l)
          → Every P (drop (passing o i (λ k. place w k l)) (c ∷ l)) → Every P (drop (passing o j (λ k. place w k l)) (c ∷ l))
      go none i j le ih f = ih i j le f
      go (some v) zero zero le ih f = f
      go (some v) zero (suc j) le ih f = every_drop P (place w j l) l f.1
      go (some v) (suc i) zero le ih f = absurd (omega arith)
      go (some v) (suc i) (suc j) le ih f = ih i j (omega arith) f

  -- One element more that has P, put between a and b, if b alone bears it.
  from_mid : (w : ℕ) (P : Call A → Type 0) (x : Call A) (a b : List (Call A)) → P x → ((m : ℕ) → From w m P b → From w m P (x ∷ b))
      → (n : ℕ) → From w n P (a ++ b) → From w n P (a ++ x ∷ b)
  from_mid w P x [] b px bears n f = bears n f
  from_mid w P x (c ∷ a) b px bears n f = go (writes w c) n (from_mid w P x a b px bears) f
    where
      go : (o : Option A) (n : ℕ) → ((m : ℕ) → From w m P (a ++ b) → From w m P (a ++ x ∷ b))
          → Every P (drop (passing o n (λ k. place w k (a ++ b))) (c ∷ a ++ b))
          → Every P (drop (passing o n (λ k. place w k (a ++ x ∷ b))) (c ∷ a ++ x ∷ b))
      go none n ih f = ih n f
      go (some v) zero ih f = (f.0, every_mid P a b x f.1 px)
      go (some v) (suc n) ih f = ih n f

  -- a call that writes nothing into w may be put in anywhere
  pub from_quiet : (w n : ℕ) (P : Call A → Type 0) (x : Call A) (a b : List (Call A)) → writes w x ≡ none → P x
      → From w n P (a ++ b) → From w n P (a ++ x ∷ b)
  from_quiet w n P x a b e px = from_mid w P x a b px (λ m f. rw e f) n

  -- any call may be put at the end
  pub from_snoc : (w n : ℕ) (P : Call A → Type 0) (l : List (Call A)) (c : Call A) → P c → From w n P l → From w n P (l ++ c ∷ [])
  from_snoc w n P l c pc f = from_mid w P c l [] pc (λ m g. alone (writes w c) m) n (rw append-nil f)
    where
      alone : (o : Option A) (m : ℕ) → Every P (drop (passing o m (λ k. zero)) (c ∷ []))
      alone none m = tt
      alone (some v) zero = (pc, tt)
      alone (some v) (suc m) = tt
