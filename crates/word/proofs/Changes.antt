-- The changes of a word in a list of calls: how many there are, and the value after each.
-- Assumes nothing.
use Prim.Native.Nat.{ℕ, suc, ◌+◌, ◌≤◌}
use mathlib.Core.Path.{◌≡◌, refl, sym, ap, ◌∙◌, subst}
use mathlib.Core.Bool.{Bool, true, false, cond}
use mathlib.Core.Logic.{◌≢◌}
use mathlib.Core.Option.{Option, none, some}
use mathlib.Core.List.{List, [], ◌∷◌, ◌++◌, filter_map, filter_map-cons-none, filter_map-cons-some, filter_map-append, append-nil}
use native.Mathlib.Nat.{add-zero}
use native.Mathlib.Omega.{arith}
use lib.Dec.{eqb}
use lib.ListN.{length, get_or, length-append, get_or-append}
use lib.Seq.{get_or-append_seam}
use borrow.Author.Tests.{eqb-true, eq-eqb, ne_eqb}
use Rattle.word.specs.Word.{Word, Op, load, store, check, Answer, value, done, not_done, says_yes, says_no, linked, answer_of, next_of, Call, step, words_after, Plays}

module _ {A : Type 0} where
  -- the value that a call has put into its word: that of a store that was done
  abbrev pub wrote : Op A → Answer A → Option A
  wrote load r = none
  wrote (store v) (value u) = none
  wrote (store v) done = some v
  wrote (store v) not_done = none
  wrote (store v) says_yes = none
  wrote (store v) says_no = none
  wrote check r = none

  -- the value that the call has put into word w
  abbrev pub writes : ℕ → Call A → Option A
  writes w c = cond (eqb w c.word) (wrote c.op c.answer) none

  -- a call writes into its own word only; one that is no store that was done writes into none
  pub writes_own : (c : Call A) → writes c.word c ≡ wrote c.op c.answer
  writes_own c = rw (eq-eqb c.word c.word refl)

  pub writes_other : (w : ℕ) (c : Call A) → w ≢ c.word → writes w c ≡ none
  writes_other w c ne = rw (ne_eqb w c.word ne)

  pub writes_nothing : (w : ℕ) (c : Call A) → wrote c.op c.answer ≡ none → writes w c ≡ none
  writes_nothing w c e = rw e (go (eqb w c.word))
    where
      go : (b : Bool) → ◌≡◌ {A = Option A} (cond b none none) none
      go true = refl
      go false = refl

  -- all values put into word w, in the order of the list
  abbrev pub changed : ℕ → List (Call A) → List A
  changed w l = filter_map (writes w) l

  -- how many changes of w there are, and w's value after n of them, if it was a before
  abbrev pub total : ℕ → List (Call A) → ℕ
  total w l = length (changed w l)

  abbrev pub value_after : ℕ → ℕ → A → List (Call A) → A
  value_after w n a l = get_or (a ∷ changed w l) n a

  -- What a call does to the count and the value of a word, by what it writes into it.
  abbrev pub Moved : Option A → Word A → Word A → Type 0
  Moved none s s' = (s'.count ≡ s.count) × (s'.current ≡ s.current)
  Moved (some v) s s' = (s'.count ≡ suc s.count) × (s'.current ≡ v)

  op_moves : (s : Word A) (p : ℕ) (o : Op A) (r : Answer A) → answer_of s p o ≡ r → Moved (wrote o r) s (next_of s p o)
  op_moves s p load r e = (refl, refl)
  op_moves s p check r e = (refl, refl)
  op_moves s p (store v) r e = rw (← e) (go (linked (s.link p) s.count))
    where
      go : (b : Bool)
          → Moved (wrote (store v) (cond b done not_done)) s (cond b (record { current = v; count = suc s.count; link = s.link }) s)
      go true = (refl, refl)
      go false = (refl, refl)

  -- A call whose answer is right moves count and value of w exactly if it writes into w.
  pub step_moves : (w : ℕ) (ws : ℕ → Word A) (c : Call A) → answer_of (ws c.word) c.process c.op ≡ c.answer
      → Moved (writes w c) (ws w) (step ws c w)
  step_moves w ws c e = go (eqb w c.word) refl
    where
      go : (b : Bool) → eqb w c.word ≡ b
          → Moved (cond b (wrote c.op c.answer) none) (ws w) (cond b (next_of (ws c.word) c.process c.op) (ws w))
      go true q =
          subst (λ u. Moved (wrote c.op c.answer) (ws u) (next_of (ws c.word) c.process c.op)) (sym (eqb-true w c.word q))
          (op_moves (ws c.word) c.process c.op c.answer e)
      go false q = (refl, refl)

  -- At the end of play the count has grown by the number of changes, and the value is the one after all of them.
  pub count_after : (w : ℕ) (ws : ℕ → Word A) (l : List (Call A)) → Plays ws l → (words_after ws l w).count ≡ (ws w).count + total w l
  unfolding filter_map
  count_after w ws [] h = sym (add-zero (ws w).count)
  count_after w ws (c ∷ l) h = go (writes w c) refl (step_moves w ws c h.0) (count_after w (step ws c) l h.1)
    where
      go : (o : Option A) → writes w c ≡ o → Moved o (ws w) (step ws c w) → (words_after (step ws c) l w).count ≡ (step ws c w).count + total w l
          → (words_after (step ws c) l w).count ≡ (ws w).count + total w (c ∷ l)
      go none e m ih = rw (filter_map-cons-none (writes w) c l e) (omega arith)
      go (some v) e m ih = rw (filter_map-cons-some (writes w) c l e) (omega arith)

  -- (Any default d serves, for the place is in the list.)
  pub value_after_lem : (w : ℕ) (ws : ℕ → Word A) (l : List (Call A)) (d : A) → Plays ws l
      → (words_after ws l w).current ≡ get_or ((ws w).current ∷ changed w l) (total w l) d
  unfolding filter_map
  value_after_lem w ws [] d h = refl
  value_after_lem w ws (c ∷ l) d h = go (writes w c) refl (step_moves w ws c h.0) (value_after_lem w (step ws c) l d h.1)
    where
      go : (o : Option A) → writes w c ≡ o → Moved o (ws w) (step ws c w)
          → (words_after (step ws c) l w).current ≡ get_or ((step ws c w).current ∷ changed w l) (total w l) d
          → (words_after (step ws c) l w).current ≡ get_or ((ws w).current ∷ changed w (c ∷ l)) (total w (c ∷ l)) d
      go none e m ih = rw (filter_map-cons-none (writes w) c l e, ← m.1) ih
      go (some v) e m ih = rw (filter_map-cons-some (writes w) c l e, ← m.1) ih

  -- A call that writes nothing into w, put in anywhere: w's changes stay, so its total and its values do.
  pub changed_mid : (w : ℕ) (a b : List (Call A)) (x : Call A) → writes w x ≡ none → changed w (a ++ x ∷ b) ≡ changed w (a ++ b)
  changed_mid w a b x e =
      filter_map-append (writes w) a (x ∷ b) ∙ rw (filter_map-cons-none (writes w) x b e) (sym (filter_map-append (writes w) a b))

  -- One call more, at the end: if it writes nothing into w, w's changes stay; if it writes v, v is the value after one more.
  pub changed_quiet : (w : ℕ) (l : List (Call A)) (c : Call A) → writes w c ≡ none → changed w (l ++ c ∷ []) ≡ changed w l
  changed_quiet w l c e = changed_mid w l [] c e ∙ rw append-nil

  pub total_quiet : (w : ℕ) (l : List (Call A)) (c : Call A) → writes w c ≡ none → total w (l ++ c ∷ []) ≡ total w l
  total_quiet w l c e = ap length (changed_quiet w l c e)

  changed_new : (w : ℕ) (l : List (Call A)) (c : Call A) {v : A} → writes w c ≡ some v → changed w (l ++ c ∷ []) ≡ changed w l ++ v ∷ []
  unfolding filter_map
  changed_new w l c e = filter_map-append (writes w) l (c ∷ []) ∙ rw (filter_map-cons-some (writes w) c [] e)

  pub total_snoc : (w : ℕ) (l : List (Call A)) (c : Call A) {v : A} → writes w c ≡ some v → total w (l ++ c ∷ []) ≡ suc (total w l)
  total_snoc w l c e = rw (changed_new w l c e, length-append) (omega arith)

  pub value_new : (w : ℕ) (a : A) (l : List (Call A)) (c : Call A) {v : A} → writes w c ≡ some v
      → value_after w (suc (total w l)) a (l ++ c ∷ []) ≡ v
  value_new w a l c {v} e = rw (changed_new w l c e) (get_or-append_seam (changed w l) v [] a)

  -- whatever the new call does, the values after the changes so far stay
  pub value_snoc : (w n : ℕ) (a : A) (l : List (Call A)) (c : Call A) → n ≤ total w l → value_after w n a (l ++ c ∷ []) ≡ value_after w n a l
  value_snoc w n a l c h = rw (filter_map-append (writes w) l (c ∷ [])) (get_or-append (a ∷ changed w l) (changed w (c ∷ [])) a n (omega arith))
