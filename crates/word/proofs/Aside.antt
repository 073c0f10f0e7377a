-- A process that takes no step while the order goes on: its open call, what must stand behind its load, and its link at the end of play.
-- Assumes nothing.
use Prim.Native.Nat.{ℕ, suc, ◌<◌}
use mathlib.Core.Path.{◌≡◌, refl, sym, ap, ◌∙◌}
use mathlib.Core.Logic.{◌≢◌}
use mathlib.Core.List.{List, [], ◌∷◌, ◌++◌}
use native.Mathlib.Omega.{arith}
use Rattle.word.specs.Word.{Link, at, Op, load, first, Call, words_after}
use Rattle.word.proofs.Play.{after_snoc}
use Rattle.word.proofs.Changes.{value_after, writes_nothing}
use Rattle.word.proofs.Relink.{NoLoad, link_kept, link_own, link_others}
use Rattle.word.proofs.Insert.{load_call, ins}
use Rattle.word.proofs.Good.{Good, Own, Late, MayLoad, own_snoc, own_ins, late_snoc, late_ins, good_load_after}

module _ {A : Type 0} where
  -- q's call, requested at t, asks o and is not decided yet
  pub record Undecided (q t now : ℕ) (order : List (Call A)) (op o : Op A) : Type 0 where
    pub kind : op ≡ o
    pub before : t < now
    pub own : Own q t order

  -- all that stands from the change of w after the one seen on was decided after t
  abbrev pub LateFor : ℕ → ℕ → List (Call A) → Link → Type 0
  LateFor w t order seen = (i : ℕ) → seen ≡ at i → Late w i t order

  -- q's link to w at the end of play
  abbrev pub end_link : A → ℕ → List (Call A) → ℕ → Link
  end_link a w order q = (words_after (first a) order w).link q

  -- What a process q that takes no step asks of the new order.
  pub record Aside (a : A) (w now : ℕ) (order order' : List (Call A)) (q : ℕ) : Type 0 where
    pub own : (t : ℕ) → Own q t order → Own q t order'
    pub late : (i t : ℕ) → t < now → Late w i t order → Late w i t order'
    pub link : end_link a w order' q ≡ end_link a w order q

  pub aside_same : (a : A) (w now : ℕ) (order : List (Call A)) (q : ℕ) → Aside a w now order order q
  aside_same a w now order q = record { own = λ t h. h; late = λ i t l h. h; link = refl }

  -- a store or a check at the end leaves all links
  pub link_snoc : (a : A) (w : ℕ) (order : List (Call A)) (c : Call A) (q : ℕ) → NoLoad c.op → end_link a w (order ++ c ∷ []) q ≡ end_link a w order q
  link_snoc a w order c q noload =
      ap (λ ws. (ws w).link q) (after_snoc (first a) order c) ∙ ap (λ (k : ℕ → Link). k q) (link_kept (words_after (first a) order) c w noload)

  -- a call c of another process, decided now, at the end
  pub aside_snoc : (a : A) (w now : ℕ) (order : List (Call A)) (c : Call A) (q : ℕ) → c.decided ≡ now → c.process ≢ q → NoLoad c.op
      → Aside a w now order (order ++ c ∷ []) q
  aside_snoc a w now order c q decided ne noload =
      record {
        own = λ t h. own_snoc q t order c ne h;
        late = λ i t l h. late_snoc w i t order c (omega arith) h;
        link = link_snoc a w order c q noload;
      }

  -- a load of process r, put in before change n + 1: r's link is n, and every other as it was
  module _ (a : A) (w now : ℕ) (order played : List (Call A)) (t r n : ℕ) (good : Good a now order played) (may : MayLoad now t r w n order) where
    pub link_load : end_link a w (ins w n (load_call t now r w (value_after w n a order)) order) r ≡ at n
    link_load = ap (λ ws. (ws w).link r) (good_load_after t r w n good may) ∙ link_own r w n (words_after (first a) order)

    pub aside_load : (q : ℕ) → r ≢ q → Aside a w now order (ins w n (load_call t now r w (value_after w n a order)) order) q
    aside_load q ne =
        record {
          own = λ s h. own_ins w n q s x order ne h;
          late = λ i s l h. late_ins w n w i s x order (writes_nothing w x refl) l h;
          link = ap (λ ws. (ws w).link q) (good_load_after t r w n good may) ∙ link_others r w n (words_after (first a) order) w q (λ e. ne (sym e));
        }
      where
        x : Call A
        x = load_call t now r w (value_after w n a order)

  module _ {a : A} {w now : ℕ} {order order' : List (Call A)} {q : ℕ} (aside : Aside a w now order order' q) where
    pub undecided_on : {t : ℕ} {op o : Op A} → Undecided q t now order op o → Undecided q t (suc now) order' op o
    undecided_on {t} u = record { kind = u.kind; before = omega (arith, u.before); own = aside.own t u.own }

    pub loading_on : {t : ℕ} {op : Op A} {seen : Link} → Undecided q t now order op load × LateFor w t order seen → Undecided q t (suc now) order' op load × LateFor w t order' seen
    loading_on {t} u = (undecided_on u.0, λ i e. aside.late i t u.0.before (u.1 i e))
