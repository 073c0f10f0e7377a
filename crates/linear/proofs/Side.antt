-- The simulation relation between the machine and the order of the calls decided so far, and how it goes on for the processes that take
-- no step.
-- Assumes nothing.
use Prim.Native.Nat.{ℕ, suc, ◌<◌}
use mathlib.Core.Path.{◌≡◌, refl, sym, ap, ◌∙◌, subst, subst₂}
use mathlib.Core.Bool.{false}
use mathlib.Core.Logic.{◌⊎◌, inl, inr}
use mathlib.Core.List.{List}
use native.Mathlib.Omega.{arith}
use borrow.Author.Tests.{ne_eqb}
use Rattle.linear.specs.Types.{Row, Record, Place, Idle, Load1, Load2, Load3, Load5, Store7, Store8, Store9, Store10, Check14}
use Rattle.linear.proofs.View.{View, row_at, record_at}
use Rattle.word.specs.Word.{Link, at, Op, load, store, check, linked, Call}
use Rattle.word.specs.Word as word
use Rattle.word.proofs.Changes.{total, value_after}
use Rattle.word.proofs.Good.{Good}
use Rattle.word.proofs.Aside.{Undecided, LateFor, end_link, Aside, undecided_on, loading_on}
use Rattle.linear.proofs.History.{Change, At}
use Rattle.linear.proofs.Invariant.{slot_of, Inv}

-- a link that is not at the newest change, t
abbrev pub Behind : ℕ → Link → Type 0
Behind t word.none = Unit {0}
Behind t (at m) = m < t

-- [34] A process's link in the word and the change that it has seen are both at the newest change, or both behind it.
abbrev pub LinkOk : ℕ → Link → Link → Type 0
LinkOk t l sn = ((l ≡ at t) × (sn ≡ at t)) ⊎ (Behind t l × Behind t sn)

-- Between step 1 of a load and its answer the change seen is new and the link is still the old one: nothing is said.
abbrev pub LinkAt : Place → ℕ → Link → Link → Type 0
LinkAt Idle t l sn = LinkOk t l sn
LinkAt Load1 t l sn = LinkOk t l sn
LinkAt Load2 t l sn = Unit {0}
LinkAt (Load3 v) t l sn = Unit {0}
LinkAt Load5 t l sn = Unit {0}
LinkAt (Store7 v) t l sn = LinkOk t l sn
LinkAt Store8 t l sn = LinkOk t l sn
LinkAt Store9 t l sn = LinkOk t l sn
LinkAt Store10 t l sn = LinkOk t l sn
LinkAt Check14 t l sn = LinkOk t l sn

-- The open call, by place. A store's value stands in the slot of the next number from step 7 on. From step 8 on the store is decided.
abbrev pub OpenAt : ℕ → ℕ → ℕ → List (Call ℕ) → Op ℕ → Row → ℕ → Link → Place → Type 0
OpenAt q t now order op r next sn Idle = Unit {0}
OpenAt q t now order op r next sn Load1 = Undecided q t now order op load
OpenAt q t now order op r next sn Load2 = Undecided q t now order op load × LateFor 0 t order sn
OpenAt q t now order op r next sn (Load3 v) = Undecided q t now order op load × LateFor 0 t order sn
OpenAt q t now order op r next sn Load5 = Undecided q t now order op load × LateFor 0 t order sn
OpenAt q t now order op r next sn (Store7 v) = Undecided q t now order op (store v)
OpenAt q t now order op r next sn Store8 = Undecided q t now order op (store (slot_of r next))
OpenAt q t now order op r next sn Store9 = Unit {0}
OpenAt q t now order op r next sn Store10 = Unit {0}
OpenAt q t now order op r next sn Check14 = Undecided q t now order op check

-- what is kept of process q
pub record Side (v now : ℕ) (order : List (Call ℕ)) (q t : ℕ) (op : Op ℕ) (r : Row) (next : ℕ) (place : Place) (sn : Link) : Type 0 where
  pub link : LinkAt place (total 0 order) (end_link v 0 order q) sn
  pub call : OpenAt q t now order op r next sn place

abbrev pub SideAt : ℕ → ℕ → List (Call ℕ) → ℕ → ℕ → Op ℕ → Row → Record → Link → Type 0
SideAt v now order q t op r own sn = Side v now order q t op r own.next.0 own.place sn

-- There are changes and an order such that the order is good, the machine keeps its invariants with the latest steps 1, the count is the
-- number of changes, the value is the one after the newest, and after each change the word had that change's value.
pub record Sim (v : ℕ) (st : View) (now : ℕ) (asked : ℕ → ℕ) (op : ℕ → Op ℕ) (played : List (Call ℕ)) (seen : ℕ → Link) (changes current : ℕ) : Type 0 where
  pub h : List Change
  pub order : List (Call ℕ)
  pub good : Good v now order played
  pub count : total 0 order ≡ changes
  pub newest : value_after 0 (total 0 order) v order ≡ current
  pub inv : Inv st (total 0 order) h seen
  pub vals : (i q k u : ℕ) → At h i q k u → value_after 0 i v order ≡ u
  pub sides : (q : ℕ) → q < st.n → SideAt v now order q (asked q) (op q) (row_at st q) (record_at st q) (seen q)

-- an order that has as many changes as it had, or one more
abbrev pub Longer : ℕ → ℕ → Type 0
Longer t t' = (t' ≡ t) ⊎ (t' ≡ suc t)

-- [34] stays where the link does: after a change everybody is behind it.
pub link_on : {t t' : ℕ} {l l' : Link} (sn : Link) → l' ≡ l → Longer t t' → LinkOk t l sn → LinkOk t' l' sn
link_on {t} {t'} {l} sn same (inl e) ok = subst₂ (λ (t : ℕ) (l : Link). LinkOk t l sn) (sym e) (sym same) ok
link_on {t} {t'} {l} sn same (inr e) ok = subst₂ (λ (t : ℕ) (l : Link). LinkOk t l sn) (sym e) (sym same) (behind ok)
  where
    up : (l : Link) → Behind t l → Behind (suc t) l
    up word.none b = tt
    up (at m) b = omega arith

    behind : LinkOk t l sn → LinkOk (suc t) l sn
    behind (inl (e, f)) = inr (subst (Behind (suc t)) (sym e) (omega arith), subst (Behind (suc t)) (sym f) (omega arith))
    behind (inr (b, c)) = inr (up l b, up sn c)

module _ {v now : ℕ} {order order' : List (Call ℕ)} {q : ℕ} (aside : Aside v 0 now order order' q) (longer : Longer (total 0 order) (total 0 order')) where
  ok_on : (sn : Link) → LinkOk (total 0 order) (end_link v 0 order q) sn → LinkOk (total 0 order') (end_link v 0 order' q) sn
  ok_on sn ok = link_on sn aside.link longer ok

  -- The call and the link of a process that takes no step.
  pub side_on : (t : ℕ) (op : Op ℕ) (r : Row) (next : ℕ) (place : Place) (sn : Link)
      → Side v now order q t op r next place sn → Side v (suc now) order' q t op r next place sn
  side_on t op r next Idle sn s = record { link = ok_on sn s.link; call = tt }
  side_on t op r next Load1 sn s = record { link = ok_on sn s.link; call = undecided_on aside s.call }
  side_on t op r next Load2 sn s = record { link = tt; call = loading_on aside s.call }
  side_on t op r next (Load3 u) sn s = record { link = tt; call = loading_on aside s.call }
  side_on t op r next Load5 sn s = record { link = tt; call = loading_on aside s.call }
  side_on t op r next (Store7 u) sn s = record { link = ok_on sn s.link; call = undecided_on aside s.call }
  side_on t op r next Store8 sn s = record { link = ok_on sn s.link; call = undecided_on aside s.call }
  side_on t op r next Store9 sn s = record { link = ok_on sn s.link; call = tt }
  side_on t op r next Store10 sn s = record { link = ok_on sn s.link; call = tt }
  side_on t op r next Check14 sn s = record { link = ok_on sn s.link; call = undecided_on aside s.call }

-- the word's test and the machine's test of a link that is well
pub linked_same : (t : ℕ) (l sn : Link) → LinkOk t l sn → linked l t ≡ linked sn t
linked_same t l sn (inl (e, f)) = ap (λ (k : Link). linked k t) (e ∙ sym f)
linked_same t l sn (inr (b, c)) = behind l b ∙ sym (behind sn c)
  where
    behind : (l : Link) → Behind t l → linked l t ≡ false
    behind word.none b = refl
    behind (at m) b = ne_eqb m t (λ e. omega (arith, b, e))
