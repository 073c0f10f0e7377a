-- A load put in at its place: before change n + 1 of its word.
-- Assumes nothing.
use Prim.Native.Nat.{ℕ, suc, ◌≤◌, ◌<◌}
use mathlib.Core.Path.{◌≡◌, sym, ap, ap₂, ◌∙◌, subst}
use mathlib.Core.Option.{none}
use mathlib.Core.Logic.{◌≢◌}
use mathlib.Core.List.{List, [], ◌∷◌, ◌++◌, Perm, perm_middle}
use native.Mathlib.Nat.{zero-add}
use native.Mathlib.Omega.{arith}
use lib.ListN.{length, get_or, take-append-drop}
use lib.Seq.{length-take-le, get_or-take}
use Rattle.word.specs.Word.{Word, load, value, first, Call, Every, words_after, Plays, InTime}
use Rattle.word.proofs.Lists.{every_left, every_mid}
use Rattle.word.proofs.Play.{after_append, plays_left, plays_right, plays_append}
use Rattle.word.proofs.Changes.{writes, changed, total, value_after, changed_mid, count_after, value_after_lem}
use Rattle.word.proofs.From.{place, before, behind, From, changed_before, from_quiet}
use Rattle.word.proofs.Relink.{relink, plays_relink, after_relink}

module _ {A : Type 0} where
  -- a load by r of w, requested at t and decided at d, answered v
  abbrev pub load_call : ℕ → ℕ → ℕ → ℕ → A → Call A
  load_call t d r w v = record { asked = t; decided = d; process = r; word = w; op = load; answer = value v }

  -- x put in before change n + 1 of w; at the end, if there is no such change
  abbrev pub ins : ℕ → ℕ → Call A → List (Call A) → List (Call A)
  ins w n x l = before w n l ++ x ∷ behind w n l

  -- The two parts make up the list, so what holds of x put in anywhere holds of x put in there.
  cut : (w n : ℕ) (l : List (Call A)) → before w n l ++ behind w n l ≡ l
  cut w n l = take-append-drop (place w n l) l

  pub ins_perm : (w n : ℕ) (x : Call A) (l : List (Call A)) → Perm (ins w n x l) (x ∷ l)
  ins_perm w n x l =
      subst (λ (m : List (Call A)). Perm (ins w n x l) (x ∷ m)) (cut w n l) (perm_middle (before w n l) (behind w n l))

  pub every_ins : (w n : ℕ) (P : Call A → Type 0) (x : Call A) (l : List (Call A)) → P x → Every P l → Every P (ins w n x l)
  every_ins w n P x l px h = every_mid P (before w n l) (behind w n l) x (subst (Every P) (sym (cut w n l)) h) px

  -- x writes nothing into u: u's changes stay, and what was said from one of them on.
  module _ (w n u : ℕ) (x : Call A) (l : List (Call A)) (quiet : writes u x ≡ none) where
    changed_ins : changed u (ins w n x l) ≡ changed u l
    changed_ins = changed_mid u (before w n l) (behind w n l) x quiet ∙ ap (changed u) (cut w n l)

    pub total_ins : total u (ins w n x l) ≡ total u l
    total_ins = ap length changed_ins

    pub value_ins : (m : ℕ) (a : A) → value_after u m a (ins w n x l) ≡ value_after u m a l
    value_ins m a = ap (λ (vs : List A). get_or (a ∷ vs) m a) changed_ins

    pub from_ins : (m : ℕ) (P : Call A → Type 0) → P x → From u m P l → From u m P (ins w n x l)
    from_ins m P px f =
        from_quiet u m P x (before w n l) (behind w n l) quiet px (subst (From u m P) (sym (cut w n l)) f)

  -- Real time. All that stands behind x was decided after x was requested; and all before it was requested before x was decided.
  pub in_time_mid : (a b : List (Call A)) (x : Call A) → InTime (a ++ b) → Every (λ c. c.asked < x.decided) a
      → Every (λ c. x.asked < c.decided) b → InTime (a ++ x ∷ b)
  in_time_mid [] b x h front back = (back, h)
  in_time_mid (c ∷ a) b x h front back =
      (every_mid (λ d. c.asked < d.decided) a b x h.0 front.0, in_time_mid a b x h.1 front.1 back)

  pub ins_in_time : (w n : ℕ) (x : Call A) (l : List (Call A)) → InTime l → Every (λ c. c.asked < x.decided) l
      → From w n (λ c. x.asked < c.decided) l → InTime (ins w n x l)
  ins_in_time w n x l h front back =
      in_time_mid (before w n l) (behind w n l) x (subst InTime (sym (cut w n l)) h)
      (every_left (λ c. c.asked < x.decided) (before w n l) (behind w n l) (subst (Every _) (sym (cut w n l)) front))
      back

  -- Play. Up to x nothing is new; x finds the value that stands there and sets r's link to the count there; and behind it there is
  -- no call of r, so nobody notices that link.
  module _ (t d r w : ℕ) (ws : ℕ → Word A) (a b : List (Call A)) (others : Every (λ c. c.process ≢ r) b) where
    load_mid : (v : A) → (words_after ws a w).current ≡ v → Plays ws (a ++ b) → Plays ws (a ++ load_call t d r w v ∷ b)
    load_mid v e h =
        plays_append ws a (load_call t d r w v ∷ b) (plays_left ws a b h)
        (ap value e, plays_relink r w (words_after ws a w).count (words_after ws a) b others (plays_right ws a b h))

    after_mid : (v : A) → words_after ws (a ++ load_call t d r w v ∷ b) ≡ relink r w (words_after ws a w).count (words_after ws (a ++ b))
    after_mid v =
        after_append ws a (load_call t d r w v ∷ b) ∙ after_relink r w (words_after ws a w).count (words_after ws a) b others
        ∙ ap (relink r w (words_after ws a w).count) (sym (after_append ws a b))

  -- From the start, the count at x's place is n, and the value is the one after n changes.
  module _ (w n : ℕ) (a : A) (l : List (Call A)) (h : Plays (first a) l) (fits : n ≤ total w l) where
    plays_before : Plays (first a) (before w n l)
    plays_before = plays_left (first a) (before w n l) (behind w n l) (subst (Plays (first a)) (sym (cut w n l)) h)

    total_before : total w (before w n l) ≡ n
    total_before = ap length (changed_before w n l) ∙ length-take-le n (changed w l) fits

    count_before : (words_after (first a) (before w n l) w).count ≡ n
    count_before = count_after w (first a) (before w n l) plays_before ∙ zero-add (total w (before w n l)) ∙ total_before

    value_before : (words_after (first a) (before w n l) w).current ≡ value_after w n a l
    value_before =
        value_after_lem w (first a) (before w n l) a plays_before
        ∙ ap₂ (λ (vs : List A) (m : ℕ). get_or (a ∷ vs) m a) (changed_before w n l) total_before
        ∙ get_or-take (suc n) (a ∷ changed w l) n a (omega arith)

    -- The insertion lemma: the load that is answered with that value may be put in there, and then r's link is n at the end of play.
    module _ (t d r : ℕ) (others : From w n (λ c. c.process ≢ r) l) where
      pub ins_plays : Plays (first a) (ins w n (load_call t d r w (value_after w n a l)) l)
      ins_plays =
          load_mid t d r w (first a) (before w n l) (behind w n l) others (value_after w n a l) value_before
          (subst (Plays (first a)) (sym (cut w n l)) h)

      pub ins_after : words_after (first a) (ins w n (load_call t d r w (value_after w n a l)) l) ≡ relink r w n (words_after (first a) l)
      ins_after =
          after_mid t d r w (first a) (before w n l) (behind w n l) others (value_after w n a l)
          ∙ ap₂ (λ (m : ℕ) (k : List (Call A)). relink r w m (words_after (first a) k)) count_before (cut w n l)
