-- What the text of a file is told to, and the two that it is told to: one counts its bytes, one lays them in a lent part.
use Rattle.std.specs.Prelude.{ℕ, ◌≡◌, ◌+◌, ◌^◌, ◌≤◌, ◌<◌, List, [], ◌++◌, length, refl}
use Rattle.std.proofs.Common.{sym, ◌∙◌, add-zero, arith, length-append}
use Rattle.std.proofs.lemmas.List.Edits.{sets}
use Rattle.std.proofs.Math.Seq.{length-sets}
use Rattle.text.proofs.Pieces.{sets_more}
use Rattle.lister.specs.declared.length.Length.{Length}
use Rattle.lister.specs.declared.page.Page.{Page}

-- pieces are taken one behind the other, and what there was room for beside a piece, there is room for behind it
pub record TakerLaws {T : Type 0} (fits : T → ℕ → Type 0) (takes : T → List ℕ → T → Type 0) : Type 0 where
  pub none : (s : T) → takes s [] s
  pub more : (s t u : T) (xs ys : List ℕ) → takes s xs t → takes t ys u → takes s (xs ++ ys) u
  pub room : (s t : T) (xs : List ℕ) (m n : ℕ) → takes s xs t → fits s m → length xs + n ≤ m → fits t n

-- a count of bytes
abbrev pub length_fits : Length → ℕ → Type 0
length_fits s more = s.bytes + more < 2 ^ 64

abbrev pub length_takes : Length → List ℕ → Length → Type 0
length_takes s xs t = t.bytes ≡ s.bytes + length xs

-- a lent part, and the place behind what is laid in it
abbrev pub page_fits : Page → ℕ → Type 0
page_fits s more = s.at + more ≤ length s.out.now

pub record PageTakes (s : Page) (xs : List ℕ) (t : Page) : Type 0 where
  pub place : t.at ≡ s.at + length xs
  pub bytes : t.out.now ≡ sets s.out.now s.at xs
  pub lent : t.out.ghost_name ≡ s.out.ghost_name

abbrev pub page_takes : Page → List ℕ → Page → Type 0
page_takes = PageTakes

-- both keep the laws
pub length_laws : TakerLaws length_fits length_takes
length_laws =
    record {
      none = λ s. sym (add-zero s.bytes);
      more = λ s t u xs ys first then. omega (arith, first, then, length-append xs ys);
      room = λ s t xs m n took fits l. omega (arith, took, fits, l);
    }

pub page_laws : TakerLaws page_fits page_takes
page_laws =
    record {
      none = λ s. record { place = sym (add-zero s.at); bytes = refl; lent = refl };
      more = λ s t u xs ys first then.
          record {
            place = omega (arith, first.place, then.place, length-append xs ys);
            bytes = then.bytes ∙ rw (first.bytes, first.place) (sets_more xs ys s.out.now s.at);
            lent = then.lent ∙ first.lent;
          };
      room = λ s t xs m n took fits l. rw (took.bytes, length-sets s.out.now s.at xs) (omega (arith, took.place, fits, l));
    }
