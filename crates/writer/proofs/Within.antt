-- What a text within the form says is small: its processes, its values and V; and what it means that no number refuses a text.
-- Assumes nothing.
use Prim.Native.Nat.{ℕ, zero, suc, ◌≤◌, ◌<◌}
use mathlib.Core.Path.{◌≡◌, refl}
use mathlib.Core.Bool.{Bool, true, false, cond, ◌&&◌, ◌||◌, false≢true, and-eq-true_iff}
use mathlib.Core.List.{List, [], ◌∷◌}
use native.Mathlib.Omega.{arith}
use borrow.Author.Tests.{eqb-true, leb-true, le-leb}
use lib.Dec.{eqb, leb}
use lib.ListN.{length, get_or}
use Rattle.numbers.specs.Numbers.{in_range, number_unless, first_found, range_number}
use Rattle.numbers.proofs.First.{found_both, unless_fine, range_zero, range_in}
use Rattle.text.specs.Decimal.{said}
use Rattle.text.specs.Lines.{space, newline}
use Rattle.schedule.specs.File.{no_entry}
use Rattle.writer.specs.Form.{before, behind, place_of, is_numeral, is_up_to, is_process, is_value, opens_with, fields, field_n, field_s, field_v, head_fine, plain_fine, store_fine, line_fine, asked, entry_in, line_one, further, first_outside, outside, entries_in, text_n, text_s, text_v, text_entries, outside_by}
use Rattle.writer.specs.Writer.{text_number}
use Rattle.writer.proofs.Small.{Small, AllSmall, none_small, small_cond}

-- a numeral up to the most says no more
up_to_most : (most : ℕ) (l : List ℕ) → is_up_to most l ≡ true → said l ≤ most
up_to_most most l h = leb-true (said l) most ((and-eq-true_iff (is_numeral l) (leb (said l) most)).0 h).1

-- an entry with no value, and one with a value
plain_small : (line : List ℕ) → plain_fine line ≡ true → Small (asked line)
plain_small line h =
    let both = (and-eq-true_iff (opens_with 76 line || (opens_with 86 line || opens_with 84 line)) (is_process (fields line))).0 h in
    let seat : said (fields line) < 256 = omega (arith, up_to_most 255 (fields line) both.1) in
    small_cond (opens_with 76 line) (record { seat = seat; stored = omega arith })
    (λ l. small_cond (opens_with 86 line) (record { seat = seat; stored = omega arith })
    (λ v. small_cond (opens_with 84 line) (record { seat = seat; stored = omega arith })
    (λ t. absurd (false≢true (rw (l, v, t) at both.0)))))

store_small : (line : List ℕ) → store_fine line ≡ true → Small (asked line)
store_small line h =
    let two = (and-eq-true_iff (opens_with 83 line) (is_process (before space (fields line)) && is_value (behind space (fields line)))).0 h in
    let both = (and-eq-true_iff (is_process (before space (fields line))) (is_value (behind space (fields line)))).0 two.1 in
    let letter = ((and-eq-true_iff (eqb (get_or line 0 0) 83) (eqb (get_or line 1 0) space)).0 two.0).0 in
    rw (eqb-true (get_or line 0 0) 83 letter)
    (record {
      seat = omega (arith, up_to_most 255 (before space (fields line)) both.0);
      stored = omega (arith, up_to_most 18446744073709551615 (behind space (fields line)) both.1);
    })

pub entry_small : (line : List ℕ) → Small (entry_in line)
unfolding entry_in line_fine
entry_small line = go (plain_fine line) (store_fine line) (plain_small line) (store_small line)
  where
    go : (a b : Bool) → (a ≡ true → Small (asked line)) → (b ≡ true → Small (asked line)) → Small (cond (a || b) (asked line) no_entry)
    go true b f g = f refl
    go false true f g = g refl
    go false false f g = none_small

-- every entry that lines ask for fits its bytes
pub entries_small : (ls : List (List ℕ)) → AllSmall (entries_in ls)
unfolding entries_in
entries_small [] j = none_small
entries_small (left ∷ []) j = none_small
entries_small (line ∷ next ∷ more) zero = entry_small line
entries_small (line ∷ next ∷ more) (suc j) = entries_small (next ∷ more) j

-- V of a text within the form is below 2^64
pub value_small : (text : List ℕ) → outside text ≡ 0 → text_v text < 18446744073709551616
unfolding outside_by head_fine
value_small text h =
    let line = line_one text in
    let v = go (leb (length text) (place_of newline text)) (head_fine line) h in
    let a = (and-eq-true_iff (opens_with 72 line) (is_numeral (field_n line) && (is_numeral (field_s line) && is_value (field_v line)))).0 v in
    let b = (and-eq-true_iff (is_numeral (field_n line)) (is_numeral (field_s line) && is_value (field_v line))).0 a.1 in
    let c = (and-eq-true_iff (is_numeral (field_s line)) (is_value (field_v line))).0 b.1 in
    omega (arith, up_to_most 18446744073709551615 (field_v line) c.1)
  where
    go : (a b : Bool) → cond a 1 (cond b (first_outside 2 (further text)) 1) ≡ 0 → b ≡ true
    go true b h = absurd (omega (arith, h))
    go false true h = refl
    go false false h = absurd (omega (arith, h))

-- no number refuses a text: it is within the form, N and S are in range, and it has at most 5,334 entries
pub number_parts : (text : List ℕ) → text_number text ≡ 0
    → (outside text ≡ 0) × ((in_range (text_n text) (record { 0 = text_s text }) ≡ true) × (length (text_entries text) ≤ 5334))
unfolding text_number
number_parts text h =
    let range = range_number (text_n text) (record { 0 = text_s text }) in
    let few = number_unless (leb (length (text_entries text)) 5334) 26 in
    let form = found_both (number_unless (eqb (outside text) 0) 25) (first_found range few) h in
    let two = found_both range few form.1 in (
      eqb-true (outside text) 0 (unless_fine (eqb (outside text) 0) 25 (omega arith) form.0),
      (
        range_in (text_n text) (record { 0 = text_s text }) two.0,
        leb-true (length (text_entries text)) 5334 (unless_fine (leb (length (text_entries text)) 5334) 26 (omega arith) two.1),
      ),
    )

pub number_zero : (text : List ℕ) → outside text ≡ 0 → in_range (text_n text) (record { 0 = text_s text }) ≡ true → length (text_entries text) ≤ 5334
    → text_number text ≡ 0
unfolding text_number
number_zero text none range few = rw (none, range_zero (text_n text) (record { 0 = text_s text }) range, le-leb (length (text_entries text)) 5334 few)
