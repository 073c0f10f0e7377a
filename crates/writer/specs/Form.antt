-- Document 02, P1: "Line one is `H N S V`; each further line is `L p`, `S p value`, `V p` or `T p` (a step), in decimal without leading
-- zeros, each line ended by one newline." A text is a list of bytes; what lies outside this form, and what a text within it says.
use Rattle.std.specs.Prelude.{ℕ, suc, ◌+◌, Bool, true, cond, not, ◌&&◌, ◌||◌, List, [], ◌∷◌, eqb, leb, length, get_or, take, drop}
use Rattle.text.specs.Decimal.{said}
use Rattle.text.specs.Lines.{space, newline}
use Rattle.schedule.specs.File.{entry_by, no_entry}
use Rattle.writer.specs.Types.{Entry, Ask, Step, Load, Store, Check}

-- where a byte stands first in a list: behind its end, where it stands nowhere
unfoldable pub place_of : ℕ → List ℕ → ℕ
place_of c [] = 0
place_of c (b ∷ bs) = cond (eqb b c) 0 (suc (place_of c bs))

-- what stands before that place, and what stands behind it
abbrev pub before : ℕ → List ℕ → List ℕ
before c l = take (place_of c l) l

abbrev pub behind : ℕ → List ℕ → List ℕ
behind c l = drop (place_of c l + 1) l

-- a byte in front of the first of some parts
abbrev pub begun_with : ℕ → List (List ℕ) → List (List ℕ)
begun_with b [] = (b ∷ []) ∷ []
begun_with b (part ∷ more) = (b ∷ part) ∷ more

-- the parts of a list that a byte stands between: one more than it stands there
unfoldable pub parts : ℕ → List ℕ → List (List ℕ)
parts c [] = [] ∷ []
parts c (b ∷ bs) = cond (eqb b c) ([] ∷ parts c bs) (begun_with b (parts c bs))

-- "in decimal without leading zeros": digits, at least one of them, and no 0 in front of another
unfoldable pub all_digits : List ℕ → Bool
all_digits [] = true
all_digits (b ∷ bs) = (leb 48 b && leb b 57) && all_digits bs

unfoldable pub front : List ℕ → Bool
front l = leb 1 (length l) && (leb (length l) 1 || not (eqb (get_or l 0 0) 48))

abbrev pub is_numeral : List ℕ → Bool
is_numeral l = all_digits l && front l

-- "V and values must be below 2^64"; "Process numbers 0 to 255 may be written"
abbrev pub is_up_to : ℕ → List ℕ → Bool
is_up_to most l = is_numeral l && leb (said l) most

abbrev pub is_value : List ℕ → Bool
is_value l = is_up_to 18446744073709551615 l

abbrev pub is_process : List ℕ → Bool
is_process l = is_up_to 255 l

-- a line's letter, with the space behind it; and the fields behind these
abbrev pub opens_with : ℕ → List ℕ → Bool
opens_with letter line = eqb (get_or line 0 0) letter && eqb (get_or line 1 0) space

abbrev pub fields : List ℕ → List ℕ
fields line = drop 2 line

-- `H N S V` (byte 72 is H)
abbrev pub field_n : List ℕ → List ℕ
field_n line = before space (fields line)

abbrev pub field_s : List ℕ → List ℕ
field_s line = before space (behind space (fields line))

abbrev pub field_v : List ℕ → List ℕ
field_v line = behind space (behind space (fields line))

unfoldable pub head_fine : List ℕ → Bool
head_fine line = opens_with 72 line && (is_numeral (field_n line) && (is_numeral (field_s line) && is_value (field_v line)))

-- `L p` (76), `V p` (86), `T p` (84)
abbrev pub plain_fine : List ℕ → Bool
plain_fine line = (opens_with 76 line || (opens_with 86 line || opens_with 84 line)) && is_process (fields line)

-- `S p value` (83)
abbrev pub store_fine : List ℕ → Bool
store_fine line = opens_with 83 line && (is_process (before space (fields line)) && is_value (behind space (fields line)))

unfoldable pub line_fine : List ℕ → Bool
line_fine line = plain_fine line || store_fine line

-- what a line in the form asks
abbrev pub asked : List ℕ → Entry
asked line =
    cond (opens_with 76 line) (entry_by (said (fields line)) (Ask Load))
    (cond (opens_with 86 line) (entry_by (said (fields line)) (Ask Check))
    (cond (opens_with 84 line) (entry_by (said (fields line)) Step)
    (entry_by (said (before space (fields line))) (Ask (Store (said (behind space (fields line))))))))

-- and any line: one outside the form asks for what stands where no entry is
unfoldable pub entry_in : List ℕ → Entry
entry_in line = cond (line_fine line) (asked line) no_entry

-- Line one of a text, and the text behind its newline.
abbrev pub line_one : List ℕ → List ℕ
line_one text = before newline text

abbrev pub further : List ℕ → List (List ℕ)
further text = parts newline (behind newline text)

-- The first line outside a form among further ones, the first of which has number k; 0 where there is none. `fine` says which lines are in
-- the form. What stands behind the last newline has none of its own: nothing may stand there.
unfoldable pub first_outside_by : (List ℕ → Bool) → ℕ → List (List ℕ) → ℕ
first_outside_by fine k [] = 0
first_outside_by fine k (left ∷ []) = cond (eqb (length left) 0) 0 k
first_outside_by fine k (line ∷ next ∷ more) = cond (fine line) (first_outside_by fine (k + 1) (next ∷ more)) k

abbrev pub first_outside : ℕ → List (List ℕ) → ℕ
first_outside k ls = first_outside_by line_fine k ls

-- "25 with the number of the first line outside this form (line 1 for empty input ..)"; 0 where there is none. `head` says whether line one
-- is in the form.
unfoldable pub outside_by : (List ℕ → Bool) → (List ℕ → Bool) → List ℕ → ℕ
outside_by head fine text =
    cond (leb (length text) (place_of newline text)) 1
    (cond (head (line_one text)) (first_outside_by fine 2 (further text)) 1)

abbrev pub outside : List ℕ → ℕ
outside text = outside_by head_fine line_fine text

-- the entries that further lines ask for, in order
unfoldable pub entries_in : List (List ℕ) → List Entry
entries_in [] = []
entries_in (left ∷ []) = []
entries_in (line ∷ next ∷ more) = entry_in line ∷ entries_in (next ∷ more)

-- what a text says
abbrev pub text_n : List ℕ → ℕ
text_n text = said (field_n (line_one text))

abbrev pub text_s : List ℕ → ℕ
text_s text = said (field_s (line_one text))

abbrev pub text_v : List ℕ → ℕ
text_v text = said (field_v (line_one text))

abbrev pub text_entries : List ℕ → List Entry
text_entries text = entries_in (further text)
