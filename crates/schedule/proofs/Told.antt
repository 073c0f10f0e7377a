-- No two answers of the code tell the same.
use Prim.Native.Nat.{ℕ}
use mathlib.Core.Path.{◌≡◌, refl, sym, ◌∙◌, ap}
use Rattle.std.specs.Prelude.{Result, Ok, Err}
use Rattle.numbers.specs.declared.Refusal.{Refusal}
use Rattle.numbers.proofs.Refusals.{refusal_of, refusal_back}
use Rattle.schedule.specs.Types.{FirstBlock, FirstRefused, Start, Block, BlockRefused, Entries, Reading, Refused, Accepted}
use Rattle.schedule.specs.declared.Start.{Start as FileStart}
use Rattle.schedule.specs.declared.FirstRefusal.{FirstRefusal}
use Rattle.schedule.specs.declared.Accepted.{Accepted as AcceptedFile}
use Rattle.schedule.specs.declared.FileRefusal.{FileRefusal}
use Rattle.schedule.specs.Told.{first_block_of, later_block_of, reading_of}

-- the answer that tells so
abbrev first_back : FirstBlock → Result FileStart FirstRefusal
first_back (FirstRefused n place) = Err (record { refusal = refusal_of n; place = place })
first_back (Start n s v) = Ok (record { n = n; s = s; v = v })

first_same : (r : Result FileStart FirstRefusal) → first_back (first_block_of r) ≡ r
first_same (Ok x) = refl
first_same (Err e) = ap (λ (x : Refusal). Err (record { refusal = x; place = e.place })) (refusal_back e.refusal)

pub same_first : (r s : Result FileStart FirstRefusal) → first_block_of r ≡ first_block_of s → r ≡ s
same_first r s h = sym (first_same r) ∙ (ap first_back h ∙ first_same s)

abbrev later_back : Block → Result ℕ Refusal
later_back (BlockRefused n) = Err (refusal_of n)
later_back (Entries n) = Ok n

later_same : (r : Result ℕ Refusal) → later_back (later_block_of r) ≡ r
later_same (Ok x) = refl
later_same (Err e) = ap (λ (x : Refusal). Err x) (refusal_back e)

pub same_later : (r s : Result ℕ Refusal) → later_block_of r ≡ later_block_of s → r ≡ s
same_later r s h = sym (later_same r) ∙ (ap later_back h ∙ later_same s)

abbrev file_back : Reading → Result AcceptedFile FileRefusal
file_back (Refused n k place) = Err (record { refusal = refusal_of n; block = k; place = place })
file_back (Accepted n s v c) = Ok (record { start = record { n = n; s = s; v = v }; entries = c })

file_same : (r : Result AcceptedFile FileRefusal) → file_back (reading_of r) ≡ r
file_same (Ok x) = refl
file_same (Err e) = ap (λ (x : Refusal). Err (record { refusal = x; block = e.block; place = e.place })) (refusal_back e.refusal)

pub same_reading : (r s : Result AcceptedFile FileRefusal) → reading_of r ≡ reading_of s → r ≡ s
same_reading r s h = sym (file_same r) ∙ (ap file_back h ∙ file_same s)
