-- What came of a file, in the documents' numbers, and what the code's answer tells of it.
use Rattle.std.specs.Prelude.{ℕ, Result, Ok, Err}
use Rattle.numbers.specs.Refusals.{refusal_number}
use Rattle.schedule.specs.declared.FileRefusal.{FileRefusal}

-- 0 or the number that turned the file away, in which block, the place of a stray byte or 0, and how many bytes of text were written
pub record Listed : Type 0 where
  pub number : ℕ
  pub block : ℕ
  pub place : ℕ
  pub length : ℕ

abbrev pub listed_as : Result ℕ FileRefusal → Listed
listed_as (Ok length) = record { number = 0; block = 0; place = 0; length = length }
listed_as (Err e) = record { number = refusal_number e.refusal; block = e.block; place = e.place; length = 0 }
