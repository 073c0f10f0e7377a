-- What the code's answers tell, in the documents' numbers.
use Rattle.std.specs.Prelude.{ℕ, Result, Ok, Err}
use Rattle.numbers.specs.declared.Refusal.{Refusal}
use Rattle.numbers.specs.Refusals.{refusal_number}
use Rattle.schedule.specs.Reading.{FirstBlock, FirstRefused, Start, Block, BlockRefused, Entries, Reading, Refused, Accepted}
use Rattle.schedule.specs.declared.Start.{Start as FileStart}
use Rattle.schedule.specs.declared.FirstRefusal.{FirstRefusal}
use Rattle.schedule.specs.declared.Accepted.{Accepted as AcceptedFile}
use Rattle.schedule.specs.declared.FileRefusal.{FileRefusal}

abbrev pub first_block_of : Result FileStart FirstRefusal → FirstBlock
first_block_of (Ok start) = Start start.n start.s start.v
first_block_of (Err e) = FirstRefused (refusal_number e.refusal) e.place

abbrev pub later_block_of : Result ℕ Refusal → Block
later_block_of (Ok entries) = Entries entries
later_block_of (Err e) = BlockRefused (refusal_number e)

-- a file that starts so, with so many entries
abbrev pub accepted_from : FileStart → ℕ → Reading
accepted_from start entries = Accepted start.n start.s start.v entries

abbrev pub reading_of : Result AcceptedFile FileRefusal → Reading
reading_of (Ok file) = accepted_from file.start file.entries
reading_of (Err e) = Refused (refusal_number e.refusal) e.block e.place
