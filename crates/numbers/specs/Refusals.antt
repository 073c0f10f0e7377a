-- Documents 01 and 02, their tables of refusals: the number of each refusal of a file, a text or a start.
use Rattle.std.specs.Prelude.{ℕ, Result, Ok, Err}
use Rattle.numbers.specs.Types.{Refusal, Length, Check, Place, Entries, LogRoom, Processes, LastNumber, BlockCount, StrayByte, CircleSize, Form, TooMany, OutputRoom}

abbrev pub refusal_number : Refusal → ℕ
refusal_number Length = 1
refusal_number Check = 2
refusal_number Place = 3
refusal_number Entries = 5
refusal_number LogRoom = 6
refusal_number Processes = 16
refusal_number LastNumber = 17
refusal_number BlockCount = 18
refusal_number StrayByte = 19
refusal_number CircleSize = 24
refusal_number Form = 25
refusal_number TooMany = 26
refusal_number OutputRoom = 27

-- the number that an answer tells: that of its refusal, or 0, which stands for nothing found
abbrev pub number_in : {A : Type 0} → Result A Refusal → ℕ
number_in (Ok x) = 0
number_in (Err e) = refusal_number e
