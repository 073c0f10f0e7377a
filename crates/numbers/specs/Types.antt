-- The types that the code declares, by their names.
pub use Rattle.numbers.specs.declared.Process.{Process}
pub use Rattle.numbers.specs.declared.Refusal.{Refusal}
pub use Rattle.numbers.specs.declared.Refusal.TheVariants.{Length, Check, Place, Entries, LogRoom, Processes, LastNumber, BlockCount, StrayByte, CircleSize, Form, TooMany, OutputRoom}
pub use Rattle.numbers.specs.declared.Sequence.{Sequence}
