-- The types that the code declares, here and below, and those of what is told in the documents' numbers, by their names.
pub use Rattle.schedule.specs.Reading.{Reading, Refused, Accepted}
pub use Rattle.lister.specs.Told.{Listed}
