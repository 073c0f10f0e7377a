-- The types that the code declares, here and below, by their names; and those that only what is told of a text has.
pub use Rattle.numbers.specs.declared.Process.{Process}
pub use Rattle.numbers.specs.declared.Refusal.{Refusal}
pub use Rattle.step.specs.Types.{Entry}
pub use Rattle.step.specs.Types.{Kind}
pub use Rattle.requests.specs.declared.Kind.TheVariants.{Ask, Step}
pub use Rattle.requests.specs.declared.Request.TheVariants.{Load, Store, Check}
pub use Rattle.schedule.specs.Reading.{Accepted}
pub use Rattle.writer.specs.declared.NumeralError.{NumeralError}
pub use Rattle.writer.specs.declared.NumeralError.TheVariants.{NoNumeral, TooLarge}
pub use Rattle.writer.specs.declared.Opening.{Opening}
pub use Rattle.writer.specs.declared.scan.Read.{Read}
pub use Rattle.schedule.specs.declared.Start.{Start}
pub use Rattle.writer.specs.declared.TextRefusal.{TextRefusal}
pub use Rattle.writer.specs.Told.{Scanned, Written}
