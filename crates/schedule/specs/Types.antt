-- The types that the code declares, here and below, and those of what a file says, by their names.
pub use Rattle.step.specs.Types.{Entry}
pub use Rattle.step.specs.Types.{Kind}
pub use Rattle.requests.specs.declared.Kind.TheVariants.{Ask, Step}
pub use Rattle.requests.specs.declared.Request.TheVariants.{Load, Store, Check}
pub use Rattle.schedule.specs.declared.Fields.{Fields}
pub use Rattle.schedule.specs.Reading.{FirstBlock, FirstRefused, Start, Block, BlockRefused, Entries, Reading, Refused, Accepted}
