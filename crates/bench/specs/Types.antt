-- The types that the code declares, here and below, and those of what is told in the documents' numbers, by their names.
pub use Rattle.numbers.specs.declared.Process.{Process}
pub use Rattle.numbers.specs.declared.Sequence.{Sequence}
pub use Rattle.numbers.specs.declared.Version.{Version}
pub use Rattle.step.specs.Types.{Entry}
pub use Rattle.step.specs.Types.{Kind}
pub use Rattle.requests.specs.declared.Kind.TheVariants.{Ask, Step}
pub use Rattle.step.specs.declared.Outcome.{Outcome}
pub use Rattle.step.specs.declared.Place.{Place}
pub use Rattle.step.specs.declared.Record.{Record}
pub use Rattle.requests.specs.declared.Request.TheVariants.{Load, Store, Check}
pub use Rattle.step.specs.declared.Stepped.{Stepped}
pub use Rattle.step.specs.declared.Tag.{Tag}
pub use Rattle.machine.specs.Types.{Answer}
pub use Rattle.machine.specs.Types.{Started}
pub use Rattle.machine.specs.declared.State.{State}
pub use Rattle.schedule.specs.declared.Fields.{Fields}
pub use Rattle.schedule.specs.Reading.{Reading, Refused, Accepted}
pub use Rattle.run_log.specs.declared.Note.{Note}
pub use Rattle.bench.specs.declared.Played.{Played}
pub use Rattle.bench.specs.Told.{Ran}
