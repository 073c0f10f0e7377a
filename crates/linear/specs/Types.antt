-- The types that the code declares, here and below, by their names.
pub use Rattle.numbers.specs.declared.Process.{Process}
pub use Rattle.numbers.specs.declared.Sequence.{Sequence}
pub use Rattle.step.specs.Types.{Entry}
pub use Rattle.step.specs.Types.{Kind}
pub use Rattle.requests.specs.declared.Kind.TheVariants.{Ask, Step}
pub use Rattle.step.specs.declared.Outcome.{Outcome}
pub use Rattle.step.specs.declared.Outcome.TheVariants.{Taken, GoesOn, Value, Done, NotDone, Yes, No, NoProcess, CallOpen, UsedUp, NoCall, Unsound}
pub use Rattle.step.specs.declared.Place.{Place}
pub use Rattle.step.specs.declared.Place.TheVariants.{Idle, Load1, Load2, Load3, Load5, Store7, Store8, Store9, Store10, Check14}
pub use Rattle.step.specs.declared.Record.{Record}
pub use Rattle.step.specs.Types.{Request}
pub use Rattle.requests.specs.declared.Request.TheVariants.{Load, Store, Check}
pub use Rattle.step.specs.declared.Requested.{Requested}
pub use Rattle.step.specs.declared.Row.{Row}
pub use Rattle.step.specs.declared.Stepped.{Stepped}
pub use Rattle.step.specs.declared.Tag.{Tag}
pub use Rattle.machine.specs.Types.{Answer}
pub use Rattle.machine.specs.declared.State.{State}
pub use Rattle.schedule.specs.Reading.{Accepted}
pub use Rattle.run_log.specs.declared.Head.{Head}
pub use Rattle.run_log.specs.declared.Note.{Note}
