-- The types that the code declares, here and below, by their names.
use Rattle.requests.specs.declared.Answer as answer
use Rattle.requests.specs.declared.Started as started
pub use Rattle.numbers.specs.declared.Process.{Process}
pub use Rattle.numbers.specs.declared.Sequence.{Sequence}
pub use Rattle.step.specs.Types.{Entry}
pub use Rattle.step.specs.Types.{Kind}
pub use Rattle.requests.specs.declared.Kind.TheVariants.{Ask, Step}
pub use Rattle.step.specs.declared.Outcome.{Outcome}
pub use Rattle.step.specs.declared.Outcome.TheVariants.{NoProcess, Unsound, Value, NotDone, Yes, No, CallOpen, UsedUp}
pub use Rattle.step.specs.declared.Place.{Place}
pub use Rattle.step.specs.declared.Place.TheVariants.{Idle, Load1, Load2, Load3, Load5, Store7, Store8, Store9, Store10, Check14}
pub use Rattle.step.specs.declared.Record.{Record}
pub use Rattle.step.specs.Types.{Request}
pub use Rattle.requests.specs.declared.Request.TheVariants.{Load, Store, Check}
pub use Rattle.step.specs.declared.Requested.{Requested}
pub use Rattle.step.specs.declared.Row.{Row}
pub use Rattle.step.specs.declared.Stepped.{Stepped}
pub use Rattle.step.specs.declared.Tag.{Tag}
pub use Rattle.machine.specs.declared.State.{State}

-- What an entry leaves, and what a start gives.
abbrev pub Answer : Type 0
Answer = answer.Answer State Outcome

abbrev pub Started : Type 0
Started = started.Started State
