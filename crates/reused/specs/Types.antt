-- The types that the code declares, here and below, by their names.
use Rattle.requests.specs.declared.Answer as answer
use Rattle.requests.specs.declared.Started as started
use Rattle.requests.specs.declared.Told as told
use Rattle.std.specs.Prelude.{Bool}
use Rattle.requests.specs.declared.Entry as entry
use Rattle.requests.specs.declared.Kind as kind
use Rattle.requests.specs.declared.Request as request
pub use Rattle.numbers.specs.declared.Process.{Process}
pub use Rattle.reused.specs.declared.Announced.{Announced}
pub use Rattle.std.specs.Prelude.{Option, None, Some}
pub use Rattle.requests.specs.declared.Kind.TheVariants.{Ask, Step}
pub use Rattle.reused.specs.declared.Outcome.{Outcome}
pub use Rattle.reused.specs.declared.Outcome.TheVariants.{Taken, GoesOn, Value, Done, NotDone, Yes, No, NoProcess, CallOpen, NoCall, Unsound}
pub use Rattle.reused.specs.declared.Own.{Own}
pub use Rattle.reused.specs.declared.Parts.{Parts}
pub use Rattle.reused.specs.declared.Place.{Place}
pub use Rattle.reused.specs.declared.Place.TheVariants.{Idle, Load1, Load2, Load3, Store1, Store2, Check1}
pub use Rattle.reused.specs.declared.Point.{Point}
pub use Rattle.requests.specs.declared.Request.TheVariants.{Load, Store, Check}
pub use Rattle.reused.specs.declared.Requested.{Requested}
pub use Rattle.reused.specs.declared.State.{State}
pub use Rattle.reused.specs.declared.Stepped.{Stepped}
pub use Rattle.reused.specs.declared.Stored.{Stored}
pub use Rattle.reused.specs.declared.Triple.{Triple}

-- What is asked of the machine with reused numbers, whose word holds a bit.
abbrev pub Request : Type 0
Request = request.Request Bool

abbrev pub Kind : Type 0
Kind = kind.Kind Bool

abbrev pub Entry : Type 0
Entry = entry.Entry Bool

-- What an entry leaves, what a start gives, and an outcome as it is printed.
abbrev pub Answer : Type 0
Answer = answer.Answer State Outcome

abbrev pub Started : Type 0
Started = started.Started State

abbrev pub Told : Type 0
Told = told.Told Stored
