-- The types that the code declares, here and below, by their names.
use Rattle.requests.specs.declared.Told as told
use Rattle.std.specs.Prelude.{ℕ}
use Rattle.requests.specs.declared.Entry as entry
use Rattle.requests.specs.declared.Kind as kind
use Rattle.requests.specs.declared.Request as request
pub use Rattle.numbers.specs.declared.Process.{Process}
pub use Rattle.numbers.specs.declared.Sequence.{Sequence}
pub use Rattle.step.specs.declared.Outcome.{Outcome}
pub use Rattle.step.specs.declared.Outcome.TheVariants.{Taken, GoesOn, Value, Done, NotDone, Yes, No, NoProcess, CallOpen, UsedUp, NoCall, Unsound}
pub use Rattle.step.specs.declared.Place.{Place}
pub use Rattle.step.specs.declared.Place.TheVariants.{Idle, Load1, Load2, Load3, Load5, Store7, Store8, Store9, Store10, Check14}
pub use Rattle.step.specs.declared.Record.{Record}
pub use Rattle.requests.specs.declared.Request.TheVariants.{Load, Store, Check}
pub use Rattle.step.specs.declared.Requested.{Requested}
pub use Rattle.step.specs.declared.Row.{Row}
pub use Rattle.step.specs.declared.Stepped.{Stepped}
pub use Rattle.step.specs.declared.Tag.{Tag}
pub use Rattle.requests.specs.declared.Kind.TheVariants.{Ask, Step}

-- What is asked of the machine, whose word holds a number.
abbrev pub Request : Type 0
Request = request.Request ℕ

abbrev pub Kind : Type 0
Kind = kind.Kind ℕ

abbrev pub Entry : Type 0
Entry = entry.Entry ℕ

-- An outcome as the log writes it.
abbrev pub Told : Type 0
Told = told.Told ℕ
