-- The types that the code declares, here and below, by their names; and those that only what is told of a text has.
pub use Rattle.numbers.specs.declared.Process.{Process}
pub use Rattle.numbers.specs.declared.Version.{Version}
pub use Rattle.run_log.specs.declared.Note.{Note}
pub use Rattle.reused.specs.declared.Announced.{Announced}
pub use Rattle.reused.specs.Types.{Entry}
pub use Rattle.std.specs.Prelude.{Option, None, Some}
pub use Rattle.reused.specs.Types.{Kind}
pub use Rattle.requests.specs.declared.Kind.TheVariants.{Ask, Step}
pub use Rattle.reused.specs.declared.Outcome.{Outcome}
pub use Rattle.reused.specs.declared.Outcome.TheVariants.{Taken, GoesOn, NotDone, Yes, No, NoProcess, CallOpen}
pub use Rattle.reused.specs.Types.{Answer}
pub use Rattle.reused.specs.declared.Own.{Own}
pub use Rattle.reused.specs.declared.Place.{Place}
pub use Rattle.reused.specs.declared.Place.TheVariants.{Idle, Load1, Load2, Load3, Store1, Store2, Check1}
pub use Rattle.reused.specs.Types.{Request}
pub use Rattle.requests.specs.declared.Request.TheVariants.{Load, Store, Check}
pub use Rattle.reused.specs.declared.Requested.{Requested}
pub use Rattle.reused.specs.declared.State.{State}
pub use Rattle.reused.specs.declared.Stepped.{Stepped}
pub use Rattle.reused.specs.declared.Triple.{Triple}
pub use Rattle.writer.specs.declared.TextRefusal.{TextRefusal}
pub use Rattle.reused_text.specs.declared.Sizes.{Sizes}
pub use Rattle.writer.specs.declared.scan.Read.{Read}
pub use Rattle.reused_text.specs.Told.{Ran, Scanned}
