-- The types that the code declares, here and below, by their names.
pub use Rattle.run_log.specs.declared.Head.{Head}
pub use Rattle.run_log.specs.declared.Note.{Note}
