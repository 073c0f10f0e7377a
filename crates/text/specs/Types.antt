-- The types that the code declares, here and below, by their names.
pub use Rattle.run_log.specs.declared.Head.{Head}
pub use Rattle.run_log.specs.declared.Note.{Note}
pub use Rattle.text.specs.declared.Piece.{Piece}
pub use Rattle.text.specs.declared.Piece.TheVariants.{Word, Number, Field}
pub use Rattle.text.specs.declared.Filled.{Filled}
