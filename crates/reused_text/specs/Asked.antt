-- What a line of P1's form asks for: the types of the first machine's entries, by their names.
pub use Rattle.step.specs.Types.{Entry}
pub use Rattle.step.specs.Types.{Kind}
pub use Rattle.requests.specs.declared.Kind.TheVariants.{Ask, Step}
pub use Rattle.step.specs.Types.{Request}
pub use Rattle.requests.specs.declared.Request.TheVariants.{Load, Store, Check}
