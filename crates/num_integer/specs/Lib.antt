-- what the clauses of the calls of integer_core and integer_roots cite, and the range of a lawful type of another crate
pub use Rattle.integer_core.specs.Between
pub use Rattle.integer_core.specs.Bezout
pub use Rattle.integer_core.specs.Checked
pub use Rattle.integer_core.specs.Division
pub use Rattle.integer_core.specs.Divisors
pub use Rattle.integer_core.specs.Fibonacci
pub use Rattle.integer_core.specs.GcdRuns
pub use Rattle.integer_core.specs.IntegerWords
pub use Rattle.integer_core.specs.Least
pub use Rattle.integer_core.specs.Narrowing
pub use Rattle.integer_core.specs.NativeRanges
pub use Rattle.integer_core.specs.Only
pub use Rattle.integer_core.specs.Padded
pub use Rattle.integer_core.specs.Range
pub use Rattle.integer_core.specs.Runs
pub use Rattle.integer_roots.specs.Averages
pub use Rattle.integer_roots.specs.RootOf
pub use Rattle.integer_roots.specs.SquareRuns
-- what those of this crate cite, and the laws
pub mod Answers
pub mod Laws
pub mod Coefficient
pub mod Multinomial
pub mod Row
pub mod Parts
pub mod DivisorSums
pub mod Rounding
