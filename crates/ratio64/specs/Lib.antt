pub mod Decimal
pub mod DecimalText
pub mod Fraction
pub mod Laws
pub mod Limiting
pub mod RatioError
pub mod Ratio
pub mod RatioText
pub mod Rounding
-- what private functions cite
pub mod Neighbours
pub mod Times
-- lemmas that the invariant and the order of `Ratio` cite
pub mod ReducedPairs
pub mod FractionOrder
-- what the clauses cite of the crate below
pub use Rattle.num_integer.specs.Checked
pub use Rattle.num_integer.specs.Division
pub use Rattle.num_integer.specs.Divisors
pub use Rattle.num_integer.specs.IntegerWords
pub use Rattle.num_integer.specs.Only
pub use Rattle.num_integer.specs.Range
