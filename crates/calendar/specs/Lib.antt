pub mod LeapYears
pub mod Months
pub mod Years
pub mod Dates
pub mod Weekday
pub mod Laws
pub mod Text
pub mod Weeks
pub mod IsoWeeks
pub mod Easter
-- what the clauses and the laws cite of the crate below
pub use Rattle.integer_core.specs.Division
pub use Rattle.integer_core.specs.Divisors
pub use Rattle.integer_core.specs.Least
pub use Rattle.integer_core.specs.Only
