pub mod Operands
pub mod Refusal
pub mod Outcome
pub mod Fractions
pub mod Number
pub mod Words
pub mod Line
pub mod Console
-- what the clauses cite of the crates below
pub use Rattle.num_integer.specs.Only
pub use Rattle.num_integer.specs.IntegerWords
