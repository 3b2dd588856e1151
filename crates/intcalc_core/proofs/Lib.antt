pub mod Common
pub mod OnlyOutcome
pub mod FractionLemmas
mod OperandLemmas
pub mod OnlyLine
mod DecimalLemmas
mod SinkLemmas
mod WordsLemmas
