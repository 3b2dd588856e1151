pub mod Averages
pub mod RootOf
pub mod SquareRuns
pub mod NewtonRuns
pub mod NativeWidth
