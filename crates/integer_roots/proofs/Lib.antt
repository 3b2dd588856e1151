pub mod Common
pub mod Powers
pub mod SquareGuesses
pub mod RootGuesses
pub mod CubeDigits
pub mod Averaging
pub mod MagnitudeRoots
pub mod OnlyAnswers
