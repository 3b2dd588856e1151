pub mod Common
mod ResidueExistence
mod Roots
