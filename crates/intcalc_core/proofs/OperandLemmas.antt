-- The magnitudes of numbers of at most 64 bits.
use Rattle.intcalc_core.proofs.Common.{◌<◌, ◌^◌, ℤ, unsigned_abs, arith, ints, IsRange, IsWithin64Bits}

pub magnitude_below : {fits : ℤ → Type 0} {low high : ℤ} (n : ℤ) → IsRange fits low high → IsWithin64Bits low high → fits n → unsigned_abs n < 2 ^ 65
magnitude_below n range within n_fits = grind (arith, ints)
