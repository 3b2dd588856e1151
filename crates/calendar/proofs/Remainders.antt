-- Division by a positive number, with a remainder that is not negative, and the remainder of `%`.
use Rattle.std.proofs.lemmas.Nat.{mod_below}
use Rattle.std.proofs.Math.Nat.{div-add-mod}
use Rattle.calendar.proofs.Common.{◌≡◌, ◌↔◌, ◌<◌, ◌%◌, ◌≤ℤ◌, ◌<ℤ◌, ◌+ℤ◌, ◌*ℤ◌, ℕ, ℤ, pos, negsuc, unsigned_abs, arith, ints, int_div_euclid, int_rem_euclid, int_rem, products, to_z-of_z}

pub euclidean : (n d : ℤ) → pos 0 <ℤ d
    → (n ≡ d *ℤ int_div_euclid n d +ℤ int_rem_euclid n d) × (pos 0 ≤ℤ int_rem_euclid n d) × (int_rem_euclid n d <ℤ d)
euclidean (pos a) (pos d) up = (omega (ints, products, div-add-mod a d), omega ints, omega (ints, mod_below a d (omega ints)))
euclidean (negsuc a) (pos d) up = grind (ints, products, div-add-mod)
euclidean n (negsuc d) up = absurd (omega ints)

-- what a function's goals about a quotient and its remainder need
pub ruleset division_steps = (ints, to_z-of_z, euclidean)

-- `%` returns 0 exactly if the remainder of the magnitude is 0
pub rem_zero : (z : ℤ) (d : ℕ) → 0 < d → (int_rem z (pos d) ≡ pos 0) ↔ (unsigned_abs z % d ≡ 0)
rem_zero z d up = grind arith
