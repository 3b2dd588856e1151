use Rattle.std.proofs.Common.{◌≡◌, ◌∙◌, ℕ, ℤ, arith, pos, w64}
use Rattle.std.proofs.lemmas.Int.{ints, to_z-of_z}
use Rattle.std.specs.Prelude.{◌≢◌, ◌^◌, ◌<◌, ◌≤◌, FitsSigned, int_lt, false, neg_ℤ, negsuc, true, unsigned_abs}
use Rattle.num_integer.proofs.ForCallers.{linear, sizes}
use Rattle.cellarcove_c.proofs.invariant_divisors.write_by_other.Goals as goal
use Rattle.cellarcove_c.proofs.invariant_divisors.write_by_other.Goals.{After-new-magnitude}

-- a negative divisor is minus its magnitude, and another one is its magnitude
negation : (divisor : ℤ) (size : ℕ) → size ≡ unsigned_abs divisor → int_lt divisor (pos 0) ≡ true → neg_ℤ (pos size) ≡ divisor
negation divisor size is below = omega (arith, linear, sizes, ints, is, below)

magnitude : (divisor : ℤ) (size : ℕ) → size ≡ unsigned_abs divisor → int_lt divisor (pos 0) ≡ false → pos size ≡ divisor
magnitude divisor size is from_zero = omega (arith, linear, sizes, ints, is, from_zero)

positive : (divisor : ℤ) → divisor ≢ pos 0 → 0 < unsigned_abs divisor
positive divisor nonzero = omega (arith, linear, sizes, ints, nonzero)

at_most : (divisor : ℤ) → FitsSigned w64 divisor → unsigned_abs divisor ≤ 2 ^ 63
at_most (pos _) fits = omega (arith, fits.sfits)
at_most (negsuc _) fits = omega (arith, fits.sfits)

above_one : (divisor : ℤ) (size : ℕ) → size ≡ unsigned_abs divisor → divisor ≢ negsuc 0 → int_lt divisor (pos 0) ≡ true → 1 < size
above_one divisor size is other below = omega (arith, linear, sizes, ints, is, other, below)

pub new-magnitude-requires-clause-positive : goal.new-magnitude-requires-clause-positive
new-magnitude-requires-clause-positive c = rw (rw (to_z-of_z w64 c.args.divisor c.ranges.divisor) at c.unsigned_abs.ensures.value) (positive c.args.divisor c.requires.nonzero)

pub new-magnitude-requires-clause-most : goal.new-magnitude-requires-clause-most
new-magnitude-requires-clause-most c = rw (rw (to_z-of_z w64 c.args.divisor c.ranges.divisor) at c.unsigned_abs.ensures.value) (at_most c.args.divisor c.ranges.divisor)

size : (c : After-new-magnitude) → c.new-magnitude.result.divisor ≡ unsigned_abs c.args.divisor
size c = c.new-magnitude.ensures ∙ rw (to_z-of_z w64 c.args.divisor c.ranges.divisor) at c.unsigned_abs.ensures.value

pub write_by_negative-requires-clause-other : goal.write_by_negative-requires-clause-other
write_by_negative-requires-clause-other c =
    let below = rw (to_z-of_z w64 c.args.divisor c.ranges.divisor) at c.if-divisor-lt0.true in
    above_one c.args.divisor c.new-magnitude.result.divisor (size (goal.at.write_by_negative-requires-clause-other c).After-new-magnitude) c.requires.other below

pub returns-then-divisor-lt0 : goal.returns-then-divisor-lt0
returns-then-divisor-lt0 c =
    let below = rw (to_z-of_z w64 c.args.divisor c.ranges.divisor) at c.if-divisor-lt0.true in
    rw (negation c.args.divisor c.new-magnitude.result.divisor (size (goal.at.returns-then-divisor-lt0 c).After-new-magnitude) below) at c.write_by_negative.ensures

pub returns-else-divisor-lt0 : goal.returns-else-divisor-lt0
returns-else-divisor-lt0 c =
    let from_zero = rw (to_z-of_z w64 c.args.divisor c.ranges.divisor) at c.if-divisor-lt0.false in
    rw (magnitude c.args.divisor c.new-magnitude.result.divisor (size (goal.at.returns-else-divisor-lt0 c).After-new-magnitude) from_zero) at c.write_by_positive.ensures
