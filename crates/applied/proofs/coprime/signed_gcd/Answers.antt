-- A greatest common divisor that does not fit is the magnitude of each of the two numbers that is not 0.
use Rattle.applied.proofs.Common.{IsGreatestCommonDivisor, gcd_swap, gcd_zero, iff_false, pos, unsigned_abs}
use Rattle.applied.proofs.ReducedPairs.{unfit_gcd, unfit_is_other}
use Rattle.applied.proofs.coprime.signed_gcd.Goals as goal

pub returns-then-is_zero : goal.returns-then-is_zero
returns-then-is_zero g c =
    let own : IsGreatestCommonDivisor (g.T.Number.value c.args.a) (g.T.Number.value c.args.b) (pos (unsigned_abs (g.T.Number.value c.args.b))) =
    rw (c.is_zero.ensures.0 c.if-is_zero.true) (gcd_swap (gcd_zero (g.T.Number.value c.args.b))) in
    let none = iff_false c.gcd_fits.ensures.domain c.if-gcd_fits.false in
    record { in_range = c.requires.in_range.1; magnitude = own; not_minus_one = unfit_is_other g.met.T.Integer.range_law none _ own }

pub returns-else-is_zero : goal.returns-else-is_zero
returns-else-is_zero g c =
    let none = iff_false c.gcd_fits.ensures.domain c.if-gcd_fits.false in
    let own = unfit_gcd g.met.T.Integer.range_law none c.requires.in_range.0 (iff_false c.is_zero.ensures c.if-is_zero.false) in
    record { in_range = c.requires.in_range.0; magnitude = own; not_minus_one = unfit_is_other g.met.T.Integer.range_law none _ own }
