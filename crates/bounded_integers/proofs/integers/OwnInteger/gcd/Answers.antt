use Rattle.num_integer.specs.Divisors.{IsGreatestCommonDivisor}
use Rattle.num_integer.proofs.ForCallers.{gcd_fits_is}
use Rattle.bounded_integers.proofs.Computed.{each_computed, result_inside}
use Rattle.bounded_integers.proofs.integers.OwnInteger.gcd.Goals as goal

pub gcd-requires-clause-gcd_fits : goal.gcd-requires-clause-gcd_fits
gcd-requires-clause-gcd_fits g c _ = each_computed g.met.F.Number.Integer.range_law g.met.F.Form.ends_law IsGreatestCommonDivisor c.number.ensures.value c.number-2.ensures.value ((gcd_fits_is g.met.F.Form.form_law c.requires.self_in_range c.requires.other_in_range).0 c.requires.gcd_fits)

pub answer-requires : goal.answer-requires
answer-requires g c = result_inside IsGreatestCommonDivisor c.number.ensures.value c.number-2.ensures.value ((gcd_fits_is g.met.F.Form.form_law c.requires.self_in_range c.requires.other_in_range).0 c.requires.gcd_fits) c.gcd.ensures.greatest
