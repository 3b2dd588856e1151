use Rattle.num_integer.specs.Divisors.{IsLeastCommonMultiple}
use Rattle.bounded_integers.proofs.Computed.{each_computed}
use Rattle.bounded_integers.proofs.integers.OwnInteger.lcm.Goals as goal

pub lcm-requires-clause-lcm_fits : goal.lcm-requires-clause-lcm_fits
lcm-requires-clause-lcm_fits g c = each_computed g.met.F.Number.Integer.range_law g.met.F.Form.ends_law IsLeastCommonMultiple c.number.ensures.value c.number-2.ensures.value c.requires.lcm_fits
