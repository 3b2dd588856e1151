use Rattle.integer_core.proofs.ForAnswers.{gcd_fits_is, gcd-magnitudes, lcm_is_there, lcm_there}
use Rattle.integer_core.proofs.native_integer.AnyInteger.gcd_lcm.Goals as goal

pub number_or-gcd-requires : goal.number_or-gcd-requires
number_or-gcd-requires g c =
    record { number_fits = (gcd_fits_is g.met.T.Native.native_law.range c.requires.self_in_range c.requires.other_in_range).0 c.requires.gcd_fits _ (gcd-magnitudes c.magnitude.ensures.value c.magnitude-2.ensures.value c.gcd_lcm_of_magnitudes-gcd.ensures.greatest) }

pub some-requires : goal.some-requires
some-requires g c =
    lcm_is_there g.T.Magnitude.Number.value g.met.T.Native.native_law c.requires.lcm_fits c.magnitude.ensures.value c.magnitude-2.ensures.value _ c.gcd_lcm_of_magnitudes-gcd.ensures.least

pub number_or-lcm-requires : goal.number_or-lcm-requires
number_or-lcm-requires g c =
    record { number_fits = c.requires.lcm_fits _ (lcm_there g.T.Magnitude.Number.value g.met.T.Native.native_law c.requires.lcm_fits c.magnitude.ensures.value c.magnitude-2.ensures.value _ c.gcd_lcm_of_magnitudes-gcd.ensures.least c.some.ensures) }

pub returns-clause-greatest : goal.returns-clause-greatest
returns-clause-greatest g c = rw c.number_or-gcd.ensures.value (gcd-magnitudes c.magnitude.ensures.value c.magnitude-2.ensures.value c.gcd_lcm_of_magnitudes-gcd.ensures.greatest)

pub returns-clause-least : goal.returns-clause-least
returns-clause-least g c = rw c.number_or-lcm.ensures.value (lcm_there g.T.Magnitude.Number.value g.met.T.Native.native_law c.requires.lcm_fits c.magnitude.ensures.value c.magnitude-2.ensures.value _ c.gcd_lcm_of_magnitudes-gcd.ensures.least c.some.ensures)
