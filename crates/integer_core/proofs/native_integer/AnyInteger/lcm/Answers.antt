use Rattle.integer_core.proofs.ForAnswers.{lcm_is_there, lcm_there}
use Rattle.integer_core.proofs.native_integer.AnyInteger.lcm.Goals as goal

pub some-requires : goal.some-requires
some-requires g c =
    lcm_is_there g.T.Magnitude.Number.value g.met.T.Native.native_law c.requires.lcm_fits c.magnitude.ensures.value c.magnitude-2.ensures.value _ c.gcd_lcm_of_magnitudes-lcm.ensures.least

pub number_or-requires : goal.number_or-requires
number_or-requires g c =
    record { number_fits = c.requires.lcm_fits _ (lcm_there g.T.Magnitude.Number.value g.met.T.Native.native_law c.requires.lcm_fits c.magnitude.ensures.value c.magnitude-2.ensures.value _ c.gcd_lcm_of_magnitudes-lcm.ensures.least c.some.ensures) }

pub returns : goal.returns
returns g c = record {
  in_range = c.number_or.ensures.in_range;
  least = rw c.number_or.ensures.value (lcm_there g.T.Magnitude.Number.value g.met.T.Native.native_law c.requires.lcm_fits c.magnitude.ensures.value c.magnitude-2.ensures.value _ c.gcd_lcm_of_magnitudes-lcm.ensures.least c.some.ensures);
}
