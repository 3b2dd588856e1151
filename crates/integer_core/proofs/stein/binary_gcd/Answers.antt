use Rattle.integer_core.proofs.ForAnswers.{gcd-magnitudes, inl, inr, gcd_fits_is, counted_by_magnitudes, power_of_smallest}
use Rattle.integer_core.proofs.stein.binary_gcd.Goals as goal

pub gcd_of_magnitudes-gcd-requires-clause-power : goal.gcd_of_magnitudes-gcd-requires-clause-power
gcd_of_magnitudes-gcd-requires-clause-power g c smallest m_nonzero n_nonzero = elim (c.has_smallest.ensures.0 smallest) [
  | inl low ↦ inl (power_of_smallest g.met.T.Native.native_law.least low c.magnitude.ensures.value m_nonzero)
  | inr low ↦ inr (power_of_smallest g.met.T.Native.native_law.least low c.magnitude-2.ensures.value n_nonzero)
]

pub number_or-gcd-requires : goal.number_or-gcd-requires
number_or-gcd-requires g c =
    let own = gcd-magnitudes c.magnitude.ensures.value c.magnitude-2.ensures.value c.gcd_of_magnitudes-gcd.ensures.greatest in
    record { number_fits = (gcd_fits_is g.met.T.Native.native_law.range c.requires.in_range.0 c.requires.in_range.1).0 c.requires.gcd_fits _ own }

pub returns : goal.returns
returns g c =
    let counted = c.gcd_of_magnitudes-gcd.ensures in
    record {
      in_range = c.number_or-gcd.ensures.in_range;
      gcd = rw c.number_or-gcd.ensures.value (counted_by_magnitudes c.magnitude.ensures.value c.magnitude-2.ensures.value c.has_smallest.ensures counted.greatest counted.at_once counted.by_iterations counted.bound);
    }
