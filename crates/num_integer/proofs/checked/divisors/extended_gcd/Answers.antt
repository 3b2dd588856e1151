use Rattle.num_integer.proofs.Common.{refl, iff_false, gcd_domain}
use Rattle.num_integer.proofs.checked.divisors.extended_gcd.Goals as goal
use Rattle.num_integer.proofs.checked.divisors.extended_gcd.Goals.{else-gcd_fits-via-then-gcd_fits+else-pair_fits, else-gcd_fits-via-else-gcd_fits}

pub returns-then-pair_fits : goal.returns-then-pair_fits
returns-then-pair_fits g c =
    let in_range = c.extended_gcd.ensures.in_range in
    let test = gcd_domain g.met.T.Integer.range_law c.requires.x_in_range c.requires.y_in_range c.if-gcd_fits.ensures.domain in
    ((test.0 refl, c.if-pair_fits.ensures.0 refl), (in_range.0, in_range.1, in_range.2, c.extended_gcd.ensures.answer))

pub returns-else-gcd_fits : goal.returns-else-gcd_fits
returns-else-gcd_fits g c =
    let test = gcd_domain g.met.T.Integer.range_law c.requires.x_in_range c.requires.y_in_range c.gcd_fits.ensures.domain in
    λ domain. elim c.else-gcd_fits.branch [
      | else-gcd_fits-via-then-gcd_fits+else-pair_fits w ↦ iff_false w.pair_fits.ensures w.if-pair_fits.false domain.1
      | else-gcd_fits-via-else-gcd_fits w ↦ iff_false test w.if-gcd_fits.false domain.0
    ]
