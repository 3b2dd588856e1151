use Rattle.num_integer.specs.Division.{IsFloored, IsQuotient}
use Rattle.bounded_integers.proofs.Computed.{each_computed}
use Rattle.bounded_integers.proofs.integers.OwnInteger.div_floor.Goals as goal

pub div_floor-requires-clause-quotient_fits : goal.div_floor-requires-clause-quotient_fits
div_floor-requires-clause-quotient_fits g c = each_computed g.met.F.Number.Integer.range_law g.met.F.Form.ends_law (IsQuotient IsFloored) c.number.ensures.value c.number-2.ensures.value c.requires.quotient_fits
