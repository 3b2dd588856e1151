use Rattle.integer_core.proofs.native.Magnitudes.with_magnitude.Goals as goal
use Rattle.integer_core.proofs.ForAnswers.{◌∙◌, arith, iff_false, linear, sizes, sym}

pub from_magnitude-requires-else-eq : goal.from_magnitude-requires-else-eq
from_magnitude-requires-else-eq g c =
    let range = g.met.Self.Native.native_law.range in
    let fits = (range.between _).0 (c.requires.below_zero_fits (c.is_negative.ensures.0 c.if-not-is_negative.false)) in
    let equal = g.met.Self.Magnitude.Number.eq_law c.args.magnitude c.magnitude.result g.met.Self.Magnitude.Integral.exact_law in
    let differ = iff_false equal (sym c.eq.ensures ∙ c.if-eq.false) in
    (range.between _).1 (omega (arith, linear, sizes, range.low_end, range.positive, fits, differ, c.magnitude.ensures.value, c.min_value-low.ensures.value g.met.Self.Integral.exact_law, g.met.Self.Magnitude.Magnitude.unsigned_law c.args.magnitude))
