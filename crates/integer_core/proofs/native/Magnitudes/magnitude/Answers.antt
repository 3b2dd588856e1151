use Rattle.integer_core.proofs.ForAnswers.{◌∙◌, arith, subst, sym, linear, magnitude_by_distance, within_fits}
use Rattle.integer_core.proofs.native.Magnitudes.magnitude.Goals as goal

pub successor-requires-clause-sum_fits : goal.successor-requires-clause-sum_fits
successor-requires-clause-sum_fits g c = within_fits g.met.Self.Native.native_law.range c.requires (grind (arith, linear))

pub difference-requires-clause-difference_fits : goal.difference-requires-clause-difference_fits
difference-requires-clause-difference_fits g c =
    let range = g.met.Self.Native.native_law.range in
    let negative = c.is_negative.ensures.0 c.if-is_negative.true in
    rw (c.zero.ensures.value, c.successor.ensures.value) ((range.between _).1 (omega (arith, linear, range.low_end, (range.between _).0 c.requires)))

pub successor-requires-then-is_negative : goal.successor-requires-then-is_negative
successor-requires-then-is_negative g c =
    let native = g.met.Self.Native.native_law in
    let distance = rw (c.zero.ensures.value, c.successor.ensures.value) at c.difference.ensures.value in
    let cast = c.as_.ensures.value g.met.Self.Integral.exact_law g.met.Self.Magnitude.Integral.exact_law in
    let is = magnitude_by_distance native (λ z. g.met.Self.Magnitude.Integral.wrap_law z) distance c.difference.ensures.in_range (c.is_negative.ensures.0 c.if-is_negative.true) cast in
    record { sum_fits = subst g.Self.Magnitude.Number.fits (sym is) (native.magnitude _ c.requires) }

pub returns-then-is_negative-clause-value : goal.returns-then-is_negative-clause-value
returns-then-is_negative-clause-value g c =
    let native = g.met.Self.Native.native_law in
    let distance = rw (c.zero.ensures.value, c.successor.ensures.value) at c.difference.ensures.value in
    let cast = c.as_.ensures.value g.met.Self.Integral.exact_law g.met.Self.Magnitude.Integral.exact_law in
    c.successor-then-is_negative.ensures.value ∙ magnitude_by_distance native (λ z. g.met.Self.Magnitude.Integral.wrap_law z) distance c.difference.ensures.in_range (c.is_negative.ensures.0 c.if-is_negative.true) cast
