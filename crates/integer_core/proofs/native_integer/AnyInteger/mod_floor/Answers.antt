use Rattle.integer_core.proofs.ForAnswers.{iff_false, other_quotient_fits, floored_by_minus_one}
use Rattle.integer_core.proofs.native_integer.AnyInteger.mod_floor.Goals as goal

pub div_mod_floor-requires-clause-quotient_fits : goal.div_mod_floor-requires-clause-quotient_fits
div_mod_floor-requires-clause-quotient_fits g c q h =
    let other = iff_false c.is_minus_one.ensures c.if-is_minus_one.false in
    other_quotient_fits g.met.T.Native.native_law.range c.requires.self_in_range c.requires.other_in_range other h.division.division

pub returns-then-is_minus_one-clause-floored : goal.returns-then-is_minus_one-clause-floored
returns-then-is_minus_one-clause-floored g c =
    let exact = floored_by_minus_one (g.T.Number.value c.args.self.now) _ (c.is_minus_one.ensures.0 c.if-is_minus_one.true) in
    rw c.zero.ensures.value (record { quotient = _; division = exact })

pub returns-else-is_minus_one-clause-floored : goal.returns-else-is_minus_one-clause-floored
returns-else-is_minus_one-clause-floored g c = record { quotient = _; division = c.div_mod_floor.ensures.floored }
