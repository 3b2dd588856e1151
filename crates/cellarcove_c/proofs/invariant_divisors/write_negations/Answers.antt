use Rattle.std.proofs.Common.{FitsSigned, get_or, pos, rules, w64}
use Rattle.std.proofs.lemmas.Int.{to_z-of_z}
use Rattle.std.specs.Prelude.{◌-ℤ◌}
use Rattle.cellarcove_c.proofs.FlooredQuotients.{by_minus_one, one_more_floored}
use Rattle.cellarcove_c.proofs.invariant_divisors.write_negations.Goals as goal

pub overflow_sub-quotients : goal.overflow_sub-quotients
overflow_sub-quotients c =
    let number = get_or c.args.numbers.now c.loop-i.i (pos 0) in
    let fits : FitsSigned w64 number = search rules in
    rw (to_z-of_z w64 number fits) (c.requires.fit c.loop-i.i c.loop-i-test.true (pos 0 -ℤ number) (by_minus_one number))

pub loop-i-preserved : goal.loop-i-preserved
loop-i-preserved c =
    let number = get_or c.args.numbers.now c.loop-i.i (pos 0) in
    let fits : FitsSigned w64 number = search rules in
    let negation_fits = c.requires.fit c.loop-i.i c.loop-i-test.true (pos 0 -ℤ number) (by_minus_one number) in
    rw (to_z-of_z w64 number fits, to_z-of_z w64 (pos 0 -ℤ number) negation_fits)
    (one_more_floored (pos 0 -ℤ number) c.loop-i-test.true (by_minus_one number) c.loop-i.invariant)
