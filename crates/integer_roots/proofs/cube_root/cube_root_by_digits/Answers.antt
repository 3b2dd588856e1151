use Rattle.integer_roots.proofs.Common.{arith, ◌-◌, ◌*◌, ◌^◌, pow_pos}
use Rattle.integer_roots.proofs.CubeDigits.{cube_step, front_at_first, next_digit, front_stays, front_grows, cube_step_fits, front_at_last}
use Rattle.integer_roots.proofs.cube_root.cube_root_by_digits.Goals as goal

pub loop-digit-init : goal.loop-digit-init
loop-digit-init c = front_at_first c.args.a c.args.bits c.requires.narrow c.requires.fits

pub overflow_sub-rest : goal.overflow_sub-rest
overflow_sub-rest c = grind (arith, cube_step_fits)

pub loop-digit-preserved-then-rest-place : goal.loop-digit-preserved-then-rest-place
loop-digit-preserved-then-rest-place c =
    let step = cube_step_fits c.loop-digit.rest (cube_step c.loop-digit.square c.loop-digit.root) (2 ^ (3 * (c.loop-digit.digit - 1))) (pow_pos _) (omega arith) (omega arith) in
    rw step.0 (front_grows (pow_pos _) (next_digit (omega arith) c.loop-digit.invariant) (omega arith))

pub loop-digit-preserved : goal.loop-digit-preserved
loop-digit-preserved c = front_stays (pow_pos _) (next_digit (omega arith) c.loop-digit.invariant) (omega arith)

pub returns : goal.returns
returns c = record { root = front_at_last {digits = c.loop-digit.digit} (omega arith) c.loop-digit.invariant }
