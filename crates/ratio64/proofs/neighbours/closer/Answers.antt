use Rattle.std.proofs.Common.{arith, refl}
use Rattle.ratio64.proofs.NeighbourIterations.{steps_within}
use Rattle.ratio64.proofs.neighbours.closer.Goals as goal

pub overflow_mul-result : goal.overflow_mul-result
overflow_mul-result c = let within = steps_within c.requires.gap c.requires.den c.requires.num c.min-steps.ensures in omega arith

pub overflow_add-result : goal.overflow_add-result
overflow_add-result c = let within = steps_within c.requires.gap c.requires.den c.requires.num c.min-steps.ensures in omega arith

pub overflow_mul-result-2 : goal.overflow_mul-result-2
overflow_mul-result-2 c = let within = steps_within c.requires.gap c.requires.den c.requires.num c.min-steps.ensures in omega arith

pub overflow_add-result-2 : goal.overflow_add-result-2
overflow_add-result-2 c = let within = steps_within c.requires.gap c.requires.den c.requires.num c.min-steps.ensures in omega arith

pub overflow_mul-result-3 : goal.overflow_mul-result-3
overflow_mul-result-3 c = let within = steps_within c.requires.gap c.requires.den c.requires.num c.min-steps.ensures in omega arith

pub overflow_sub-result : goal.overflow_sub-result
overflow_sub-result c = let within = steps_within c.requires.gap c.requires.den c.requires.num c.min-steps.ensures in omega (arith, within.1)

pub returns : goal.returns
returns c =
    let within = steps_within c.requires.gap c.requires.den c.requires.num c.min-steps.ensures in
    record {
      steps = c.min-steps.result;
      some = within.0;
      num = refl;
      den = refl;
      gap = omega (arith, within.1);
      apart = omega (arith, within.1);
      bounded = within.3;
    }
