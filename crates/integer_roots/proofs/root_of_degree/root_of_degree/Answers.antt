use Rattle.integer_roots.proofs.Common.{arith, ◌+◌, pow_mono, pow-add}
use Rattle.integer_roots.proofs.Powers.{power_of_zero, power_of_one, floor_root}
use Rattle.integer_roots.proofs.root_of_degree.root_of_degree.Goals as goal

pub returns-then-a-eq0 : goal.returns-then-a-eq0
returns-then-a-eq0 c =
    let none = power_of_zero c.args.n (omega arith) in
    record { root = rw c.if-a-eq0.true (floor_root (omega arith) (omega (arith, power_of_one c.args.n))) }

pub returns-then-top-n : goal.returns-then-top-n
returns-then-top-n c =
    let up = pow_mono {i = c.ilog2-top.result + 1} {j = c.args.n} (omega arith) in
    record { root = floor_root (omega (arith, power_of_one c.args.n)) (omega (arith, pow-add 2 c.ilog2-top.result 1)) }

pub root_by_newton-requires-clause-power_le : goal.root_by_newton-requires-clause-power_le
root_by_newton-requires-clause-power_le c = grind (arith, pow_mono, c.ilog2-top.ensures.power_le)
