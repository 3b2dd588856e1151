use Rattle.integer_roots.proofs.Common.{◌%◌, ◌*◌, ◌^◌, arith, pow-le-pow_right, div_ceil_times}
use Rattle.integer_roots.proofs.RootGuesses.{IsStart, start, in_range, ended_at_root}
use Rattle.integer_roots.proofs.newton.root_by_newton.Given.{Over, F-post}
use Rattle.integer_roots.proofs.newton.root_by_newton.Goals as goal
use Rattle.integer_roots.proofs.newton.root_by_newton.Goals.{After-div_ceil}

first : (g : Over) (c : After-div_ceil g) → IsStart (F-post g c.args.step) c.args.a c.args.n (2 ^ 22) (1 * 2 ^ c.div_ceil.result % 2 ^ 64)
first g c =
    let b = c.ilog2.ensures in
    let small = pow-le-pow_right {n = 2 ^ 22} (omega arith) {i = 3} {j = c.args.n} c.requires.degree in
    start c.ilog2.result _ c.requires.newton (omega arith) c.requires.power_le b.bound (rw c.div_ceil.ensures (div_ceil_times _ _ (omega arith)))
    b.power_le b.next_power_gt (omega arith)

pub newton-requires : goal.newton-requires
newton-requires g c guess n reached =
    let range = in_range (first g c) reached in
    (c.requires.ready _ range.above_one (omega (arith, range.small)), omega (arith, range.small))

pub returns : goal.returns
returns g c = ended_at_root (first g (goal.at.returns g c).After-div_ceil) c.newton.ensures.reached c.newton.ensures.ended
