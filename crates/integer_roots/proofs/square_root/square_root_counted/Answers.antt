use Rattle.integer_roots.proofs.Common.{arith, ◌%◌, ◌*◌, ◌^◌, first_guess}
use Rattle.integer_roots.proofs.RootGuesses.{in_range, ended_at_root}
use Rattle.integer_roots.proofs.SquareGuesses.{IsSquareStart, square_start, near_root, iterations_of_run}
use Rattle.integer_roots.proofs.square_root.square_root_counted.Goals as goal
use Rattle.integer_roots.proofs.square_root.square_root_counted.Goals.{After-ilog2}

first : (c : After-ilog2) → IsSquareStart c.args.a (1 * first_guess c.ilog2.result % 2 ^ 64)
first c =
    let b = c.ilog2.ensures in
    square_start c.args.a c.ilog2.result (omega arith) (omega arith) b.bound b.power_le b.next_power_gt

pub newton-requires : goal.newton-requires
newton-requires c guess n reached =
    let range = in_range (first c).start reached in
    ((range.above_one, omega (arith, range.small)), omega (arith, (near_root (first c) reached).bound))

pub returns : goal.returns
returns c =
    let s = first (goal.at.returns c).After-ilog2 in
    record {
      root = ended_at_root s.start c.newton.ensures.reached c.newton.ensures.ended;
      iterations = iterations_of_run s c.newton.ensures.reached c.newton.ensures.ended;
      bound = (near_root s c.newton.ensures.reached).bound;
    }
