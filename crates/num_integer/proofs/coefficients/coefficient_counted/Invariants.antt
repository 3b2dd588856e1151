use Rattle.num_integer.proofs.Common.{◌≡◌, ◌-◌, ◌≤ℤ◌, pos, unsigned_abs, coefficient_of}
use Rattle.num_integer.proofs.coefficients.coefficient_counted.Given as goal

abbrev pub invariant-loop-n : goal.invariant-loop-n
invariant-loop-n g l = record {
  place_in_range : g.T.Number.fits (g.T.Number.value l.place);
  in_range : g.T.Number.fits (g.T.Number.value l.coefficient);
  place : g.T.Number.value l.place ≡ pos l.iterations;
  within : g.T.Number.value l.place ≤ℤ g.T.Number.value l.last;
  coefficient : g.T.Number.value l.coefficient ≡ coefficient_of (g.T.Number.value l.n) (g.T.Number.value l.place);
}

abbrev pub decreases-loop-n : goal.decreases-loop-n
decreases-loop-n g l = unsigned_abs (g.T.Number.value l.last) - l.iterations
