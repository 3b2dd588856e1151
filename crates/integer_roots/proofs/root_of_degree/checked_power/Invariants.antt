use Rattle.integer_roots.proofs.Common.{◌≡◌, ◌/◌, ◌^◌, ◌<◌}
use Rattle.integer_roots.proofs.root_of_degree.checked_power.Given as goal

abbrev pub invariant-loop-place : goal.invariant-loop-place
invariant-loop-place l = record {
  is : l.power ≡ l.fn.x ^ (l.fn.k / 2 ^ l.place);
  fits : l.power < 2 ^ 64;
}
