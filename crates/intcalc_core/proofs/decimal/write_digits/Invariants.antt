use Rattle.intcalc_core.proofs.Common.{◌≡◌, ◌≤◌, length, drop, ◌++◌, decimal}
use Rattle.intcalc_core.proofs.decimal.write_digits.Given as goal

-- the digits of what is left, and those that are written
abbrev pub invariant-loop-rest : goal.invariant-loop-rest
invariant-loop-rest l = record {
  size : length l.text ≡ 39;
  within : l.start ≤ 39;
  digits : decimal l.rest ++ drop l.start l.text ≡ decimal l.n;
}

abbrev pub decreases-loop-rest : goal.decreases-loop-rest
decreases-loop-rest l = l.rest
