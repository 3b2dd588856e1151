use Rattle.applied.proofs.Common.{pos, map, take, unsigned_abs, IsGreatestCommonDivisorOf}
use Rattle.applied.proofs.lists.checked.signed_gcd_of.Given as goal

-- the magnitude is the gcd of the numbers so far
abbrev pub invariant-loop-number : goal.invariant-loop-number
invariant-loop-number g l = record {
  in_range : g.T.Number.fits (g.T.Number.value l.divisor);
  so_far : IsGreatestCommonDivisorOf (map g.T.Number.value (take l.number-index l.numbers)) (pos (unsigned_abs (g.T.Number.value l.divisor)));
}
