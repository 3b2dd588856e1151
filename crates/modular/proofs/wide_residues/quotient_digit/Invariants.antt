use Rattle.modular.proofs.Common.{◌≡◌, ◌+◌, ◌*◌, ◌^◌, ◌<◌}
use Rattle.modular.proofs.wide_residues.quotient_digit.Given as goal

abbrev pub invariant-guesses : goal.invariant-guesses
invariant-guesses l = record {
  is_digit : l.quotient < 2 ^ 64;
  over_is : l.over + l.quotient * l.high ≡ l.remainder;
  next : l.over * 2 ^ 64 + l.digit < l.quotient * l.low + (l.high * 2 ^ 64 + l.low);
}

abbrev pub decreases-guesses : goal.decreases-guesses
decreases-guesses l = l.quotient
