use Rattle.tests.proofs.tests.divisors.euclidean_gcd.Given as goal

abbrev pub decreases-loop-m : goal.decreases-loop-m
decreases-loop-m l = l.m
