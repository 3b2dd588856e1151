use Rattle.integer_core.proofs.native_integer.AnyInteger.gcd.Goals as goal

pub returns-clause-greatest : goal.returns-clause-greatest
returns-clause-greatest g c = c.binary_gcd.ensures.gcd.greatest
