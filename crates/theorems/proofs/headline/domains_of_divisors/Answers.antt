use Rattle.theorems.proofs.headline.domains_of_divisors.Goals as goal

pub returns-clause-gcd : goal.returns-clause-gcd
returns-clause-gcd g c = c.gcd_fits.ensures.domain
