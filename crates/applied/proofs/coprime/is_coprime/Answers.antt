-- `is_coprime` tests whether the result of `signed_gcd` is 1.
use Rattle.applied.proofs.Common.{only_gcd, sizes}
use Rattle.applied.proofs.coprime.is_coprime.Goals as goal

pub returns : goal.returns
returns g c =
    let own = c.signed_gcd.ensures.magnitude in (
      λ h. rw (c.is_one.ensures.0 h) at own,
      λ one. c.is_one.ensures.1 (omega (sizes, c.signed_gcd.ensures.not_minus_one, only_gcd own one)),
    )
