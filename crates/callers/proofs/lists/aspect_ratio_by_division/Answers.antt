use Rattle.applied.proofs.ForCallers.{reduced_pair}
use Rattle.callers.proofs.lists.aspect_ratio_by_division.Goals as goal

pub returns : goal.returns
returns c =
    let pair = reduced_pair c.requires c.gcd-common.ensures.greatest in
    record { coprime = pair.0; ratio = pair.1 }
