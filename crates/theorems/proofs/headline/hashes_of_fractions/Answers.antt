use Rattle.ratio64.proofs.Laws.{reduced_pairs_are_equal_where_same}
use Rattle.theorems.proofs.headline.hashes_of_fractions.Goals as goal

pub returns-clause-same : goal.returns-clause-same
returns-clause-same g c = λ equal states.
    let same = (reduced_pairs_are_equal_where_same _ _ _ _ c.args.x.now.reduced c.args.y.now.reduced).0 equal in
    cc
