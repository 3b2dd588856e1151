use Rattle.applied.proofs.Common.{◌≡◌, ◌+◌, ◌-◌, arith, ints, coefficient}
use Rattle.applied.proofs.Choices.{all_written, none_written, one_more_written, choice_of_rank_is_only}
use Rattle.applied.proofs.ranking.choice_of_rank.Goals as goal

pub loop-i-init : goal.loop-i-init
loop-i-init c = none_written c.requires.rank

pub loop-i-preserved : goal.loop-i-preserved
loop-i-preserved c =
    let found = c.greatest_within-bound.ensures in
    let part : c.binomial-rest.result ≡ coefficient c.greatest_within-bound.result (c.loop-i.i - 1 + 1) = omega ints in
    rw part (one_more_written (omega arith) (omega arith) found.below found.within found.greatest c.loop-i.invariant)

pub returns : goal.returns
returns c =
    let none : c.loop-i.i ≡ 0 = omega arith in
    let found = all_written (rw none at c.loop-i.invariant) in
    record { choice = found; only = choice_of_rank_is_only _ _ _ _ found }
