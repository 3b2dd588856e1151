use Rattle.modular.proofs.Common.{iff_false, within_fits}
use Rattle.modular.proofs.NextCongruent.{found_or_beyond}
use Rattle.modular.proofs.Counts.{count_from_zero, counted_by_times}
use Rattle.modular.proofs.residue_classes.count_congruent.Goals as goal

pub returns-in_err-before-clause-count : goal.returns-in_err-before-clause-count
returns-in_err-before-clause-count g c =
    let counted = counted_by_times c.requires.positive c.residue-start.ensures.residue (iff_false c.is_below.ensures c.if-is_below.false) c.times_to_reach.ensures.times c.times_to_reach-2.ensures.times in
    rw c.from_residual.ensures (_, counted.last (c.are_congruent.ensures.0 c.if-are_congruent.true), λ fits. c.in_err-before.ensures (within_fits g.met.T.Integer.range_law fits counted.within))

pub returns-in_ok-before-clause-count : goal.returns-in_ok-before-clause-count
returns-in_ok-before-clause-count g c =
    let counted = counted_by_times c.requires.positive c.residue-start.ensures.residue (iff_false c.is_below.ensures c.if-is_below.false) c.times_to_reach.ensures.times c.times_to_reach-2.ensures.times in
    found_or_beyond _ _ _ _ (counted.last (c.are_congruent.ensures.0 c.if-are_congruent.true)) (rw c.in_ok-before.ensures.1.1 at c.inc.ensures)

pub returns-else-are_congruent-clause-count : goal.returns-else-are_congruent-clause-count
returns-else-are_congruent-clause-count g c =
    let counted = counted_by_times c.requires.positive c.residue-start.ensures.residue (iff_false c.is_below.ensures c.if-is_below.false) c.times_to_reach.ensures.times c.times_to_reach-2.ensures.times in
    found_or_beyond _ _ _ _ (counted.other (iff_false c.are_congruent.ensures c.if-are_congruent.false)) c.difference-before.ensures

pub returns-in_ok-before-clause-from_zero : goal.returns-in_ok-before-clause-from_zero
returns-in_ok-before-clause-from_zero g c = count_from_zero g.T.Number.fits g.T.Number.value _ _ _ _ (returns-in_ok-before-clause-count g c)

pub returns-else-are_congruent-clause-from_zero : goal.returns-else-are_congruent-clause-from_zero
returns-else-are_congruent-clause-from_zero g c = count_from_zero g.T.Number.fits g.T.Number.value _ _ _ _ (returns-else-are_congruent-clause-count g c)
