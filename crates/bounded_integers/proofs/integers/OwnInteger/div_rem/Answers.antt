use Rattle.num_integer.specs.Division.{IsQuotient, IsTruncated}
use Rattle.num_integer.proofs.ForCallers.{only_truncated, remainder_within, truncated_is, within_fits}
use Rattle.bounded_integers.proofs.Computed.{each_computed}
use Rattle.bounded_integers.proofs.integers.OwnInteger.div_rem.Goals as goal

pub div_rem-q-requires-clause-quotient_fits : goal.div_rem-q-requires-clause-quotient_fits
div_rem-q-requires-clause-quotient_fits g c = each_computed g.met.F.Number.Integer.range_law g.met.F.Form.ends_law (IsQuotient IsTruncated) c.number.ensures.value c.number-2.ensures.value c.requires.quotient_fits

pub answer-requires-2 : goal.answer-requires-2
answer-requires-2 g c =
    let only = only_truncated c.div_rem-q.ensures.truncated (truncated_is _ _ (rw c.number-2.ensures.value c.requires.nonzero)) in
    rw only.1 (within_fits g.met.F.Form.form_law c.number.ensures.in_range (remainder_within _ _))
