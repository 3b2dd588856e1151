use Rattle.ratio64.proofs.Common.{subst, sym, take}
use Rattle.ratio64.proofs.ReadDecimals.{all_digits_taken, joined_size, kept_units, length_kept, none_kept, not_fitting_answer, number_answer, own_kept, places_kept, too_many_answer}
use Rattle.ratio64.specs.DecimalText.{AreKept}
use Rattle.ratio64.proofs.Common.{◌++◌, length, whole_of}
use Rattle.ratio64.proofs.decimal.reading.number.Goals as goal

pub returns-in_default-clause-number : goal.returns-in_default-clause-number
returns-in_default-clause-number c =
    too_many_answer (none_kept c.args.whole.now c.args.part.now c.requires.whole c.requires.part c.in_default.ensures)

pub magnitude-requires-clause-part : goal.magnitude-requires-clause-part
magnitude-requires-clause-part c = rw c.in-Some.ensures.0 (all_digits_taken 18 c.args.part.now c.requires.part)

pub magnitude-requires-clause-few : goal.magnitude-requires-clause-few
magnitude-requires-clause-few c = rw c.in-Some.ensures.0 (length_kept c.args.part.now)

pub returns-in_default-magnitude-clause-number : goal.returns-in_default-magnitude-clause-number
returns-in_default-magnitude-clause-number c =
    let w = c.args.whole.now in
    let part = c.args.part.now in
    let big = rw c.in-Some.ensures.0 at c.in_default-magnitude.ensures in
    not_fitting_answer _ (own_kept w part c.requires.whole c.requires.part c.in-Some.ensures.1) (rw (joined_size w part c.requires.whole c.requires.part (take 18 part)) big)

pub invariant_of-result : goal.invariant_of-result
invariant_of-result c =
    let w = c.args.whole.now in
    let part = c.args.part.now in
    let size = rw c.in-Some.ensures.0 at c.in-Some-magnitude.ensures in
    record {
      few = rw c.in-Some.ensures.0 (length_kept part);
      below = (kept_units w part c.requires.whole c.requires.part size.1 size.0 c.with_magnitude.ensures).1;
    }

pub returns-clause-number : goal.returns-clause-number
returns-clause-number c =
    let w = c.args.whole.now in
    let part = c.args.part.now in
    let size = rw c.in-Some.ensures.0 at c.in-Some-magnitude.ensures in
    let units = (kept_units w part c.requires.whole c.requires.part size.1 size.0 c.with_magnitude.ensures).0 in
    let kept = subst (AreKept (whole_of (w ++ part)) (length part)) (sym units) (own_kept w part c.requires.whole c.requires.part c.in-Some.ensures.1) in
    number_answer _ kept (rw c.in-Some.ensures.0 (places_kept part))
