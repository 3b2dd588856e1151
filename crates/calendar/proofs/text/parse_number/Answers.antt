use Rattle.calendar.proofs.Common.{arith, subst, sym, iff_false, IsShortest}
use Rattle.calendar.proofs.PaddedNumbers.{no_number_read, number_inside_read, outside_read, unpadded_read}
use Rattle.calendar.proofs.text.parse_number.Goals as goal

pub returns-then-not-has_minimal_padding-clause-number : goal.returns-then-not-has_minimal_padding-clause-number
returns-then-not-has_minimal_padding-clause-number c =
    unpadded_read (omega arith) (λ so. iff_false c.has_minimal_padding.ensures c.if-not-has_minimal_padding.true (subst IsShortest (sym c.as_bytes.ensures.value) so))

pub returns-in_default-clause-number : goal.returns-in_default-clause-number
returns-in_default-clause-number c = no_number_read c.parse.result (omega arith) c.parse.ensures.value.0 (λ n e. absurd (cc c.in_default.is))

pub returns-else-contains-clause-number : goal.returns-else-contains-clause-number
returns-else-contains-clause-number c =
    outside_read c.in-Ok.number c.parse.result (omega arith) c.parse.ensures.value.0 c.in-Ok.is (λ within. grind arith)

pub returns-then-contains-clause-number : goal.returns-then-contains-clause-number
returns-then-contains-clause-number c =
    number_inside_read c.in-Ok.number c.parse.result (omega arith) c.parse.ensures.value.0 c.in-Ok.is (subst IsShortest c.as_bytes.ensures.value (c.has_minimal_padding.ensures.0 c.if-not-has_minimal_padding.false)) (grind arith, grind arith)
