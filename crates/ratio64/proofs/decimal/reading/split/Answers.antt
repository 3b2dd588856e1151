use Rattle.ratio64.proofs.Common.{iff_false}
use Rattle.ratio64.proofs.ReadDecimals.{alone_unspelled, cut_spelled, cut_unspelled}
use Rattle.ratio64.proofs.decimal.reading.split.Goals as goal
use Rattle.ratio64.proofs.decimal.reading.split.Goals.{then-not-is_integer-2-via-then-not-is_integer-2, then-not-is_integer-2-via-else-not-is_integer-2+then-not-is_numeral}

pub returns-then-not-is_integer : goal.returns-then-not-is_integer
returns-then-not-is_integer c = alone_unspelled c.args.text.now c.split_once.result c.in-None.is c.split_once.ensures.cases (iff_false c.is_integer.ensures.numeral c.if-not-is_integer.true)

pub returns-then-not-is_integer-2 : goal.returns-then-not-is_integer-2
returns-then-not-is_integer-2 c = cut_unspelled (c.in-Some.whole, c.in-Some.part) c.in-Some.ensures.cases (elim c.then-not-is_integer-2.branch [
  | then-not-is_integer-2-via-then-not-is_integer-2 w ↦ λ both. iff_false c.is_integer-in-Some.ensures.numeral w.if-not-is_integer-2.true both.0
  | then-not-is_integer-2-via-else-not-is_integer-2+then-not-is_numeral w ↦ λ both. iff_false w.is_numeral.ensures w.if-not-is_numeral.true both.1
])

pub returns-else-not-is_numeral : goal.returns-else-not-is_numeral
returns-else-not-is_numeral c = cut_spelled (c.in-Some.whole, c.in-Some.part) c.in-Some.ensures.cases (c.is_integer-in-Some.ensures.numeral.0 c.if-not-is_integer-2.false) (c.is_numeral.ensures.0 c.if-not-is_numeral.false)
