use Rattle.theorems.proofs.Common.{pos, arith, ints}
use Rattle.theorems.proofs.pages.items_of_page.Goals as goal

pub returns-clause-exactly : goal.returns-clause-exactly
returns-clause-exactly c = λ i.
    let is = c.range_of_page.ensures.range.exactly (pos i) in (
      λ h. let there = is.0 (omega (arith, ints, h.0), omega (arith, ints, h.1)) in (omega (arith, ints, there.1), there.2),
      λ h. let there = is.1 (omega (arith, ints), omega (arith, ints, h.0), h.1) in (omega (arith, ints, there.0), omega (arith, ints, there.1)),
    )
