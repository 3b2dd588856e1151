use Rattle.num_integer.proofs.Common.{arith, ap, length, sym, ◌∙◌, from_test}
use Rattle.num_integer.proofs.RowSteps.{item_fits, place_fits, rest_next, rest_none}
use Rattle.num_integer.proofs.rows.IterBinomialIterator.next.Goals as goal

pub item_at-self-inside-requires-clause-item_fits : goal.item_at-self-inside-requires-clause-item_fits
item_at-self-inside-requires-clause-item_fits g c = item_fits g.met.T.Integer.range_law c.self.invariant (from_test c.is_below.ensures c.if-is_below.false)

pub successor-self-inside-requires-clause-sum_fits : goal.successor-self-inside-requires-clause-sum_fits
successor-self-inside-requires-clause-sum_fits g c = place_fits g.met.T.Integer.range_law c.self.invariant (from_test c.is_below.ensures c.if-is_below.false)

pub returns-then-is_below-clause-steps : goal.returns-then-is_below-clause-steps
returns-then-is_below-clause-steps g c =
    let none = sym c.self.view_is ∙ rest_none _ _ c.self.invariant.k_from_zero (c.is_below.ensures.0 c.if-is_below.true) in (none, none)

pub returns-clause-steps : goal.returns-clause-steps
returns-clause-steps g c =
    let within = from_test c.is_below.ensures c.if-is_below.false in
    sym c.self.view_is ∙ rw (c.successor-self-inside.ensures.value, c.item_at-self-inside.ensures.item) (rest_next _ _ c.self.invariant.k_from_zero within)

pub returns-clause-goes : goal.returns-clause-goes
returns-clause-goes g c = record { on = λ _. let fewer = ap length (returns-clause-steps g c) in (tt, tt, omega arith); keeps = tt; rests = λ _. tt }
