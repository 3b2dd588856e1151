use Rattle.modular.proofs.Common.{arith, iff_false, linear, positive_quotient_fits}
use Rattle.modular.proofs.BelowModulus.{below_fits}
use Rattle.modular.proofs.DoublingIterations.{doubling_first, doubling_last, doubling_iteration, halved_by, total_at_one, total_at_zero, two_fits}
use Rattle.modular.proofs.products.product_by_doubling.Goals as goal
use Rattle.modular.proofs.products.product_by_doubling.Goals.{then-not-is_zero, else-not-is_zero}

pub iterations-init : goal.iterations-init
iterations-init g c = record {
  rest_fits = c.requires.in_range.0;
  kept = doubling_first c.requires.x_below c.requires.y_below c.zero-total.ensures.value;
}

pub successor-requires-clause-sum_fits : goal.successor-requires-clause-sum_fits
successor-requires-clause-sum_fits g c =
    rw c.one-in-iterations.ensures.value (two_fits g.met.T.Integer.range_law c.iterations.invariant.rest_fits (rw c.one.ensures.value at (c.is_below.ensures.0 c.iterations-test.true)))

pub div_rem-half-requires-clause-quotient_fits : goal.div_rem-half-requires-clause-quotient_fits
div_rem-half-requires-clause-quotient_fits g c z h =
    positive_quotient_fits g.met.T.Integer.range_law c.iterations.invariant.rest_fits c.successor.ensures.in_range (omega (arith, linear, c.one-in-iterations.ensures.value, c.successor.ensures.value)) h.division.division

pub iterations-smaller : goal.iterations-smaller
iterations-smaller g c =
    (halved_by c.one.ensures.value c.one-in-iterations.ensures.value c.successor.ensures.value (c.is_below.ensures.0 c.iterations-test.true) c.div_rem-half.ensures.truncated).smaller

pub iterations-preserved : goal.iterations-preserved
iterations-preserved g c =
    let half = halved_by c.one.ensures.value c.one-in-iterations.ensures.value c.successor.ensures.value (c.is_below.ensures.0 c.iterations-test.true)
    c.div_rem-half.ensures.truncated in
    let kept = c.iterations.invariant.kept in
    let double = c.sum_of_residues-addend.ensures.residue in
    elim c.if-not-is_zero.branch [
      | then-not-is_zero w ↦
          let sum = w.sum_of_residues-total.ensures.residue in
          let at_one = total_at_one _ _ half.is_digit (iff_false c.is_zero.ensures w.if-not-is_zero.true) sum.congruent in
          record { rest_fits = c.div_rem-half.ensures.in_range.0; kept = rw w.total-is (doubling_iteration kept half sum.below at_one double) }
      | else-not-is_zero w ↦
          let none = total_at_zero _ _ (c.is_zero.ensures.0 w.if-not-is_zero.false) in
          record { rest_fits = c.div_rem-half.ensures.in_range.0; kept = rw w.total-is (doubling_iteration kept half kept.total_below none double) }
    ]

pub returns-then-is_zero-clause-in_range : goal.returns-then-is_zero-clause-in_range
returns-then-is_zero-clause-in_range g c = below_fits g.met.T.Integer.range_law c.requires.in_range.1 c.iterations.invariant.kept.total_below

pub returns-else-is_zero-clause-residue : goal.returns-else-is_zero-clause-residue
returns-else-is_zero-clause-residue g c =
    doubling_last c.iterations.invariant.kept (rw c.one.ensures.value at (iff_false c.is_below.ensures c.iterations-test.false)) (iff_false c.is_zero-2.ensures c.if-is_zero.false) c.sum_of_residues.ensures.residue
