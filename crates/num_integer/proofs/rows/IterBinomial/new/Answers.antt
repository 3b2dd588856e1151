use Rattle.num_integer.proofs.Common.{arith, ints, All-drop}
use Rattle.num_integer.proofs.RowSteps.{row_in_range}
use Rattle.num_integer.proofs.rows.IterBinomial.new.Goals as goal

-- a new iterator begins at the first item
pub invariant_of-result : goal.invariant_of-result
invariant_of-result g c =
    record {
      n_in_range = c.requires.in_range;
      k_in_range = c.zero.ensures.in_range;
      k_from_zero = omega (arith, ints);
      row_fits = c.requires.row_fits;
      item_in_range = c.one.ensures.in_range;
      item_is = λ above. absurd (omega (arith, ints));
    }

pub returns-clause-items_in_range : goal.returns-clause-items_in_range
returns-clause-items_in_range g c = All-drop g.T.Number.fits _ _ (row_in_range _ g.met.T.Integer.range_law c.requires.row_fits)
