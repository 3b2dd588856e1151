use Rattle.integer_core.proofs.ForAnswers.{inl, inr, remainder_within}
use Rattle.integer_core.proofs.operators.remainder.Goals as goal

pub returns-clause-in_range : goal.returns-clause-in_range
returns-clause-in_range g c a_fits =
    let exact = c.requires.exact in
    let zero_fits = g.met.T.Zero.zero_fits_law exact in
    let between = g.T.Number.between_law in
    rw (g.met.T.Num.rem_law _ _ _ c.rem.ensures exact) (elim (remainder_within _ _) [
      | inl up ↦ between _ _ _ exact zero_fits a_fits up.0 up.1
      | inr down ↦ between _ _ _ exact a_fits zero_fits down.0 down.1
    ])
