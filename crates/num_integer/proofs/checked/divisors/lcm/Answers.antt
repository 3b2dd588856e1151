use Rattle.num_integer.proofs.Common.{◌≡◌, ◌⊎◌, pos, inl, inr, iff_false}
use Rattle.num_integer.proofs.CheckedAnswers.{gcd_fits_with_lcm, zero_lcm}
use Rattle.num_integer.proofs.checked.divisors.lcm.Goals as goal
use Rattle.num_integer.proofs.checked.divisors.lcm.Goals.{then-is_zero-via-then-is_zero, then-is_zero-via-else-is_zero+then-is_zero-2}

pub returns-then-is_zero : goal.returns-then-is_zero
returns-then-is_zero g c =
    let with_zero : (g.T.Number.value c.args.x ≡ pos 0) ⊎ (g.T.Number.value c.args.y ≡ pos 0) = elim c.then-is_zero.branch [
      | then-is_zero-via-then-is_zero w ↦ inl (c.is_zero.ensures.0 w.if-is_zero.true)
      | then-is_zero-via-else-is_zero+then-is_zero-2 w ↦ inr (w.is_zero-else-is_zero.ensures.0 w.if-is_zero-2.true)
    ] in
    zero_lcm g.T.Number.fits with_zero c.zero.ensures.in_range c.zero.ensures.value

pub returns-in_err-gcd : goal.returns-in_err-gcd
returns-in_err-gcd g c =
    rw c.from_residual.ensures (λ each. c.in_err-gcd.ensures.answer (λ _.
    gcd_fits_with_lcm g.met.T.Integer.range_law (iff_false c.is_zero.ensures c.if-is_zero.false) (iff_false c.is_zero-else-is_zero.ensures c.if-is_zero-2.false) each))
