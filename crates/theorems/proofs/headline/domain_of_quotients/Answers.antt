use Rattle.num_integer.proofs.Common.{EachFits, IsFloored, IsQuotient, IsRange, arith, floored, inl, inr, linear, neg_ℤ, negsuc, other_quotient_fits, pos, products, sizes, subst, zero_or_not, ℤ, ◌+ℤ◌, ◌≡◌, ◌↔◌}
use Rattle.theorems.proofs.headline.domain_of_quotients.Goals as goal

by_minus_one : (n d : ℤ) → d ≡ negsuc 0 → IsFloored n d (neg_ℤ n) (pos 0)
by_minus_one n d e = grind (arith, products, sizes)

-- the quotient rounded down fits exactly if the divisor is not -1 or the negation of the number fits
floored_fits : {fits : ℤ → Type 0} {low high n d : ℤ} → IsRange fits low high → fits n → fits d
    → EachFits fits (IsQuotient IsFloored n d) ↔ (d ≡ negsuc 0 → fits (neg_ℤ n))
floored_fits {fits} {n = n} {d = d} range n_fits d_fits = (
  λ each minus. each (neg_ℤ n) (record { remainder = pos 0; division = by_minus_one n d minus }),
  λ negation q h. elim (zero_or_not (d +ℤ pos 1)) [
    | inl minus ↦
        let e : d ≡ negsuc 0 = omega (arith, linear) in
        subst fits (floored.only (by_minus_one n d e) h.division).0 (negation e)
    | inr other ↦ other_quotient_fits range n_fits d_fits (λ e. other (omega (arith, linear))) h.division.division
  ],
)

pub returns : goal.returns
returns g c =
    let exactly = floored_fits g.met.T.Integer.range_law c.requires.in_range.0 c.requires.in_range.1 in
    let domain = c.quotient_fits.ensures.domain.1 in
    record {
      quotient = c.quotient_fits.ensures.domain;
      negation = (λ h. ((domain.0 h).0, exactly.0 (domain.0 h).1), λ h. domain.1 (h.0, exactly.1 h.1));
    }
