-- Quotients, remainders and multiples by a positive number.
use Rattle.integer_core.proofs.Common.{◌≡◌, ◌≢◌, ◌≤ℤ◌, ◌<ℤ◌, ◌+ℤ◌, ◌-ℤ◌, ◌*ℤ◌, ℤ, pos, int_div, arith, subst, from_not_less, IsCeiled, IsDivision, IsFloored, IsMultiple, IsQuotient, IsRemainder, EachFits, IsRange, Divides, comm, expand, linear, products, sizes}
use Rattle.integer_core.proofs.OrderedProducts.{multiples_apart}
pub use Rattle.integer_core.proofs.Quotients.{only_floored, other_quotient_fits, truncated_is}
use Rattle.integer_core.proofs.Coprimes.{Divides_difference, divisor_at_most}

-- the remainder of a floored division lies from 0 to below the divisor
pub floored_range : {n d q r : ℤ} → pos 0 <ℤ d → IsFloored n d q r → (pos 0 ≤ℤ r) × (r <ℤ d)
floored_range up h = (omega (arith, sizes, h.sign, h.division.small), omega (arith, sizes, h.sign, h.division.small))

-- a floored remainder lies from 0 to below the divisor
pub floored_remainder_range : {n d r : ℤ} → pos 0 <ℤ d → IsRemainder IsFloored n d r → (pos 0 ≤ℤ r) × (r <ℤ d)
floored_remainder_range up h = floored_range up h.division

-- a remainder from 0 to below the divisor is that of the quotient rounded down
pub floored_by_range : {n d q r : ℤ} → n ≡ q *ℤ d +ℤ r → pos 0 ≤ℤ r → r <ℤ d → IsFloored n d q r
floored_by_range equation from_zero below = grind (arith, sizes)

-- the pair of a floored quotient and remainder is the only one whose remainder lies from 0 to below the divisor
pub only_pair_by_range : {n d q r p s : ℤ} → IsFloored n d q r → n ≡ p *ℤ d +ℤ s → pos 0 ≤ℤ s → s <ℤ d → (p ≡ q) × (s ≡ r)
only_pair_by_range h equation from_zero below = only_floored (floored_by_range equation from_zero below) h

-- what the remainder leaves of the divisor leads to a multiple
pub rest_leads_to_multiple : {n d r : ℤ} → IsRemainder IsFloored n d r → Divides d (n +ℤ (d -ℤ r))
rest_leads_to_multiple {n} {d} {r} h = record { factor = h.quotient +ℤ pos 1; product = simp (h.division.division.equation, expand) (omega (arith, products)) }

-- a ceiled remainder lies from above the divisor's negation to 0
pub ceiled_remainder_range : {n d q r : ℤ} → pos 0 <ℤ d → IsCeiled n d q r → (r ≤ℤ pos 0) × (pos 0 <ℤ (r +ℤ d))
ceiled_remainder_range up h = (omega (arith, sizes, h.sign, h.division.small), omega (arith, sizes, h.sign, h.division.small))

-- a remainder from above the divisor's negation to 0 is that of the quotient rounded up
pub ceiled_by_range : {n d q r : ℤ} → n ≡ q *ℤ d +ℤ r → r ≤ℤ pos 0 → pos 0 <ℤ (r +ℤ d) → IsCeiled n d q r
ceiled_by_range equation to_zero above = grind (arith, sizes)

-- a ceiled quotient is the smallest number whose multiple is not below the dividend
pub ceiled_quotient_least : {n d q : ℤ} → pos 0 <ℤ d → IsQuotient IsCeiled n d q → (n ≤ℤ (q *ℤ d)) × ((m : ℤ) → n ≤ℤ (m *ℤ d) → q ≤ℤ m)
ceiled_quotient_least {n} {d} {q} up h =
    let near : (n ≤ℤ (q *ℤ d)) × ((q *ℤ d) <ℤ (n +ℤ d)) = grind (arith, linear, ceiled_remainder_range) in
    (near.0, λ m above. from_not_less (λ less. omega (arith, linear, near.1, multiples_apart m q d up less)))

-- the next multiple is the smallest one that is at least the number
pub next_multiple_least : {n d m : ℤ} → pos 0 <ℤ d → IsMultiple IsCeiled n d m
    → (n ≤ℤ m) × (m <ℤ (n +ℤ d)) × Divides d m × ((u : ℤ) → n ≤ℤ u → Divides d u → m ≤ℤ u)
next_multiple_least {n} {d} {m} up h =
    let near : (n ≤ℤ m) × (m <ℤ (n +ℤ d)) × Divides d m = grind (arith, linear, ceiled_remainder_range, comm) in (
      near.0,
      near.1,
      near.2,
      λ u above x. from_not_less (λ less.
          omega (arith, linear, divisor_at_most {v = m -ℤ u} (omega (arith, linear)) (Divides_difference near.2 x))),
    )

-- if that multiple does not fit, no smallest multiple that is at least the number does
pub least_multiple_beyond : (fits : ℤ → Type 0) {n d : ℤ} → pos 0 <ℤ d → ¬ ((d ≢ pos 0) × EachFits fits (IsMultiple IsCeiled n d))
    → (u : ℤ) → n ≤ℤ u → Divides d u → ((v : ℤ) → n ≤ℤ v → Divides d v → u ≤ℤ v) → ¬ (fits u)
least_multiple_beyond fits up none u above divides least u_fits = none (
  λ e. omega (arith, linear),
  λ m h.
      let own = next_multiple_least up h in
      let same : u ≡ m = omega (arith, linear, least m own.0 own.2, own.3 u above divides) in
      subst fits same u_fits,
)

-- the quotient by a positive number fits
pub positive_quotient_fits : {fits : ℤ → Type 0} {low high n d q r : ℤ} → IsRange fits low high → fits n → fits d → pos 0 <ℤ d → IsDivision n d q r → fits q
positive_quotient_fits range n_fits d_fits up division = other_quotient_fits range n_fits d_fits (λ e. omega (arith, linear)) division

-- the quotient of `/` by a positive number fits
pub operator_quotient_fits : {fits : ℤ → Type 0} {low high : ℤ} (n d : ℤ) → IsRange fits low high → fits n → fits d → pos 0 <ℤ d → fits (int_div n d)
operator_quotient_fits n d range n_fits d_fits up = positive_quotient_fits range n_fits d_fits up (truncated_is n d (λ e. omega (arith, linear))).division
