-- A fraction times an integer, rounded in `i128`.
use Rattle.ratio64.specs.Times.{AreTimes, IsWideQuotient}
use Rattle.ratio64.proofs.Common.{◌≡◌, ◌≢◌, ◌<ℤ◌, ◌*ℤ◌, ℤ, pos, FitsSigned, w64, w128, of_z, to_z, ◌∙◌, arith, fits_signed_from_abs, to_z-of_z, IsDivision, IsQuotient, positive_is_nonzero}
use Rattle.ratio64.proofs.NearestNumbers.{quotient_fits, quotient_size}
use Rattle.ratio64.proofs.WideSums.{read}

-- p and q are num times t, and den, in i128; t is n, read from its bits
module _ {num den t p q : ℤ} (h : AreTimes num den t p q) where
  den_read : to_z w128 (of_z w128 q) ≡ den
  den_read = read q h.den_below ∙ h.den_is

  pub den_positive : pos 0 <ℤ to_z w128 (of_z w128 q)
  den_positive = rw den_read h.positive

  pub den_nonzero : to_z w128 (of_z w128 q) ≢ pos 0
  den_nonzero = positive_is_nonzero den_positive

  -- each quotient of the two fits
  pub wide_quotient_fits : (x y : ℤ) → IsDivision (to_z w128 (of_z w128 p)) (to_z w128 (of_z w128 q)) x y → FitsSigned w128 x
  wide_quotient_fits = rw (read p h.num_below, den_read) (λ x y k. quotient_fits h.positive k w128 (fits_signed_from_abs w128 p h.num_below))

  -- and one by a kind of division is that of the fraction times n
  pub wide_rounded : {Kind : ℤ → ℤ → ℤ → ℤ → Type 0} {n r : ℤ} → FitsSigned w64 n → t ≡ to_z w64 (of_z w64 n) → FitsSigned w128 r
      → IsQuotient Kind (to_z w128 (of_z w128 p)) (to_z w128 (of_z w128 q)) r → ((m d s : ℤ) → Kind m d r s → IsDivision m d r s)
      → IsWideQuotient Kind (num *ℤ n) den (to_z w128 (of_z w128 r))
  wide_rounded {n = n} {r} n_fits same fits k divided =
      let own = rw (read p h.num_below, den_read) at k in
      let product : to_z w128 (of_z w128 p) ≡ num *ℤ n = read p h.num_below ∙ rw (same, to_z-of_z w64 n n_fits) at h.num_is in
      rw (to_z-of_z w128 r fits)
      (rw (product, den_read) at k, omega (arith, h.num_below, quotient_size h.positive (divided p den own.remainder own.division)))

-- for `grind`: the denominator of such a product
pub ruleset of_times = (den_positive, den_nonzero)
