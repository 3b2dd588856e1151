-- How large divisors and multiples are.
use Rattle.integer_core.proofs.Common.{◌≡◌, ◌≢◌, ◌<◌, ◌≤◌, ◌≤ℤ◌, ◌<ℤ◌, ◌*ℤ◌, ℤ, ℕ, pos, unsigned_abs, arith, ◌∙◌, from_not_less, inl, inr, refl, ints, IsRange, Divides, IsGreatestCommonDivisor, IsLeastCommonMultiple, comm, linear, products, sizes}
use Rattle.integer_core.proofs.CommonDivisors.{gcd_swap, gcd_zero, only_gcd, cancel, zero_divides, divisor_size, zero_or_not, within_fits}

-- a divisor of a positive number is at most that number
pub divisor_at_most : {u v : ℤ} → pos 0 <ℤ v → Divides u v → u ≤ℤ v
divisor_at_most up h = let size = divisor_size h (λ none. omega (arith, linear)) in omega (arith, sizes)

-- a gcd with a positive number fits
pub gcd_with_positive_fits : {fits : ℤ → Type 0} {low high a b g : ℤ} → IsRange fits low high → fits b → pos 0 <ℤ b → IsGreatestCommonDivisor a b g → fits g
gcd_with_positive_fits range b_fits up h = within_fits range b_fits (inl (h.from_zero, divisor_at_most up h.divides_right))

-- a gcd is at most a number that both are at most, by magnitudes
pub gcd_at_most : {a b g : ℤ} (most : ℕ) → unsigned_abs a ≤ most → unsigned_abs b ≤ most → IsGreatestCommonDivisor a b g → unsigned_abs g ≤ most
gcd_at_most {a} {b} most left right h = elim (zero_or_not a) [
  | inl none ↦ let same = only_gcd (rw none at h) (gcd_swap (gcd_zero b)) in omega (arith, ints)
  | inr nonzero ↦ omega (arith, divisor_size h.divides_left nonzero)
]

-- a multiple of a number that is smaller than the number is 0
pub small_multiple_is_zero : {u v : ℤ} → Divides u v → unsigned_abs v < unsigned_abs u → v ≡ pos 0
small_multiple_is_zero {u} {v} h small = grind (arith, sizes, divisor_size)

-- the least common multiple is at most the magnitude of the product
pub lcm_at_most_product : {a b l : ℤ} → IsLeastCommonMultiple a b l → l ≤ℤ pos (unsigned_abs (a *ℤ b))
lcm_at_most_product {a} {b} {l} h = from_not_less (λ more.
    let x = h.least (a *ℤ b) (record { factor = b; product = refl }) (record { factor = a; product = comm a b }) in
    elim (zero_or_not a) [
      | inl zero ↦ omega (arith, linear, zero_divides (rw zero at h.left_divides))
      | inr nonzero ↦
          let zero = cancel a b (pos 0) nonzero (small_multiple_is_zero x (omega (arith, sizes)) ∙ omega (arith, products)) in
          omega (arith, sizes, zero_divides (rw zero at h.right_divides))
    ])

-- the least common multiple of numbers that are not 0 is positive
pub lcm_positive : {a b l : ℤ} → IsLeastCommonMultiple a b l → a ≢ pos 0 → b ≢ pos 0 → pos 0 <ℤ l
lcm_positive {a} {b} {l} h a_nonzero b_nonzero =
    let x = h.least (a *ℤ b) (record { factor = b; product = refl }) (record { factor = a; product = comm a b }) in
    let nonzero : l ≢ pos 0 = λ none. b_nonzero (cancel a b (pos 0) a_nonzero (zero_divides (rw none at x) ∙ omega (arith, products))) in
    omega (arith, linear, h.from_zero)
