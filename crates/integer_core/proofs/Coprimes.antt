-- Coprime numbers, and numbers divided by their greatest common divisor.
use Rattle.integer_core.proofs.Common.{◌≡◌, ◌≢◌, ◌↔◌, ◌<◌, ◌*◌, ◌/◌, ◌≤ℤ◌, ◌-ℤ◌, ◌*ℤ◌, ℤ, ℕ, pos, arith, ◌∙◌, subst, sym, ints, Divides, IsGreatestCommonDivisor, comm, expand, linear}
use Rattle.integer_core.proofs.CommonDivisors.{divides_multiple, gcd_exists, gcd_positive, gcd_times, only_gcd, Divides_trans, Divides_zero, cancel, exact_quotient, mul-one}
pub use Rattle.integer_core.proofs.DivisorSizes.{divisor_at_most}

-- a difference of two multiples of d is a multiple of d
pub Divides_difference : {d u v : ℤ} → Divides d u → Divides d v → Divides d (u -ℤ v)
Divides_difference h k = record { factor = h.factor -ℤ k.factor; product = rw (h.product, k.product) (simp expand (omega (arith, linear))) }

-- the gcd is 1 exactly if no common divisor is larger than 1
pub coprime_exactly : {a b g : ℤ} → IsGreatestCommonDivisor a b g → (g ≡ pos 1) ↔ ((d : ℤ) → Divides d a → Divides d b → d ≤ℤ pos 1)
coprime_exactly {a} {b} {g} h = (
  λ one d left right. divisor_at_most (omega (arith, ints)) (rw one at (h.greatest d left right)),
  λ none.
      let two : g ≡ pos 0 → pos 2 ≤ℤ pos 1 = λ zero.
      let below : Divides (pos 2) g = rw zero (Divides_zero (pos 2)) in
      none (pos 2) (Divides_trans below h.divides_left) (Divides_trans below h.divides_right) in
      grind (arith, linear, h.from_zero, none g h.divides_left h.divides_right, two),
)

-- numbers divided by their gcd have the gcd 1
pub divided_by_gcd : {g x y : ℤ} → g ≢ pos 0 → IsGreatestCommonDivisor (g *ℤ x) (g *ℤ y) g → IsGreatestCommonDivisor x y (pos 1)
divided_by_gcd {g} {x} {y} nonzero h =
    let k = gcd_exists x y in
    subst (λ (t : ℤ). IsGreatestCommonDivisor x y t) (cancel g k.0 (pos 1) nonzero (only_gcd (gcd_times g h.from_zero k.1) h ∙ sym (mul-one g))) k.1

-- the gcd of natural numbers, of which the second is not 0, is positive
pub natural_gcd_positive : {n m d : ℕ} → 0 < m → IsGreatestCommonDivisor (pos n) (pos m) (pos d) → 0 < d
natural_gcd_positive up h = omega (arith, ints, gcd_positive h (λ e. omega (arith, ints)))

-- a positive divisor of a natural number times the quotient by it is that number
pub natural_exact_quotient : {n d : ℕ} → 0 < d → Divides (pos d) (pos n) → d * (n / d) ≡ n
natural_exact_quotient {n} {d} up h =
    omega (arith, ints, exact_quotient {n = pos n} {d = pos d} (λ e. omega (arith, ints)) h)

-- natural numbers divided by their gcd have the gcd 1 if it is positive
pub natural_quotients_coprime : {n m d : ℕ} → 0 < d → IsGreatestCommonDivisor (pos n) (pos m) (pos d) → IsGreatestCommonDivisor (pos (n / d)) (pos (m / d)) (pos 1)
natural_quotients_coprime {n} {m} {d} up h =
    divided_by_gcd {g = pos d} {x = pos (n / d)} {y = pos (m / d)} (λ e. omega (arith, ints))
    (rw (natural_exact_quotient up h.divides_left, natural_exact_quotient up h.divides_right) h)

-- a divisor of a product that is coprime to one factor divides the other
pub coprime_divides : {d a b : ℤ} → IsGreatestCommonDivisor a d (pos 1) → Divides d (a *ℤ b) → Divides d b
coprime_divides {d} {a} {b} one h = rw (mul-one b) at (divides_multiple b one (rw (comm b a) h) (record { factor = b; product = comm b d }))
