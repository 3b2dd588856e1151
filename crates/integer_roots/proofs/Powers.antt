-- Powers, multiplied out and compared.
use Rattle.integer_roots.proofs.Common.{◌≡◌, ◌≢◌, ◌/◌, ◌%◌, ◌*◌, ◌^◌, ◌+◌, ◌<◌, ◌≤◌, ℕ, suc, zero, ap, refl, ◌∙◌, arith, pos, div-div-eq-div-mul, div-le_self, mul-one, pow-add, pow-suc, pow_mono, ints, pow-zero, pow-succ', pow-le-pow_left, pow-le-pow_right, lt_of_not-le, IsFloorRoot}
pub use Rattle.integer_core.proofs.IntegerPowers.{power_of_one, power_of_zero}

-- the first three powers
pub power_one : (x : ℕ) → x ^ 1 ≡ x
power_one x = pow-succ' x 0 ∙ ap (λ (k : ℕ). x * k) (pow-zero x) ∙ mul-one x

pub power_two : (x : ℕ) → x ^ 2 ≡ x * x
power_two x = pow-succ' x 1 ∙ ap (λ (k : ℕ). x * k) (power_one x)

pub power_three : (x : ℕ) → x ^ 3 ≡ x * (x * x)
power_three x = pow-succ' x 2 ∙ ap (λ (k : ℕ). x * k) (power_two x)

-- the power of a power
pub power_of_power : (b i j : ℕ) → (b ^ i) ^ j ≡ b ^ (i * j)
power_of_power b i zero = let e : i * 0 ≡ 0 = omega arith in rw (e, pow-zero (b ^ i), pow-zero b) refl
power_of_power b i (suc j) = let e : i * suc j ≡ i + i * j = omega arith in rw (e, pow-succ' (b ^ i) j, power_of_power b i j, pow-add b i) refl

-- the power whose degree has the bits of k from the place p up, by the power whose degree has those above
module _ (x k : ℕ) {place p power : ℕ} (next : place ≡ suc p) (known : power ≡ x ^ (k / 2 ^ place)) where
  half : k / 2 ^ p / 2 ≡ k / 2 ^ place
  half = rw (next, pow-suc) (div-div-eq-div-mul k (2 ^ p) 2)

  pub even_next : k / 2 ^ p % 2 ≢ 1 → power * power ≡ x ^ (k / 2 ^ p)
  even_next even =
      let e : k / 2 ^ p ≡ k / 2 ^ place + k / 2 ^ place = omega (arith, half) in
      rw (e, known, pow-add) refl

  pub odd_next : k / 2 ^ p % 2 ≡ 1 → power * power * x ≡ x ^ (k / 2 ^ p)
  odd_next odd =
      let e : k / 2 ^ p ≡ suc (k / 2 ^ place + k / 2 ^ place) = omega (arith, half) in
      rw (e, known, pow-succ', pow-add) (omega arith)

  -- its square is not above the power of k
  pub square_within : 0 < x → power * power ≤ x ^ k
  square_within positive =
      let h : ℕ = k / 2 ^ place in
      rw known (omega (arith, pow-add x h h, pow-le-pow_right positive {i = h + h} {j = k} (omega (arith, half, div-le_self k (2 ^ p)))))

-- a base is below another if its power is, and the place of a number's highest bit is at least that of each power of two up to it
pub base_below : (x y n : ℕ) → x ^ n < y ^ n → x < y
base_below x y n less = lt_of_not-le (λ h. omega (arith, pow-le-pow_left h n))

pub highest_bit : (a k top : ℕ) → 2 ^ k ≤ a → a < 2 ^ (top + 1) → k ≤ top
highest_bit a k top le lt = omega (arith, lt_of_not-le {n = top + 1} {m = k} (λ h. omega (arith, pow_mono h)))

-- the floor root of a non-negative number, by powers in ℕ
pub floor_root : {a r n : ℕ} → r ^ n ≤ a → a < (r + 1) ^ n → IsFloorRoot (pos a) n (pos r)
floor_root le lt = record { from_zero = omega (arith, ints); power_le = omega (arith, ints); next_power_gt = omega (arith, ints) }
