-- Falling factorials as products of the numbers above one number up to another.
use Rattle.applied.proofs.Common.{◌≡◌, ◌<◌, ◌≤◌, ◌+◌, ◌-◌, ◌*◌, ◌≤ℤ◌, ◌<ℤ◌, ◌+ℤ◌, ◌-ℤ◌, ◌*ℤ◌, fits_below, ℕ, ℤ, zero, suc, pos, unsigned_abs, arith, ap, inl, inr, refl, eq_of_mul-eq-mul_left, cases_lt, ints, IsRange, factorial_pos, linear, none_above, sizes, factorial_formula, FallingByCoefficient, FallingFormula, ◌∙◌}
use Rattle.num_integer.specs.Coefficient.{factorial}
use Rattle.applied.specs.Counting.{falling, factorial_of, falling_of}

-- ---- over natural numbers

-- no more than n of n things stand in a row
pub falling_none : (n k : ℕ) → n < k → falling n k ≡ 0
unfolding falling
falling_none n zero h = absurd (omega arith)
falling_none zero (suc k) h = refl
falling_none (suc n) (suc k) h = rw (falling_none n k (omega arith)) (omega arith)

-- all of them in as many ways as the factorial says
pub falling_all : (n : ℕ) → falling n n ≡ factorial n
unfolding falling factorial
falling_all zero = refl
falling_all (suc n) = ap (λ (t : ℕ). suc n * t) (falling_all n)

-- more factors above the same number do not make the product smaller
falling_grows : (a j d : ℕ) → falling (a + j) j ≤ falling (a + j + d) (j + d)
unfolding falling
falling_grows a j zero = grind arith
falling_grows a j (suc d) =
    let e : a + j + suc d ≡ suc (a + j + d) = omega arith in
    let f : j + suc d ≡ suc (j + d) = omega arith in
    rw (e, f) (omega (arith, falling_grows a j d))

pub falling_formula : FallingFormula
unfolding falling factorial
falling_formula n zero within = let e : n - 0 ≡ n = omega arith in rw e (omega arith)
falling_formula zero (suc k) within = absurd (omega arith)
falling_formula (suc n) (suc k) within =
    let e : suc n - suc k ≡ n - k = omega arith in
    rw e (omega (arith, ap (λ (t : ℕ). suc n * t) (falling_formula n k (omega arith))))

pub falling_by_coefficient : FallingByCoefficient
falling_by_coefficient n k = elim (cases_lt n k) [
  | inl above ↦ rw (falling_none n k above, none_above n k above) (omega arith)
  | inr within ↦
      eq_of_mul-eq-mul_left (factorial (n - k)) (factorial_pos (n - k)) _ _ (omega (arith, falling_formula n k within, factorial_formula n k within))
]

-- ---- over integers

pub factorial_is : (n z : ℤ) → pos 0 ≤ℤ n → z ≡ pos 0 → falling_of n (n -ℤ z) ≡ factorial_of n
factorial_is n z up e = grind (arith, unsigned_abs, sizes, falling, falling_all)

pub falling_is : (n k low : ℤ) → low ≡ n -ℤ k → falling_of n (n -ℤ low) ≡ falling_of n k
falling_is n k low e = grind arith

pub falling_of_none : (n k : ℤ) → pos 0 ≤ℤ n → n <ℤ k → falling_of n k ≡ pos 0
falling_of_none n k up less = ap pos (falling_none (unsigned_abs n) (unsigned_abs k) (omega sizes))

pub others_fit : {fits : ℤ → Type 0} {low high n k : ℤ} → IsRange fits low high → fits n → pos 0 ≤ℤ k → k ≤ℤ n → fits (n -ℤ k)
others_fit range n_fits k_up within = fits_below range n_fits (omega linear) (omega linear)

-- ---- the loop

-- The product of the numbers above low up to factor. The last of them is to be high.
pub record IsProductSoFar (fits : ℤ → Type 0) (low factor high product : ℤ) : Type 0 where
  pub factor_in_range : fits factor
  pub product_in_range : fits product
  pub count : ℕ
  pub at : factor ≡ low +ℤ pos count
  pub to_high : factor ≤ℤ high
  pub is : product ≡ pos (falling (unsigned_abs low + count) count)

module _ {fits : ℤ → Type 0} {low high : ℤ} where
  pub product_first : {one : ℤ} → fits low → fits one → one ≡ pos 1 → low ≤ℤ high → IsProductSoFar fits low low high one
  unfolding falling
  product_first low_fits one_fits e ordered = grind arith

  module _ {factor product : ℤ} (h : IsProductSoFar fits low factor high product) (low_up : pos 0 ≤ℤ low) where
    next_is : product *ℤ (factor +ℤ pos 1) ≡ pos (falling (unsigned_abs low + suc h.count) (suc h.count))
    unfolding falling
    next_is =
        let next : factor +ℤ pos 1 ≡ pos (suc (unsigned_abs low + h.count)) = omega (sizes, h.at) in
        let e : unsigned_abs low + suc h.count ≡ suc (unsigned_abs low + h.count) = omega arith in
        rw (h.is, next, e) (omega ints)

    pub next_factor_fits : {least most : ℤ} → factor <ℤ high → IsRange fits least most → fits high → fits (factor +ℤ pos 1)
    next_factor_fits more range high_fits = fits_below range high_fits (omega (linear, h.at)) (omega linear)

    -- the next product fits if the last one does
    pub next_product_fits : {least most : ℤ} → factor <ℤ high → IsRange fits least most → fits (falling_of high (high -ℤ low))
        → fits (product *ℤ (factor +ℤ pos 1))
    next_product_fits more range last_fits =
        let rest = unsigned_abs (high -ℤ (factor +ℤ pos 1)) in
        let top : unsigned_abs high ≡ unsigned_abs low + suc h.count + rest = omega (sizes, h.at) in
        let all : unsigned_abs (high -ℤ low) ≡ suc h.count + rest = omega (sizes, h.at) in
        rw next_is (fits_below range (rw (top, all) at last_fits) (omega ints)
        (omega (ints, falling_grows (unsigned_abs low) (suc h.count) rest)))

    pub product_next : {next times : ℤ} → factor <ℤ high → next ≡ factor +ℤ pos 1 → times ≡ product *ℤ next → fits next → fits times
        → IsProductSoFar fits low next high times
    product_next more next_at times_at next_fits times_fits = record {
      factor_in_range = next_fits;
      product_in_range = times_fits;
      count = suc h.count;
      at = omega (linear, h.at);
      to_high = omega linear;
      is = times_at ∙ rw next_at next_is;
    }
