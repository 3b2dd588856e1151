-- Quotients by a multiplier in place of a divisor.
use Rattle.std.proofs.Common.{◌≡◌, ◌+◌, ◌-◌, ◌*◌, ◌/◌, ◌%◌, ◌^◌, ◌<◌, ◌≤◌, ℕ, ap, arith, mul-le-mul_right, refl, sym, ◌∙◌}
use Rattle.std.proofs.Math.Nat.{add-mul-div_right, div-eq_of_lt-le, lt_of_not-le, mod-eq_of_lt, mul-le-mul_left, pow-le-pow_right}
use Rattle.std.proofs.lemmas.Nat.{div_below, leading_length, mod_below, one_shl, pow-add, shr-shr}
use Rattle.std.specs.Prelude.{suc, zero}
use Rattle.std.specs.Int.Count.{count_leading_zeros}

-- the product with a number f that is slightly above p / d, divided by p
by_excess : (n d p f e : ℕ) → 0 < d → f * d ≡ p + e → n * e < p → f * n / p ≡ n / d
by_excess n d p f e up over small =
    let q = n / d in
    let most : n + 1 ≤ (q + 1) * d = omega (arith, mod_below n d up) in
    div-eq_of_lt-le p (omega (arith, mul-le-mul_left {m = p} {n = f * d} q (omega (arith, over)), mul-le-mul_left {m = q * d} {n = n} f (omega arith)))
    (lt_of_not-le (λ h. omega (arith, mul-le-mul_right {m = (q + 1) * p} {n = f * n} d h, ap (λ (v : ℕ). v * n) over, small, mul-le-mul_left {m = n + 1} {n = (q + 1) * d} p most)))

by_multiplier : (n d p : ℕ) → 0 < d → n * d < p → (p / d + 1) * n / p ≡ n / d
by_multiplier n d p up small =
    let over : (p / d + 1) * d ≡ p + (d - p % d) = omega (arith, mod_below p d up) in
    by_excess n d p (p / d + 1) (d - p % d) up over (omega (arith, mul-le-mul_left {m = d - p % d} {n = d} n (omega arith), small))

-- a sum that is halved before it is made fits, and the second shift follows
halved : (n h j : ℕ) → h ≤ n → (h + (n - h) / 2 ^ 1) / 2 ^ j ≡ (h + n) / 2 ^ (1 + j)
halved n h j within =
    let half : h + (n - h) / 2 ^ 1 ≡ (h + n) / 2 ^ 1 = omega (arith, within) in
    rw half (shr-shr (h + n) 1 j)

within_number : (f n : ℕ) → f < 2 ^ 64 → f * n / 2 ^ 64 ≤ n
within_number f n fits = omega (arith, mul-le-mul_right {m = f} {n = 2 ^ 64} n (omega (arith, fits)))

pub quotient_by_multiplier : (f n d i j : ℕ) → 0 < d → f < 2 ^ 64 → n < 2 ^ 64 → i ≤ 1 → (i ≡ 0 → j ≡ 0)
    → d ≤ 2 ^ (i + j) → f + 2 ^ 64 ≡ 2 ^ 64 * 2 ^ (i + j) / d + 1
    → (f * n / 2 ^ 64 + (n - f * n / 2 ^ 64) / 2 ^ i) / 2 ^ j ≡ n / d
quotient_by_multiplier f n d zero j up f_fits n_fits _ none above rounded =
    let none : j ≡ 0 = none refl in
    let most : d ≤ 1 = rw none at above in
    let one : d ≡ 1 = omega (arith, up, most) in
    rw (none, one) (omega (arith, within_number f n f_fits))
quotient_by_multiplier f n d (suc zero) j up f_fits n_fits _ _ above rounded =
    let small : n * d < 2 ^ 64 * 2 ^ (1 + j) = omega (arith, mul-le-mul_right {m = n + 1} {n = 2 ^ 64} d (omega (arith, n_fits)), up, above) in
    let high : f * n / 2 ^ 64 + n ≡ (f + 2 ^ 64) * n / 2 ^ 64 = omega arith in
    let shifted : (f + 2 ^ 64) * n / 2 ^ 64 / 2 ^ (1 + j) ≡ (f + 2 ^ 64) * n / (2 ^ 64 * 2 ^ (1 + j)) = rw (pow-add 2 64 (1 + j)) at (shr-shr ((f + 2 ^ 64) * n) 64 (1 + j)) in
    halved n (f * n / 2 ^ 64) j (within_number f n f_fits)
    ∙ ap (λ (v : ℕ). v / 2 ^ (1 + j)) high ∙ shifted
    ∙ ap (λ (v : ℕ). v * n / (2 ^ 64 * 2 ^ (1 + j))) rounded ∙ by_multiplier n d (2 ^ 64 * 2 ^ (1 + j)) up small
quotient_by_multiplier f n d (suc (suc i)) j _ _ _ few _ _ _ = omega (arith, few)

-- ---- numbers up to 2^63, and a divisor of at most 2^s

by_magnitude : (f n d s : ℕ) → 0 < d → n ≤ 2 ^ 63 → d ≤ 2 ^ s → f ≡ (2 ^ 63 * 2 ^ s - 1) / d + 1 → f * n / (2 ^ 63 * 2 ^ s) ≡ n / d
by_magnitude f n d s up small above rounded =
    let rest = (2 ^ 63 * 2 ^ s - 1) % d in
    let over : f * d ≡ 2 ^ 63 * 2 ^ s + (d - 1 - rest) = omega (arith, up, above, ap (λ (v : ℕ). v * d) rounded, mod_below (2 ^ 63 * 2 ^ s - 1) d up) in
    let most : n * (d - 1 - rest) ≤ 2 ^ 63 * (d - 1 - rest) = mul-le-mul_right (d - 1 - rest) small in
    by_excess n d (2 ^ 63 * 2 ^ s) f (d - 1 - rest) up over (omega (arith, most, up, above))

pub quotient_of_double : (f n d s : ℕ) → 0 < d → n < 2 ^ 63 → d ≤ 2 ^ s → f ≡ (2 ^ 63 * 2 ^ s - 1) / d + 1
    → f * (n * 2 ^ 1 % 2 ^ 64) / 2 ^ 64 / 2 ^ s ≡ n / d
quotient_of_double f n d s up small above rounded =
    let double : n * 2 ^ 1 % 2 ^ 64 ≡ n * 2 ^ 1 = mod-eq_of_lt (omega (arith, small)) in
    let halves : f * (n * 2 ^ 1) / 2 ^ 64 ≡ f * n / 2 ^ 63 = omega arith in
    let small : n ≤ 2 ^ 63 = omega (arith, small) in
    rw (double, halves) (rw (pow-add 2 63 s) at (shr-shr (f * n) 63 s) ∙ by_magnitude f n d s up small above rounded)

pub wide_quotient : (f n d s : ℕ) → 1 < d → n ≤ 2 ^ 63 → d ≤ 2 ^ s → f ≡ (2 ^ 63 * 2 ^ s - 1) / d + 1
    → (f * n / 2 ^ 64 / 2 ^ (s - 1) ≡ n / d) × (f * n / 2 ^ 64 / 2 ^ (s - 1) < 2 ^ 63)
wide_quotient _ _ _ zero many _ above _ = omega (arith, many, above)
wide_quotient f n d (suc s) many small above rounded =
    let less : suc s - 1 ≡ s = omega arith in
    let twice : 2 ^ 64 * 2 ^ s ≡ 2 ^ 63 * 2 ^ suc s = omega arith in
    let shifted : f * n / 2 ^ 64 / 2 ^ s ≡ f * n / (2 ^ 63 * 2 ^ suc s) = rw (pow-add 2 64 s, twice) at (shr-shr (f * n) 64 s) in
    let is = shifted ∙ by_magnitude f n d (suc s) (omega (arith, many)) small above rounded in
    rw less (is, rw is (div_below n d (2 ^ 63) (omega (arith, many)) (omega (arith, many, small))))

pub positive_shift : (d s : ℕ) → 1 < d → d ≤ 2 ^ s → 1 ≤ s
positive_shift _ zero many above = omega (arith, many, above)
positive_shift _ (suc s) _ _ = omega arith

pub small_shift : (d s : ℕ) → d ≤ 2 ^ 63 → 2 ^ s < 2 * d → s < 64
small_shift d s most least = lt_of_not-le (λ beyond. let many : 2 ^ 64 ≤ 2 ^ s = pow-le-pow_right (omega arith) beyond in omega (arith, many, most, least))

pub magnitude_multiplier_is : (d s u : ℕ) → u ≡ d → 0 < d → d ≤ 2 ^ 63 → s < 64 → 2 ^ s < 2 * d
    → ((1 * 2 ^ (63 + s) % 2 ^ 128 - 1) / u ≡ (2 ^ 63 * 2 ^ s - 1) / d) × ((2 ^ 63 * 2 ^ s - 1) / d + 1 < 2 ^ 64)
magnitude_multiplier_is d s u u_is up most within least =
    let power : 1 * 2 ^ (63 + s) % 2 ^ 128 ≡ 2 ^ (63 + s) = one_shl (63 + s) 128 (omega (arith, within)) in
    rw (power, pow-add 2 63 s, u_is) (refl, omega (arith, div_below (2 ^ 63 * 2 ^ s - 1) d (2 ^ 64 - 1) up (omega (arith, up, most, least))))

pub multiplier_is : (d k u v : ℕ) → u ≡ d → v ≡ d → d < 2 ^ 64 → k ≤ 64 → d ≤ 2 ^ k → 2 ^ k < 2 * d
    → (1 * 2 ^ k % 2 ^ 128 - u) * 2 ^ 64 % 2 ^ 128 / v + 1 + 2 ^ 64 ≡ 2 ^ 64 * 2 ^ k / d + 1
multiplier_is d k u v u_is v_is fits most above least =
    let power : 1 * 2 ^ k % 2 ^ 128 ≡ 2 ^ k = one_shl k 128 (omega (arith, most)) in
    let whole : (2 ^ k - d) * 2 ^ 64 % 2 ^ 128 ≡ (2 ^ k - d) * 2 ^ 64 = mod-eq_of_lt (omega (arith, fits, above, least)) in
    let parts : 2 ^ 64 * 2 ^ k ≡ (2 ^ k - d) * 2 ^ 64 + 2 ^ 64 * d = omega (arith, above) in
    let more = add-mul-div_right ((2 ^ k - d) * 2 ^ 64) (2 ^ 64) {z = d} (omega (arith, above, least)) in
    rw (u_is, v_is, power, whole, parts) (omega (arith, more))

pub ceil_log2_is : (d : ℕ) → 0 < d → d < 2 ^ 64
    → (d ≤ 2 ^ (64 - count_leading_zeros 64 (d - 1))) × (2 ^ (64 - count_leading_zeros 64 (d - 1)) < 2 * d)
ceil_log2_is d up fits =
    let top = leading_length 64 (d - 1) (omega (arith, fits)) in
    let same : 64 - count_leading_zeros 64 (d - 1) ≡ top.0 = omega (arith, top.1) in
    rw same (omega (arith, up, top.2), omega (arith, up, top.3))
