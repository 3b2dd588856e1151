-- Division of natural numbers, as `/` and `%` say it.
use Rattle.integer_core.proofs.Common.{◌≡◌, ◌↔◌, ◌<◌, ◌≤◌, ◌+◌, ◌-◌, ◌*◌, ◌/◌, ◌%◌, ◌^◌, ◌≤ℤ◌, ◌<ℤ◌, ◌+ℤ◌, ◌*ℤ◌, ℤ, ℕ, pos, unsigned_abs, FitsUnsignedBits, arith, ap, ints, div-add-mod', div_below, le-div, mul-lt, mul-sub, mul-le-mul_left, div-le_self, dvd_of_mod-eq-zero, mod-eq-zero_of_dvd, IsFloored, IsQuotient, IsRemainder, EachFits, Divides, IsLeastCommonMultiple, suc, IsCeiled, linear}
use Rattle.integer_core.proofs.Divisibility.{from_natural, to_natural}
use Rattle.integer_core.proofs.FlooredByPositive.{floored_by_range, ceiled_remainder_range, floored_range, only_floored}
use Rattle.integer_core.proofs.DivisorSizes.{divisor_at_most, lcm_positive}

-- the quotient and the remainder of natural numbers are floored
pub natural_division : (n d : ℕ) → 0 < d → IsFloored (pos n) (pos d) (pos (n / d)) (pos (n % d))
natural_division n d up = floored_by_range (omega (arith, ints)) (omega (arith, ints)) (omega (arith, ints))

-- a floored quotient of natural numbers is that of `/`
pub quotient_is_natural : {n d q : ℕ} → 0 < d → IsQuotient IsFloored (pos n) (pos d) (pos q) → q ≡ n / d
quotient_is_natural {n} {d} up h = ap unsigned_abs (only_floored h.division (natural_division n d up)).0

-- a floored remainder of natural numbers is that of `%`
pub remainder_is_natural : {n d r : ℕ} → 0 < d → IsRemainder IsFloored (pos n) (pos d) (pos r) → r ≡ n % d
remainder_is_natural {n} {d} up h = ap unsigned_abs (only_floored h.division (natural_division n d up)).1

-- a floored quotient and remainder of natural numbers are those of `/` and `%`
pub division_is_natural : {n d q r : ℕ} → 0 < d → IsFloored (pos n) (pos d) (pos q) (pos r) → (q ≡ n / d) × (r ≡ n % d)
division_is_natural {n} {d} up h = let same = only_floored h (natural_division n d up) in (ap unsigned_abs same.0, ap unsigned_abs same.1)

-- the quotient by a positive number fits
pub natural_quotient_fits : (bits : ℕ) {n d : ℕ} → n < 2 ^ bits → 0 < d → EachFits (FitsUnsignedBits bits) (IsQuotient IsFloored (pos n) (pos d))
natural_quotient_fits bits {n} {d} small up q h = rw (only_floored h.division (natural_division n d up)).0 (omega (arith, div-le_self n d))

-- d divides n exactly if the remainder of `%` is 0
pub divides_is_natural : {d n : ℕ} → 0 < d → Divides (pos d) (pos n) ↔ (n % d ≡ 0)
divides_is_natural up = (λ h. mod-eq-zero_of_dvd _ (to_natural h), λ e. from_natural (dvd_of_mod-eq-zero _ e))

-- l / a and l / b, where l is the lcm, are the least turns of wheels of a and b teeth that end where they began
pub least_turns : {a b l : ℕ} → 0 < a → 0 < b → IsLeastCommonMultiple (pos a) (pos b) (pos l)
    → (0 < l / a) × (l / a * a ≡ l / b * b) × ((x y : ℕ) → 0 < x → x * a ≡ y * b → (l / a ≤ x) × (l / b ≤ y))
least_turns {a} {b} {l} a_up b_up h =
    let most : pos a ≤ℤ pos l = divisor_at_most (lcm_positive h (λ e. omega (arith, ints)) (λ e. omega (arith, ints))) h.left_divides in (
      le-div 1 l a a_up (omega (arith, ints)),
      omega (arith, (divides_is_natural a_up).0 h.left_divides, (divides_is_natural b_up).0 h.right_divides),
      λ x y x_up e.
          let left : Divides (pos a) (pos (x * a)) = record { factor = pos x; product = omega (arith, ints) } in
          let right : Divides (pos b) (pos (x * a)) = rw e (record { factor = pos y; product = omega (arith, ints) }) in
          let down : pos l ≤ℤ pos (x * a) = divisor_at_most (omega (arith, ints, mul-lt 0 0 x a x_up a_up)) (h.least _ left right) in
          (omega (arith, ints, div_below l a (x + 1) a_up (omega (arith, ints))), omega (arith, ints, div_below l b (y + 1) b_up (omega (arith, ints)))),
    )

-- ---- quotients by one divisor

-- The quotient of a larger number by the same divisor is at least as large.
pub quotients_grow : {m n : ℕ} (d : ℕ) → 0 < d → m ≤ n → m / d ≤ n / d
quotients_grow {m} {n} d up grow = le-div (m / d) n d up (omega (arith, div-add-mod' m d))

-- If n is w more than m, the difference of their quotients by d is off w / d by less than 1.
pub near : (m w d : ℕ) {n : ℕ} → 0 < d → m + w ≡ n → ((n / d - m / d) * d < w + d) × (w < (n / d - m / d) * d + d)
near m w d {n} up more =
    let gap = mul-sub d (n / d) (m / d) in
    let grow = mul-le-mul_left d (quotients_grow {m = m} {n = n} d up (omega arith)) in
    (omega arith, omega arith)

-- ---- division by literals

-- a floored quotient by inequalities
pub floored_quotient_range : {n q : ℤ} {d : ℕ} → IsQuotient IsFloored n (pos (suc d)) q → ((q *ℤ pos (suc d)) ≤ℤ n) × (n <ℤ (q *ℤ pos (suc d) +ℤ pos (suc d)))
floored_quotient_range h = grind (arith, ints, linear, floored_range)

-- a ceiled quotient by inequalities
pub ceiled_quotient_range : {n q : ℤ} {d : ℕ} → IsQuotient IsCeiled n (pos (suc d)) q → (n ≤ℤ (q *ℤ pos (suc d))) × ((q *ℤ pos (suc d)) <ℤ (n +ℤ pos (suc d)))
ceiled_quotient_range h =
    let range = ceiled_remainder_range (omega (arith, ints)) h.division in
    (omega (arith, linear, h.division.division.equation), omega (arith, linear, h.division.division.equation))

-- d divides an integer exactly if the remainder of its magnitude is 0
pub divides_by_magnitude : (z : ℤ) (d : ℕ) → 0 < d → Divides (pos d) z ↔ (unsigned_abs z % d ≡ 0)
divides_by_magnitude z d up = (λ h. mod-eq-zero_of_dvd _ (to_natural h), λ e. from_natural (dvd_of_mod-eq-zero _ e))
