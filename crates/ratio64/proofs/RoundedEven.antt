-- The nearest integer, and of two equally near the even one, by `/` and `%`.
use Rattle.ratio64.proofs.Common.{◌≡◌, false, is_negative, ◌+◌, ◌*◌, ◌/◌, ◌%◌, ◌<◌, ◌≤◌, ◌<ℤ◌, ℕ, ℤ, negsuc, pos, neg_ℤ, suc, unsigned_abs, ap, arith, inl, inr, refl, cases_Bool, cases_lt, ints, neg_mul, products, sizes, IsFloored, IsRoundedEven}
use Rattle.num_integer.proofs.ForCallers.{divides_is_natural, floored_by_range}
use Rattle.num_integer.proofs.NearestQuotients.{nearest_even_is}
use Rattle.num_integer.specs.Divisors.{IsEven}
use Rattle.num_integer.specs.Rounding.{IsDown, IsNearer}
use Rattle.ratio64.proofs.NearestNumbers.{only_rounded_even}
use Rattle.ratio64.specs.Laws.{RoundedEvenIs}
use Rattle.ratio64.specs.Rounding.{half_even, rounded_even}
use Rattle.std.proofs.Common.{leb-true, nat_le, le-leb}
use Rattle.std.proofs.Math.Nat.{mul-add-div_right, mul-add-mod_self_right}

-- ---- natural numbers

module _ (n d : ℕ) (up : 0 < d) where
  nearer_is : IsNearer (IsEven (pos (n / d))) (pos d) (pos (n / d)) (pos (n % d)) (pos (half_even n d))
  nearer_is =
      let even = divides_is_natural {d = 2} {n = n / d} (omega arith) in
      elim (cases_Bool (nat_le (2 * (n % d) + n / d % 2) d)) [
        | inl down ↦
            let most = leb-true (2 * (n % d) + n / d % 2) d down in
            let is : IsDown (IsEven (pos (n / d))) (pos d) (pos (n % d)) = elim (cases_lt (2 * (n % d)) d) [
              | inl less ↦ inl less
              | inr half ↦ inr (omega arith, even.1 (omega arith))
            ] in
            inl (is, rw down refl)
        | inr over ↦
            let none : ¬ (IsDown (IsEven (pos (n / d))) (pos d) (pos (n % d))) = λ is.
            let most : 2 * (n % d) + n / d % 2 ≤ d = elim is [ inl less ↦ omega arith | inr half ↦ omega (arith, half.0, even.0 half.1) ] in
            absurd (grind (arith, le-leb)) in
            inr (none, rw over (omega ints))
      ]

  floored : IsFloored (pos n) (pos d) (pos (n / d)) (pos (n % d))
  floored = floored_by_range (omega ints) (omega ints) (omega ints)

  pub natural_rounded : IsRoundedEven (pos n) (pos d) (pos (half_even n d))
  natural_rounded = nearest_even_is floored (IsEven (pos (n / d))) (λ e. e, λ e. e) nearer_is

-- ---- integers

negated_rounded : {n d r : ℤ} → IsRoundedEven n d r → IsRoundedEven (neg_ℤ n) d (neg_ℤ r)
negated_rounded {n} {d} {r} h =
    let s = h.remainder in
    let near = h.division in
    let size = near.division.small in
    record {
      remainder = neg_ℤ s;
      division = record {
        division = record { equation = omega (products, near.division.equation, neg_mul r d); small = omega sizes };
        nearest = omega (sizes, near.nearest);
        tie = λ half.
            let even = near.tie (omega sizes) in
            record { factor = neg_ℤ even.factor; product = omega (products, even.product) };
      };
    }

pub not_negative : (n : ℕ) → is_negative (pos n) ≡ false
not_negative n = grind ints

pub rounded_even_is : RoundedEvenIs
rounded_even_is (pos n) (pos d) up = rw (not_negative n) (natural_rounded n d (omega ints))
rounded_even_is (negsuc n) (pos d) up = negated_rounded (natural_rounded (suc n) d (omega ints))
rounded_even_is n (negsuc d) up = absurd up.lt

-- a number that is rounded is that of the formula
pub rounded_is : {n d r : ℤ} → pos 0 <ℤ d → IsRoundedEven n d r → r ≡ rounded_even n d
rounded_is {n} {d} {r} up h = only_rounded_even n d (rounded_even n d) up (rounded_even_is n d up) r h

pub natural_rounded_is : (n d : ℕ) {r : ℕ} → 0 < d → IsRoundedEven (pos n) (pos d) (pos r) → r ≡ half_even n d
natural_rounded_is n d {r} up h =
    let some : pos 0 <ℤ pos d = omega ints in
    ap unsigned_abs (only_rounded_even (pos n) (pos d) (pos (half_even n d)) some (natural_rounded n d up) (pos r) h)

-- ---- a number whose first digits are those of another

pub half_even_at_most : (n d : ℕ) → half_even n d ≤ n / d + 1
half_even_at_most n d = elim (cases_Bool (nat_le (2 * (n % d) + n / d % 2) d)) [
  | inl down ↦ rw down (omega arith)
  | inr up ↦ rw up (omega arith)
]

pub half_even_at_least : (n d : ℕ) → n / d ≤ half_even n d
half_even_at_least n d = elim (cases_Bool (nat_le (2 * (n % d) + n / d % 2) d)) [
  | inl down ↦ rw down (omega arith)
  | inr up ↦ rw up (omega arith)
]

-- a multiple of twice the divisor is added to the number, and the even number of multiples to the nearest integer
pub half_even_more : (a n d : ℕ) → 0 < d → half_even (2 * a * d + n) d ≡ 2 * a + half_even n d
half_even_more a n d up =
    let quotient : (2 * a * d + n) / d ≡ 2 * a + n / d = mul-add-div_right up (2 * a) n in
    let rest : (2 * a * d + n) % d ≡ n % d = mul-add-mod_self_right (2 * a) d n in
    let parity : (2 * a + n / d) % 2 ≡ n / d % 2 = omega arith in
    rw (quotient, rest, parity) (grind arith)
