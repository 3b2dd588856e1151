-- Equal fractions have the same quotients, and the same nearest integers.
use Rattle.ratio64.proofs.Common.{◌≡◌, ◌<◌, ◌≤◌, ◌*◌, ◌<ℤ◌, ◌≤ℤ◌, ◌-ℤ◌, ◌*ℤ◌, ℕ, ℤ, pos, neg_ℤ, unsigned_abs, Result, arith, ap, sym, ◌∙◌, by_lt_z, unsigned_abs-mul, comm, expand, from_not_less, linear, multiples_apart, product_from_zero, products, sizes, IsCeiled, IsFloored, IsQuotient, IsDivision, AreEqual, IsExact, AreEqual_sym, AnswersInParts, AnswersWhere, EachFits, FitsSigned, IsRounded, IsRoundedEven, Option, Ratio, RatioError, floored_range, rest_is, w64}
use Rattle.num_integer.proofs.ForCallers.{answers_as, ceiled_by_range, ceiled_remainder_range, floored_by_range}

-- Both fractions times the same number are equal.
pub equal_times : {a b c d : ℤ} (k : ℤ) → AreEqual a b c d → AreEqual (a *ℤ k) b (c *ℤ k) d
equal_times k e = let times = simp expand at (ap (λ (t : ℤ). t *ℤ k) e.cross) in record { cross = simp expand (omega linear) }

-- ---- numbers in the proportion of two positive ones are in the same order

module _ {b d p q r s : ℤ} (b_up : pos 0 <ℤ b) (d_up : pos 0 <ℤ d) (first : p *ℤ d ≡ q *ℤ b) (second : r *ℤ d ≡ s *ℤ b) where
  in_strict_order : p <ℤ r → q <ℤ s
  in_strict_order less = by_lt_z q s (λ fine. fine)
      (λ over.
      let apart = multiples_apart p r d d_up less in
      let most = simp expand at (product_from_zero (q -ℤ s) b (omega linear) (omega linear)) in
      absurd (omega products))

in_order : {b d p q r s : ℤ} → pos 0 <ℤ b → pos 0 <ℤ d → p *ℤ d ≡ q *ℤ b → r *ℤ d ≡ s *ℤ b → p ≤ℤ r → q ≤ℤ s
in_order b_up d_up first second most = from_not_less (λ less. omega (linear, in_strict_order d_up b_up (sym second) (sym first) less))

-- what a number leaves of one fraction and of the other
rests : {a b c d : ℤ} (q : ℤ) → AreEqual a b c d → (a -ℤ q *ℤ b) *ℤ d ≡ (c -ℤ q *ℤ d) *ℤ b
rests q e = let cross = simp expand at e.cross in simp expand (omega linear)

-- ---- quotients

-- Equal fractions, rounded down, are the same integer.
pub equal_floored : {a b c d q : ℤ} → pos 0 <ℤ b → pos 0 <ℤ d → AreEqual a b c d → IsQuotient IsFloored a b q → IsQuotient IsFloored c d q
equal_floored {b = b} {c = c} {d = d} {q = q} b_up d_up equal h =
    let range = floored_range b_up h.division in
    let e = rw (← rest_is h.division.division) at (rests q equal) in
    let up = in_order b_up d_up (omega products) e range.0 in
    record { remainder = c -ℤ q *ℤ d; division = floored_by_range (omega linear) up (in_strict_order b_up d_up e (comm b d) range.1) }

-- Equal fractions, rounded up, are the same integer.
pub equal_ceiled : {a b c d q : ℤ} → pos 0 <ℤ b → pos 0 <ℤ d → AreEqual a b c d → IsQuotient IsCeiled a b q → IsQuotient IsCeiled c d q
equal_ceiled {b = b} {c = c} {d = d} {q = q} b_up d_up equal h =
    let range = ceiled_remainder_range b_up h.division in
    let e = rw (← rest_is h.division.division) at (rests q equal) in
    let above = in_strict_order {p = neg_ℤ b} {q = neg_ℤ d} b_up d_up (simp expand) e (omega linear) in
    let down = in_order b_up d_up e (omega products) range.0 in
    record { remainder = c -ℤ q *ℤ d; division = ceiled_by_range (omega linear) down (omega (linear, above)) }

-- ---- the nearest integer

natural_order : (b d p q r s : ℕ) → 0 < b → p * d ≡ q * b → r * d ≡ s * b → p ≤ r → q ≤ s
natural_order b d p q r s up first second most = grind arith

natural_strict_order : (b d p q r s : ℕ) → 0 < d → p * d ≡ q * b → r * d ≡ s * b → p < r → q < s
natural_strict_order b d p q r s up first second less = grind arith

-- if s/b and t/d are equal and one is at most a half, or at least a half, so is the other
halves : (b d s t : ℕ) → 0 < b → s * d ≡ t * b → (2 * s ≤ b → 2 * t ≤ d) × (b ≤ 2 * s → d ≤ 2 * t)
halves b d s t up same =
    (natural_order b d (2 * s) (2 * t) b d up (omega arith) (omega arith), natural_order b d b d (2 * s) (2 * t) up (omega arith) (omega arith))

magnitudes : (s t u v : ℤ) → s *ℤ t ≡ u *ℤ v → unsigned_abs s * unsigned_abs t ≡ unsigned_abs u * unsigned_abs v
magnitudes s t u v e = sym (unsigned_abs-mul s t) ∙ ap unsigned_abs e ∙ unsigned_abs-mul u v

-- a quotient of one fraction, with a remainder of at most half the denominator, is one of the other fraction
record IsNearBoth (a b c d r s : ℤ) : Type 0 where
  division : IsDivision c d r (c -ℤ r *ℤ d)
  nearest : 2 * unsigned_abs (c -ℤ r *ℤ d) ≤ unsigned_abs d
  tie : 2 * unsigned_abs (c -ℤ r *ℤ d) ≡ unsigned_abs d → 2 * unsigned_abs s ≡ unsigned_abs b

near_both : {a b c d r s : ℤ} → pos 0 <ℤ b → pos 0 <ℤ d → AreEqual a b c d → IsDivision a b r s → 2 * unsigned_abs s ≤ unsigned_abs b
    → IsNearBoth a b c d r s
near_both {b = b} {c} {d} {r} b_up d_up equal own near =
    let rest = magnitudes _ d (c -ℤ r *ℤ d) b (rw (← rest_is own) at (rests r equal)) in
    let small = (halves _ _ _ _ (omega sizes) rest).0 near in
    record {
      division = record { equation = omega linear; small = omega sizes };
      nearest = small;
      tie = λ half. omega (arith, near, (halves (unsigned_abs d) (unsigned_abs b) _ _ (omega sizes) (sym rest)).1 (omega (arith, half)));
    }

-- Equal fractions, rounded to the nearest integer, are the same integer.
pub equal_rounded : {a b c d r : ℤ} → pos 0 <ℤ b → pos 0 <ℤ d → AreEqual a b c d → IsRounded a b r → IsRounded c d r
equal_rounded {a} {b} {c} {d} {r} b_up d_up equal h =
    let both = near_both b_up d_up equal h.division.division h.division.nearest in
    let products = magnitudes (r *ℤ b) d (r *ℤ d) b (simp expand) in
    record {
      remainder = c -ℤ r *ℤ d;
      division = record {
        division = both.division;
        nearest = both.nearest;
        tie = λ half. natural_strict_order (unsigned_abs b) (unsigned_abs d) _ _ _ _ (omega sizes) (magnitudes a d c b equal.cross) products (h.division.tie (both.tie half));
      };
    }

-- Equal fractions, rounded to the nearest integer and a half to the even one, are the same integer.
pub equal_rounded_even : {a b c d r : ℤ} → pos 0 <ℤ b → pos 0 <ℤ d → AreEqual a b c d → IsRoundedEven a b r → IsRoundedEven c d r
equal_rounded_even {c = c} {d} {r} b_up d_up equal h =
    let both = near_both b_up d_up equal h.division.division h.division.nearest in
    record {
      remainder = c -ℤ r *ℤ d;
      division = record { division = both.division; nearest = both.nearest; tie = λ half. h.division.tie (both.tie half) };
    }

-- ---- in parts

module _ {a b num den parts : ℤ} {r : Result Ratio RatioError} (b_up : pos 0 <ℤ b) (exact : IsExact a b num den) where
  in_parts : (Is : ℤ → ℤ → ℤ → Type 0)
      → ((q : ℤ) → pos 0 <ℤ den → pos 0 <ℤ b → AreEqual (num *ℤ parts) den (a *ℤ parts) b → Is (num *ℤ parts) den q → Is (a *ℤ parts) b q)
      → AnswersInParts (Is (num *ℤ parts) den) parts r → AnswersInParts (Is (a *ℤ parts) b) parts r
  in_parts Is equal h = record {
    number = h.number;
    is = equal _ exact.reduced.positive b_up (equal_times _ (AreEqual_sym exact.equal)) h.is;
    fraction = h.fraction;
  }

  -- To round an exact result down to parts is to round the fraction.
  pub floored_in_parts : AnswersInParts (IsQuotient IsFloored (num *ℤ parts) den) parts r
      → AnswersInParts (IsQuotient IsFloored (a *ℤ parts) b) parts r
  floored_in_parts = in_parts (IsQuotient IsFloored) (λ q. equal_floored)

  -- To round an exact result up to parts is to round the fraction.
  pub ceiled_in_parts : AnswersInParts (IsQuotient IsCeiled (num *ℤ parts) den) parts r → AnswersInParts (IsQuotient IsCeiled (a *ℤ parts) b) parts r
  ceiled_in_parts = in_parts (IsQuotient IsCeiled) (λ q. equal_ceiled)

  -- To round an exact result to the nearest part is to round the fraction.
  pub rounded_in_parts : AnswersInParts (IsRounded (num *ℤ parts) den) parts r → AnswersInParts (IsRounded (a *ℤ parts) b) parts r
  rounded_in_parts = in_parts IsRounded (λ q. equal_rounded)

  -- To round an exact result to the nearest part, and a half to the even one, is to round the fraction.
  pub rounded_even_in_parts : AnswersInParts (IsRoundedEven (num *ℤ parts) den) parts r → AnswersInParts (IsRoundedEven (a *ℤ parts) b) parts r
  rounded_even_in_parts = in_parts IsRoundedEven (λ q. equal_rounded_even)

-- ---- an exact result times an integer

-- To round an exact result times an integer is to round the fraction times that integer.
pub times_rounded_even : {a b num den : ℤ} (n : ℤ) (r : Option ℤ) → pos 0 <ℤ b → IsExact a b num den
    → AnswersWhere (EachFits (FitsSigned w64) (IsRoundedEven (num *ℤ n) den)) (IsRoundedEven (num *ℤ n) den) r
    → AnswersWhere (EachFits (FitsSigned w64) (IsRoundedEven (a *ℤ n) b)) (IsRoundedEven (a *ℤ n) b) r
times_rounded_even {a} {b} {num} {den} n r b_up exact h =
    let to : (z : ℤ) → IsRoundedEven (num *ℤ n) den z → IsRoundedEven (a *ℤ n) b z =
    λ z is. equal_rounded_even exact.reduced.positive b_up (equal_times n (AreEqual_sym exact.equal)) is in
    let back : (z : ℤ) → IsRoundedEven (a *ℤ n) b z → IsRoundedEven (num *ℤ n) den z =
    λ z is. equal_rounded_even b_up exact.reduced.positive (equal_times n exact.equal) is in
    answers_as r (λ each z is. each z (back z is), λ each z is. each z (to z is)) to h
