-- Quotients by a positive number, and the nearest integer.
use Rattle.num_integer.specs.Only.{IsOnly}
use Rattle.ratio64.proofs.Common.{◌≡◌, ◌<◌, ◌≤◌, ◌^◌, ◌<ℤ◌, ◌-ℤ◌, ◌*ℤ◌, ℤ, pos, neg_ℤ, unsigned_abs, FitsSigned, MatchOption, Option, Width, w64, w128, of_z, to_z, ap, arith, inl, inr, by_lt_z, ints, LiesWithin, expand, linear, multiples_apart, product_from_zero, products, sizes, AnswersWhere, IsDivision, IsQuotient, EachFits, RoundedEvenIsOnly, RoundedIsOnly, IsRounded, IsRoundedEven, rest_is, subst}
use Rattle.ratio64.specs.Times.{IsWideQuotient}
use Rattle.num_integer.proofs.Laws.{nearest_even_quotient_is_only, nearest_quotient_is_only}

-- ---- a quotient by a positive number fits if the dividend does

-- a number between 0 and one that fits
pub between_fits : (w : Width) (n z : ℤ) → FitsSigned w n → LiesWithin n z → FitsSigned w z
between_fits w n z fits within = grind ints

module _ {n d q r : ℤ} (up : pos 0 <ℤ d) (h : IsDivision n d q r) where
  quotient_within : LiesWithin n q
  quotient_within =
      by_lt_z n (pos 0)
      (λ down.
      let most = simp expand at (product_from_zero (neg_ℤ n) (d -ℤ pos 1) (omega linear) (omega linear)) in
      inr (grind (sizes, products, multiples_apart q n d up), grind (sizes, multiples_apart (pos 0) q d up)))
      (λ over.
      let most = simp expand at (product_from_zero n (d -ℤ pos 1) over (omega linear)) in
      inl (grind (sizes, multiples_apart q (pos 0) d up), grind (sizes, products, multiples_apart n q d up)))

  pub quotient_fits : (w : Width) → FitsSigned w n → FitsSigned w q
  quotient_fits w fits = between_fits w n q fits quotient_within

  pub quotient_size : unsigned_abs q ≤ unsigned_abs n
  quotient_size = omega (sizes, quotient_within)

-- ---- the nearest number

-- it is the quotient of a division
pub rounded_division : {n d r : ℤ} → pos 0 <ℤ d → IsRounded n d r → IsDivision n d r (n -ℤ r *ℤ d)
rounded_division {n} {d} {r} up h = let rest = h.division.division in subst (IsDivision n d r) (rest_is rest) rest

pub rounded_even_division : {n d r : ℤ} → pos 0 <ℤ d → IsRoundedEven n d r → IsDivision n d r (n -ℤ r *ℤ d)
rounded_even_division {n} {d} {r} up h = let rest = h.division.division in subst (IsDivision n d r) (rest_is rest) rest

-- and only one number is it
pub only_rounded : RoundedIsOnly
only_rounded n d r up = nearest_quotient_is_only n d r

pub only_rounded_even : RoundedEvenIsOnly
only_rounded_even n d r up = nearest_even_quotient_is_only n d r

-- ---- an integer that is narrowed to 64 bits

-- a kind of division has one quotient
pub quotient_is_only : {Kind : ℤ → ℤ → ℤ → ℤ → Type 0} {n d q : ℤ} → ((n d q r : ℤ) → Kind n d q r → IsOnly (λ (p, s). Kind n d p s) (q, r))
    → IsQuotient Kind n d q → IsOnly (IsQuotient Kind n d) q
quotient_is_only only h p k = ap (λ (t : ℤ × ℤ). t.0) (only _ _ _ _ h.division (p, k.remainder) k.division)

-- of a number that is rounded of a product with n, both read from their bits
narrowed_by : (P : ℤ → ℤ → Type 0) {n z : ℤ} (r : Option ℤ) → FitsSigned w64 n → P (to_z w64 (of_z w64 n)) z → unsigned_abs z < 2 ^ 127
    → (P n z → IsOnly (P n) z)
    → MatchOption r (¬ (FitsSigned w64 (to_z w128 (of_z w128 z)))) (λ q. FitsSigned w64 (to_z w128 (of_z w128 z)) × (q ≡ to_z w128 (of_z w128 z)))
    → AnswersWhere (EachFits (FitsSigned w64) (P n)) (P n) r
narrowed_by P {n} {z} r n_fits own below only is = grind arith

-- so of a quotient
pub narrowed_times : {Kind : ℤ → ℤ → ℤ → ℤ → Type 0} (num : ℤ) {den n z : ℤ} (r : Option ℤ) → FitsSigned w64 n
    → IsWideQuotient Kind (num *ℤ to_z w64 (of_z w64 n)) den z
    → (IsQuotient Kind (num *ℤ n) den z → IsOnly (IsQuotient Kind (num *ℤ n) den) z)
    → MatchOption r (¬ (FitsSigned w64 (to_z w128 (of_z w128 z)))) (λ q. FitsSigned w64 (to_z w128 (of_z w128 z)) × (q ≡ to_z w128 (of_z w128 z)))
    → AnswersWhere (EachFits (FitsSigned w64) (IsQuotient Kind (num *ℤ n) den)) (IsQuotient Kind (num *ℤ n) den) r
narrowed_times {Kind} num {den} r fits own only is = narrowed_by (λ t. IsQuotient Kind (num *ℤ t) den) r fits own.0 own.1 only is
