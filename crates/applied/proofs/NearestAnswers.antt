-- Calls that return a quotient rounded to the nearest integer, if it fits. Each fact is of both kinds.
use Rattle.std.proofs.Math.Bool.{beq}
use Rattle.num_integer.specs.Parts.{signed}
use Rattle.applied.proofs.Common.{◌≡◌, ◌≢◌, ◌≤ℤ◌, ◌<ℤ◌, ◌*ℤ◌, IsSome, AnswersQuotient, Bool, not, ℕ, ℤ, pos, Option, linear, refl, answer_only, answers_as, answers_only, part_fits, some_in_domain, AnswersWhere, FitsWith, IsQuotient, EachFits, IsRange}
use Rattle.applied.specs.Halves.{NearestBy}
use Rattle.applied.specs.declared.rounding.checked.Half.{Half}
use Rattle.applied.specs.declared.rounding.checked.Half.TheVariants.{AwayFromZero, ToEven}
use Rattle.num_integer.proofs.NearestQuotients.{IsRounding, nearest, nearest_even, quotient_by_magnitudes}

-- either place for a half is a kind of nearest quotient
pub nearest_by : (half : Half) → IsRounding (NearestBy half)
nearest_by AwayFromZero = nearest
nearest_by ToEven = nearest_even

module _ {Kind : ℤ → ℤ → ℤ → ℤ → Type 0} (rounding : IsRounding Kind) where
  -- a nearest quotient that fits is a result in the domain, also if the number n is given as m
  pub nearest_answer : {fits : ℤ → Type 0} {n m d q : ℤ} → n ≡ m → d ≢ pos 0 → fits q → IsQuotient Kind n d q
      → ((d ≢ pos 0) × EachFits fits (IsQuotient Kind m d)) × (fits q × IsQuotient Kind m d q)
  nearest_answer {fits} {n} {m} {d} {q} same nonzero q_fits h =
      let own = rw same at h in
      let answer = answer_only {P = IsQuotient Kind m d} {w = q} own (λ y k. (rounding.kind.only own.division k.division).0) q_fits refl in
      ((nonzero, answer.0), answer.1)

  module _ (fits : ℤ → Type 0) {X : Type 0} (value : X → ℤ) (result : Option X) where
    -- the quotient of the magnitudes, with the sign of the quotient, is the answer if it fits
    pub answer_by_magnitudes : (number divisor : Bool × ℕ) {q : ℕ} {n d : ℤ} → signed number.0 number.1 ≡ n → signed divisor.0 divisor.1 ≡ d
        → d ≢ pos 0 → IsQuotient Kind (pos number.1) (pos divisor.1) (pos q)
        → AnswersWhere (fits (signed (not (beq number.0 divisor.0)) q)) (FitsWith fits value (λ z. z ≡ signed (not (beq number.0 divisor.0)) q)) result → AnswersQuotient Kind fits value n d result
    answer_by_magnitudes number divisor {q} {n} {d} is by nonzero h answer =
        let own = rw (is, by) at (quotient_by_magnitudes rounding number.0 divisor.0 number.1 divisor.1 q h) in
        answers_as result (λ each. (nonzero, each), λ domain. domain.1) (λ x each. each)
        (answers_only fits (IsQuotient Kind n d) value result own (λ y k. (rounding.kind.only own.division k.division).0) answer)

    -- a part of a number fits, so there is a result
    pub part_answered : {low high a b d : ℤ} → IsRange fits low high → fits a → AnswersQuotient Kind fits value (a *ℤ b) d result → pos 0 ≤ℤ a
        → pos 0 ≤ℤ b → b ≤ℤ d → pos 0 <ℤ d → IsSome result
    part_answered range a_fits answer a_up b_up within up =
        some_in_domain (FitsWith fits value (IsQuotient Kind _ _)) result answer (λ zero. omega linear, λ q h. part_fits range a_fits a_up b_up within up (rounding.kind.division h.division))
