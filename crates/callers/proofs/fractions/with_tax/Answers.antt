use Rattle.std.proofs.Common.{inr, rules, ◌⊎◌, ◌≡◌, ◌+ℤ◌, ℤ, Option, Some, None, MatchOption, SomeIff, FitsSigned}
use Rattle.callers.proofs.Common.{to_z-of_z, w64}
use Rattle.callers.proofs.fractions.with_tax.Goals as goal

-- the sum of a price and a number with the property, or none if it does not fit
total_with : (A : Type 0) (P : ℤ → Type 0) (price tax : ℤ) (total : Option ℤ) → SomeIff total (FitsSigned w64 (price +ℤ tax)) (price +ℤ tax) → P tax
    → MatchOption total (A ⊎ ((x : ℤ) × P x × ¬ (FitsSigned w64 (price +ℤ x)))) (λ t. (x : ℤ) × P x × (t ≡ price +ℤ x))
total_with A P price tax None sum is = inr (tax, is, search (rules, sum))
total_with A P price tax (Some t) sum is = (tax, is, search (rules, sum))

pub returns : goal.returns
returns c =
    let tax = rw (to_z-of_z w64 _ c.ranges.price) at c.in_ok-tax.ensures in
    total_with _ _ c.args.price c.in_ok-tax.tax c.checked_add.result (search rules) tax.1
