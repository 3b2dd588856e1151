use Rattle.theorems.proofs.Common.{ℤ, ℕ, IfSome, Option, None, Some, IsOnly, decimal_is_spelled, spelled_decimal_is_only, SpellsDecimal, decimal_text, places_of, units_of, Decimal}
use Rattle.theorems.proofs.decimals.read_back.Goals as goal

spelled : (o : Option Decimal) → IfSome o (λ d. SpellsDecimal (decimal_text (units_of d) (places_of d)) (units_of d) (places_of d))
spelled (Some d) = decimal_is_spelled d
spelled None = tt

only : (o : Option Decimal)
    → IfSome o (λ d. IsOnly {A = ℤ × ℕ} (λ (u, p). SpellsDecimal (decimal_text (units_of d) (places_of d)) u p) (units_of d, places_of d))
only (Some d) = spelled_decimal_is_only _ _ _ (decimal_is_spelled d)
only None = tt

pub returns-clause-spelled : goal.returns-clause-spelled
returns-clause-spelled c = spelled c.to_decimal.result

pub returns-clause-only : goal.returns-clause-only
returns-clause-only c = only c.to_decimal.result
