-- The smallest number with a property that is at least another, and the largest that is at most another, are the only ones.
use Rattle.integer_core.proofs.Common.{ℤ, arith, linear, IsOnly}
use Rattle.integer_core.specs.Least.{IsGreatestTo, IsLeastFrom}

-- The smallest number with a property that is at least another is the only one.
pub least_is_only : {from t : ℤ} {Has : ℤ → Type 0} → IsLeastFrom from Has t → IsOnly (IsLeastFrom from Has) t
least_is_only h u k = omega (arith, linear, h.least u k.from_there k.holds, k.least _ h.from_there h.holds)

-- The largest number with a property that is at most another is the only one.
pub greatest_is_only : {to t : ℤ} {Has : ℤ → Type 0} → IsGreatestTo to Has t → IsOnly (IsGreatestTo to Has) t
greatest_is_only h u k = omega (arith, linear, h.greatest u k.to_there k.holds, k.greatest _ h.to_there h.holds)
