use Rattle.num_integer.proofs.Common.{◌↔◌, ℕ, true, false, IsTrue, nat_le, arith, le-leb, leb-true, linear, IsWithin, signed}
use Rattle.num_integer.proofs.FlooredProducts.{signed_product}
use Rattle.num_integer.proofs.sign_magnitude.product_is_within.Goals as goal
use Rattle.num_integer.proofs.sign_magnitude.product_is_within.Goals.{then-a-b, else-a-b}

test_up : (size low high : ℕ) → IsTrue (nat_le size high) ↔ IsWithin low high (signed false size)
test_up size low high = (λ t. let h = leb-true _ _ t in (omega (arith, linear), omega (arith, linear)), λ w. le-leb _ _ (omega (arith, linear, w.1)))

test_down : (size low high : ℕ) → IsTrue (nat_le size low) ↔ IsWithin low high (signed true size)
test_down size low high = (λ t. let h = leb-true _ _ t in (omega (arith, linear), omega (arith, linear)), λ w. le-leb _ _ (omega (arith, linear, w.0)))

pub returns-in-Some : goal.returns-in-Some
returns-in-Some c = grind (arith, signed_product, test_up, test_down)
