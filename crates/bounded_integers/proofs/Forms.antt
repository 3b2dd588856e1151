-- The integers of a range, stored.
use Rattle.std.specs.Prelude.{◌≡◌, ℤ}
use Rattle.std.proofs.Props.{props}
use Rattle.num_integer.specs.Between.{Between}

-- a number is in the range in one way
inside_prop : (low high z : ℤ) → IsProp (Between low high z)
inside_prop low high z = hlevel props

-- so what is made of a number of the range is made of the number alone
pub of_number : {low high z : ℤ} {A : Type 0} (made : Between low high z → A) (p q : Between low high z) → made p ≡ made q
of_number {low} {high} {z} made p q = λ i. made (inside_prop low high z p q i)
