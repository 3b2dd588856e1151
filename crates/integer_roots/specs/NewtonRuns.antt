-- The two loops of a root by Newton's method, over any step.
use Rattle.std.specs.Prelude.{ℕ, ◌+◌, ◌-◌, ◌*◌, ◌/◌, ◌^◌, ◌<◌, ◌≤◌}
use Rattle.integer_roots.specs.SquareRuns.{Guess, Rising, Falling}

-- The number that a guess of either loop holds.
-- Examples: of Rising 8: 8; of Falling 9: 9.
abbrev pub guess_of : Guess → ℕ
guess_of (Rising x) = x
guess_of (Falling x) = x

-- The two loops reach this guess from the first one in n iterations; step x y says that y is a result of the step at x.
-- Examples: the fourth root of 130321 from 16: 16 after none; 19 after one, rising and then falling; never 18.
pub data IsReached (step : ℕ → ℕ → Type 0) (first : ℕ) : Guess → ℕ → Type 0 where
  begins : IsReached step first (Rising first) 0
  rises : {x y n : ℕ} → IsReached step first (Rising x) n → step x y → x < y → IsReached step first (Rising y) (n + 1)
  goes_over : {x y n : ℕ} → IsReached step first (Rising x) n → step x y → y ≤ x → IsReached step first (Falling x) n
  falls : {x y n : ℕ} → IsReached step first (Falling x) n → step x y → y < x → IsReached step first (Falling y) (n + 1)

-- Newton's step for the root of a of degree n from the guess x is n - 1 times x, and the quotient of a by the power of
-- x of degree n - 1, divided by n.
-- Examples: 130321, 4, 16: 19; 8, 3, 2: 2; 99, 2, 8: 10.
abbrev pub newton_step : ℕ → ℕ → ℕ → ℕ
newton_step a n x = (a / x ^ (n - 1) + (n - 1) * x) / n
