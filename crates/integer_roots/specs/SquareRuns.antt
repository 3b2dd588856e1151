-- The two loops of a square root by Newton's method, as runs of guesses.
use Rattle.std.specs.Prelude.{◌≡◌, ℕ, ℤ, ◌+◌, ◌/◌, ◌^◌, ◌<◌, ◌≤◌, ◌<ℤ◌, ◌≤ℤ◌, pos, unsigned_abs}
use Rattle.integer_core.specs.Runs.{RunHasIterations}

-- Newton's step for the square root of a from the guess x is (a / x + x) / 2, both quotients rounded down.
-- Examples: 99 from 8: 10; 99 from 10: 9; 16 from 4: 4.
abbrev pub square_step : ℕ → ℕ → ℕ
square_step a x = (a / x + x) / 2

-- A guess is a number and the loop that makes it: guesses rise in the first loop, and fall in the second.
-- Examples: of 99: Rising 8, Rising 10 and Falling 9.
pub data Guess : Type 0 where
  Rising : ℕ → Guess
  Falling : ℕ → Guess

-- The first loop takes a step that rises, and the second takes one that falls, from a guess of either loop.
-- Examples: of 99: Rising 8 to Rising 10; Rising 10 to Falling 9; none from Falling 9.
abbrev pub IsNewtonIteration : ℕ → Guess → Guess → Type 0
IsNewtonIteration a (Rising x) (Rising y) = (x < y) × (y ≡ square_step a x)
IsNewtonIteration a (Rising x) (Falling y) = (y < x) × (y ≡ square_step a x)
IsNewtonIteration a (Falling x) (Falling y) = (y < x) × (y ≡ square_step a x)
IsNewtonIteration a (Falling x) (Rising y) = ⊥

-- The loops end at a rising guess whose step is the same guess, and at a falling guess whose step is not smaller.
-- Examples: of 99: Falling 9; of 16: Rising 4; not of 99: Rising 8.
abbrev pub NewtonEnds : ℕ → Guess → Type 0
NewtonEnds a (Rising x) = square_step a x ≡ x
NewtonEnds a (Falling x) = x ≤ square_step a x

-- top is the place of the highest bit of a, counted from 0.
-- Examples: 99: 6; 16: 4; 1: 0.
pub record IsHighestBit (a top : ℕ) : Type 0 where
  pub power_le : 2 ^ top ≤ a
  pub next_power_gt : a < 2 ^ (top + 1)

-- The first guess is 2 to the power of half of top + 1, rounded down.
-- Examples: 6: 8; 5: 8; 4: 4.
abbrev pub first_guess : ℕ → ℕ
first_guess top = 2 ^ ((top + 1) / 2)

-- The two loops make n iterations from the first guess for the square root of a.
-- Examples: 99: 2, by 8, 10, 9; 15: 1, by 4, 3; 16: 0.
pub record MakesNewtonRun (a n : ℕ) : Type 0 where
  pub top : ℕ
  pub highest : IsHighestBit a top
  pub run : RunHasIterations (IsNewtonIteration a) (NewtonEnds a) (Rising (first_guess top)) n

-- The number of iterations is 0 for x below 4, and otherwise that of the run of the two loops.
-- Examples: 99: 2; 15: 1; 3: 0.
pub record AreSquareRootIterations (x : ℤ) (iterations : ℕ) : Type 0 where
  pub below_four : x <ℤ pos 4 → iterations ≡ 0
  pub from_four : pos 4 ≤ℤ x → MakesNewtonRun (unsigned_abs x) iterations
