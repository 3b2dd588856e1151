-- The guesses of a square root's two loops: how near the root each iteration brings them, and that five iterations are enough.
use Rattle.integer_roots.proofs.Common.{◌≡◌, ◌+◌, ◌-◌, ◌*◌, ◌/◌, ◌^◌, ◌<◌, ◌≤◌, ◌∷◌, ◌%◌, pos, ℕ, zero, suc, List, ◌∙◌, arith, refl, add-one, mul-le-mul, mul-le-mul_left, mul-le-mul_right, le_of_mul-le-mul_right, mul-pos, div-mul-le_self, div-lt_iff_lt-mul, le_trans, pow-add, pow_mono, lt_of_not-le, one_shl, IsRun, Reaches, reaches_first, reaches_iteration, reaches_instead, reaches_last, square_step, Guess, Rising, Falling, IsNewtonIteration, NewtonEnds, IsHighestBit, first_guess, AreSquareRootIterations, guess_of, IsReached, begins, rises, goes_over, falls}
use Rattle.integer_roots.proofs.RootGuesses.{cross, square_step_is, IsStart, start, in_range}
use Rattle.integer_roots.proofs.Powers.{power_two}

-- the factor after a number of iterations: that factor, times the excess of the guess's square over a, is at most a
abbrev pub closeness : ℕ → ℕ
closeness zero = 1
closeness (suc zero) = 8
closeness (suc (suc iterations)) = 4 * closeness (suc iterations) * closeness (suc iterations)

-- what is known of the guess x for the root of a after a number of iterations
pub record IsNear (a x iterations : ℕ) : Type 0 where
  pub near : closeness iterations * (x * x) ≤ (closeness iterations + 1) * a
  pub high_at_first : iterations ≡ 0 → a ≤ 2 * (x * x)
  pub bound : iterations ≤ 5

-- a step y from the guess x, multiplied out and squared
squared_step : (a x y k m : ℕ) → 0 < x → 2 * y ≤ a / x + x → k * ((a + x * x) * (a + x * x)) ≤ m * (a * (x * x))
    → 4 * k * (y * y) ≤ m * a
squared_step a x y k m positive h bound =
    let times : 2 * (x * y) ≤ a + x * x = omega (arith, mul-le-mul_left x h, div-mul-le_self a x) in
    le_of_mul-le-mul_right {m = 4 * k * (y * y)} {n = m * a} {k = x * x}
    (omega (arith, mul-le-mul_left k (mul-le-mul times times), bound)) (mul-pos positive positive)

-- of a number s that is d above a, where k times d is at most a
near_squares : (a d s k : ℕ) → s ≡ a + d → k * s ≤ (k + 1) * a → k * k * ((a + s) * (a + s)) ≤ (4 * k * k + 1) * (a * s)
near_squares a d s k is near =
    let h : k * d ≤ a = (let f = rw is at near in omega arith) in
    rw is (omega (arith, mul-le-mul h h))

near_next : (a x y iterations : ℕ) → 0 < x → IsNear a x iterations → 2 * y ≤ a / x + x → (0 < iterations → a < x * x)
    → closeness (iterations + 1) * (y * y) ≤ (closeness (iterations + 1) + 1) * a
near_next a x y zero positive near h above =
    let low : x * x ≤ 2 * a = omega (arith, near.near) in
    squared_step a x y 2 9 positive h
    (omega (arith, cross (x * x) (2 * a) a (2 * (x * x)) low (near.high_at_first refl)))
near_next a x y (suc iterations) positive near h above =
    let k : ℕ = closeness (suc iterations) in
    let apart : x * x ≡ a + (x * x - a) = omega (arith, above (omega arith)) in
    let bound = near_squares a (x * x - a) (x * x) k apart near.near in
    rw add-one (omega (arith, squared_step a x y (k * k) (4 * k * k + 1) positive h bound))

-- each iteration after the first one falls
near_after_iteration : (a x y iterations : ℕ) → 0 < x → IsNear a x iterations → y ≡ square_step a x → a < 2 ^ 64 → (0 < iterations → y < x) → IsNear a y (iterations + 1)
near_after_iteration a x y iterations positive near is fits down =
    let above : (0 < iterations → a < x * x) = λ h. (div-lt_iff_lt-mul positive).0 (let f = down h in omega arith) in
    let few : iterations < 5 = lt_of_not-le (λ h.
    let five : iterations ≡ 5 = omega (arith, near.bound) in
    omega (arith, above (omega arith), rw five at near.near)) in
    record { near = near_next a x y iterations positive near (omega arith) above; high_at_first = λ e. absurd (omega arith); bound = omega arith }

rise_cases : (x e y q a : ℕ) → y ≡ x + e + 1 → a < q * x + x → q + x ≤ 2 * y + 1 → (y + 2) * y ≤ a → ⊥
rise_cases x e y q a is lt le big = omega (arith, mul-le-mul_right {m = q + 1} {n = x + 2 * e + 4} x (omega arith), rw is at big)

-- the first loop makes one iteration at most
rise_once : (a x y : ℕ) → 0 < x → y ≡ square_step a x → x < y → square_step a y ≤ y
rise_once a x y positive is up =
    let settled = lt_of_not-le {n = y + 1} {m = square_step a y} (λ lt.
    rise_cases x (y - x - 1) y (a / x) a (omega arith) (omega arith) (omega arith)
    (le_trans (mul-le-mul_right y (omega arith)) (div-mul-le_self a y))) in
    omega (arith, settled)

-- the steps of the loops
abbrev pub IsSquareStep : ℕ → ℕ → ℕ → Type 0
IsSquareStep a x y = y ≡ square_step a x

-- the number a whose root the loops find, and their first guess
pub record IsSquareStart (a first : ℕ) : Type 0 where
  pub start : IsStart (IsSquareStep a) a 2 (2 ^ 32) first
  pub top : ℕ
  pub highest : IsHighestBit a top
  pub is : first ≡ first_guess top

pub square_start : (a top : ℕ) → 4 ≤ a → a < 2 ^ 64 → top < 64 → 2 ^ top ≤ a → a < 2 * 2 ^ top → IsSquareStart a (1 * first_guess top % 2 ^ 64)
square_start a top least fits small low high =
    let highest : IsHighestBit a top = record { power_le = low; next_power_gt = omega (arith, pow-add 2 top 1) } in
    record {
      start = start top ((top + 1) / 2) (λ x y is. is ∙ square_step_is a x) (omega arith) least small (omega arith, omega arith) low high fits;
      top = top;
      highest = highest;
      is = one_shl _ 64 (omega arith);
    }

-- the square of the first guess is from half of a up to twice a
near_at_first : {a first : ℕ} → IsSquareStart a first → IsNear a first 0
near_at_first {first = first} s =
    let k : ℕ = (s.top + 1) / 2 in
    let square : first * first ≡ 2 ^ (k + k) = rw (s.is, pow-add) refl in
    record {
      near = omega (arith, pow_mono {i = k + k} {j = s.top + 1} (omega arith), pow-add 2 s.top 1, s.highest.power_le);
      high_at_first = λ e. omega (arith, s.start.near, power_two first);
      bound = omega arith;
    }

-- if the step does not rise, a run from a falling guess is one from the same guess, rising
settled_run : (a x : ℕ) (rest : List Guess) → square_step a x ≤ x
    → IsRun (IsNewtonIteration a) (NewtonEnds a) (Falling x ∷ rest) → IsRun (IsNewtonIteration a) (NewtonEnds a) (Rising x ∷ rest)
settled_run a x rest le run = grind arith

-- each guess that the loops reach is reached by the iterations of a run
run_to : (a : ℕ) {first iterations : ℕ} {guess : Guess} → IsReached (IsSquareStep a) first guess iterations
    → Reaches (IsNewtonIteration a) (NewtonEnds a) (Rising first) guess iterations
run_to a begins = reaches_first
run_to a (rises reached is up) = reaches_iteration (run_to a reached) (up, is)
run_to a (goes_over {x} reached is down) =
    reaches_instead (run_to a reached) (λ m h. record { rest = h.rest; run = settled_run a x h.rest (omega arith) h.run; iterations = h.iterations })
run_to a (falls reached is down) = reaches_iteration (run_to a reached) (down, is)

module _ {a first : ℕ} (known : IsSquareStart a first) where
  positive : {guess : Guess} {iterations : ℕ} → IsReached (IsSquareStep a) first guess iterations → 0 < guess_of guess
  positive reached = omega (arith, (in_range known.start reached).above_one)

  -- the first loop makes one iteration at most
  rises_once : {x iterations : ℕ} → IsReached (IsSquareStep a) first (Rising x) iterations → 0 < iterations → square_step a x ≤ x
  rises_once begins h = absurd (omega arith)
  rises_once (rises {x} {y} reached is up) h = rise_once a x y (positive reached) is up

  -- each guess that the loops reach is near the root
  pub near_root : {guess : Guess} {iterations : ℕ} → IsReached (IsSquareStep a) first guess iterations → IsNear a (guess_of guess) iterations
  near_root begins = near_at_first known
  near_root (rises {x} {y} reached is up) =
      near_after_iteration a x y _ (positive reached) (near_root reached) is known.start.limited (λ h. absurd (omega (arith, rises_once reached h)))
  near_root (goes_over reached is down) = near_root reached
  near_root (falls {x} {y} reached is down) = near_after_iteration a x y _ (positive reached) (near_root reached) is known.start.limited (λ h. down)

  -- at their end, their iterations are those of the run
  pub iterations_of_run : {x iterations : ℕ} → IsReached (IsSquareStep a) first (Falling x) iterations → (next : ℕ) × IsSquareStep a x next × (x ≤ next)
      → AreSquareRootIterations (pos a) iterations
  iterations_of_run reached (next, is, up) = grind (arith, reaches_last, run_to)
