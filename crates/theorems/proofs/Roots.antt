-- That there are averages and roots, and where a step of Newton's iteration leads.
use Rattle.num_integer.proofs.Common.{◌≡◌, ◌+◌, ◌-◌, ◌^◌, ◌%◌, ◌<◌, ◌≤◌, ◌≢◌, ◌<ℤ◌, ◌≤ℤ◌, ◌+ℤ◌, ℕ, ℤ, zero, suc, pos, neg_ℤ, negsuc, arith, cases_lt, inl, inr, ints, linear, pow-lt-pow_left, products, refl, rules, sizes, unsigned_abs}
use Rattle.integer_roots.proofs.Powers.{floor_root}
use Rattle.integer_roots.proofs.RootGuesses.{IsNewtonStep, newton_below, newton_least}
use Rattle.integer_roots.specs.NewtonRuns.{newton_step}
use Rattle.num_integer.proofs.ForCallers.{even_or_odd, floored_range, power_of_one, power_of_zero}
use Rattle.num_integer.proofs.Laws.{division_exists}
use Rattle.num_integer.specs.Averages.{IsAverageCeil, IsAverageFloor}
use Rattle.num_integer.specs.RootOf.{IsFloorRoot, IsRoot}
use Rattle.std.proofs.Math.Nat.{pow-le-pow_left}

pub average_floor_exists : (a b : ℤ) → (f : ℤ) × IsAverageFloor a b f
average_floor_exists a b =
    let half = division_exists.1 (a +ℤ b) (pos 2) (λ e. omega (arith, ints)) in
    let range = floored_range (omega (arith, ints)) half.2 in
    (half.0, record { double_le = omega (arith, products, half.2.division.equation, range.0); next_double_gt = omega (arith, products, half.2.division.equation, range.1) })

pub average_ceil_exists : (a b : ℤ) → (c : ℤ) × IsAverageCeil a b c
average_ceil_exists a b =
    let half = division_exists.1 (a +ℤ b +ℤ pos 1) (pos 2) (λ e. omega (arith, ints)) in
    let range = floored_range (omega (arith, ints)) half.2 in
    (half.0, record { previous_double_lt = omega (arith, products, half.2.division.equation, range.0); double_ge = omega (arith, products, half.2.division.equation, range.1) })

-- ---- roots

natural_root : (a n : ℕ) → 0 < n → (r : ℕ) × ((r ^ n ≤ a) × (a < (r + 1) ^ n))
natural_root zero n up = (0, (omega (arith, power_of_zero n up), omega (arith, power_of_one n)))
natural_root (suc a) n up =
    let known = natural_root a n up in
    elim (cases_lt (suc a) ((known.0 + 1) ^ n)) [
      | inl less ↦ (known.0, (omega (arith, known.1.0), less))
      | inr reached ↦ (known.0 + 1, (reached, omega (arith, known.1.1, pow-lt-pow_left {a = known.0 + 1} {b = known.0 + 1 + 1} {n = n} (omega arith) (omega arith))))
    ]

floor_root_exists : (a n : ℕ) → 0 < n → (r : ℕ) × IsFloorRoot (pos a) n (pos r)
floor_root_exists a n up = let found = natural_root a n up in (found.0, floor_root found.1.0 found.1.1)

pub root_exists : (x : ℤ) (n : ℕ) → n ≢ 0 → (n % 2 ≡ 0 → pos 0 ≤ℤ x) → (r : ℤ) × IsRoot x n r
root_exists (pos a) n degree even =
    let found = floor_root_exists a n (omega (arith, degree)) in
    (pos found.0, record { from_zero = λ up. found.1; below_zero = λ below. absurd (omega (arith, ints)) })
root_exists (negsuc a) n degree even =
    let found = floor_root_exists (suc a) n (omega (arith, degree)) in
    let odd : n % 2 ≡ 1 = elim (even_or_odd n) [ inl h ↦ absurd (omega (arith, ints, even h)) | inr h ↦ h ] in
    let twice : neg_ℤ (neg_ℤ (pos found.0)) ≡ pos found.0 = omega (arith, linear) in
    (neg_ℤ (pos found.0), record { from_zero = λ up. absurd (omega (arith, ints)); below_zero = λ below. (odd, rw twice found.1) })

-- ---- a step of Newton's iteration

step_from : (a n x : ℕ) → 0 < n → 0 < x → IsNewtonStep a n x (newton_step a n x)
step_from a n x degree up = record { m = n - 1; degree = omega arith; positive = up; is = refl }

pub newton_step_never_below_root : (a n x r : ℕ) → 0 < n → 0 < x → IsFloorRoot (pos a) n (pos r) → r ≤ newton_step a n x
newton_step_never_below_root a n x r degree up root = newton_least r (step_from a n x degree up) (omega (arith, ints, root.power_le))

pub newton_step_below_guess_above_root : (a n x r : ℕ) → 0 < n → r < x → IsFloorRoot (pos a) n (pos r) → newton_step a n x < x
newton_step_below_guess_above_root a n x r degree above root =
    let next : a < (r + 1) ^ n = omega (arith, ints, root.next_power_gt) in
    let power : (r + 1) ^ n ≤ x ^ n = pow-le-pow_left (omega arith) n in
    omega (arith, newton_below 1 (step_from a n x degree (omega arith)) (omega arith) (omega arith))
