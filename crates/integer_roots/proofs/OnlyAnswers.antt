-- Each answer is the only number that meets its definition.
use Rattle.integer_roots.proofs.Common.{◌≡◌, ℤ, pos, ℕ, arith, sym, ◌∙◌, ints, by_lt_z, IsOnly, linear, products, only_iterations, IsAverageFloor, IsAverageCeil, IsFloorRoot, IsRoot, Guess, IsNewtonIteration, NewtonEnds, MakesNewtonRun, AreSquareRootIterations}
use Rattle.integer_roots.proofs.Powers.{base_below, highest_bit}

pub average_floor_is_only : (a b f : ℤ) → IsAverageFloor a b f → IsOnly (IsAverageFloor a b) f
average_floor_is_only a b f h g k = omega (arith, products, h.double_le, h.next_double_gt, k.double_le, k.next_double_gt)

pub average_ceil_is_only : (a b c : ℤ) → IsAverageCeil a b c → IsOnly (IsAverageCeil a b) c
average_ceil_is_only a b c h d k = omega (arith, products, h.previous_double_lt, h.double_ge, k.previous_double_lt, k.double_ge)

floor_root_is_only_one : {x r : ℤ} {n : ℕ} → IsFloorRoot x n r → IsOnly (IsFloorRoot x n) r
floor_root_is_only_one h s k = grind (arith, ints, base_below)

pub root_is_only_one : {x r : ℤ} {n : ℕ} → IsRoot x n r → IsOnly (IsRoot x n) r
root_is_only_one {x} h s k = by_lt_z x (pos 0)
    (λ below. omega (arith, linear, floor_root_is_only_one (h.below_zero below).1 _ (k.below_zero below).1))
    (λ up. floor_root_is_only_one (h.from_zero up) _ (k.from_zero up))

-- a state has at most one iteration, and no iteration if the run ends at it
one_iteration : (a : ℕ) (s t : Guess) → IsNewtonIteration a s t → IsOnly (IsNewtonIteration a s) t
one_iteration a s t h u k = grind arith

no_iteration : (a : ℕ) (s t : Guess) → NewtonEnds a s → ¬ (IsNewtonIteration a s t)
no_iteration a s t h k = grind arith

one_count : {a m n : ℕ} → MakesNewtonRun a m → MakesNewtonRun a n → m ≡ n
one_count {a} {m} h k =
    let same : h.top ≡ k.top =
    omega (arith, highest_bit a _ _ h.highest.power_le k.highest.next_power_gt, highest_bit a _ _ k.highest.power_le h.highest.next_power_gt) in
    only_iterations (one_iteration a) (no_iteration a) k.run m (rw same at h.run)

pub square_root_iterations_are_only : (x : ℤ) (n : ℕ) → AreSquareRootIterations x n → IsOnly (AreSquareRootIterations x) n
square_root_iterations_are_only x n h m k = by_lt_z x (pos 4)
    (λ below. k.below_four below ∙ sym (h.below_four below))
    (λ up. one_count (k.from_four up) (h.from_four up))
