-- Two congruences at once: where a class of solutions of one meets the other. The numbers are start + m·times, where start is a modulo m,
-- and m·times solves the gap b - start modulo n.
use Rattle.modular.proofs.Common.{◌≡◌, ◌≤ℤ◌, ◌<ℤ◌, ◌+ℤ◌, ◌-ℤ◌, ◌*ℤ◌, ◌∙◌, ℤ, pos, arith, ap, inl, refl, IsLeastCommonMultiple, IsLeastFrom, EachFits, IsRange, expand, linear, multiples_apart, product_from_zero, sizes, within_fits, AreCongruent, IsNextCommonSolution, IsReducedModulus, IsResidue, IsResidueClass, Solves, SolvesBothCongruences, LiesBelow, lcm-product, products}
use Rattle.modular.proofs.Congruences.{congruent_difference, congruent_divisor, congruent_refl, congruent_sum, congruent_sym, congruent_trans, congruent_by}
use Rattle.modular.proofs.BelowModulus.{below_fits}

-- A modulus times the reduced one is the least common multiple.
pub lcm_by_reduced_modulus : {m n s : ℤ} → pos 0 <ℤ m → pos 0 <ℤ n → IsReducedModulus m n s → IsLeastCommonMultiple m n (m *ℤ s)
lcm_by_reduced_modulus {m} {n} {s} m_up n_up step =
    let positive = product_from_zero m n (omega (arith, linear)) (omega (arith, linear)) in
    let parts : m *ℤ n ≡ step.common *ℤ (m *ℤ s) = ap (λ (t : ℤ). m *ℤ t) step.product ∙ simp expand refl in
    lcm-product step.greatest (λ e. omega (arith, linear)) (omega (arith, sizes))

-- if m·times solves the gap, start + m·times solves both
pub both_by_gap : {a m b n start gap x : ℤ} (times : ℤ) → AreCongruent m a start
    → AreCongruent n (b -ℤ start) gap → x ≡ start +ℤ m *ℤ times → Solves m gap n times
    → SolvesBothCongruences a m b n x
both_by_gap {b = b} {start = start} times at_start at_gap is h =
    let whole : start +ℤ (b -ℤ start) ≡ b = omega (arith, linear) in
    record {
      first = congruent_trans (congruent_by times (omega (arith, linear))) (congruent_sym at_start);
      second = rw is (rw whole at (congruent_sum (congruent_refl start) (congruent_trans h (congruent_sym at_gap))));
    }

-- a number that solves both is start + m·k, and m·k solves the gap
pub gap_solved : {a m b n start gap x : ℤ} → IsResidue m a start → IsResidue n (b -ℤ start) gap
    → SolvesBothCongruences a m b n x → (k : ℤ) × (x -ℤ start ≡ m *ℤ k) × Solves m gap n k
gap_solved {start = start} at_start at_gap h =
    let times = (congruent_trans h.first at_start.congruent).divides in
    let near = congruent_trans (congruent_difference h.second (congruent_refl start)) at_gap.congruent in
    (times.factor, times.product, rw times.product at near)

-- if the gap has no solution, no number solves both
pub none_solves_both : {a m b n start gap : ℤ} → IsResidue m a start → IsResidue n (b -ℤ start) gap
    → ((k : ℤ) → ¬ (Solves m gap n k)) → (x : ℤ) → ¬ (SolvesBothCongruences a m b n x)
none_solves_both at_start at_gap none x h = let solved = gap_solved at_start at_gap h in none solved.0 solved.2

-- the first number that solves both is below the modulus times the step
first_is_below : {a start m times step : ℤ} → pos 0 <ℤ m → IsResidue m a start → LiesBelow step times
    → (pos 0 ≤ℤ (m *ℤ times)) × LiesBelow (m *ℤ step) (start +ℤ m *ℤ times)
first_is_below {m = m} {times = times} {step = step} up rest below =
    let from_zero = product_from_zero m times (omega (arith, linear)) below.from_zero in
    let apart = multiples_apart times step m up below.below in
    (from_zero, record { from_zero = omega (arith, linear, rest.below.from_zero); below = omega (arith, products, rest.below.below) })

-- The least common multiple fits if it does wherever a number solves both, since start + m·times does.
pub fits_where_found : {fits : ℤ → Type 0} {a m b n start gap times s : ℤ}
    → ((x : ℤ) → SolvesBothCongruences a m b n x → EachFits fits (IsLeastCommonMultiple m n))
    → IsResidue m a start → IsResidue n (b -ℤ start) gap
    → IsResidueClass (Solves m gap n) times s → EachFits fits (IsLeastCommonMultiple m n)
fits_where_found {times = times} lcm_fits at_start at_gap solutions =
    lcm_fits _ (both_by_gap times at_start.congruent at_gap.congruent refl (solutions.no_other times (congruent_refl times)))

-- then that number fits too, and so do both products
pub both_fit : {fits : ℤ → Type 0} {low high a m gap n start times s : ℤ} → IsRange fits low high
    → EachFits fits (IsLeastCommonMultiple m n) → pos 0 <ℤ m → pos 0 <ℤ n → IsResidue m a start
    → IsResidueClass (Solves m gap n) times s → IsReducedModulus m n s → fits (m *ℤ times) × fits (start +ℤ m *ℤ times) × fits (m *ℤ s)
both_fit range lcm_fits m_up n_up rest solutions step =
    let lcm = lcm_fits _ (lcm_by_reduced_modulus m_up n_up step) in
    let first = first_is_below m_up rest solutions.below in
    (within_fits range lcm (inl (first.0, omega (arith, linear, first.1.below, rest.below.from_zero))), below_fits range lcm first.1, lcm)

-- the numbers that solve both congruences are those congruent modulo the least common multiple
pub both_found : {a m b n start gap times s p x l : ℤ} → pos 0 <ℤ m → pos 0 <ℤ n → IsResidue m a start
    → IsResidue n (b -ℤ start) gap → IsResidueClass (Solves m gap n) times s → IsReducedModulus m n s
    → p ≡ m *ℤ times → x ≡ start +ℤ p → l ≡ m *ℤ s → IsResidueClass (SolvesBothCongruences a m b n) x l
both_found {m = m} {n = n} {times = times} {l = l} m_up n_up at_start at_gap solutions step p_is x_is l_is =
    let least : IsLeastCommonMultiple m n l = rw l_is (lcm_by_reduced_modulus m_up n_up step) in
    let both = both_by_gap times at_start.congruent at_gap.congruent (rw p_is at x_is) (solutions.no_other times (congruent_refl times)) in
    record {
      below = rw (x_is, p_is, l_is) (first_is_below m_up at_start solutions.below).1;
      every = λ z k. record { divides = least.least _ (congruent_trans k.first (congruent_sym both.first)).divides (congruent_trans k.second (congruent_sym both.second)).divides };
      no_other = λ z k. record {
        first = congruent_trans (congruent_divisor least.left_divides k) both.first;
        second = congruent_trans (congruent_divisor least.right_divides k) both.second;
      };
    }

-- What solves the class of the solutions and one more congruence solves all.
pub next_of_class_and : {Has : ℤ → Type 0} {first step from a m t : ℤ} → IsResidueClass Has first step
    → IsNextCommonSolution from first step a m t → IsLeastFrom from (λ x. Has x × AreCongruent m x a) t
next_of_class_and {t = t} class next = grind arith

pub none_of_class_and : {Has : ℤ → Type 0} {first step a m : ℤ} → IsResidueClass Has first step
    → ((x : ℤ) → ¬ (SolvesBothCongruences first step a m x)) → (x : ℤ) → ¬ (Has x × AreCongruent m x a)
none_of_class_and class none x h = none x (record { first = class.every x h.0; second = h.1 })
