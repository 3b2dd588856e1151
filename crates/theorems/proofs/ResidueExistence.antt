-- That there is a residue, a quotient, a class, a next solution and a count.
use Rattle.modular.proofs.Common.{◌≡◌, ◌<ℤ◌, ◌+ℤ◌, ◌-ℤ◌, ◌*ℤ◌, ◌∷◌, ℤ, pos, neg_ℤ, int_div, List, [], arith, inl, inr, refl, by_lt_z, All, All-cons, All-head, All-nil, All-tail, Divides, Divides_trans, bezout_answer_exists, comm, division_exists, expand, gcd_exists, linear, products, AreCongruent, IsCountOfCongruent, IsInverse, IsLeastFrom, IsNextCommonSolution, IsNextCongruent, IsPreviousCongruent, IsQuotientModulo, IsReducedModulus, IsResidueClass, IsTimesToReach, LiesBelow, Solves, SolvesBothCongruences, SolvesEach}
use Rattle.modular.specs.declared.congruent_numbers.Congruence.{Congruence}
use Rattle.modular.proofs.CommonSolutions.{reached_by_next, reached_by_quotient}
use Rattle.modular.proofs.Congruences.{congruent_by, divides_congruent, reduced_modulus_positive, residue_exists, zero_difference}
use Rattle.modular.proofs.Counts.{counted_by_times}
use Rattle.modular.proofs.LinearCongruences.{quotient_found, solutions_of}
use Rattle.modular.proofs.NextCongruent.{next_congruent_is, previous_congruent_is}
use Rattle.modular.proofs.TwoCongruences.{both_found, gap_solved}
use Rattle.num_integer.proofs.ForCallers.{zero_or_not}

pub quotient_exists : (a b m inverse : ℤ) → pos 0 <ℤ m → IsInverse b m inverse → (x : ℤ) × IsQuotientModulo a b m x
quotient_exists a b m inverse up h =
    let rest = residue_exists (a *ℤ inverse) up in
    (rest.0, quotient_found h rest.1)

pub reduced_modulus_exists : (a m : ℤ) → (reduced : ℤ) × IsReducedModulus a m reduced
reduced_modulus_exists a m =
    let found = gcd_exists a m in
    (found.1.divides_right.factor, record { common = found.0; greatest = found.1; product = found.1.divides_right.product })

-- ---- the solutions of a congruence

-- a congruence that has a solution has a class of solutions, whose step is the reduced modulus
solutions : {a b m : ℤ} (x : ℤ) → pos 0 <ℤ m → Solves a b m x
    → (first step : ℤ) × (IsResidueClass (Solves a b m) first step × IsReducedModulus a m step)
solutions {a} {b} {m} x up h =
    let bezout = bezout_answer_exists a m in
    let greatest = bezout.3.greatest in
    let divides : Divides bezout.0 b = divides_congruent greatest.divides_right h (Divides_trans greatest.divides_left (record { factor = x; product = refl })) in
    let times : AreCongruent m (a *ℤ bezout.1) bezout.0 = congruent_by (neg_ℤ bezout.2) (simp expand (omega (arith, linear, bezout.3.equation, comm a bezout.1, comm m bezout.2))) in
    let rest = residue_exists (int_div b bezout.0 *ℤ bezout.1) (reduced_modulus_positive up greatest refl) in
    (rest.0, int_div m bezout.0, solutions_of bezout.1 up greatest times divides refl refl rest.1)

pub residue_class_exists : (a b m x : ℤ) → pos 0 <ℤ m → Solves a b m x → (first step : ℤ) × IsResidueClass (Solves a b m) first step
residue_class_exists a b m x up h = let class = solutions x up h in (class.0, class.1, class.2.0)

-- ---- the next and the previous congruent number

pub next_congruent_exists : (from residue modulus : ℤ) → pos 0 <ℤ modulus → (t : ℤ) × IsNextCongruent from residue modulus t
next_congruent_exists from residue modulus up =
    let wait = residue_exists (residue -ℤ from) up in
    (from +ℤ wait.0, next_congruent_is wait.1)

pub previous_congruent_exists : (to residue modulus : ℤ) → pos 0 <ℤ modulus → (t : ℤ) × IsPreviousCongruent to residue modulus t
previous_congruent_exists to residue modulus up =
    let wait = residue_exists (to -ℤ residue) up in
    (to -ℤ wait.0, previous_congruent_is wait.1)

-- ---- how many congruent numbers a range has

times_exist : {start m : ℤ} (from : ℤ) → pos 0 <ℤ m → LiesBelow m start → (k : ℤ) × IsTimesToReach from start m k
times_exist {start} {m} from up below =
    let division = division_exists.1 from m (λ e. omega (arith, linear)) in
    by_lt_z start division.1
    (λ less. (division.0 +ℤ pos 1, reached_by_next below up division.2 less refl))
    (λ most. (division.0, reached_by_quotient below up division.2 (λ less. omega (arith, linear))))

pub count_of_congruent_exists : (from to residue modulus : ℤ) → pos 0 <ℤ modulus → (count : ℤ) × IsCountOfCongruent from to residue modulus count
count_of_congruent_exists from to residue modulus up = by_lt_z to from
    (λ empty. (pos 0, record { items = []; all = λ u far h. omega (arith, linear, h.to_there); counted = refl }))
    (λ ordered.
    let start = residue_exists residue up in
    let last = times_exist to up start.1.below in
    let first = times_exist from up start.1.below in
    let counted = counted_by_times up start.1 (λ less. omega (arith, linear)) last.1 first.1 in
    let rest = residue_exists (to -ℤ residue) up in
    let near = zero_difference rest.1 ((λ e. e), (λ e. e)) in
    elim (zero_or_not rest.0) [
      | inl none ↦ (last.0 -ℤ first.0 +ℤ pos 1, counted.last (near.0 none))
      | inr other ↦ (last.0 -ℤ first.0, counted.other (λ h. other (near.1 h)))
    ])

-- ---- the next number that solves several congruences

next_of_class : {Is : ℤ → Type 0} {first step : ℤ} (from : ℤ) → IsResidueClass Is first step → (t : ℤ) × IsLeastFrom from Is t
next_of_class {first = first} {step = step} from class =
    let next = next_congruent_exists from first step (omega (arith, linear, class.below.from_zero, class.below.below)) in
    (next.0, record { from_there = next.1.from_there; holds = class.no_other next.0 next.1.holds; least = λ u far h. next.1.least u far (class.every u h) })

both_solved : {a m b n : ℤ} (x : ℤ) → pos 0 <ℤ m → pos 0 <ℤ n → SolvesBothCongruences a m b n x
    → (first step : ℤ) × IsResidueClass (SolvesBothCongruences a m b n) first step
both_solved {a} {m} {b} {n} x m_up n_up h =
    let start = residue_exists a m_up in
    let gap = residue_exists (b -ℤ start.0) n_up in
    let solved = gap_solved start.1 gap.1 h in
    let class = solutions {a = m} {b = gap.0} solved.0 n_up solved.2 in
    (start.0 +ℤ m *ℤ class.0, m *ℤ class.1, both_found m_up n_up start.1 gap.1 class.2.0 class.2.1 refl refl refl)

pub next_common_solution_exists : (from a m b n x : ℤ) → pos 0 <ℤ m → pos 0 <ℤ n
    → SolvesBothCongruences a m b n x → (t : ℤ) × IsNextCommonSolution from a m b n t
next_common_solution_exists from a m b n x m_up n_up h = let class = both_solved x m_up n_up h in next_of_class from class.2

abbrev IsPositive : {X : Type 0} → (X → ℤ) → Congruence X → Type 0
IsPositive value c = pos 0 <ℤ value c.modulus

abbrev SolvesOne : {X : Type 0} → (X → ℤ) → ℤ → Congruence X → Type 0
SolvesOne value x c = AreCongruent (value c.modulus) x (value c.residue)

each_solved : {X : Type 0} (value : X → ℤ) (congruences : List (Congruence X)) (x : ℤ)
    → All (IsPositive value) congruences → SolvesEach value congruences x
    → (first step : ℤ) × IsResidueClass (SolvesEach value congruences) first step
each_solved value [] x up h = (
  pos 0,
  pos 1,
  record {
    below = record { from_zero = omega (arith, linear); below = omega (arith, linear) };
    every = λ z k. congruent_by z (omega (arith, products));
    no_other = λ z k. All-nil (SolvesOne value z);
  },
)
each_solved value (c ∷ rest) x up h =
    let head = λ (z : ℤ). All-head (SolvesOne value z) c rest in
    let tail = λ (z : ℤ). All-tail (SolvesOne value z) c rest in
    let known = each_solved value rest x (All-tail (IsPositive value) c rest up) (tail x h) in
    let step_up : pos 0 <ℤ known.1 = omega (arith, linear, known.2.below.from_zero, known.2.below.below) in
    let class = both_solved {a = known.0} {m = known.1} {b = value c.residue} {n = value c.modulus} x step_up (All-head (IsPositive value) c rest up) (record { first = known.2.every x (tail x h); second = head x h }) in (
      class.0,
      class.1,
      record {
        below = class.2.below;
        every = λ z k. class.2.every z (record { first = known.2.every z (tail z k); second = head z k });
        no_other = λ z k. let both = class.2.no_other z k in All-cons (SolvesOne value z) c rest both.second (known.2.no_other z both.first);
      },
    )

pub next_solution_of_each_exists : {X : Type 0} (value : X → ℤ) (congruences : List (Congruence X)) (from x : ℤ)
    → All (λ c. pos 0 <ℤ value c.modulus) congruences → SolvesEach value congruences x
    → (t : ℤ) × IsLeastFrom from (SolvesEach value congruences) t
next_solution_of_each_exists value congruences from x up h = let class = each_solved value congruences x up h in next_of_class from class.2
