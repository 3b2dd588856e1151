-- Several congruences: if every two of them agree, they have a common solution, and all their solutions are congruent.
use Rattle.modular.proofs.Common.{◌≡◌, ◌<◌, ◌+◌, ◌≤ℤ◌, ◌<ℤ◌, ◌+ℤ◌, ◌-ℤ◌, ◌*ℤ◌, ◌∷◌, ◌∙◌, ℤ, ℕ, pos, neg_ℤ, unsigned_abs, List, [], length, Option, Some, None, MatchOption, All, arith, ap, get_or, refl, subst, sym, take, All-cons, All-head, All-nil, All-tail, FitsWith, IsRange, Divides, IsGreatestCommonDivisor, IsLeastCommonMultiple, IsLeastFrom, Divides_cancel, Divides_sum, Divides_times, Divides_trans, comm, expand, gcd_nonzero, lcm_positive, linear, only_gcd, products, sizes, bezout_answer_exists, gcd_exists, gcd_times_lcm, lcm_exists, CommonSolution, Never, Beyond, At, MatchCommonSolution, Agree, AgreeInPairs, AgreesWithEach, AreCongruent, IsNextCongruent, IsResidueClass, IsSystem, SolvesBothCongruences, SolvesEachItem, divides_multiple, magnitude_divides}
use Rattle.modular.proofs.ListedItems.{at_item, one_item_more}
use Rattle.modular.proofs.Congruences.{congruent_divisor, congruent_refl, congruent_sym, congruent_trans, congruent_by, divides_product, residue_exists}
use Rattle.modular.proofs.NextCongruent.{next_congruent_is}

-- ---- two congruences that agree

-- what the gcds of m and of n with k divide, the gcd of their least common multiple with k divides
divides_of_gcds : {m n k l z c d g : ℤ} → pos 0 <ℤ n → IsGreatestCommonDivisor m k c → IsGreatestCommonDivisor n k d → IsLeastCommonMultiple m n l
    → Divides c z → Divides d z → Divides g l → Divides g k → Divides g z
divides_of_gcds {m} {n} {l = l} {z = z} n_up at_m at_n least by_m by_n g_l g_k =
    let bezout = bezout_answer_exists m n in
    let h = bezout.3.greatest in
    let whole = Divides_trans (rw (gcd_times_lcm m n bezout.0 l h least) at (Divides_times bezout.0 g_l)) (magnitude_divides (m *ℤ n)) in
    let at_left = Divides_trans (divides_multiple m at_n whole (divides_product h.divides_left g_k)) (Divides_times m by_n) in
    let at_right = Divides_trans (divides_multiple n at_m (rw (comm m n) at whole) (divides_product h.divides_right g_k)) (Divides_times n by_m) in
    let split : bezout.1 *ℤ (m *ℤ z) +ℤ bezout.2 *ℤ (n *ℤ z) ≡ (bezout.1 *ℤ m +ℤ bezout.2 *ℤ n) *ℤ z = simp expand refl in
    let is = split ∙ ap (λ (t : ℤ). t *ℤ z) bezout.3.equation in
    Divides_cancel bezout.0 (gcd_nonzero h (λ none. omega (arith, linear))) (rw is at (Divides_sum bezout.1 bezout.2 at_left at_right))

-- Two congruences that agree have a common solution, and those that have one agree.
pub solution_of_two : {a m b n : ℤ} → Agree a m b n → (x : ℤ) × SolvesBothCongruences a m b n x
solution_of_two {a} {m} {b} {n} h =
    let bezout = bezout_answer_exists m n in
    let near = (h.congruent bezout.0 bezout.3.greatest).divides in
    let j : ℤ = bezout.1 *ℤ near.factor in
    let k : ℤ = bezout.2 *ℤ near.factor in
    let split : (bezout.1 *ℤ m +ℤ bezout.2 *ℤ n) *ℤ near.factor ≡ m *ℤ j +ℤ n *ℤ k = simp expand refl in
    let gap = near.product ∙ ap (λ (t : ℤ). t *ℤ near.factor) (sym bezout.3.equation) ∙ split in
    (a -ℤ m *ℤ j, record { first = congruent_by (neg_ℤ j) (simp expand (omega (arith, linear))); second = congruent_by k (omega (arith, linear)) })

pub solved_agree : {a m b n x : ℤ} → AreCongruent m x a → AreCongruent n x b → Agree a m b n
solved_agree h k = record { congruent = λ g common. congruent_trans (congruent_sym (congruent_divisor common.divides_left h)) (congruent_divisor common.divides_right k) }

-- numbers that are congruent modulo the gcd agree
pub agree_at_gcd : {a m b n g : ℤ} → IsGreatestCommonDivisor m n g → AreCongruent g a b → Agree a m b n
agree_at_gcd h near = record { congruent = λ k other. rw (only_gcd h other) at near }

-- a congruence that agrees with two agrees with both at once
merged_agree : {a m b n e k x l : ℤ} → pos 0 <ℤ n → SolvesBothCongruences a m b n x
    → IsLeastCommonMultiple m n l → Agree a m e k → Agree b n e k → Agree x l e k
merged_agree {m = m} {n = n} {k = k} n_up both least left right = record {
  congruent = λ g h.
      let at_m = gcd_exists m k in
      let at_n = gcd_exists n k in
      let by_m = congruent_trans (congruent_divisor at_m.1.divides_left both.first) (left.congruent at_m.0 at_m.1) in
      let by_n = congruent_trans (congruent_divisor at_n.1.divides_left both.second) (right.congruent at_n.0 at_n.1) in
      record { divides = divides_of_gcds n_up at_m.1 at_n.1 least by_m.divides by_n.divides h.divides_left h.divides_right };
}

-- ---- the numbers that solve congruences, as a class

-- each number with the first property is congruent to `first` modulo `step`, and each such number has the second property
pub record Narrowed (Each Some : ℤ → Type 0) (first step : ℤ) : Type 0 where
  pub positive : pos 0 <ℤ step
  pub every : (x : ℤ) → Each x → AreCongruent step x first
  pub no_other : (x : ℤ) → AreCongruent step x first → Some x

pub narrowed_by_one : {Each Some : ℤ → Type 0} {first step : ℤ} → step ≡ pos 1 → ((x : ℤ) → Some x) → Narrowed Each Some first step
narrowed_by_one {first = first} one all = record {
  positive = omega (arith, linear);
  every = λ x each. congruent_by (x -ℤ first) (rw one (omega (arith, products)));
  no_other = λ x near. all x;
}

-- the next number of the class is the least one with the property
least_by_next : {Is : ℤ → Type 0} {first step from t : ℤ} → Narrowed Is Is first step → IsNextCongruent from first step t → IsLeastFrom from Is t
least_by_next h next = record { from_there = next.from_there; holds = h.no_other _ next.holds; least = λ u far is. next.least u far (h.every u is) }

-- ---- several congruences

module _ {C : Type 0} (residue modulus : C → ℤ) where
  abbrev pub IsInRange : (ℤ → Type 0) → C → Type 0
  IsInRange fits c = fits (residue c) × fits (modulus c)

  abbrev pub IsPositive : C → Type 0
  IsPositive c = pos 0 <ℤ modulus c

  abbrev pub AgreesAt : ℤ → ℤ → C → Type 0
  AgreesAt a m c = Agree a m (residue c) (modulus c)

  abbrev pub SolvesAt : ℤ → C → Type 0
  SolvesAt x c = AreCongruent (modulus c) x (residue c)

  -- what is required of all pairs, of the one at an index
  pub pair_at : (fits : ℤ → Type 0) (pairs : List C) (i : ℕ) {x : C} → x ≡ get_or pairs i x → i < length pairs
      → IsSystem fits residue modulus pairs → IsInRange fits x × IsPositive x
  pair_at fits pairs i is within system = (at_item (IsInRange fits) pairs i is within system.0, at_item IsPositive pairs i is within system.1)

  -- what is required of the first pair, and of the others
  pub split_system : (fits : ℤ → Type 0) {c : C} {cs pairs : List C} → pairs ≡ c ∷ cs
      → IsSystem fits residue modulus pairs
      → (IsInRange fits c × IsPositive c) × IsSystem fits residue modulus cs
  split_system fits {c} {cs} split system =
      let whole = subst (IsSystem fits residue modulus) split system in
      ((All-head (IsInRange fits) c cs whole.0, All-head IsPositive c cs whole.1), (All-tail (IsInRange fits) c cs whole.0, All-tail IsPositive c cs whole.1))

  pub common_with : (cs : List C) {a m : ℤ} → pos 0 <ℤ m → All IsPositive cs
      → AgreesWithEach residue modulus a m cs → AgreeInPairs residue modulus cs
      → (x : ℤ) × AreCongruent m x a × SolvesEachItem residue modulus cs x
  common_with [] {a} {m} up positive agrees pairs = (a, congruent_refl a, All-nil (SolvesAt a))
  common_with (c ∷ cs) {a} {m} up positive agrees pairs =
      let c_up = All-head IsPositive c cs positive in
      let both = solution_of_two (All-head (AgreesAt a m) c cs agrees) in
      let least = lcm_exists m (modulus c) in
      let l_up = lcm_positive least.1 (λ e. omega (arith, linear)) (λ e. omega (arith, linear)) in
      let merged : AgreesWithEach residue modulus both.0 least.0 cs = λ k d within. merged_agree c_up both.1 least.1 (All-tail (AgreesAt a m) c cs agrees k d within) (pairs.0 k d within) in
      let rest = common_with cs {a = both.0} {m = least.0} l_up (All-tail IsPositive c cs positive) merged pairs.1 in (
        rest.0,
        congruent_trans (congruent_divisor least.1.left_divides rest.1) both.1.first,
        All-cons (SolvesAt rest.0) c cs (congruent_trans (congruent_divisor least.1.right_divides rest.1) both.1.second) rest.2,
      )

  pub agreeing_have_solution : (cs : List C) → All IsPositive cs → AgreeInPairs residue modulus cs → (x : ℤ) × SolvesEachItem residue modulus cs x
  agreeing_have_solution [] positive pairs = (pos 0, All-nil (SolvesAt (pos 0)))
  agreeing_have_solution (c ∷ cs) positive pairs =
      let rest = common_with cs (All-head IsPositive c cs positive) (All-tail IsPositive c cs positive) pairs.0 pairs.1 in
      (rest.0, All-cons (SolvesAt rest.0) c cs rest.1 rest.2)

  pub first_agrees : {c : C} {cs rest : List C} {x : ℤ} → rest ≡ c ∷ cs
      → SolvesEachItem residue modulus rest x → AgreesWithEach residue modulus (residue c) (modulus c) cs
  first_agrees {c} {cs} {x = x} split each =
      let solved = subst (All (SolvesAt x)) split each in
      λ k d within. solved_agree (All-head (SolvesAt x) c cs solved) (All-tail (SolvesAt x) c cs solved k d within)

  -- a search that found no first pair
  pub no_pairs : {A : Type 0} (P : A → Type 0) (found : Option A) (cs : List C) → ((x : A) → found ≡ Some x → ⊥)
      → MatchOption found (length cs ≡ 0) P → AgreeInPairs residue modulus cs
  no_pairs P None [] other none = tt
  no_pairs P None (c ∷ cs) other none = absurd (omega arith)
  no_pairs P (Some x) cs other none = absurd (other x refl)

  pub period_of_solutions : {x : ℤ} (cs : List C) → All IsPositive cs → SolvesEachItem residue modulus cs x
      → (l : ℤ) × Narrowed (SolvesEachItem residue modulus cs) (SolvesEachItem residue modulus cs) x l
  period_of_solutions {x} [] positive each = (pos 1, narrowed_by_one refl (λ y. All-nil (SolvesAt y)))
  period_of_solutions {x} (c ∷ cs) positive each =
      let up = All-head IsPositive c cs positive in
      let here = All-head (SolvesAt x) c cs each in
      let rest = period_of_solutions cs (All-tail IsPositive c cs positive) (All-tail (SolvesAt x) c cs each) in
      let least = lcm_exists (modulus c) rest.0 in
      let rest_up = rest.1.positive in (
        least.0,
        record {
          positive = lcm_positive least.1 (λ e. omega (arith, linear)) (λ e. omega (arith, linear));
          every = λ y h. record { divides = least.1.least _ (congruent_trans (All-head (SolvesAt y) c cs h) (congruent_sym here)).divides (rest.1.every y (All-tail (SolvesAt y) c cs h)).divides };
          no_other = λ y h. All-cons (SolvesAt y) c cs (congruent_trans (congruent_divisor least.1.left_divides h) here) (rest.1.no_other y (congruent_divisor least.1.right_divides h));
        },
      )

  -- if some number solves each congruence, there is a least one, beyond the type if none in the type does
  pub least_beyond : {fits : ℤ → Type 0} {from : ℤ} (cs : List C) → All IsPositive cs → (x : ℤ) × SolvesEachItem residue modulus cs x
      → ((t : ℤ) → from ≤ℤ t → SolvesEachItem residue modulus cs t → ¬ (fits t))
      → (t : ℤ) × IsLeastFrom from (SolvesEachItem residue modulus cs) t × ¬ (fits t)
  least_beyond {from = from} cs positive solution none =
      let period = (period_of_solutions cs positive solution.1).1 in
      let least = least_by_next period (next_congruent_is (residue_exists (solution.0 -ℤ from) period.positive).1) in
      (_, least, none _ least.from_there least.holds)

-- ---- candidates for the least solution: the numbers of the type that solve two of the congruences

-- a number between two of the type is in the type
between_fits : {fits : ℤ → Type 0} {low high x y z : ℤ} → IsRange fits low high → fits x → fits y → x ≤ℤ z → z ≤ℤ y → fits z
between_fits range x_fits y_fits after before = (range.between _).1 (omega (arith, linear, ((range.between _).0 x_fits).0), omega (arith, linear, ((range.between _).0 y_fits).1))

module _ {Each Both : ℤ → Type 0} {from next : ℤ} (narrows : (x : ℤ) → Each x → Both x) (passed : (x : ℤ) → from ≤ℤ x → Each x → next ≤ℤ x) where
  pub candidate_is_least : {t : ℤ} → from ≤ℤ next → IsLeastFrom next Both t → Each t → IsLeastFrom from Each t
  candidate_is_least onward h each = grind arith

  pub candidate_passed : {t : ℤ} → IsLeastFrom next Both t → ¬ (Each t) → (x : ℤ) → from ≤ℤ x → Each x → (t +ℤ pos 1) ≤ℤ x
  candidate_passed {t} h none x far has =
      let other : ¬ (t ≡ x) = λ e. none (rw (← e) at has) in
      omega (arith, linear, h.least x (passed x far has) (narrows x has))

  -- none after the last number of the type
  pub none_after_last : {fits : ℤ → Type 0} {low high t : ℤ} → IsRange fits low high → fits t
      → IsLeastFrom next Both t → ¬ (Each t) → ¬ (fits (t +ℤ pos 1)) → (x : ℤ) → from ≤ℤ x → Each x
      → ¬ (fits x)
  none_after_last range t_fits h none last x far has x_fits = last (between_fits range t_fits x_fits (omega (arith, linear)) (candidate_passed h none x far has))

  -- none if the next number that solves two of them is not in the type
  pub none_at_end : {X : Type 0} (value : X → ℤ) {fits : ℤ → Type 0} {low high : ℤ} (found : CommonSolution X)
      → IsRange fits low high → fits next → ((t : X) → found ≡ At t → ⊥)
      → MatchCommonSolution found ((x : ℤ) → ¬ (Both x)) ((t : ℤ) × IsLeastFrom next Both t × ¬ (fits t)) (FitsWith fits value (IsLeastFrom next Both))
      → (x : ℤ) → from ≤ℤ x → Each x → ¬ (fits x)
  none_at_end value Never range next_fits other h = λ x far has _. h x (narrows x has)
  none_at_end value Beyond range next_fits other h = λ x far has x_fits. h.2 (between_fits range next_fits x_fits h.1.from_there (h.1.least x (passed x far has) (narrows x has)))
  none_at_end value (At t) range next_fits other h = λ _ _ _ _. other t refl

pub after_candidate : {from next t : ℤ} → from ≤ℤ next → next ≤ℤ t → from ≤ℤ (t +ℤ pos 1)
after_candidate onward further = omega (arith, linear)

-- each candidate is nearer to the last number of the type
pub nearer_to_last : {fits : ℤ → Type 0} {low high next t further : ℤ} → IsRange fits low high → fits further
    → further ≡ t +ℤ pos 1 → next ≤ℤ t → unsigned_abs (high -ℤ further) < unsigned_abs (high -ℤ next)
nearer_to_last range further_fits is onward = omega (arith, sizes, ((range.between _).0 further_fits).1)

-- ---- the class of the numbers that solve the congruences so far

module _ {C : Type 0} (residue modulus : C → ℤ) (congruences : List C) {i : ℕ} {first step : ℤ} (h : Narrowed (SolvesEachItem residue modulus congruences) (SolvesEachItem residue modulus (take i congruences)) first step) where
  pub narrowed_solves : {c : C} → c ≡ get_or congruences i c → i < length congruences → (x : ℤ)
      → SolvesEachItem residue modulus congruences x
      → SolvesBothCongruences first step (residue c) (modulus c) x
  narrowed_solves is within x each = grind arith

  pub narrowed_more : {c : C} {f s : ℤ} → c ≡ get_or congruences i c → i < length congruences
      → IsResidueClass (SolvesBothCongruences first step (residue c) (modulus c)) f s
      → Narrowed (SolvesEachItem residue modulus congruences) (SolvesEachItem residue modulus (take (i + 1) congruences)) f s
  narrowed_more is within class = record {
    positive = omega (arith, linear, class.below.from_zero, class.below.below);
    every = λ x each. class.every x (narrowed_solves is within x each);
    no_other = λ x near.
        let both = class.no_other x near in
        one_item_more (SolvesAt residue modulus x) congruences i is within (h.no_other x both.first) both.second;
  }

pub least_of_class : {Is : ℤ → Type 0} {first step : ℤ} → Narrowed Is Is first step
    → {A : Type 0} (number : A → ℤ) {fits : ℤ → Type 0} {low high from : ℤ} (found : Option A)
    → IsRange fits low high → fits from
    → MatchOption found ((t : ℤ) × IsNextCongruent from first step t × ¬ (fits t)) (FitsWith fits number (IsNextCongruent from first step))
    → MatchOption found ((t : ℤ) → from ≤ℤ t → Is t → ¬ (fits t)) (FitsWith fits number (IsLeastFrom from Is))
least_of_class h number (Some t) range from_fits next = (next.0, least_by_next h next.1)
least_of_class h number None range from_fits next = λ t far is t_fits. next.2 (between_fits range from_fits t_fits next.1.from_there (next.1.least t far (h.every t is)))
