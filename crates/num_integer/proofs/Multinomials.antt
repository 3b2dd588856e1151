-- Multinomials: the product of the coefficients of the running sums, in any order, and the loops over counts.
use Rattle.num_integer.proofs.Common.{◌≡◌, ◌+◌, ◌<◌, ◌≤◌, ◌≤ℤ◌, ◌<ℤ◌, ◌+ℤ◌, ◌*ℤ◌, ◌*◌, ◌-◌, All, AllWithin, swap, ◌∷◌, ℤ, pos, unsigned_abs, List, [], map, sum, length, get_or, drop, ℕ, zero, suc, set, ap, sym, ◌∙◌, arith, refl, subst, inl, inr, zero-add, le-mul_of_pos_right, mul-pos, eq_of_mul-eq-mul_left, cases_eq, ints, unsigned_abs-mul, IsRange, EachFits, at_drop_all, at_drop_more, get_or-set_other, get_or-set_same, length-set, All-from_all_within, AllWithin-more, AllWithin-upto, at_read, products, cancel, fits_below}
use Rattle.std.proofs.lemmas.List.Edits.{swap_is}
use Rattle.std.proofs.lemmas.List.Sorted.{IsPermutation-keeps, IsPermutation-map, sum_by-IsPermutation}
use Rattle.std.proofs.lemmas.List.Sums.{sum_by-cons}
use Rattle.integer_core.proofs.Whole.{product_positive}
use Rattle.num_integer.proofs.Pascal.{coefficient_pos, divides_factorials, factorial_pos, sum_at_most}
use Rattle.num_integer.specs.Coefficient.{factorial, coefficient_of}
use Rattle.num_integer.specs.Laws.{MultinomialIgnoresOrder}
use Rattle.num_integer.specs.Multinomial.{IsMultinomial, coefficients_from, product}

-- ---- the multinomial of a list is the product of the coefficients of its running sums

-- the product of the coefficients of the running sums
abbrev pub product_of : List ℤ → ℕ
product_of counts = product (coefficients_from 0 (map unsigned_abs counts))

-- products of coefficients and of factorials are positive
coefficients-pos : (before : ℕ) (counts : List ℕ) → 0 < product (coefficients_from before counts)
unfolding coefficients_from
coefficients-pos before [] = omega arith
coefficients-pos before (count ∷ counts) = mul-pos (coefficient_pos (before + count) count (omega arith)) (coefficients-pos (before + count) counts)

factorials-pos : (counts : List ℕ) → 0 < product (map factorial counts)
factorials-pos [] = omega arith
factorials-pos (count ∷ counts) = mul-pos (factorial_pos count) (factorials-pos counts)

-- the law with counts before
shared_out : (before : ℕ) (counts : List ℕ)
    → product (coefficients_from before counts) * product (map factorial counts) * factorial before ≡ factorial (before + sum counts)
unfolding coefficients_from
shared_out before [] = let e : before + 0 ≡ before = omega arith in rw e (omega arith)
shared_out before (count ∷ counts) =
    let e : before + count - count ≡ before = omega arith in
    let f : before + sum (count ∷ counts) ≡ before + count + sum counts = omega (arith, sum_by-cons (λ x. x) count counts) in
    let ways = rw e at (divides_factorials (before + count) count (omega arith)) in
    let times = ap (λ (t : ℕ). product (coefficients_from (before + count) counts) * product (map factorial counts) * t) ways in
    rw f (omega (arith, shared_out (before + count) counts))

-- that product is the multinomial
pub is_multinomial : (counts : List ℤ) → IsMultinomial counts (pos (product_of counts))
unfolding factorial
is_multinomial counts =
    let same : product_of counts * product (map factorial (map unsigned_abs counts)) ≡ factorial (sum (map unsigned_abs counts)) = omega (arith, rw zero-add at (shared_out 0 (map unsigned_abs counts))) in
    record { factorials = ap pos same }

-- and no other number is
pub only_multinomial : {counts : List ℤ} {m : ℤ} → IsMultinomial counts m → m ≡ pos (product_of counts)
only_multinomial {counts} {m} h =
    cancel (pos (product (map factorial (map unsigned_abs counts)))) m (pos (product_of counts)) (λ z. absurd (omega (arith, ints, factorials-pos (map unsigned_abs counts))))
    (omega (arith, products, h.factorials, (is_multinomial counts).factorials))

-- ---- a loop over the counts

-- the counts before the i-th are not negative, t is their sum, and m is the product of their coefficients
pub record IsSharedSoFar {X : Type 0} (value : X → ℤ) (counts : List X) (i : ℕ) (m t : ℤ) : Type 0 where
  pub total_from_zero : pos 0 ≤ℤ t
  pub positive : pos 0 <ℤ m
  pub from_zero : AllWithin (λ (x : X). pos 0 ≤ℤ value x) counts 0 i
  pub rest : unsigned_abs m * product (coefficients_from (unsigned_abs t) (map unsigned_abs (map value (drop i counts)))) ≡ product_of (map value counts)

module _ {X : Type 0} {value : X → ℤ} {counts : List X} {i : ℕ} {m t : ℤ} (h : IsSharedSoFar value counts i m t) where
  -- an iteration
  pub shared_next : {x : X} → i < length counts → x ≡ get_or counts i x → pos 0 ≤ℤ value x
      → IsSharedSoFar value counts (i + 1) (m *ℤ coefficient_of (t +ℤ value x) (value x)) (t +ℤ value x)
  unfolding coefficients_from
  shared_next {x} inside at up =
      let sum : unsigned_abs (t +ℤ value x) ≡ unsigned_abs t + unsigned_abs (value x) = omega (arith, ints, h.total_from_zero) in
      let product_so_far = λ (xs : List X). unsigned_abs m * product (coefficients_from (unsigned_abs t) (map unsigned_abs (map value xs))) in
      let next = rw (← at) at (at_drop_more product_so_far counts i x inside) in
      record {
        total_from_zero = omega (arith, ints, h.total_from_zero);
        positive = product_positive m _ h.positive (omega (arith, ints, coefficient_pos (unsigned_abs (t +ℤ value x)) (unsigned_abs (value x)) (omega arith)));
        from_zero = AllWithin-more (λ (y : X). pos 0 ≤ℤ value y) counts 0 i h.from_zero (at_read counts (λ (y : X). pos 0 ≤ℤ value y) i x inside at up);
        rest = rw (unsigned_abs-mul m (coefficient_of (t +ℤ value x) (value x)), sum) (omega (arith, h.rest));
      }

  -- on the way m does not exceed the multinomial
  pub shared_below : unsigned_abs m ≤ product_of (map value counts)
  shared_below =
      omega (arith, h.rest, le-mul_of_pos_right (unsigned_abs m) (coefficients-pos (unsigned_abs t) (map unsigned_abs (map value (drop i counts)))))

  -- and at the end it is the multinomial, and no count is negative
  pub shared_last : length counts ≤ i → IsMultinomial (map value counts) m × All (λ (x : X). pos 0 ≤ℤ value x) counts
  unfolding coefficients_from
  shared_last done =
      let product_so_far = λ (xs : List X). unsigned_abs m * product (coefficients_from (unsigned_abs t) (map unsigned_abs (map value xs))) in
      let none = at_drop_all product_so_far counts i done in
      let up = λ (y : X). pos 0 ≤ℤ value y in
      let same : m ≡ pos (product_of (map value counts)) = omega (arith, ints, h.rest, h.positive) in
      (rw same (is_multinomial (map value counts)), All-from_all_within up counts (AllWithin-upto up counts 0 i (length counts) done h.from_zero))

-- ---- the loops of `multinomial` and of `checked::multinomial`: no number on the way leaves the type

-- the condition of `multinomial`
abbrev pub HasFittingMultinomial : {X : Type 0} → (ℤ → Type 0) → (X → ℤ) → List X → Type 0
HasFittingMultinomial {X} fits value counts = All (λ (x : X). pos 0 ≤ℤ value x) counts × EachFits fits (IsMultinomial (map value counts))

-- m is the multinomial and t the sum of the counts before the i-th, and both fit
pub record IsMultinomialSoFar {X : Type 0} (fits : ℤ → Type 0) (value : X → ℤ) (counts : List X) (i : ℕ) (m t : ℤ) : Type 0 where
  pub total_in_range : fits t
  pub in_range : fits m
  pub shared : IsSharedSoFar value counts i m t

-- an iteration fits: the count is not negative, and the sum, its coefficient and the product fit
pub record IterationFits (fits : ℤ → Type 0) (m t x : ℤ) : Type 0 where
  pub from_zero : pos 0 ≤ℤ x
  pub total : fits (t +ℤ x)
  pub ways : fits (coefficient_of (t +ℤ x) x)
  pub multinomial : fits (m *ℤ coefficient_of (t +ℤ x) x)

module _ {X : Type 0} {fits : ℤ → Type 0} {value : X → ℤ} {counts : List X} where
  -- before the first iteration
  pub multinomial_first : {m t : ℤ} → fits m → m ≡ pos 1 → fits t → t ≡ pos 0 → IsMultinomialSoFar fits value counts 0 m t
  multinomial_first m_fits one t_fits none =
      let first : IsSharedSoFar value counts 0 (pos 1) (pos 0) =
      record {
        total_from_zero = omega (arith, ints);
        positive = omega (arith, ints);
        from_zero = λ k d l h. absurd (omega arith);
        rest = omega arith;
      } in
      record { total_in_range = t_fits; in_range = m_fits; shared = rw (one, none) first }

  module _ {i : ℕ} {x : X} {m t : ℤ} (before : IsMultinomialSoFar fits value counts i m t) (inside : i < length counts) (at : x ≡ get_or counts i x) where
    -- after an iteration at a count that is not negative
    pub multinomial_next : {t' c m' : ℤ} → pos 0 ≤ℤ value x → fits t' → t' ≡ t +ℤ value x
        → c ≡ coefficient_of t' (value x) → fits m' → m' ≡ m *ℤ c
        → IsMultinomialSoFar fits value counts (i + 1) m' t'
    multinomial_next up t_fits total ways m_fits next =
        record { total_in_range = t_fits; in_range = m_fits; shared = rw (next, ways, total) (shared_next before.shared inside at up) }

    -- an iteration fits if the multinomial of all counts does, and none is negative
    pub iteration_fits : {low high : ℤ} → IsRange fits low high → All (λ (y : X). fits (value y)) counts
        → HasFittingMultinomial fits value counts → IterationFits fits m t (value x)
    iteration_fits {high = high} range in_range (from_zero, all_fits) =
        let x_up = rw (← at) at (from_zero i x inside) in
        let after = shared_next before.shared inside at x_up in
        let c : ℤ = coefficient_of (t +ℤ value x) (value x) in
        let whole = all_fits _ (is_multinomial (map value counts)) in
        let some : 0 < unsigned_abs m = omega (arith, ints, before.shared.positive) in
        let below : unsigned_abs c ≤ product_of (map value counts) = omega (arith, shared_below after, unsigned_abs-mul m c, le-mul_of_pos_right (unsigned_abs c) some) in
        let t_in = (range.between t).0 before.total_in_range in
        let x_in = (range.between (value x)).0 (rw (← at) at (in_range i x inside)) in
        let whole_in = (range.between _).0 whole in
        let sum : unsigned_abs (t +ℤ value x) ≡ unsigned_abs t + unsigned_abs (value x) = omega (arith, ints, before.shared.total_from_zero) in
        let few = sum_at_most (unsigned_abs (t +ℤ value x)) (unsigned_abs t) (unsigned_abs (value x)) (unsigned_abs high) sum (omega (arith, ints)) (omega (arith, ints)) (omega (arith, ints)) in
        record {
          from_zero = x_up;
          total = (range.between _).1 (omega (arith, ints, before.shared.total_from_zero));
          ways = fits_below range whole (omega (arith, ints)) (omega (arith, ints));
          multinomial = fits_below range whole (omega (arith, ints, after.positive)) (omega (arith, ints, after.positive, shared_below after));
        }

  module _ {i : ℕ} {m t : ℤ} (before : IsMultinomialSoFar fits value counts i m t) (done : length counts ≤ i) where
    -- after the last iteration
    pub multinomial_last : IsMultinomial (map value counts) m
    multinomial_last = (shared_last before.shared done).0

    -- where each number fitted
    pub checked_last : HasFittingMultinomial fits value counts × (fits m × IsMultinomial (map value counts) m)
    checked_last =
        let own = shared_last before.shared done in
        ((own.1, λ z other. subst fits (only_multinomial own.0 ∙ sym (only_multinomial other)) before.in_range), (before.in_range, own.0))

-- ---- counts in another order have the same multinomial

-- a product of factorials with one number replaced, multiplied across
factorials-set : (xs : List ℕ) (i y d : ℕ) → i < length xs
    → product (map factorial (set xs i y)) * factorial (get_or xs i d) ≡ product (map factorial xs) * factorial y
factorials-set [] i y d h = absurd (omega arith)
factorials-set (x ∷ xs) zero y d h = omega arith
factorials-set (x ∷ xs) (suc i) y d h = let e = ap (λ (t : ℕ). factorial x * t) (factorials-set xs i y d (omega arith)) in omega arith

-- two numbers exchanged
swap_keeps_factorials : (l : List ℕ) (i j : ℕ) → i < length l → j < length l → product (map factorial (swap l i j)) ≡ product (map factorial l)
swap_keeps_factorials l i j p q =
    let a : ℕ = get_or l i 0 in
    let b : ℕ = get_or l j 0 in
    let w : List ℕ = set l i b in
    let there : get_or w j 0 ≡ b = elim (cases_eq j i) [
      | inl e ↦ ap (λ (n : ℕ). get_or w n 0) e ∙ get_or-set_same l i b 0 p
      | inr e ↦ get_or-set_other l i j b 0 e
    ] in
    let first = factorials-set l i b 0 p in
    let second = rw there at (factorials-set w j a 0 (omega (arith, length-set l i b))) in
    let same : product (map factorial (set w j a)) ≡ product (map factorial l) = eq_of_mul-eq-mul_left (factorial b) (factorial_pos b) _ _ (omega arith) in
    subst (λ (t : List ℕ). product (map factorial t) ≡ product (map factorial l)) (swap_is l i j 0 p q) same

-- counts in another order have the same multinomial
pub multinomial_ignores_order : MultinomialIgnoresOrder
multinomial_ignores_order counts others h m is =
    let magnitudes = IsPermutation-map unsigned_abs counts others h in
    let own : ℕ = product (map factorial (map unsigned_abs counts)) in
    let products = IsPermutation-keeps _ (λ (l : List ℕ). product (map factorial l) ≡ own) refl (λ l i j p q h. swap_keeps_factorials l i j p q ∙ h) _ magnitudes in
    record { factorials = rw (products, sum_by-IsPermutation (λ (x : ℕ). x) _ _ magnitudes) is.factorials }
