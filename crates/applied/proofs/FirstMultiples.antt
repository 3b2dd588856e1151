-- The least common multiple of a list is its first positive common multiple.
use Rattle.applied.proofs.Common.{LcmOfIsFirstCommonMultiple, ◌≢◌, ◌<◌, ◌≤◌, ◌^◌, ◌<ℤ◌, ◌∷◌, FitsUnsignedBits, All-cons, ℕ, ℤ, pos, List, [], Option, Some, None, All, MatchOption, ints, linear, subst, sym, All-nil, AnswersWhere, Divides, EachFits, FitsWith, IsLeastFrom, divisor_at_most, least_is_only, IsLeastCommonMultipleOf, lt_of_not-le, le_of_suc-le-suc}
use Rattle.applied.proofs.ListDivisors.{only_lcm_of, positive_lcm_of}

-- The least common multiple of a list without 0 is its first positive common multiple.
pub lcm_of_is_first : {numbers : List ℤ} {l : ℤ} → All (λ x. x ≢ pos 0) numbers → IsLeastCommonMultipleOf numbers l
    → IsLeastFrom (pos 1) (λ u. All (λ x. Divides x u) numbers) l
lcm_of_is_first {numbers} {l} nonzero h =
    let some = positive_lcm_of numbers nonzero in
    let up : pos 0 <ℤ l = rw (only_lcm_of h some.1.0) some.1.1 in
    record {
      from_there = omega linear;
      holds = h.each_divides;
      least = λ u from each. divisor_at_most (omega linear) (h.least u each);
    }

pub lcm_of_is_first_common_multiple : LcmOfIsFirstCommonMultiple
lcm_of_is_first_common_multiple = λ numbers l nonzero. (
  lcm_of_is_first nonzero,
  λ first. let own = positive_lcm_of numbers nonzero in subst (IsLeastCommonMultipleOf numbers) (least_is_only first own.0 (lcm_of_is_first nonzero own.1.0)) own.1.0,
)

-- ---- calls that return the least common multiple of a list if it fits

-- Such a call returns the first common multiple, or None if it does not fit.
pub first_multiple_of_answers : {X : Type 0} (value : X → ℤ) (fits : ℤ → Type 0) (numbers : List ℤ) (r : Option X) → All (λ x. x ≢ pos 0) numbers
    → AnswersWhere (EachFits fits (IsLeastCommonMultipleOf numbers)) (FitsWith fits value (IsLeastCommonMultipleOf numbers)) r
    → MatchOption r ((t : ℤ) → IsLeastFrom (pos 1) (λ u. All (λ x. Divides x u) numbers) t → ¬ (fits t)) (λ x. IsLeastFrom (pos 1) (λ u. All (λ x. Divides x u) numbers) (value x))
first_multiple_of_answers value fits numbers (Some x) nonzero h = lcm_of_is_first nonzero h.1.1
first_multiple_of_answers value fits numbers None nonzero none =
    λ t first t_fits. none (λ z is. subst fits (sym (least_is_only first z (lcm_of_is_first nonzero is))) t_fits)

-- The same at an unsigned type of w bits.
pub first_natural_multiple_of : (w : ℕ) (numbers : List ℤ) (r : Option ℕ) → All (λ x. x ≢ pos 0) numbers
    → AnswersWhere (EachFits (FitsUnsignedBits w) (IsLeastCommonMultipleOf numbers)) (λ l. (l < 2 ^ w) × IsLeastCommonMultipleOf numbers (pos l)) r
    → MatchOption r ((t : ℕ) → IsLeastFrom (pos 1) (λ u. All (λ x. Divides x u) numbers) (pos t) → 2 ^ w ≤ t) (λ t. IsLeastFrom (pos 1) (λ u. All (λ x. Divides x u) numbers) (pos t))
first_natural_multiple_of w numbers (Some l) nonzero h = first_multiple_of_answers pos (FitsUnsignedBits w) numbers (Some l) nonzero h
first_natural_multiple_of w numbers None nonzero none = λ t first.
    le_of_suc-le-suc (lt_of_not-le (λ below. first_multiple_of_answers pos (FitsUnsignedBits w) numbers None nonzero none (pos t) first below))

-- The same of three positive numbers at `u64`.
pub meeting_of_three_at_u64 : {a b c : ℕ} (r : Option ℕ) → 0 < a → 0 < b → 0 < c
    → AnswersWhere (EachFits (FitsUnsignedBits 64) (IsLeastCommonMultipleOf (pos a ∷ pos b ∷ pos c ∷ []))) (λ l. (l < 2 ^ 64) × IsLeastCommonMultipleOf (pos a ∷ pos b ∷ pos c ∷ []) (pos l)) r
    → MatchOption r ((t : ℕ) → IsLeastFrom (pos 1) (λ u. All (λ x. Divides x u) (pos a ∷ pos b ∷ pos c ∷ [])) (pos t) → 2 ^ 64 ≤ t)
    (λ t. IsLeastFrom (pos 1) (λ u. All (λ x. Divides x u) (pos a ∷ pos b ∷ pos c ∷ [])) (pos t))
meeting_of_three_at_u64 {a} {b} {c} r a_up b_up c_up h =
    let P : ℤ → Type 0 = λ x. x ≢ pos 0 in
    let nonzero = All-cons P (pos a) (pos b ∷ pos c ∷ []) (λ zero. omega ints) (All-cons P (pos b) (pos c ∷ []) (λ zero. omega ints)
    (All-cons P (pos c) [] (λ zero. omega ints) (All-nil P))) in
    first_natural_multiple_of 64 (pos a ∷ pos b ∷ pos c ∷ []) r nonzero h
