-- Calls that return a result exactly in their domain.
use Rattle.num_integer.proofs.Common.{◌≡◌, ◌≢◌, ◌⊎◌, ◌↔◌, ◌≤ℤ◌, ◌<ℤ◌, ◌*ℤ◌, natural, ℤ, pos, neg_ℤ, unsigned_abs, int_div, Option, Some, None, arith, refl, subst, sym, ap, ◌∙◌, unsigned_abs-mul, left_comm, sizes, IsGreatestCommonDivisor, IsLeastCommonMultiple, EachFits, IsRange, lcm-product, gcd_nonzero, lcm_zero, lcm_exists, only_lcm, Divides_trans, exact_quotient, each_fits, fits_below, product_from_zero, IsOnly}
use Rattle.integer_core.proofs.DivisorSizes.{divisor_at_most, lcm_positive}
use Rattle.num_integer.specs.Checked.{AnswersWhere, FitsWith}
use Rattle.std.specs.Prelude.{IsSome, Result, Ok, Err}
use Rattle.std.specs.Result.{OkIff, result_ok}

-- the domain and the result of a call may be said in other words
pub answers_as : {D E X : Type 0} {A B : X → Type 0} (r : Option X) → D ↔ E → ((x : X) → A x → B x) → AnswersWhere D A r → AnswersWhere E B r
answers_as (Some x) same each h = (same.0 h.0, each x h.1)
answers_as None same each none = λ e. none (same.1 e)

-- in the domain there is a result
pub some_in_domain : {D X : Type 0} (A : X → Type 0) (r : Option X) → AnswersWhere D A r → D → IsSome r
some_in_domain A (Some x) h domain = refl
some_in_domain A None none domain = absurd (none domain)

-- if a relation has one number alone, a call that returns that number if it fits returns it in the domain of the relation
pub answers_only : (fits P : ℤ → Type 0) {X : Type 0} (value : X → ℤ) {z : ℤ} (r : Option X) → P z → ((y : ℤ) → P y → z ≡ y)
    → AnswersWhere (fits z) (λ x. fits (value x) × (value x ≡ z)) r → AnswersWhere (EachFits fits P) (λ x. fits (value x) × P (value x)) r
answers_only fits P value r own only = answers_as r (each_fits {fits = fits} {P = P} own only (λ f. f, λ f. f)) (λ x is. (is.0, subst P (sym is.1) own))

-- if a relation has one number alone, which fits, each number of it fits, and that one is a result in the domain
pub answer_only : {fits P : ℤ → Type 0} {z w : ℤ} → P z → ((y : ℤ) → P y → z ≡ y) → fits w → w ≡ z → EachFits fits P × (fits w × P w)
answer_only {fits} {P} own only w_fits is = (λ y h. subst fits (is ∙ only y h) w_fits, (w_fits, subst P (sym is) own))

-- ---- products by their magnitudes

-- if the magnitude of a product fits, the product does
pub product_fits_by_size : {fits : ℤ → Type 0} {low high : ℤ} (a b : ℤ) → IsRange fits low high → fits a
    → fits b → fits (pos (unsigned_abs (a *ℤ b))) → fits (a *ℤ b)
product_fits_by_size {low = low} a b range a_fits b_fits size_fits =
    let a_in = (range.between a).0 a_fits in
    let b_in = (range.between b).0 b_fits in
    let most = ((range.between _).0 size_fits).1 in
    let least : low ≤ℤ (a *ℤ b) = grind (arith, sizes, product_from_zero a b, range.low_end) in
    (range.between (a *ℤ b)).1 (least, omega (arith, sizes))

-- the negation of a negative number is its magnitude
pub negated_is : (z : ℤ) → z <ℤ pos 0 → neg_ℤ z ≡ pos (unsigned_abs z)
negated_is z below = omega (arith, sizes)

-- ---- least common multiples

-- the least common multiple with 0 is 0
pub zero_lcm : (fits : ℤ → Type 0) {a b z : ℤ} → (a ≡ pos 0) ⊎ (b ≡ pos 0) → fits z → z ≡ pos 0
    → EachFits fits (IsLeastCommonMultiple a b) × (fits z × IsLeastCommonMultiple a b z)
zero_lcm fits {a} {b} with_zero z_fits is =
    let own = lcm_zero with_zero in
    answer_only {P = IsLeastCommonMultiple a b} own (λ y. only_lcm own) z_fits is

-- else it is the magnitude of one number times the other divided by their greatest common divisor
pub lcm_by_gcd : {a b g q : ℤ} → b ≢ pos 0 → IsGreatestCommonDivisor a b g → q ≡ int_div b g → IsLeastCommonMultiple a b (pos (unsigned_abs (a *ℤ q)))
lcm_by_gcd {a} {b} {g} {q} nonzero greatest is =
    let exact : b ≡ g *ℤ q = rw is (exact_quotient (gcd_nonzero greatest nonzero) greatest.divides_right) in
    let size : pos (unsigned_abs g) ≡ g = sym (natural greatest.from_zero) in
    lcm-product greatest nonzero (rw (exact, left_comm a g q, unsigned_abs-mul g (a *ℤ q)) (ap (λ (n : ℤ). n *ℤ pos (unsigned_abs (a *ℤ q))) size))

-- if it fits, the greatest common divisor does
pub gcd_fits_with_lcm : {fits : ℤ → Type 0} {low high a b : ℤ} → IsRange fits low high → a ≢ pos 0 → b ≢ pos 0
    → EachFits fits (IsLeastCommonMultiple a b) → EachFits fits (IsGreatestCommonDivisor a b)
gcd_fits_with_lcm {a = a} {b = b} range a_nonzero b_nonzero each g greatest =
    let own = lcm_exists a b in
    fits_below range (each own.0 own.1) greatest.from_zero (divisor_at_most (lcm_positive own.1 a_nonzero b_nonzero) (Divides_trans greatest.divides_right own.1.right_divides))

-- ---- results that are computed in a wider type and converted to a narrower one

-- The only number with a property, converted to a type, is the result exactly if it fits the type.
pub narrowed : {X E D : Type 0} (value : X → ℤ) (fits P : ℤ → Type 0) {y : X} (r : Result X E) → D
    → P (value y) → IsOnly P (value y) → OkIff r (fits (value y)) y
    → AnswersWhere (D × EachFits fits P) (FitsWith fits value P) (result_ok r)
narrowed value fits P (Ok x) domain is only converted =
    ((domain, λ z own. subst fits (sym (only z own)) converted.0), (rw converted.1 converted.0, rw converted.1 is))
narrowed value fits P (Err e) domain is only outside = λ each. outside (each.1 _ is)

-- If a number with the property does not fit the wider type, it does not fit the narrower one.
pub none_narrower : {D : Type 0} (narrow wide P : ℤ → Type 0) → ((z : ℤ) → narrow z → wide z) → ¬ (D × EachFits wide P) → ¬ (D × EachFits narrow P)
none_narrower narrow wide P wider none each = none (each.0, λ z is. wider z (each.1 z is))
