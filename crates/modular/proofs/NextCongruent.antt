-- The next congruent number and the previous one, and a number that fits the type or is beyond it.
use Rattle.modular.proofs.Common.{◌≡◌, ◌≤ℤ◌, ◌<ℤ◌, ◌+ℤ◌, ◌-ℤ◌, ℤ, pos, neg_ℤ, Option, Some, None, MatchOption, arith, subst, sym, AnswersWhere, FitsWith, IfSome, LiesBelow, expand, linear, sizes, small_multiple_is_zero, AreCongruent, IsNextCongruent, IsPreviousCongruent, IsResidue, from_not_less}
use Rattle.modular.proofs.Congruences.{congruent_sym, congruent_trans, congruent_by}

-- of two congruent numbers, one that is less than the modulus further is not the larger
not_larger : {modulus from t u : ℤ} → AreCongruent modulus t u → from ≤ℤ u → t <ℤ (from +ℤ modulus) → t ≤ℤ u
not_larger h u_from t_below = from_not_less (λ less. let none = small_multiple_is_zero h.divides (omega (arith, sizes)) in omega (arith, linear))

-- a number less than the modulus further is the next one
pub next_within_step : {from residue modulus t : ℤ} → AreCongruent modulus t residue → from ≤ℤ t
    → t <ℤ (from +ℤ modulus) → IsNextCongruent from residue modulus t
next_within_step near t_from t_below = record {
  from_there = t_from;
  holds = near;
  least = λ u u_from h. not_larger (congruent_trans near (congruent_sym h)) u_from t_below;
}

-- it comes after the residue of the difference
pub next_congruent_is : {from residue modulus w : ℤ} → IsResidue modulus (residue -ℤ from) w → IsNextCongruent from residue modulus (from +ℤ w)
next_congruent_is {from} {residue} {modulus} {w} wait =
    let near : AreCongruent modulus (from +ℤ w) residue = congruent_by (neg_ℤ wait.congruent.divides.factor) (simp expand (omega (arith, linear, wait.congruent.divides.product))) in
    next_within_step near (omega (arith, linear)) (omega (arith, linear))

-- the previous one comes before the residue of the other difference
pub previous_congruent_is : {to residue modulus w : ℤ} → IsResidue modulus (to -ℤ residue) w → IsPreviousCongruent to residue modulus (to -ℤ w)
previous_congruent_is {to} {residue} {modulus} {w} wait =
    let near : AreCongruent modulus (to -ℤ w) residue = congruent_by wait.congruent.divides.factor (omega (arith, linear, wait.congruent.divides.product)) in
    record {
      to_there = omega (arith, linear);
      holds = near;
      greatest = λ u u_to h. not_larger {from = to -ℤ modulus +ℤ pos 1} (congruent_trans h (congruent_sym near)) (omega (arith, linear)) (omega (arith, linear));
    }

-- a number with the property fits the type or is beyond it
pub found_or_beyond : {X : Type 0} (fits : ℤ → Type 0) (value : X → ℤ) (Is : ℤ → Type 0) {z : ℤ} (found : Option X)
    → Is z → AnswersWhere (fits z) (λ t. fits (value t) × (value t ≡ z)) found
    → MatchOption found ((t : ℤ) × Is t × ¬ (fits t)) (FitsWith fits value Is)
found_or_beyond fits value Is (Some t) is h = (h.1.0, subst Is (sym h.1.1) is)
found_or_beyond fits value Is None is h = (_, is, h)

-- if it fits, it is less than the modulus away
pub near_next : {X : Type 0} (fits : ℤ → Type 0) (value : X → ℤ) (from : ℤ) {modulus w : ℤ} (found : Option X)
    → LiesBelow modulus w
    → AnswersWhere (fits (from +ℤ w)) (λ t. fits (value t) × (value t ≡ from +ℤ w)) found
    → IfSome found (λ t. value t <ℤ (from +ℤ modulus))
near_next fits value from (Some t) below h = omega (arith, linear, below.below, h.1.1)
near_next fits value from None below h = tt

pub near_previous : {X : Type 0} (fits : ℤ → Type 0) (value : X → ℤ) (to : ℤ) {modulus w : ℤ} (found : Option X)
    → LiesBelow modulus w → AnswersWhere (fits (to -ℤ w)) (λ t. fits (value t) × (value t ≡ to -ℤ w)) found
    → IfSome found (λ t. (to -ℤ modulus) <ℤ value t)
near_previous fits value to (Some t) below h = omega (arith, linear, below.below, h.1.1)
near_previous fits value to None below h = tt
