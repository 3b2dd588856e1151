-- Results on the numbers of a form, computed in its built-in type.
use Rattle.std.specs.Prelude.{◌≡◌, ◌≢◌, ◌⊎◌, ◌≤ℤ◌, ◌+ℤ◌, ◌*ℤ◌, ℤ, pos, negsuc, neg_ℤ, int_div, int_rem}
use Rattle.std.proofs.Common.{arith, inl, inr}
use Rattle.num_integer.proofs.ForCallers.{linear, mul_neg, mul-one, other_quotient_fits, sizes, truncated_is, zero_fits, zero_or_not}
use Rattle.num_integer.specs.Between.{Between}
use Rattle.num_integer.specs.Division.{IsDivision}
use Rattle.num_integer.specs.Range.{EachFits, IsRange}
use Rattle.modular.specs.Congruences.{IsResidue}

-- a result of a call on two numbers is in the range if each result is
pub result_inside : (answer : ℤ → ℤ → ℤ → Type 0) {low high v w m n r : ℤ} → v ≡ m → w ≡ n → EachFits (Between low high) (answer m n) → answer v w r
    → Between low high r
result_inside answer {low} {high} {v} {w} {r = r} e f each is =
    let computed : EachFits (Between low high) (answer v w) = rw (e, f) each in
    computed r is

-- and so is a residue by a number of the range
pub residue_inside : {low high m x r : ℤ} → IsRange (Between low high) low high → Between low high m → IsResidue m x r → Between low high r
residue_inside range modulus is =
    let zero_inside = zero_fits range in
    (omega (arith, linear, zero_inside, is.below.from_zero), omega (arith, linear, modulus, is.below.below))

-- the quotient of n by -1 is -n
negated_by_last : {n d q r : ℤ} → d ≡ negsuc 0 → IsDivision n d q r → q ≡ neg_ℤ n
negated_by_last {n} {d} {q} {r} e division =
    let whole : IsDivision n (negsuc 0) q r = rw e at division in
    let negated : q *ℤ neg_ℤ (pos 1) ≡ neg_ℤ (q *ℤ pos 1) = mul_neg q (pos 1) in
    omega (arith, sizes, whole.equation, whole.small, negated, mul-one q)

-- which is in the range, or -low
negation_inside : {low high n q : ℤ} → IsRange (Between low high) low high → low ≤ℤ negsuc 0
    → Between low high n → q ≡ neg_ℤ n → Between low high q ⊎ (q ≡ neg_ℤ low)
negation_inside {low} {high} {n} {q} range signed inside e = elim (zero_or_not (n +ℤ neg_ℤ low)) [
  | inl least ↦ inr (omega (arith, linear))
  | inr other ↦ inl (grind (arith, linear, range.low_end, range.positive))
]

-- the built-in type has the ends of the form, and -low
module _ {fits : ℤ → Type 0} {low high least most : ℤ} (native : IsRange fits least most) (ends : fits low × fits high × fits (neg_ℤ low)) where
  -- so it has each number of the form
  pub computed : {z : ℤ} → Between low high z → fits z
  computed {z} inside = (native.between z).1 (omega (arith, linear, inside, (native.between low).0 ends.0, (native.between high).0 ends.1))

  -- and each result on two numbers that the form has
  pub each_computed : (answer : ℤ → ℤ → ℤ → Type 0) {v w m n : ℤ} → v ≡ m → w ≡ n
      → EachFits (Between low high) (answer m n) → EachFits fits (answer v w)
  each_computed answer e f each = λ z is. computed (result_inside answer e f each is)

  -- and the quotient of any two of its numbers
  pub quotient_computed : {n d : ℤ} → IsRange (Between low high) low high → Between low high n → Between low high d → d ≢ pos 0 → fits (int_div n d)
  quotient_computed {n} {d} range n_in d_in nonzero =
      let division : IsDivision n d (int_div n d) (int_rem n d) = (truncated_is n d nonzero).division in
      elim (zero_or_not (d +ℤ pos 1)) [
        | inl last ↦
            let opposite : int_div n d ≡ neg_ℤ n = negated_by_last (omega (arith, linear)) division in
            elim (negation_inside range (omega (arith, linear, d_in)) n_in opposite) [
              | inl inside ↦ computed inside
              | inr least ↦ rw least ends.2
            ]
        | inr other ↦ computed (other_quotient_fits range n_in d_in (λ e. other (omega (arith, linear))) division)
      ]
